use Rattle.std.proofs.Common.{◌≡◌, ◌∙◌, ◌++◌, ◌∷◌, [], refl, ap, sym, arith, append_assoc}
use Rattle.std.specs.Vec.Iter.{into_iter_items}
use Rattle.fc_column.proofs.MergedPlaces.{same_text_of, not_below_next, more_placed, more_texts, is_below}
use Rattle.fc_column.proofs.merged_terms.terms_and_places.Goals as goal

pub loop-one-preserved : goal.loop-one-preserved
loop-one-preserved c =
    let all = c.args.texts.items in
    let done = c.loop-one.yielded in
    let one = c.in-Some.one in
    let rest = into_iter_items c.next.new.self in
    let steps = c.in-Some.ensures.steps.0 in
    let left : done ++ one ∷ rest ≡ all = ap (λ l. done ++ l) (sym steps) ∙ c.loop-one.invariant.left in
    let put = c.in_ok-places-2.ensures in
    record {
      few = put.few;
      ascending = put.ascending;
      above = λ k d inside. put.below _ (not_below_next all done rest one left c.requires.order k d inside);
      len = c.loop-one.invariant.len;
      placed = more_placed c.loop-one.terms.items c.put.new.terms.items c.loop-one.places.items _ done one c.in_ok-places-2.field-0 c.loop-one.invariant.placed (same_text_of all done rest one left c.requires.one)
          (let below = is_below all done rest one left c.args.count c.requires.below in omega (arith, below, c.loop-one.invariant.len)) refl put.place put.text put.kept;
      texts = λ t. more_texts t c.loop-one.terms.items c.put.new.terms.items done one (c.loop-one.invariant.texts t) (put.texts t);
      left = append_assoc done (one ∷ []) rest ∙ left;
    }
