use Rattle.std.proofs.Common.{◌≡◌, ◌∙◌, ◌++◌, ◌∷◌, ◌<◌, ◌&&◌, [], ℤ, true, false, map, length, sym, ap, ap₂, subst, w64, to_z, of_z, append-nil, append_assoc}
use Rattle.std.proofs.lemmas.Int.{to_z-of_z}
use Rattle.std.proofs.lemmas.List.{get_or-map, length-map}
use Rattle.fc_spec.specs.documents.Sets.{zip_with}
use Rattle.fc_column.specs.Longs.{has_between}
use Rattle.fc_docset.specs.Positions.{contains, positions}
use Rattle.fc_range.proofs.Selected.{HasPicked, all_kept, none_kept, one_kept, position_below}
use Rattle.fc_range.proofs.selecting.keep_from_to.Goals as goal

pub values_of-requires : goal.values_of-requires
values_of-requires c =
    subst (λ n. c.in-Some.at < n) c.requires.length
    (position_below c.args.docs.now c.loop-at.yielded c.in-Some.at c.next.new.self (rw c.in-Some.ensures.steps at c.loop-at.invariant.left))

pub loop-at-preserved-then-has_from_to : goal.loop-at-preserved-then-has_from_to
loop-at-preserved-then-has_from_to c =
    let test = has_between (to_z w64 (of_z w64 c.args.least)) (to_z w64 (of_z w64 c.args.greatest)) in
    let column = c.args.column.now in
    let all = rw c.in-Some.ensures.steps at c.loop-at.invariant.left in
    let there : c.in-Some.at < length column = subst (λ n. c.in-Some.at < n) c.requires.length (position_below c.args.docs.now c.loop-at.yielded c.in-Some.at c.next.new.self all) in
    let within = subst (λ n. c.in-Some.at < n) (sym (length-map column test)) there in
    let passes : contains (map test column) c.in-Some.at ≡ true =
    get_or-map test column c.in-Some.at [] false there ∙ ap test (sym c.values_of.ensures.values) ∙ sym c.has_from_to.ensures ∙ c.if-has_from_to.true in
    record {
      made = subst (HasPicked (map test column) (c.loop-at.yielded ++ c.in-Some.at ∷ [])) (sym c.add.ensures)
          (one_kept (map test column) c.loop-at.yielded c.loop-at.into c.in-Some.at c.loop-at.invariant.made within passes);
      left = append_assoc c.loop-at.yielded (c.in-Some.at ∷ []) c.next.new.self ∙ all;
    }

pub loop-at-preserved : goal.loop-at-preserved
loop-at-preserved c =
    let test = has_between (to_z w64 (of_z w64 c.args.least)) (to_z w64 (of_z w64 c.args.greatest)) in
    let column = c.args.column.now in
    let all = rw c.in-Some.ensures.steps at c.loop-at.invariant.left in
    let there : c.in-Some.at < length column = subst (λ n. c.in-Some.at < n) c.requires.length (position_below c.args.docs.now c.loop-at.yielded c.in-Some.at c.next.new.self all) in
    let fails : contains (map test column) c.in-Some.at ≡ false =
    get_or-map test column c.in-Some.at [] false there ∙ ap test (sym c.values_of.ensures.values) ∙ sym c.has_from_to.ensures ∙ c.if-has_from_to.false in
    record {
      made = none_kept (map test column) c.loop-at.yielded c.loop-at.into c.in-Some.at c.loop-at.invariant.made fails;
      left = append_assoc c.loop-at.yielded (c.in-Some.at ∷ []) c.next.new.self ∙ all;
    }

pub returns-clause-set : goal.returns-clause-set
returns-clause-set c =
    let docs = c.args.docs.now in
    let column = c.args.column.now in
    let least = to_z-of_z w64 c.args.least c.ranges.least in
    let greatest = to_z-of_z w64 c.args.greatest c.ranges.greatest in
    let test = has_between (to_z w64 (of_z w64 c.args.least)) (to_z w64 (of_z w64 c.args.greatest)) in
    let all : c.loop-at.yielded ≡ positions docs = rw (c.in-None.ensures.steps.0, append-nil) at c.loop-at.invariant.left in
    all_kept docs (map test column) c.loop-at.into (c.requires.length ∙ sym (length-map column test))
    (subst (λ l. HasPicked (map test column) l c.loop-at.into) all c.loop-at.invariant.made)
    ∙ ap₂ (λ (x y : ℤ). zip_with ◌&&◌ docs (map (has_between x y) column)) least greatest
