use Rattle.std.proofs.Common.{◌≡◌, ◌∙◌, ◌++◌, ◌∷◌, ◌<◌, [], List, true, false, map, length, sym, ap, subst, append-nil, append_assoc}
use Rattle.std.proofs.lemmas.List.{get_or-map, length-map}
use Rattle.fc_spec.specs.documents.Val.{Text}
use Rattle.fc_column.specs.Terms.{has_from_to, ordinals_in}
use Rattle.fc_docset.specs.Positions.{contains, positions}
use Rattle.fc_range.proofs.Selected.{HasPicked, all_kept, none_kept, one_kept, position_below}
use Rattle.fc_date_range.proofs.selecting.keep_in_span.Goals as goal

pub ordinals_of-requires : goal.ordinals_of-requires
ordinals_of-requires c =
    subst (λ n. c.in-Some.at < n) c.requires.length
    (position_below c.args.docs.now c.loop-at.yielded c.in-Some.at c.next.new.self (rw c.in-Some.ensures.steps at c.loop-at.invariant.left))

pub loop-at-preserved-then-has_in_span : goal.loop-at-preserved-then-has_in_span
loop-at-preserved-then-has_in_span c =
    let column = c.args.column.now in
    let test = λ (texts : List Text). has_from_to c.args.span.from c.args.span.past (ordinals_in column texts) in
    let all = rw c.in-Some.ensures.steps at c.loop-at.invariant.left in
    let there : c.in-Some.at < length column = subst (λ n. c.in-Some.at < n) c.requires.length (position_below c.args.docs.now c.loop-at.yielded c.in-Some.at c.next.new.self all) in
    let within = subst (λ n. c.in-Some.at < n) (sym (length-map column test)) there in
    let passes : contains (map test column) c.in-Some.at ≡ true =
    get_or-map test column c.in-Some.at [] false there ∙ ap (has_from_to c.args.span.from c.args.span.past) (sym c.ordinals_of.ensures.ordinals) ∙ sym c.has_in_span.ensures ∙ c.if-has_in_span.true in
    record {
      made = subst (HasPicked (map test column) (c.loop-at.yielded ++ c.in-Some.at ∷ [])) (sym c.add.ensures)
          (one_kept (map test column) c.loop-at.yielded c.loop-at.into c.in-Some.at c.loop-at.invariant.made within passes);
      left = append_assoc c.loop-at.yielded (c.in-Some.at ∷ []) c.next.new.self ∙ all;
    }

pub loop-at-preserved : goal.loop-at-preserved
loop-at-preserved c =
    let column = c.args.column.now in
    let test = λ (texts : List Text). has_from_to c.args.span.from c.args.span.past (ordinals_in column texts) in
    let all = rw c.in-Some.ensures.steps at c.loop-at.invariant.left in
    let there : c.in-Some.at < length column = subst (λ n. c.in-Some.at < n) c.requires.length (position_below c.args.docs.now c.loop-at.yielded c.in-Some.at c.next.new.self all) in
    let fails : contains (map test column) c.in-Some.at ≡ false =
    get_or-map test column c.in-Some.at [] false there ∙ ap (has_from_to c.args.span.from c.args.span.past) (sym c.ordinals_of.ensures.ordinals) ∙ sym c.has_in_span.ensures ∙ c.if-has_in_span.false in
    record {
      made = none_kept (map test column) c.loop-at.yielded c.loop-at.into c.in-Some.at c.loop-at.invariant.made fails;
      left = append_assoc c.loop-at.yielded (c.in-Some.at ∷ []) c.next.new.self ∙ all;
    }

pub returns-clause-set : goal.returns-clause-set
returns-clause-set c =
    let docs = c.args.docs.now in
    let column = c.args.column.now in
    let test = λ (texts : List Text). has_from_to c.args.span.from c.args.span.past (ordinals_in column texts) in
    let all : c.loop-at.yielded ≡ positions docs = rw (c.in-None.ensures.steps.0, append-nil) at c.loop-at.invariant.left in
    all_kept docs (map test column) c.loop-at.into (c.requires.length ∙ sym (length-map column test))
    (subst (λ l. HasPicked (map test column) l c.loop-at.into) all c.loop-at.invariant.made)
