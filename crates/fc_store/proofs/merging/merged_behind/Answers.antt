use Rattle.std.proofs.Common.{◌≡◌, ◌∙◌, ◌++◌, map, take, drop, ap, ap₂, sym, subst}
use Rattle.std.specs.Arc.{arc_value}
use Rattle.std.proofs.lemmas.List.{drop-map, take-map}
use Rattle.fc_store.specs.Segments.{AreSegmentsOf, if_any, merged}
use Rattle.fc_store.proofs.LiveSegments.{last_segments, live_valid}
use Rattle.fc_store.proofs.merging.merged_behind.Goals as goal

pub merge-requires-clause-kinds : goal.merge-requires-clause-kinds
merge-requires-clause-kinds c =
    let k = c.args.place in
    let last : map arc_value c.deref.result.now ≡ drop k (map arc_value c.args.segments.items) = ap (map arc_value) (c.deref.ensures.value ∙ c.in_ok-last.ensures.tail) ∙ sym (drop-map arc_value k c.args.segments.items) in
    let are : AreSegmentsOf c.args.schema.now (map arc_value c.deref.result.now) = subst (AreSegmentsOf c.args.schema.now) (sym last) (last_segments c.args.schema.now k (map arc_value c.args.segments.items) c.requires.kept) in
    are.kinds

pub merge-requires-clause-valid : goal.merge-requires-clause-valid
merge-requires-clause-valid c =
    let k = c.args.place in
    let last : map arc_value c.deref.result.now ≡ drop k (map arc_value c.args.segments.items) = ap (map arc_value) (c.deref.ensures.value ∙ c.in_ok-last.ensures.tail) ∙ sym (drop-map arc_value k c.args.segments.items) in
    let are : AreSegmentsOf c.args.schema.now (map arc_value c.deref.result.now) = subst (AreSegmentsOf c.args.schema.now) (sym last) (last_segments c.args.schema.now k (map arc_value c.args.segments.items) c.requires.kept) in
    live_valid c.args.schema.now (map arc_value c.deref.result.now) are.valid

pub returns : goal.returns
returns c =
    let k = c.args.place in
    let last : map arc_value c.deref.result.now ≡ drop k (map arc_value c.args.segments.items) = ap (map arc_value) (c.deref.ensures.value ∙ c.in_ok-last.ensures.tail) ∙ sym (drop-map arc_value k c.args.segments.items) in
    let front : map arc_value c.split_off.new.self.items ≡ take k (map arc_value c.args.segments.items) = ap (map arc_value) c.in_ok-last.ensures.items ∙ sym (take-map arc_value k c.args.segments.items) in
    c.in_ok-made.ensures ∙ ap₂ (λ gs one. gs ++ if_any one) front (c.in_ok-one.ensures ∙ ap (merged c.args.schema.now) last)
