use Rattle.std.proofs.Common.{◌∙◌, ◌++◌, ◌∷◌, [], map, ap, sym, subst, append_assoc}
use Rattle.std.specs.Prelude.{All}
use Rattle.std.proofs.lemmas.List.{map_push}
use Rattle.std.proofs.lemmas.List.Elements.{All-head, All-tail, All-push}
use Rattle.fc_base.specs.StatisticView.{stat_view}
use Rattle.fc_base.specs.View.{val_view}
use Rattle.fc_refine.specs.CandidateView.{found_group, IsCombined}
use Rattle.fc_refine.specs.declared.found.Found.{Found}
use Rattle.fc_refine.specs.Grouped.{Group}
use Rattle.fc_refine.specs.Listings.{Listing, CanCombine, all_of, listed_view}
use Rattle.fc_refine.proofs.Growing.{seen}
use Rattle.fc_refine.proofs.found.found_values.Goals as goal

pub combined-requires : goal.combined-requires
combined-requires c =
    let ss = map stat_view c.args.stats.now in
    let P : Group Listing → Type 0 = λ group. CanCombine ss group.1 in
    let first = ap (seen listed_view) c.in-Some.ensures.steps in
    let one : Group Listing = (val_view c.in-Some.val.now, map listed_view c.in-Some.listed.items) in
    subst (CanCombine ss) (ap (map listed_view) (sym c.deref.ensures.value)) (All-head P one (seen listed_view c.next.new.self) (subst (All P) first c.loop-val.invariant.can))

pub loop-val-preserved : goal.loop-val-preserved
loop-val-preserved c =
    let ss = map stat_view c.args.stats.now in
    let P : Group Listing → Type 0 = λ group. CanCombine ss group.1 in
    let first = ap (seen listed_view) c.in-Some.ensures.steps in
    let one : Group Listing = (val_view c.in-Some.val.now, map listed_view c.in-Some.listed.items) in
    let rest = seen listed_view c.next.new.self in
    let done = c.loop-val.found.items in
    let made : Found = record { val = c.in-Some.val; listed = c.in-Some.listed; stats = c.in_ok-together.together } in
    let pushed = c.in_ok-push.ensures.items in
    record {
      groups = ap (λ l. map found_group l ++ rest) pushed ∙ ap (λ l. l ++ rest) (map_push found_group done made) ∙ append_assoc (map found_group done) (one ∷ []) rest
          ∙ ap (λ l. map found_group done ++ l) (sym first) ∙ c.loop-val.invariant.groups;
      combined = subst (All (IsCombined ss)) (sym pushed) (All-push (IsCombined ss) done made c.loop-val.invariant.combined (c.in_ok-together.ensures ∙ ap (λ l. all_of ss (map listed_view l)) c.deref.ensures.value));
      can = All-tail P one rest (subst (All P) first c.loop-val.invariant.can);
    }
