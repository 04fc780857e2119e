-- A tree tells of nothing at first, and message by message of more.
use Rattle.std.proofs.Common.{◌≡◌, List, [], ◌∷◌, ◌++◌, refl, sym, ap, subst, arith, append_assoc, append-nil}
use Rattle.std.specs.Prelude.{AllPairs}
use Rattle.std.specs.List.{AllByRecursion}
use Rattle.std.proofs.lemmas.List.Sums.{sum_by-append}
use Rattle.fc_spec.specs.requests.Request.{Request}
use Rattle.fc_spec.specs.requests.Ranks.{offered_bound}
use Rattle.fc_spec.specs.messages.Message.{Way}
use Rattle.fc_spec.specs.messages.Held.{Told, held_in, told_by}
use Rattle.fc_spec.specs.messages.Merged.{held_count}
use Rattle.fc_spec.specs.laws.LacksLaws.{TellApart, TellOnce, IsFitting}
use Rattle.fc_spec.specs.laws.SumsLaw.{held_size, SumsFit}
use Rattle.fc_spec.proofs.words.Differing.{pairs_differ, differ_pairs}
use Rattle.fc_spec.proofs.messages.FittingBuckets.{shaped_are_fitting}
use Rattle.fc_told.specs.Trees.{Tree, nothing, tellers_in, count_in, size_in, forks_in, branches_at, at, stats_told, offered_at}
use Rattle.fc_told.specs.Adding.{told_added, all_added}
use Rattle.fc_told.specs.Telling.{Tells, TellsMore}
use Rattle.fc_told.proofs.Branches.{Ascend, none_ascend}
use Rattle.fc_told.proofs.Tellers.{Apart}
use Rattle.fc_told.proofs.HeldMore.{differ_across}
use Rattle.fc_told.proofs.TellingOne.{tells_one_more}

-- ---- nothing told

at_nothing : (way : Way) → at way nothing ≡ nothing
at_nothing [] = refl
at_nothing (s ∷ way) = at_nothing way

pub nothing_tells : Tells nothing []
nothing_tells = record {
  stats = λ i way. ap (stats_told i) (at_nothing way);
  offers = λ i n way. ap (offered_at n i) (at_nothing way);
  apart = λ way. subst (λ U. AllPairs Apart (tellers_in U)) (sym (at_nothing way)) (differ_pairs Apart [] tt);
  counts = λ way. ap count_in (at_nothing way);
  sizes = λ m way. ap (size_in m) (at_nothing way);
  ascends = λ n way. subst (λ U. Ascend (branches_at n (forks_in U))) (sym (at_nothing way)) none_ascend;
}

-- ---- a message

-- the sums over what was told first
pub front_fits : (A B : List Told) → SumsFit (A ++ B) → SumsFit A
front_fits A B sums = record {
  counts = λ way. omega (arith, sums.counts way, sum_by-append (λ (t : Told). held_count (held_in t way)) A B);
  sizes = λ m way. omega (arith, sums.sizes m way, sum_by-append (λ (t : Told). held_size m (held_in t way)) A B);
}

module _ (r : Request) where
  tells_all : (ts A : List Told) (T : Tree) → Tells T A → AllByRecursion (IsFitting offered_bound r) ts → TellOnce (A ++ ts) → SumsFit (A ++ ts) → Tells (all_added ts T) (A ++ ts)
  tells_all [] A T tells fit once sums = subst (Tells T) (sym (append-nil A)) tells
  tells_all (t ∷ ts) A T tells fit once sums =
      let same = append_assoc A (t ∷ []) ts in
      let further = subst SumsFit (sym same) sums in
      subst (Tells (all_added ts (told_added t T))) same
      (tells_all ts (A ++ t ∷ []) (told_added t T)
      (tells_one_more offered_bound T A tells t (fit.0).rows (differ_across TellApart A t ts (pairs_differ TellApart (A ++ t ∷ ts) once)) (front_fits (A ++ t ∷ []) ts further))
      fit.1 (subst TellOnce (sym same) once) further)

pub tells_more : TellsMore
tells_more r T A i ask m shaped tells once sums = tells_all r (told_by r.nodes i ask m) A T tells (shaped_are_fitting offered_bound r i ask m shaped) once sums
