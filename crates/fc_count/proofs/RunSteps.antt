-- One run more, as a loop takes it from what is left.
use Rattle.std.proofs.Common.{◌≡◌, ℕ, ℤ, ◌≤◌, true, false, List, ◌∷◌, ◌++◌, length, take, drop, sym, ap, ap₂, subst, ◌∙◌, arith}
use Rattle.std.specs.List.{All, AllWithin}
use Rattle.std.specs.Option.{ForSome}
use Rattle.std.specs.Ordering.{int_eq}
use Rattle.std.proofs.lemmas.Bool.Decides.{Decides-int_eq}
use Rattle.std.proofs.lemmas.List.{take-append-drop}
use Rattle.std.proofs.lemmas.List.Elements.{All-cons}
use Rattle.fc_spec.specs.documents.Document.{Block}
use Rattle.fc_spec.specs.requests.Buckets.{Key}
use Rattle.fc_spec.specs.requests.Request.{Stat}
use Rattle.fc_spec.specs.requests.Statistics.{Stats, stats_over}
use Rattle.fc_partial.specs.Adding.{AddUp}
use Rattle.fc_partial.specs.Fitting.{StatisticsFit}
use Rattle.fc_partial.specs.Tallied.{Tallied}
use Rattle.fc_partial.specs.Tallying.{AddsTo, entry_at}
use Rattle.fc_count.specs.declared.countings.Entry.{Entry}
use Rattle.fc_count.specs.Runs.{NumbersApart}
use Rattle.fc_count.proofs.RowPlaces.{row_places}
use Rattle.fc_count.proofs.RunParts.{EntriesAddUp, EntriesFit, IsAdded, run_added, run_adds_up, run_fits, run_has_key}
use Rattle.fc_count.proofs.SortedRuns.{all_behind, all_in_front}

-- the first of what is left, those of its number, and those behind them
pub record IsCut (rest : List Entry) (first : Entry) (run behind : List Entry) : Type 0 where
  pub all : rest ≡ (first ∷ run) ++ behind
  pub same : All (λ c. int_eq c.number first.number ≡ true) (first ∷ run)
  pub past : All (λ c. int_eq c.number first.number ≡ false) behind

pub cut_at : (rest : List Entry) (first : Entry) (others run behind : List Entry) (n : ℕ) → rest ≡ first ∷ others → n ≤ length others → run ≡ take n others → behind ≡ drop n others
    → AllWithin (λ c. int_eq c.number first.number ≡ true) others 0 n → AllWithin (λ c. int_eq c.number first.number ≡ false) others n (length others)
    → IsCut rest first run behind
cut_at rest first others run behind n split within front back same past = record {
  all = split ∙ ap (λ l. first ∷ l) (sym (take-append-drop n others) ∙ ap₂ (λ a b. a ++ b) (sym front) (sym back));
  same = All-cons (λ (c : Entry). int_eq c.number first.number ≡ true) first run ((Decides-int_eq first.number first.number).1 (λ i. first.number))
      (subst (All (λ c. int_eq c.number first.number ≡ true)) (sym front) (all_in_front (λ c. int_eq c.number first.number ≡ true) n others within same));
  past = subst (All (λ c. int_eq c.number first.number ≡ false)) (sym back) (all_behind (λ c. int_eq c.number first.number ≡ false) n others past);
}

module _ (blocks : List Block) (ps : List ℕ) (has_key : ℤ → Type 0) (key : ℤ → Key) (apart : NumbersApart has_key key) (all rest run behind : List Entry) (first : Entry)
    (has : All (λ c. has_key c.number) all) (old now : Tallied) (added : IsAdded blocks ps key all rest old now) (cut : IsCut rest first run behind) where
  so_far : IsAdded blocks ps key all ((first ∷ run) ++ behind) old now
  so_far = subst (λ l. IsAdded blocks ps key all l old now) cut.all added

  pub step_has_key : has_key first.number
  step_has_key = run_has_key blocks ps has_key key apart all (first ∷ run) behind first.number has (omega arith) cut.same cut.past old now so_far

  pub step_fits : EntriesFit blocks ps all → StatisticsFit (row_places blocks ps (first ∷ run))
  step_fits = run_fits blocks ps has_key key apart all (first ∷ run) behind first.number has (omega arith) cut.same cut.past old now so_far

  pub step_adds_up : (ss : List Stat) → EntriesAddUp blocks ps ss key all old.entries
      → ForSome (entry_at now.entries (key first.number)) (λ there. AddUp there (stats_over ss (row_places blocks ps (first ∷ run))))
  step_adds_up = run_adds_up blocks ps has_key key apart all (first ∷ run) behind first.number has (omega arith) cut.same cut.past old now so_far

  pub step_added : (new : Tallied) (more : Stats) → more ≡ stats_over old.stats (row_places blocks ps (first ∷ run)) → new.stats ≡ now.stats
      → AddsTo now new (key first.number) more → IsAdded blocks ps key all behind old new
  step_added = run_added blocks ps has_key key apart all (first ∷ run) behind first.number has (omega arith) cut.same cut.past old now so_far
