-- What a shard lists of a tally from a count on is what its answer lists.
use Rattle.std.proofs.Common.{◌≡◌, ℕ, List, [], ◌∷◌, ◌++◌, map, Bool, true, false, cond, ◌&&◌, not, Option, None, Some, is_some, refl, sym, ◌∙◌, ap}
use Rattle.std.specs.Prelude.{nat_le}
use Rattle.std.specs.List.{filter}
use Rattle.std.proofs.lemmas.List.{append_assoc, map-append}
use Rattle.std.proofs.lemmas.List.Elements.{filter-append}
use Rattle.fc_spec.specs.documents.Val.{Val}
use Rattle.fc_spec.specs.documents.World.{Place}
use Rattle.fc_spec.specs.words.Lists.{is_empty}
use Rattle.fc_spec.specs.requests.Request.{Stat, Terms, terms, range, date_range, query, stats_of}
use Rattle.fc_spec.specs.requests.Shape.{no_exclusions}
use Rattle.fc_spec.specs.requests.Buckets.{value, missing, bucket_places}
use Rattle.fc_spec.specs.requests.Statistics.{Stats, stats_over}
use Rattle.fc_spec.specs.replies.Printed.{asked}
use Rattle.fc_spec.specs.replies.Values.{value_places, values_in, entries_in}
use Rattle.fc_spec.specs.messages.Answer.{not_empty}
use Rattle.fc_spec.proofs.replies.OfferedValues.{vals_of_some}
use Rattle.fc_partial.specs.Tallied.{Entry}
use Rattle.fc_partial.specs.Tallying.{entry_at}
use Rattle.fc_answers.specs.Listed.{bucket_entry, entry_or_none}
use Rattle.fc_answers.specs.LeastListed.{LeastTalliesList, is_of_least}
use Rattle.fc_answers.proofs.AscendingKeys.{terms_keys_in, terms_keys_up, terms_keys_are}
use Rattle.fc_answers.proofs.ListedTallies.{buckets_of, filled_entry, lacking, tallies_list}

module _ (t : Terms) (ss : List Stat) (Y : List Place) where
  -- whether a value has that many documents
  abbrev has : ℕ → Val → Bool
  has n v = nat_le n (stats_over ss (value_places t v Y)).count

  values_kept : (n : ℕ) (vs : List Val) → filter (is_of_least n) (map (bucket_entry (terms t) ss Y) (map value vs)) ≡ map (bucket_entry (terms t) ss Y) (map value (filter (has n) vs))
  values_kept n [] = refl
  values_kept n (v ∷ vs) = go (has n v) (values_kept n vs)
    where
      go : (b : Bool) → filter (is_of_least n) (map (bucket_entry (terms t) ss Y) (map value vs)) ≡ map (bucket_entry (terms t) ss Y) (map value (filter (has n) vs))
          → cond b (bucket_entry (terms t) ss Y (value v) ∷ filter (is_of_least n) (map (bucket_entry (terms t) ss Y) (map value vs))) (filter (is_of_least n) (map (bucket_entry (terms t) ss Y) (map value vs)))
          ≡ map (bucket_entry (terms t) ss Y) (map value (cond b (v ∷ filter (has n) vs) (filter (has n) vs)))
      go true e = ap (λ es. bucket_entry (terms t) ss Y (value v) ∷ es) e
      go false e = e

  missing_kept : (n : ℕ) (b : Bool) → filter (is_of_least n) (map (bucket_entry (terms t) ss Y) (not_empty (terms t) Y (asked b missing))) ≡ map (bucket_entry (terms t) ss Y) (not_empty (terms t) Y (asked b missing))
  missing_kept n false = refl
  missing_kept n true = go (not (is_empty (bucket_places (terms t) missing Y)))
    where
      go : (c : Bool) → filter (is_of_least n) (map (bucket_entry (terms t) ss Y) (cond c (missing ∷ []) [])) ≡ map (bucket_entry (terms t) ss Y) (cond c (missing ∷ []) [])
      go true = refl
      go false = refl

  -- ---- behind the values
  module _ (es : List Entry) (none : Bool) where
    abbrev is_nothing : Bool
    is_nothing = is_empty (bucket_places (terms t) missing Y)

    abbrev stats_missing : Stats
    stats_missing = stats_over ss (bucket_places (terms t) missing Y)

    one : (none there : Bool) (o : Option Stats) (e : Entry) → o ≡ cond there (Some stats_missing) None → e ≡ bucket_entry (terms t) ss Y missing
        → map (bucket_entry (terms t) ss Y) (cond there (missing ∷ []) []) ++ cond (not none && not (is_some o)) (e ∷ []) []
        ≡ map (bucket_entry (terms t) ss Y) (cond (not none) (missing ∷ []) (cond there (missing ∷ []) []))
    one true true o e at is = refl
    one true false o e at is = refl
    one false true (Some s) e at is = refl
    one false true None e at is = absurd (cc)
    one false false (Some s) e at is = absurd (cc)
    one false false None e at is = ap (λ x. x ∷ []) is

    -- missing is listed once, where it is asked for
    behind : (wanted : Bool) → entry_at es missing ≡ cond (wanted && not is_nothing) (Some stats_missing) None → (wanted ≡ true → entry_or_none ss es missing ≡ bucket_entry (terms t) ss Y missing)
        → map (bucket_entry (terms t) ss Y) (not_empty (terms t) Y (asked wanted missing)) ++ cond ((wanted && not none) && not (is_some (entry_at es missing))) (entry_or_none ss es missing ∷ []) []
        ≡ map (bucket_entry (terms t) ss Y) (cond (not none) (asked wanted missing) (not_empty (terms t) Y (asked wanted missing)))
    behind true at is = one none (not is_nothing) (entry_at es missing) (entry_or_none ss es missing) at (is refl)
    behind false at is = go none
      where
        go : (b : Bool) → [] ≡ map (bucket_entry (terms t) ss Y) (cond (not b) [] [])
        go true = refl
        go false = refl

pub least_tallies_list : LeastTalliesList
least_tallies_list (terms t) inner n Y es ascend of =
    let ss = stats_of inner in
    let entry = bucket_entry (terms t) ss Y in
    let all : es ≡ map entry (map value (values_in t Y)) ++ lacking t ss Y =
    buckets_of (terms t) ss Y es ascend of (terms_keys_in t Y) (terms_keys_up t Y) (terms_keys_are t Y) ∙ map-append entry (map value (values_in t Y)) (not_empty (terms t) Y (asked t.missing missing)) in
    let vals = vals_of_some (λ v. stats_over [] (value_places t v Y)) (λ e. nat_le n e.stats.count) (values_in t Y) in
    let keys = map value (map (λ e. e.val) (filter (λ e. nat_le n e.stats.count) (entries_in t [] Y))) in
    let kept : filter (is_of_least n) es ≡ map entry keys ++ lacking t ss Y =
    ap (filter (is_of_least n)) all ∙ filter-append (is_of_least n) (map entry (map value (values_in t Y))) (lacking t ss Y)
    ∙ (λ i. values_kept t ss Y n (values_in t Y) i ++ missing_kept t ss Y n t.missing i)
    ∙ ap (λ vs. map entry (map value vs) ++ lacking t ss Y) (sym vals) in
    let rest = behind t ss Y es (no_exclusions inner) t.missing (of missing) (λ wanted. filled_entry (terms t) ss Y es of missing wanted) in
    let added = cond ((t.missing && not (no_exclusions inner)) && not (is_some (entry_at es missing))) (entry_or_none ss es missing ∷ []) [] in
    ap (λ xs. xs ++ added) kept ∙ append_assoc (map entry keys) (lacking t ss Y) added ∙ ap (λ xs. map entry keys ++ xs) rest
    ∙ sym (map-append entry keys (cond (not (no_exclusions inner)) (asked t.missing missing) (not_empty (terms t) Y (asked t.missing missing))))
least_tallies_list (range g) inner n Y es ascend of = tallies_list (range g) inner Y es ascend of
least_tallies_list (date_range g) inner n Y es ascend of = tallies_list (date_range g) inner Y es ascend of
least_tallies_list (query q) inner n Y es ascend of = tallies_list (query q) inner Y es ascend of
