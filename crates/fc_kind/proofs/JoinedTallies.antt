-- The tally of places, when a segment's documents were collected.
use Rattle.std.proofs.Common.{◌≡◌, ℕ, pos, List, [], ◌∷◌, ◌++◌, map, length, Bool, true, false, cond, not, ◌&&◌, Some, None, refl, sym, ◌∙◌, ap, append-nil, ◌+◌}
use Rattle.std.specs.List.{filter, flat_map}
use Rattle.std.specs.Prelude.{count_by}
use Rattle.std.proofs.lemmas.Bool.{false_from_ne_true}
use Rattle.std.proofs.lemmas.List.{length-map}
use Rattle.std.proofs.lemmas.List.Elements.{filter-append}
use Rattle.std.proofs.lemmas.List.Sums.{sum_by-cons}
use Rattle.fc_spec.specs.documents.Document.{Document, values_of}
use Rattle.fc_spec.specs.documents.Columns.{longs_in}
use Rattle.fc_spec.specs.documents.World.{Place}
use Rattle.fc_spec.specs.requests.Buckets.{Key, bucket_places, in_bucket, is_key_of}
use Rattle.fc_spec.specs.requests.Request.{Kind, Stat, StatKind, sum, min, max, countvals, missing}
use Rattle.fc_spec.specs.requests.Statistics.{number, extreme, stats_over, statistic_in, value_over, pair_values, total_of, least_of, greatest_of}
use Rattle.fc_spec.specs.requests.Combining.{combined}
use Rattle.fc_spec.specs.words.Lists.{is_empty}
use Rattle.fc_spec.proofs.requests.Statistics.{stats_over-append}
use Rattle.fc_spec.proofs.messages.PrintedKnown.{nothing_is_empty}
use Rattle.fc_partial.specs.Tallying.{entry_at, with_more}
use Rattle.fc_kind.specs.Tallies.{CollectingJoins, SameDocuments}

-- ---- statistics look at documents alone

pairs_by_document : (field : ℕ) (X : List Place) → pair_values field X ≡ flat_map (λ d. values_of d field) (map (λ p. p.document) X)
pairs_by_document field [] = refl
pairs_by_document field (p ∷ X) = ap (λ l. values_of p.document field ++ l) (pairs_by_document field X)

missing_by_document : (field : ℕ) (X : List Place) → count_by (λ p. is_empty (values_of p.document field)) X ≡ count_by (λ d. is_empty (values_of d field)) (map (λ p. p.document) X)
missing_by_document field [] = refl
missing_by_document field (p ∷ X) =
    sum_by-cons (λ (q : Place). cond (is_empty (values_of q.document field)) 1 0) p X
    ∙ ap (λ n. cond (is_empty (values_of p.document field)) 1 0 + n) (missing_by_document field X)
    ∙ sym (sum_by-cons (λ (d : Document). cond (is_empty (values_of d field)) 1 0) p.document (map (λ q. q.document) X))

module _ (X Y : List Place) (same : SameDocuments X Y) where
  pairs_same : (field : ℕ) → pair_values field X ≡ pair_values field Y
  pairs_same field = pairs_by_document field X ∙ ap (flat_map (λ d. values_of d field)) same ∙ sym (pairs_by_document field Y)

  statistic_same : (k : StatKind) (field : ℕ) → statistic_in k field X ≡ statistic_in k field Y
  statistic_same sum field = ap (λ vs. number (total_of (longs_in vs))) (pairs_same field)
  statistic_same min field = ap (λ vs. extreme (least_of (longs_in vs))) (pairs_same field)
  statistic_same max field = ap (λ vs. extreme (greatest_of (longs_in vs))) (pairs_same field)
  statistic_same countvals field = ap (λ vs. number (pos (length vs))) (pairs_same field)
  statistic_same missing field = ap (λ n. number (pos n)) (missing_by_document field X ∙ ap (count_by (λ d. is_empty (values_of d field))) same ∙ sym (missing_by_document field Y))

  values_same : (ss : List Stat) → map (λ s. value_over s X) ss ≡ map (λ s. value_over s Y) ss
  values_same [] = refl
  values_same (s ∷ ss) = λ i. statistic_same s.of s.field i ∷ values_same ss i

  pub stats_same : (ss : List Stat) → stats_over ss X ≡ stats_over ss Y
  stats_same ss = λ i. record { count = (sym (length-map X (λ (p : Place). p.document)) ∙ ap length same ∙ length-map Y (λ (p : Place). p.document)) i; values = values_same ss i }

-- the places of a bucket have the documents of a bucket
bucket_documents : (kind : Kind) (k : Key) (X : List Place) → map (λ p. p.document) (bucket_places kind k X) ≡ filter (in_bucket kind k) (map (λ p. p.document) X)
bucket_documents kind k [] = refl
bucket_documents kind k (p ∷ X) = go (in_bucket kind k p.document) (bucket_documents kind k X)
  where
    go : (b : Bool) → map (λ p. p.document) (bucket_places kind k X) ≡ filter (in_bucket kind k) (map (λ p. p.document) X)
        → map (λ (p : Place). p.document) (cond b (p ∷ bucket_places kind k X) (bucket_places kind k X)) ≡ cond b (p.document ∷ filter (in_bucket kind k) (map (λ p. p.document) X)) (filter (in_bucket kind k) (map (λ p. p.document) X))
    go true h = ap (λ l. p.document ∷ l) h
    go false h = h

pub bucket_same : (kind : Kind) (k : Key) (X Y : List Place) → SameDocuments X Y → SameDocuments (bucket_places kind k X) (bucket_places kind k Y)
bucket_same kind k X Y same = bucket_documents kind k X ∙ ap (filter (in_bucket kind k)) same ∙ sym (bucket_documents kind k Y)

-- ---- joined

some_is_not : {X : Type 0} (x : X) (xs : List X) → is_empty (x ∷ xs) ≡ false
some_is_not x xs = false_from_ne_true (is_empty (x ∷ xs)) (λ h. let e = nothing_is_empty (x ∷ xs) h in cc)

empty-append : {X : Type 0} (xs ys : List X) → is_empty (xs ++ ys) ≡ (is_empty xs && is_empty ys)
empty-append [] ys = refl
empty-append (x ∷ xs) ys = some_is_not x (xs ++ ys) ∙ ap (λ b. b && is_empty ys) (sym (some_is_not x xs))

and_false : (b : Bool) → (b && false) ≡ false
and_false true = refl
and_false false = refl

same_empty : (X Y : List Place) → SameDocuments X Y → is_empty X ≡ is_empty Y
same_empty [] [] same = refl
same_empty [] (y ∷ Y) same = cc
same_empty (x ∷ X) [] same = cc
same_empty (x ∷ X) (y ∷ Y) same = some_is_not x X ∙ sym (some_is_not y Y)

pub joins : CollectingJoins
joins kind ss X Y told old new same of c = record {
  stats = c.stats ∙ of.stats;
  entries = λ k. go k (is_key_of kind k) refl;
}
  where
    apart : (k : Key) → bucket_places kind k (X ++ Y) ≡ bucket_places kind k X ++ bucket_places kind k Y
    apart k = filter-append (λ (p : Place). in_bucket kind k p.document) X Y

    told_is : (k : Key) → stats_over ss (bucket_places kind k told) ≡ stats_over ss (bucket_places kind k Y)
    told_is k = stats_same (bucket_places kind k told) (bucket_places kind k Y) (bucket_same kind k told Y same) ss

    told_empty : (k : Key) → is_empty (bucket_places kind k told) ≡ is_empty (bucket_places kind k Y)
    told_empty k = same_empty (bucket_places kind k told) (bucket_places kind k Y) (bucket_same kind k told Y same)

    go : (k : Key) (b : Bool) → is_key_of kind k ≡ b → entry_at new.entries k
        ≡ cond (is_key_of kind k && not (is_empty (bucket_places kind k (X ++ Y)))) (Some (stats_over ss (bucket_places kind k (X ++ Y)))) None
    go k false e = c.others k e ∙ of.entries k ∙ rw e refl
    go k true e = by_told (is_empty (bucket_places kind k told)) refl
      where
        was : (a : Bool) → is_empty (bucket_places kind k X) ≡ a → entry_at old.entries k ≡ cond (not a) (Some (stats_over ss (bucket_places kind k X))) None
        was a h = of.entries k ∙ (λ i. cond (e i && not (h i)) (Some (stats_over ss (bucket_places kind k X))) None)

        none_more : is_empty (bucket_places kind k told) ≡ true → bucket_places kind k (X ++ Y) ≡ bucket_places kind k X
        none_more t = apart k ∙ ap (λ l. bucket_places kind k X ++ l) (nothing_is_empty (bucket_places kind k Y) (sym (told_empty k) ∙ t)) ∙ append-nil (bucket_places kind k X)

        some_more : is_empty (bucket_places kind k told) ≡ false → is_empty (bucket_places kind k (X ++ Y)) ≡ false
        some_more t = ap is_empty (apart k) ∙ empty-append (bucket_places kind k X) (bucket_places kind k Y) ∙ ap (λ b. is_empty (bucket_places kind k X) && b) (sym (told_empty k) ∙ t) ∙ and_false (is_empty (bucket_places kind k X))

        more : (a : Bool) → is_empty (bucket_places kind k X) ≡ a → with_more ss (entry_at old.entries k) (stats_over ss (bucket_places kind k told)) ≡ stats_over ss (bucket_places kind k (X ++ Y))
        more true a =
            ap (λ o. with_more ss o (stats_over ss (bucket_places kind k told))) (was true a) ∙ told_is k
            ∙ ap (λ l. stats_over ss (l ++ bucket_places kind k Y)) (sym (nothing_is_empty (bucket_places kind k X) a)) ∙ ap (stats_over ss) (sym (apart k))
        more false a =
            ap (λ o. with_more ss o (stats_over ss (bucket_places kind k told))) (was false a) ∙ ap (combined ss (stats_over ss (bucket_places kind k X))) (told_is k)
            ∙ sym (stats_over-append ss (bucket_places kind k X) (bucket_places kind k Y)) ∙ ap (stats_over ss) (sym (apart k))

        by_told : (t : Bool) → is_empty (bucket_places kind k told) ≡ t → entry_at new.entries k
            ≡ cond (is_key_of kind k && not (is_empty (bucket_places kind k (X ++ Y)))) (Some (stats_over ss (bucket_places kind k (X ++ Y)))) None
        by_told true t =
            c.empty k e t ∙ of.entries k ∙ ap (λ (l : List Place). cond (is_key_of kind k && not (is_empty l)) (Some (stats_over ss l)) None) (sym (none_more t))
        by_told false t =
            c.grown k e t ∙ ap Some (more (is_empty (bucket_places kind k X)) refl)
            ∙ sym (λ i. cond (e i && not (some_more t i)) (Some (stats_over ss (bucket_places kind k (X ++ Y)))) None)
