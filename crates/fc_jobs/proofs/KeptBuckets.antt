-- Buckets that are listed from a count on.
use Rattle.std.proofs.Common.{◌≡◌, ℕ, List, [], ◌∷◌, map, Bool, true, false, cond, refl, sym, subst}
use Rattle.std.specs.List.{filter}
use Rattle.fc_spec.specs.messages.Message.{partial, no_rows}
use Rattle.fc_partial.specs.BucketView.{bare, bucket_view, buckets_view, linked}
use Rattle.fc_partial.specs.Tallied.{Entry}
use Rattle.fc_partial.specs.declared.bucket.PartialBucket.{PartialBucket}
use Rattle.fc_answers.specs.LeastListed.{is_of_least}

abbrev pub is_listed : ℕ → PartialBucket → Bool
is_listed n b = is_of_least n ((bucket_view b).key, (bucket_view b).stats)

-- they are those of the entries that are
pub kept_bare : (n : ℕ) (bs : List PartialBucket) (es : List Entry) → buckets_view bs ≡ bare es → buckets_view (filter (is_listed n) bs) ≡ bare (filter (is_of_least n) es)
kept_bare n [] [] same = refl
kept_bare n [] (e ∷ es) same = absurd (cc)
kept_bare n (b ∷ bs) [] same = absurd (cc)
kept_bare n (b ∷ bs) (e ∷ es) same =
    let key : (bucket_view b).key ≡ e.0 = cc in
    let stats : (bucket_view b).stats ≡ e.1 = cc in
    let rows : (bucket_view b).rows ≡ no_rows = cc in
    let rest : buckets_view bs ≡ bare es = cc in
    subst (λ t. linked (map bucket_view (cond t (b ∷ filter (is_listed n) bs) (filter (is_listed n) bs))) ≡ bare (filter (is_of_least n) (e ∷ es))) (λ i. is_of_least n (sym key i, sym stats i))
    (go (is_of_least n e) key stats rows (kept_bare n bs es rest))
  where
    go : (t : Bool) → (bucket_view b).key ≡ e.0 → (bucket_view b).stats ≡ e.1 → (bucket_view b).rows ≡ no_rows → buckets_view (filter (is_listed n) bs) ≡ bare (filter (is_of_least n) es)
        → linked (map bucket_view (cond t (b ∷ filter (is_listed n) bs) (filter (is_listed n) bs))) ≡ bare (cond t (e ∷ filter (is_of_least n) es) (filter (is_of_least n) es))
    go true key stats rows rest = λ i. partial (key i) (stats i) (rows i) (rest i)
    go false key stats rows rest = rest
