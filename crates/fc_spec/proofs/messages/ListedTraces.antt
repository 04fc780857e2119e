-- The entries of a map are listed as they ascend.
use Rattle.std.proofs.Common.{◌≡◌, ◌⊎◌, ℕ, ◌<◌, ◌≤◌, List, [], ◌∷◌, ◌++◌, length, Bool, true, false, ◌&&◌, ◌==◌, Option, None, Some, refl, sym, ◌∙◌, ap, subst, inl, inr, arith}
use Rattle.std.specs.List.{AllByRecursion, flat_map, range_with_len}
use Rattle.std.proofs.lemmas.Bool.{eqb-true}
use Rattle.fc_spec.specs.words.Lists.{numbers_below}
use Rattle.fc_spec.specs.messages.Trace.{Sent, trace}
use Rattle.fc_spec.specs.messages.Lengths.{Lengths, entries_up_to, entry_of_length, is_of, no_lengths, put_all}
use Rattle.fc_spec.specs.laws.TraceLaws.{Ascend, StandsBefore, ValidTracesAreListed, AreIn}
use Rattle.fc_spec.proofs.words.Members.{Member, each_member}
use Rattle.fc_spec.proofs.words.AlikeLists.{member_flat_map}
use Rattle.fc_spec.proofs.words.NumbersBelow.{member_below}
use Rattle.fc_spec.proofs.words.Differing.{Differ, differ_flat_map, pairs_differ, rising_range, from_start_on}
use Rattle.fc_spec.proofs.messages.SearchEnds.{number_is_below}
use Rattle.fc_spec.proofs.messages.TraceEntries.{entries_are_in, traces_ascend, valid_traces_are_within}

-- ---- ascending lists with the same members are one

not_before_itself : (e f : Sent) → StandsBefore e f → StandsBefore f e → ⊥
not_before_itself e f (inl a) (inl b) = absurd (omega (arith, a, b))
not_before_itself e f (inl a) (inr b) = absurd (let same = b.0 in omega (arith, a, same))
not_before_itself e f (inr a) (inl b) = absurd (let same = a.0 in omega (arith, b, same))
not_before_itself e f (inr a) (inr b) = absurd (let x = a.1 in let y = b.1 in omega (arith, x, y))

not_itself : (e f : Sent) → e ≡ f → StandsBefore e f → ⊥
not_itself e f same before = not_before_itself e f before (subst (λ x. StandsBefore f x) (sym same) (subst (λ x. StandsBefore x f) same before))

abbrev SameMembers : List Sent → List Sent → Type 0
SameMembers xs ys = ((e : Sent) → Member e xs → Member e ys) × ((e : Sent) → Member e ys → Member e xs)

same_first : (x y : Sent) (xs ys : List Sent) → Differ StandsBefore (x ∷ xs) → Differ StandsBefore (y ∷ ys) → Member x (y ∷ ys) → Member y (x ∷ xs) → x ≡ y
same_first x y xs ys d f (inl same) n = same
same_first x y xs ys d f (inr m) (inl same) = sym same
same_first x y xs ys d f (inr m) (inr n) = absurd (not_before_itself x y (d.0 y n) (f.0 x m))

rest_member : (x y e : Sent) (xs ys : List Sent) → Differ StandsBefore (x ∷ xs) → x ≡ y → Member e xs → Member e (y ∷ ys) → Member e ys
rest_member x y e xs ys d same m (inl own) = absurd (not_itself x e (same ∙ sym own) (d.0 e m))
rest_member x y e xs ys d same m (inr n) = n

one_list : (xs ys : List Sent) → Differ StandsBefore xs → Differ StandsBefore ys → SameMembers xs ys → xs ≡ ys
one_list [] [] d f same = refl
one_list [] (y ∷ ys) d f same = absurd (same.1 y (inl refl))
one_list (x ∷ xs) [] d f same = absurd (same.0 x (inl refl))
one_list (x ∷ xs) (y ∷ ys) d f same =
    let first = same_first x y xs ys d f (same.0 x (inl refl)) (same.1 y (inl refl)) in
    let rest = one_list xs ys d.1 f.1 (
      λ e m. rest_member x y e xs ys d first m (same.0 e (inr m)),
      λ e m. rest_member y x e ys xs f (sym first) m (same.1 e (inr m)),
    ) in
    λ i. first i ∷ rest i

-- ---- what is listed

in_left : {X : Type 0} (xs ys : List X) (x : X) → Member x xs → Member x (xs ++ ys)
in_left [] ys x m = absurd m
in_left (y ∷ xs) ys x (inl e) = inl e
in_left (y ∷ xs) ys x (inr m) = inr (in_left xs ys x m)

in_right : {X : Type 0} (xs ys : List X) (x : X) → Member x ys → Member x (xs ++ ys)
in_right [] ys x m = m
in_right (y ∷ xs) ys x m = inr (in_right xs ys x m)

flat_member : {X Y : Type 0} (f : X → List Y) (xs : List X) (y : Y) (x : X) → Member x xs → Member y (f x) → Member y (flat_map f xs)
flat_member f [] y x m n = absurd m
flat_member f (z ∷ zs) y x (inl e) n = in_left (f z) (flat_map f zs) y (subst (λ w. Member y (f w)) e n)
flat_member f (z ∷ zs) y x (inr m) n = in_right (f z) (flat_map f zs) y (flat_member f zs y x m n)

in_entry : (round shard : ℕ) (o : Option ℕ) (e : Sent) → Member e (entry_of_length round shard o) → (e.round ≡ round) × (e.shard ≡ shard) × (o ≡ Some e.length)
in_entry round shard None e m = absurd m
in_entry round shard (Some n) e (inl same) = (ap (λ (x : Sent). x.round) same, ap (λ (x : Sent). x.shard) same, ap (λ (x : Sent). Some x.length) (sym same))
in_entry round shard (Some n) e (inr m) = absurd m

one_entry : (round shard : ℕ) (o : Option ℕ) → Differ StandsBefore (entry_of_length round shard o)
one_entry round shard None = tt
one_entry round shard (Some n) = (λ y m. absurd m, tt)

module _ (rounds shards : ℕ) (m : Lengths) where
  row : ℕ → List Sent
  row round = flat_map (λ shard. entry_of_length round shard (m round shard)) (numbers_below shards)

  in_row : (round : ℕ) (e : Sent) → Member e (row round) → (e.round ≡ round) × (e.shard < shards) × (m e.round e.shard ≡ Some e.length)
  unfolding row
  in_row round e there =
      let from = member_flat_map (λ shard. entry_of_length round shard (m round shard)) (numbers_below shards) e there in
      let own = in_entry round from.0 (m round from.0) e from.2 in
      let below = member_below shards from.0 from.1 in
      let at = own.1 in
      (own.0, omega (arith, below, at), (λ j. m (own.0 j) (own.1 j)) ∙ own.2)

  row_ascends : (round : ℕ) → Differ StandsBefore (row round)
  unfolding row
  row_ascends round =
      differ_flat_map (λ i j. i < j) StandsBefore (λ shard. entry_of_length round shard (m round shard)) (numbers_below shards) (rising_range shards 0) (λ shard. one_entry round shard (m round shard))
      (λ i j a b less n k. let x = in_entry round i (m round i) a n in let y = in_entry round j (m round j) b k in inr (x.0 ∙ sym y.0, (let p = x.1 in let q = y.1 in omega (arith, less, p, q))))

  pub listed_ascend : Differ StandsBefore (entries_up_to rounds shards m)
  unfolding row
  listed_ascend =
      differ_flat_map (λ i j. i < j) StandsBefore row (range_with_len 1 rounds) (rising_range rounds 1) row_ascends
      (λ i j a b less n k. inl (let p = (in_row i a n).0 in let q = (in_row j b k).0 in omega (arith, less, p, q)))

  pub listed_is : (e : Sent) → Member e (entries_up_to rounds shards m) → (1 ≤ e.round) × (m e.round e.shard ≡ Some e.length)
  unfolding row
  listed_is e there =
      let from = member_flat_map row (range_with_len 1 rounds) e there in
      let own = in_row from.0 e from.2 in
      let low = from_start_on rounds 1 from.0 from.1 in
      let at = own.0 in
      (omega (arith, low, at), own.2)

  pub is_listed : (e : Sent) → 1 ≤ e.round → e.round ≤ rounds → e.shard < shards → m e.round e.shard ≡ Some e.length → Member e (entries_up_to rounds shards m)
  unfolding row
  is_listed e low high near at =
      flat_member row (range_with_len 1 rounds) e e.round (number_is_below rounds 1 e.round low (omega arith))
      (flat_member (λ shard. entry_of_length e.round shard (m e.round shard)) (numbers_below shards) e e.shard (number_is_below shards 0 e.shard (omega arith) (omega arith))
      (subst (λ o. Member e (entry_of_length e.round e.shard o)) (sym at) (inl refl)))

-- ---- the trace

-- one of the entries has this round and shard, and is it, or none has
found : (m : Lengths) (e : Sent) → m e.round e.shard ≡ Some e.length → (es : List Sent) → AllByRecursion (λ f. m f.round f.shard ≡ Some f.length) es → AllByRecursion (λ f. is_of e.round e.shard f ≡ false) es ⊎ Member e es
found m e at [] each = inl tt
found m e at (f ∷ es) each = go (f.round == e.round) (f.shard == e.shard) refl refl (found m e at es each.1)
  where
    same : f.round ≡ e.round → f.shard ≡ e.shard → e ≡ f
    same rounds shards =
        let lengths : f.length ≡ e.length = (let both = sym each.0 ∙ (λ j. m (rounds j) (shards j)) ∙ at in cc) in
        λ j. record { round = sym rounds j; shard = sym shards j; length = sym lengths j }

    go : (a b : Bool) → (f.round == e.round) ≡ a → (f.shard == e.shard) ≡ b → AllByRecursion (λ f. is_of e.round e.shard f ≡ false) es ⊎ Member e es → AllByRecursion (λ f. is_of e.round e.shard f ≡ false) (f ∷ es) ⊎ Member e (f ∷ es)
    go true true r s later = inr (inl (same (eqb-true _ _ r) (eqb-true _ _ s)))
    go true false r s (inl none) = inl ((λ j. r j && s j), none)
    go true false r s (inr there) = inr (inr there)
    go false b r s (inl none) = inl (ap (λ x. x && (f.shard == e.shard)) r, none)
    go false b r s (inr there) = inr (inr there)

-- entries that ascend, of so many rounds and shards
pub listed_again : (es : List Sent) (rounds shards : ℕ) → Ascend es → AllByRecursion (λ e. (1 ≤ e.round) × (e.round ≤ rounds) × (e.shard < shards)) es → entries_up_to rounds shards (put_all es no_lengths) ≡ es
listed_again es rounds shards ascend within =
    one_list (entries_up_to rounds shards m) es (listed_ascend rounds shards m) (pairs_differ StandsBefore es ascend) (
      λ e there. go e there (found m e (listed_is rounds shards m e there).1 es all.each),
      λ e there.
          let is = each_member (λ f. (1 ≤ f.round) × (f.round ≤ rounds) × (f.shard < shards)) es e within there in
          is_listed rounds shards m e is.0 is.1 is.2 (each_member (λ f. m f.round f.shard ≡ Some f.length) es e all.each there),
    )
  where
    m : Lengths
    m = put_all es no_lengths

    all : AreIn es no_lengths m
    all = entries_are_in es no_lengths ascend

    go : (e : Sent) → Member e (entries_up_to rounds shards m) → AllByRecursion (λ f. is_of e.round e.shard f ≡ false) es ⊎ Member e es → Member e es
    go e there (inr m) = m
    go e there (inl none) = absurd (let both = sym (listed_is rounds shards (put_all es no_lengths) e there).1 ∙ all.others e.round e.shard none in cc)

-- within further bounds
pub within_more : (es : List Sent) (a b c d : ℕ) → a ≤ c → b ≤ d → AllByRecursion (λ e. (1 ≤ e.round) × (e.round ≤ a) × (e.shard < b)) es → AllByRecursion (λ e. (1 ≤ e.round) × (e.round ≤ c) × (e.shard < d)) es
within_more [] a b c d h k all = tt
within_more (e ∷ es) a b c d h k all = ((all.0.0, (let most : e.round ≤ a = all.0.1 in omega arith), (let below : e.shard < b = all.0.2 in omega arith)), within_more es a b c d h k all.1)

pub valid_traces_are_listed : ValidTracesAreListed
valid_traces_are_listed s r W rounds shards valid high near = listed_again (trace r W) rounds shards (traces_ascend r W) (within_more (trace r W) 9 (length W) rounds shards high near (valid_traces_are_within s r W valid))
