-- Entries whose keys and values are seen as others, and the place of a key among those in order.
use Rattle.std.proofs.Common.{◌≡◌, List, [], ◌∷◌, map, Bool, true, false, cond, Some, None, refl, ap}
use Rattle.std.specs.Cmp.{IsTotalOrder, Equal-is, alike_right}
use Rattle.std.specs.List.{AllByRecursion}
use Rattle.std.specs.List.Sorted.{IsStrictlySortedBy}
use Rattle.std.specs.Map.{lookup, keys_of, set_value}
use Rattle.std.specs.BTreeMap.{insert_entry, is_at}
use Rattle.std.specs.Option.{option_map}
use Rattle.std.specs.Ordering.{on, is_eq, match_ordering}
use Rattle.std.specs.declared.cmp.Ordering.{Ordering}
use Rattle.std.specs.declared.cmp.Ordering.TheVariants.{Less, Equal, Greater}
use Rattle.std.proofs.lemmas.Map.{lookup-none}
use Rattle.std.proofs.lemmas.Map.Entries.{none_below_head}
use Rattle.std.proofs.lemmas.Map.Keys.{sorted_tail}

module _ {K L X Y : Type 0} (f : K → L) (g : X → Y) where
  abbrev seen : List (K × X) → List (L × Y)
  seen es = map (λ e. (f e.0, g e.1)) es

  pub lookup-seen : (test : L → Bool) (es : List (K × X)) → lookup test (seen es) ≡ option_map g (lookup (λ q. test (f q)) es)
  lookup-seen test [] = refl
  lookup-seen test (e ∷ es) = go (test (f e.0)) (lookup-seen test es)
    where
      go : (b : Bool) → lookup test (seen es) ≡ option_map g (lookup (λ q. test (f q)) es)
          → cond b (Some (g e.1)) (lookup test (seen es)) ≡ option_map g (cond b (Some e.1) (lookup (λ q. test (f q)) es))
      go true h = refl
      go false h = h

  pub keys_of-seen : (es : List (K × X)) → keys_of (seen es) ≡ map f (keys_of es)
  keys_of-seen [] = refl
  keys_of-seen (e ∷ es) = ap (λ l. f e.0 ∷ l) (keys_of-seen es)

  pub insert_entry-seen : (cmp : L → L → Ordering) (es : List (K × X)) (k : K) (v : X) → seen (insert_entry (on f cmp) es k v) ≡ insert_entry cmp (seen es) (f k) (g v)
  insert_entry-seen cmp [] k v = refl
  insert_entry-seen cmp (e ∷ es) k v = go (cmp (f k) (f e.0)) (insert_entry-seen cmp es k v)
    where
      go : (o : Ordering) → seen (insert_entry (on f cmp) es k v) ≡ insert_entry cmp (seen es) (f k) (g v)
          → seen (match_ordering o ((k, v) ∷ e ∷ es) ((e.0, v) ∷ es) (e ∷ insert_entry (on f cmp) es k v))
          ≡ match_ordering o ((f k, g v) ∷ (f e.0, g e.1) ∷ seen es) ((f e.0, g v) ∷ seen es) ((f e.0, g e.1) ∷ insert_entry cmp (seen es) (f k) (g v))
      go Less h = refl
      go Equal h = refl
      go Greater h = ap (λ l. (f e.0, g e.1) ∷ l) h

module _ {K L : Type 0} (f : K → L) (cmp : L → L → Ordering) where
  below_seen : (x : K) (ks : List K) → AllByRecursion (λ y. cmp (f x) (f y) ≡ Less) ks → AllByRecursion (λ z. cmp (f x) z ≡ Less) (map f ks)
  below_seen x [] h = h
  below_seen x (k ∷ ks) h = (h.0, below_seen x ks h.1)

  pub sorted_seen : (ks : List K) → IsStrictlySortedBy (on f cmp) ks → IsStrictlySortedBy cmp (map f ks)
  unfolding IsStrictlySortedBy
  sorted_seen [] h = h
  sorted_seen (k ∷ ks) h = (below_seen k ks h.0, sorted_seen ks h.1)

module _ {K : Type 0} {cmp : K → K → Ordering} (total : IsTotalOrder cmp) where
  both_equal : (q k l : K) → is_eq (cmp q l) ≡ true → is_eq (cmp q k) ≡ true → cmp k l ≡ Greater → ⊥
  both_equal q k l h i g =
      let tied : cmp q l ≡ cmp k l = total.congr q k l ((Equal-is (cmp q k)).0 i) in
      let equal : cmp q l ≡ Equal = (Equal-is (cmp q l)).0 h in
      cc

-- where a key stands, putting a value there is setting it
module _ {K X : Type 0} {cmp : K → K → Ordering} (total : IsTotalOrder cmp) where
  pub insert_entry-there : (es : List (K × X)) (k : K) (v w : X) → IsStrictlySortedBy cmp (keys_of es) → lookup (is_at (cmp k)) es ≡ Some w → insert_entry cmp es k v ≡ set_value (is_at (cmp k)) es v
  insert_entry-there [] k v w sorted found = cc
  insert_entry-there (e ∷ es) k v w sorted found = go (cmp k e.0) refl (insert_entry-there es k v w (sorted_tail cmp e.0 (keys_of es) sorted))
    where
      go : (o : Ordering) → cmp k e.0 ≡ o → (lookup (is_at (cmp k)) es ≡ Some w → insert_entry cmp es k v ≡ set_value (is_at (cmp k)) es v)
          → insert_entry cmp (e ∷ es) k v ≡ set_value (is_at (cmp k)) (e ∷ es) v
      go Less h ih =
          let none : lookup (is_at (cmp k)) (e ∷ es) ≡ None = lookup-none (is_at (cmp k)) (e ∷ es) (none_below_head total k e es sorted h) in
          cc
      go Equal h ih = rw h refl
      go Greater h ih =
          let later : lookup (is_at (cmp k)) es ≡ Some w = rw h at found in
          rw h (ap (λ l. e ∷ l) (ih later))

  pub lookup-insert_entry : (es : List (K × X)) (k : K) (v : X) (q : K)
      → lookup (is_at (cmp q)) (insert_entry cmp es k v) ≡ cond (is_eq (cmp q k)) (Some v) (lookup (is_at (cmp q)) es)
  lookup-insert_entry [] k v q = refl
  lookup-insert_entry (e ∷ es) k v q = go (cmp k e.0) refl (lookup-insert_entry es k v q)
    where
      same : (b : Bool) → cond b (Some v) (lookup (is_at (cmp q)) es) ≡ cond b (Some v) (cond b (Some e.1) (lookup (is_at (cmp q)) es))
      same true = refl
      same false = refl

      later : (b c : Bool) → (b ≡ true → c ≡ true → ⊥) → cond b (Some e.1) (cond c (Some v) (lookup (is_at (cmp q)) es)) ≡ cond c (Some v) (cond b (Some e.1) (lookup (is_at (cmp q)) es))
      later true true h = absurd (h refl refl)
      later true false h = refl
      later false true h = refl
      later false false h = refl

      go : (o : Ordering) → cmp k e.0 ≡ o → lookup (is_at (cmp q)) (insert_entry cmp es k v) ≡ cond (is_eq (cmp q k)) (Some v) (lookup (is_at (cmp q)) es)
          → lookup (is_at (cmp q)) (match_ordering o ((k, v) ∷ e ∷ es) ((e.0, v) ∷ es) (e ∷ insert_entry cmp es k v)) ≡ cond (is_eq (cmp q k)) (Some v) (lookup (is_at (cmp q)) (e ∷ es))
      go Less h ih = refl
      go Equal h ih = rw (alike_right total k e.0 q h) (same (is_eq (cmp q e.0)))
      go Greater h ih = rw ih (later (is_eq (cmp q e.0)) (is_eq (cmp q k)) (λ i j. both_equal total q k e.0 i j h))
