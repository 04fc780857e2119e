-- Counts with their values, which stand in one list.
use Rattle.std.proofs.Common.{◌≡◌, ◌≤◌, ◌<◌, ℕ, zero, suc, ◌+◌, ◌*◌, List, [], ◌∷◌, ◌++◌, length, map, take, drop, get_or, set, refl, sym, ◌∙◌, ap, ap₂, arith, length-append, length-take, length-drop, append_assoc}
use Rattle.std.specs.List.{AllByRecursion}
use Rattle.std.proofs.Math.Nat.{zero-mul, suc-mul, add_comm, mul-le-mul_right}
use Rattle.std.proofs.Math.Seq.{drop-append-add, take-append-add}
use Rattle.std.proofs.lemmas.List.{take_at, drop_at, drop-drop, drop-map, length-map, map-append, take-append-drop, take-map}
use borrow.Rule.Slice.PartMut.{put_mid}
use Rattle.fc_spec.specs.requests.Statistics.{StatValue, Stats}
use Rattle.fc_partial.specs.CellsView.{rows_of}

pub length-rows : (w : ℕ) (cs : List ℕ) (vs : List StatValue) → length (rows_of w cs vs) ≡ length cs
length-rows w [] vs = refl
length-rows w (c ∷ cs) vs = ap suc (length-rows w cs (drop w vs))

pub row_at : (w : ℕ) (cs : List ℕ) (vs : List StatValue) (i : ℕ) (d : Stats) → i < length cs
    → get_or (rows_of w cs vs) i d ≡ record { count = get_or cs i 0; values = take w (drop (i * w) vs) }
row_at w [] vs i d h = absurd (omega arith)
row_at w (c ∷ cs) vs zero d h = rw zero-mul refl
row_at w (c ∷ cs) vs (suc i) d h =
    row_at w cs (drop w vs) i d (omega arith)
    ∙ ap (λ l. record { count = get_or cs i 0; values = take w l }) (drop-drop (i * w) w vs ∙ ap (λ n. drop n vs) (sym (suc-mul i w ∙ add_comm (i * w) w)))

-- a part behind others is put there
put_mid-behind : {X : Type 0} (xs ys zs : List X) (m k : ℕ) → put_mid (length xs + m) k (xs ++ ys) zs ≡ xs ++ put_mid m k ys zs
put_mid-behind xs ys zs m k =
    ap₂ (λ (p q : List _). p ++ (zs ++ drop k q)) (take-append-add xs ys m) (drop-append-add xs ys m) ∙ append_assoc xs (take m ys) (zs ++ drop k (drop m ys))

pub rows-put : (w : ℕ) (cs : List ℕ) (vs : List StatValue) (i c : ℕ) (ys : List StatValue) → i < length cs → length vs ≡ length cs * w → length ys ≡ w
    → rows_of w (set cs i c) (put_mid (i * w) w vs ys) ≡ set (rows_of w cs vs) i (record { count = c; values = ys })
rows-put w [] vs i c ys h e k = absurd (omega arith)
rows-put w (b ∷ cs) vs zero c ys h e k =
    rw zero-mul (λ j. record { count = c; values = take_at ys (drop w vs) w k j } ∷ rows_of w cs (drop_at ys (drop w vs) w k j))
rows-put w (b ∷ cs) vs (suc i) c ys h e k =
    let front : length (take w vs) ≡ w = rw length-take (omega (arith, suc-mul (length cs) w)) in
    let all = take-append-drop w vs in
    let put : put_mid (suc i * w) w vs ys ≡ take w vs ++ put_mid (i * w) w (drop w vs) ys =
    ap₂ (λ n (l : List StatValue). put_mid n w l ys) (suc-mul i w ∙ add_comm (i * w) w ∙ ap (λ n. n + i * w) (sym front)) (sym all) ∙ put_mid-behind (take w vs) (drop w vs) ys (i * w) w in
    ap (λ l. record { count = b; values = take w l } ∷ rows_of w (set cs i c) (drop w l)) put
    ∙ (λ j. record { count = b; values = take_at (take w vs) (put_mid (i * w) w (drop w vs) ys) w front j } ∷ rows_of w (set cs i c) (drop_at (take w vs) (put_mid (i * w) w (drop w vs) ys) w front j))
    ∙ ap (λ l. record { count = b; values = take w vs } ∷ l) (rows-put w cs (drop w vs) i c ys (omega arith) (rw length-drop (omega (arith, suc-mul (length cs) w))) k)

-- ---- the part of one number

module _ {X : Type 0} (f : X → StatValue) (w : ℕ) (cs : List ℕ) (xs : List X) (i : ℕ) (here : i < length cs) (whole : length xs ≡ length cs * w) where
  pub part_within : i * w + w ≤ length xs
  part_within = omega (arith, whole, mul-le-mul_right {m = suc i} {n = length cs} w (omega arith), suc-mul i w)

  pub part_values : (k : ℕ) (d : Stats) → k ≡ w → map f (take k (drop (i * w) xs)) ≡ (get_or (rows_of w cs (map f xs)) i d).values
  part_values k d e =
      ap (λ n. map f (take n (drop (i * w) xs))) e ∙ sym (ap (take w) (drop-map f (i * w) xs) ∙ take-map f w (drop (i * w) xs)) ∙ sym (ap (λ s. s.values) (row_at w cs (map f xs) i d here))

  pub part_put : (k c : ℕ) (ys all : List X) (zs : List StatValue) → k ≡ w → length ys ≡ w → map f ys ≡ zs → all ≡ put_mid (i * w) k xs ys
      → rows_of w (set cs i c) (map f all) ≡ set (rows_of w cs (map f xs)) i (record { count = c; values = zs })
  part_put k c ys all zs e l v is =
      ap (λ vs. rows_of w (set cs i c) vs) (ap (map f) is ∙ mapped ∙ ap (λ n. put_mid (i * w) n (map f xs) (map f ys)) e)
      ∙ rows-put w cs (map f xs) i c (map f ys) here (length-map xs f ∙ whole) (length-map ys f ∙ l)
      ∙ ap (λ vs. set (rows_of w cs (map f xs)) i (record { count = c; values = vs })) v
    where
      mapped : map f (put_mid (i * w) k xs ys) ≡ put_mid (i * w) k (map f xs) (map f ys)
      mapped = map-append f (take (i * w) xs) (ys ++ drop k (drop (i * w) xs))
          ∙ ap₂ (λ p q. p ++ q) (sym (take-map f (i * w) xs)) (map-append f ys (drop k (drop (i * w) xs))
          ∙ ap (λ q. map f ys ++ q) (sym (ap (drop k) (drop-map f (i * w) xs) ∙ drop-map f k (drop (i * w) xs))))

-- a vector that is written through keeps its length
pub refilled : {X : Type 0} (xs ys : List X) (n : ℕ) → n ≡ length xs → length ys ≡ length xs → take n (ys ++ drop (length ys) xs) ≡ ys
refilled xs ys n e l = take_at ys (drop (length ys) xs) n (l ∙ sym e)

pub length-put_mid : {X : Type 0} (a k : ℕ) (xs ys : List X) → a + k ≤ length xs → length ys ≡ k → length (put_mid a k xs ys) ≡ length xs
length-put_mid a k xs ys h e = simp (length-append, length-take, length-drop) (omega (arith, e, length-take a xs))

-- ---- facts of each number

pub every_at : {X : Type 0} (P : X → Type 0) (xs : List X) (i : ℕ) (d : X) → AllByRecursion P xs → i < length xs → P (get_or xs i d)
every_at P [] i d h l = absurd (omega arith)
every_at P (x ∷ xs) zero d h l = h.0
every_at P (x ∷ xs) (suc i) d h l = every_at P xs i d h.1 (omega arith)

pub every_set : {X : Type 0} (P : X → Type 0) (xs : List X) (i : ℕ) (x : X) → AllByRecursion P xs → P x → AllByRecursion P (set xs i x)
every_set P [] i x h p = tt
every_set P (y ∷ xs) zero x h p = (p, h.1)
every_set P (y ∷ xs) (suc i) x h p = (h.0, every_set P xs i x h.1 p)
