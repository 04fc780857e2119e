-- A set with a range of positions put into it.
use Rattle.std.proofs.Common.{◌≡◌, ℕ, ◌+◌, ◌-◌, ◌<◌, ◌≤◌, ◌⊎◌, inl, inr, List, ◌++◌, length, get_or, take, drop, replicate, Bool, true, false, ◌||◌, ◌&&◌, nat_le, nat_lt, sym, ap, ap₂, ◌∙◌, arith, lt-ltb, le-ltb, le-leb, length-append}
use Rattle.std.proofs.Math.Bool.{or-false, or-true}
use Rattle.std.proofs.lemmas.Bool.{lt-leb, cases_lt}
use Rattle.std.proofs.lemmas.List.{ext_get_or, get_or_append_left, get_or-append_right, get_or-take, get_or-drop, get_or-replicate, length-replicate, length-take-le, length-drop}

module _ (set new : List Bool) (start n : ℕ) (fits : start + n ≤ length set) (same : length new ≡ length set)
    (each : (k : ℕ) → get_or new k false ≡ (get_or set k false || (nat_le start k && nat_lt k (start + n)))) where
  front : List Bool
  front = take start set

  back : List Bool
  back = drop (start + n) set

  size_front : length front ≡ start
  unfolding front
  size_front = length-take-le start set (omega arith)

  size_middle : length (replicate n true) ≡ n
  size_middle = length-replicate n true

  size_back : length back ≡ length set - (start + n)
  unfolding back
  size_back = length-drop (start + n) set

  sizes : length new ≡ length (front ++ (replicate n true ++ back))
  sizes = omega (arith, length-append front (replicate n true ++ back), length-append (replicate n true) back, size_front, size_middle, size_back)

  here : (k : ℕ) → k < length new → get_or new k false ≡ get_or (front ++ (replicate n true ++ back)) k false
  unfolding front back
  here k inside = before (cases_lt k start)
    where
      back_to : (k : ℕ) → start + n ≤ k → start + n + (k - start - n) ≡ k
      back_to k above_end = omega arith

      behind : ((k < start + n) ⊎ (start + n ≤ k)) → start ≤ k → get_or new k false ≡ get_or (front ++ (replicate n true ++ back)) k false
      behind (inl below) above =
          each k ∙ ap₂ (λ a b. get_or set k false || (a && b)) (le-leb start k above) (lt-ltb k (start + n) below) ∙ or-true (get_or set k false)
          ∙ sym (get_or-append_right front (replicate n true ++ back) start k false size_front above
          ∙ get_or_append_left (replicate n true) back false (k - start) (omega (arith, size_middle))
          ∙ get_or-replicate n (k - start) true false (omega arith))
      behind (inr above_end) above =
          each k ∙ ap₂ (λ a b. get_or set k false || (a && b)) (le-leb start k above) (le-ltb k (start + n) above_end) ∙ or-false (get_or set k false)
          ∙ sym (get_or-append_right front (replicate n true ++ back) start k false size_front above
          ∙ get_or-append_right (replicate n true) back n (k - start) false size_middle (omega arith)
          ∙ get_or-drop (start + n) set (k - start - n) false
          ∙ ap (λ i. get_or set i false) (back_to k above_end))

      before : ((k < start) ⊎ (start ≤ k)) → get_or new k false ≡ get_or (front ++ (replicate n true ++ back)) k false
      before (inl below) =
          each k ∙ ap (λ a. get_or set k false || (a && nat_lt k (start + n))) (lt-leb start k below) ∙ or-false (get_or set k false)
          ∙ sym (get_or_append_left front (replicate n true ++ back) false k (omega (arith, size_front)) ∙ get_or-take start set k false below)
      before (inr above) = behind (cases_lt k (start + n)) above

  pub put_range : new ≡ take start set ++ (replicate n true ++ drop (start + n) set)
  unfolding front back
  put_range = ext_get_or false new (front ++ (replicate n true ++ back)) sizes here
