-- One more number, with the row of its document.
use Rattle.std.proofs.Common.{◌≡◌, ◌<◌, ◌≤◌, ◌⊎◌, inl, inr, ℕ, Bool, true, List, [], ◌∷◌, ◌++◌, length, get_or, All, refl, sym, ap, ap₂, subst, ◌∙◌, arith, length-append}
use Rattle.std.proofs.Math.Seq.{get_or-append_seam}
use Rattle.std.proofs.lemmas.List.{get_or_append_left, map-append}
use Rattle.std.proofs.lemmas.List.Elements.{All-append, All-cons, All-head, All-tail}
use Rattle.fc_count.specs.Counting.{Counting}
use Rattle.fc_count.specs.Countings.{counted_at}
use Rattle.fc_count.specs.declared.countings.Entry.{Entry}

-- the same rows, or one more
abbrev pub AreGrown : List ℕ → ℕ → List ℕ → Type 0
AreGrown ps at new = (new ≡ ps) ⊎ (new ≡ ps ++ at ∷ [])

none_behind : {X : Type 0} (P : X → Type 0) → All P []
none_behind P k d inside = absurd (omega arith)

pub row_kept : (ps : List ℕ) (at : ℕ) (new : List ℕ) → AreGrown ps at new → (row : ℕ) → row < length ps → get_or new row 0 ≡ get_or ps row 0
row_kept ps at new (inl e) row h = ap (λ l. get_or l row 0) e
row_kept ps at new (inr e) row h = ap (λ l. get_or l row 0) e ∙ get_or_append_left ps (at ∷ []) 0 row h

pub rows_kept : (ps : List ℕ) (at : ℕ) (new : List ℕ) → AreGrown ps at new → length ps ≤ length new
rows_kept ps at new (inl e) = omega (arith, ap length e)
rows_kept ps at new (inr e) = omega (arith, ap length e, length-append ps (at ∷ []))

still_counted : (ps : List ℕ) (at : ℕ) (new : List ℕ) → AreGrown ps at new → (es : List Entry) → All (λ e. e.row < length ps) es → counted_at new es ≡ counted_at ps es
still_counted ps at new grown [] there = refl
still_counted ps at new grown (e ∷ es) there =
    ap₂ (λ (n : ℕ) (l : List Counting). record { number = e.number; at = n } ∷ l) (row_kept ps at new grown e.row (All-head (λ (x : Entry). x.row < length ps) e es there))
    (still_counted ps at new grown es (All-tail (λ (x : Entry). x.row < length ps) e es there))

module _ (ps : List ℕ) (at : ℕ) (new : List ℕ) (grown : AreGrown ps at new) (es : List Entry) (there : All (λ e. e.row < length ps) es) (e : Entry) (own : get_or new e.row 0 ≡ at) where
  pub counted_more : counted_at new (es ++ e ∷ []) ≡ counted_at ps es ++ record { number = e.number; at = at } ∷ []
  counted_more =
      map-append (λ (x : Entry). record { number = x.number; at = get_or new x.row 0 }) es (e ∷ [])
      ∙ ap₂ (λ (l : List Counting) (n : ℕ). l ++ record { number = e.number; at = n } ∷ []) (still_counted ps at new grown es there) own

  pub there_more : e.row < length new → All (λ x. x.row < length new) (es ++ e ∷ [])
  there_more here =
      All-append (λ (x : Entry). x.row < length new) es (e ∷ []) (λ k d inside. let below = there k d inside in let more = rows_kept ps at new grown in omega (arith, below, more))
      (All-cons (λ (x : Entry). x.row < length new) e [] here (none_behind (λ (x : Entry). x.row < length new)))

  pub all_counted : ((p : ℕ → Bool) → All (λ c. p c.at ≡ true) (counted_at ps es) → All (λ n. p n ≡ true) ps) → (p : ℕ → Bool) → All (λ c. p c.at ≡ true) (counted_at new (es ++ e ∷ [])) → All (λ n. p n ≡ true) new
  all_counted before p all = go grown
    where
      so : Counting → Type 0
      so c = p c.at ≡ true

      split : All so (counted_at ps es ++ record { number = e.number; at = at } ∷ [])
      split = subst (All so) counted_more all

      front : All so (counted_at ps es)
      front = λ k d inside. subst so (get_or_append_left (counted_at ps es) (record { number = e.number; at = at } ∷ []) d k inside) (split k d (omega (arith, inside, length-append (counted_at ps es) (record { number = e.number; at = at } ∷ []))))

      last : p at ≡ true
      last =
          let c : Counting = record { number = e.number; at = at } in
          subst so (get_or-append_seam (counted_at ps es) c [] c) (split (length (counted_at ps es)) c (omega (arith, length-append (counted_at ps es) (c ∷ []))))

      go : AreGrown ps at new → All (λ n. p n ≡ true) new
      go (inl is) = subst (All (λ n. p n ≡ true)) (sym is) (before p front)
      go (inr is) = subst (All (λ n. p n ≡ true)) (sym is) (All-append (λ n. p n ≡ true) ps (at ∷ []) (before p front) (All-cons (λ n. p n ≡ true) at [] last (none_behind (λ n. p n ≡ true))))
