-- The items of a position, after an item or a position is added.
use Rattle.std.proofs.Common.{◌≡◌, ◌≢◌, ℕ, zero, suc, ◌+◌, ◌<◌, ◌≤◌, Bool, true, false, inl, inr, cond, ◌==◌, List, [], ◌∷◌, ◌++◌, length, get_or, set, map, replicate, All, refl, sym, ap, ap₂, ◌∙◌, subst, arith, add-zero, eq-eqb, ne_eqb}
use Rattle.std.specs.List.{range_with_len}
use Rattle.std.proofs.lemmas.Bool.{cases_eq, cases_lt}
use Rattle.std.proofs.lemmas.Simd.{map-map}
use Rattle.std.proofs.lemmas.List.{append-nil, append_assoc, replicate_more, get_or-set_same, get_or-set_other, get_or_default, same_lists, length-map, get_or-map}
use Rattle.std.proofs.lemmas.List.FromFn.{map-range_with_len_more, get_or-map-range_with_len, length-map-range_with_len}
use Rattle.fc_lists.specs.declared.entries.Entry.{Entry}
use Rattle.fc_lists.specs.Items.{items_at, rows_below}
use Rattle.fc_lists.specs.Entries.{laid_of}

-- what two functions give at each index below n is one list
pub map_range_same : {X : Type 0} (f g : ℕ → X) (n : ℕ) → ((k : ℕ) → k < n → f k ≡ g k) → map f (range_with_len 0 n) ≡ map g (range_with_len 0 n)
map_range_same f g zero same = refl
map_range_same f g (suc n) same =
    let more : suc n ≡ n + 1 = omega arith in
    let f_more = ap (λ m. map f (range_with_len 0 m)) more ∙ map-range_with_len_more f 0 n n (omega arith) in
    let g_more = ap (λ m. map g (range_with_len 0 m)) more ∙ map-range_with_len_more g 0 n n (omega arith) in
    f_more ∙ ap₂ (λ l x. l ++ x ∷ []) (map_range_same f g n (λ k within. same k (omega arith))) (same n (omega arith)) ∙ sym g_more

-- ---- one entry
items_at-here : {T : Type 0} (e : Entry T) (at : ℕ) → e.at ≡ at → items_at (e ∷ []) at ≡ e.item ∷ []
items_at-here e at same = ap (λ b. cond b (e.item ∷ []) []) (eq-eqb e.at at same)

items_at-other : {T : Type 0} (e : Entry T) (at : ℕ) → (e.at ≡ at → ⊥) → items_at (e ∷ []) at ≡ []
items_at-other e at other = ap (λ b. cond b (e.item ∷ []) []) (ne_eqb e.at at other)

-- ---- one more
cond-append : {T : Type 0} (b : Bool) (x : T) (l m : List T) → cond b (x ∷ (l ++ m)) (l ++ m) ≡ cond b (x ∷ l) l ++ m
cond-append true x l m = refl
cond-append false x l m = refl

items_at-push : {T : Type 0} (es : List (Entry T)) (e : Entry T) (at : ℕ) → items_at (es ++ e ∷ []) at ≡ items_at es at ++ items_at (e ∷ []) at
items_at-push [] e at = refl
items_at-push (x ∷ es) e at =
    ap (λ l. cond (x.at == at) (x.item ∷ l) l) (items_at-push es e at)
    ∙ cond-append (x.at == at) x.item (items_at es at) (items_at (e ∷ []) at)

pub items_at_none : {T : Type 0} (es : List (Entry T)) (at : ℕ) → All (λ e. e.at ≢ at) es → items_at es at ≡ []
items_at_none [] at other = refl
items_at_none (e ∷ es) at other =
    ap (λ b. cond b (e.item ∷ items_at es at) (items_at es at)) (ne_eqb e.at at (other 0 e (omega arith)))
    ∙ items_at_none es at (λ k d inside. other (suc k) d (omega arith))

pub laid_of-push : {T : Type 0} (es : List (Entry T)) (e : Entry T) (len : ℕ) → e.at ≡ len
    → laid_of (es ++ e ∷ []) len ≡ record { rows = rows_below es len; next = items_at es len ++ e.item ∷ [] }
laid_of-push es e len here =
    ap₂ (λ rows next. record { rows = rows; next = next })
    (map_range_same (items_at (es ++ e ∷ [])) (items_at es) len
    (λ k below. items_at-push es e k ∙ ap (λ l. items_at es k ++ l) (items_at-other e k (λ same. omega arith)) ∙ append-nil (items_at es k)))
    (items_at-push es e len ∙ ap (λ l. items_at es len ++ l) (items_at-here e len here))

-- ---- positions without an item
rows_below-skip : {T : Type 0} (es : List (Entry T)) (len count : ℕ) → ((at : ℕ) → len ≤ at → items_at es at ≡ [])
    → rows_below es (len + count) ≡ rows_below es len ++ replicate count []
rows_below-skip es len zero none = ap (rows_below es) (add-zero len) ∙ sym (append-nil (rows_below es len))
rows_below-skip {T} es len (suc count) none =
    let nothing : List T = [] in
    let more : len + suc count ≡ (len + count) + 1 = omega arith in
    let again : count + 1 ≡ suc count = omega arith in
    ap (rows_below es) more ∙ map-range_with_len_more (items_at es) 0 (len + count) (len + count) (omega arith)
    ∙ ap₂ (λ l r. l ++ r ∷ []) (rows_below-skip es len count none) (none (len + count) (omega arith))
    ∙ append_assoc (rows_below es len) (replicate count nothing) (nothing ∷ [])
    ∙ ap (λ l. rows_below es len ++ l) (replicate_more count nothing ∙ ap (λ n. replicate n nothing) again)

-- no item stands past the next position
past_next : {T : Type 0} (es : List (Entry T)) (len at : ℕ) → All (λ e. e.at ≤ len) es → len < at → items_at es at ≡ []
past_next es len at within past =
    items_at_none es at (λ k d inside same. let below = within k d inside in omega arith)

pub laid_of-end : {T : Type 0} (es : List (Entry T)) (len : ℕ) → All (λ e. e.at ≤ len) es
    → laid_of es (len + 1) ≡ record { rows = rows_below es len ++ items_at es len ∷ []; next = [] }
laid_of-end es len within =
    ap₂ (λ rows next. record { rows = rows; next = next })
    (map-range_with_len_more (items_at es) 0 len len (omega arith))
    (past_next es len (len + 1) within (omega arith))

pub laid_of-skip : {T : Type 0} (es : List (Entry T)) (len count : ℕ) → All (λ e. e.at ≤ len) es → items_at es len ≡ []
    → laid_of es (len + count) ≡ record { rows = rows_below es len ++ replicate count []; next = [] }
laid_of-skip {T} es len count within whole =
    ap₂ (λ rows next. record { rows = rows; next = next })
    (rows_below-skip es len count none)
    (none (len + count) (omega arith))
  where
    none : (at : ℕ) → len ≤ at → items_at es at ≡ []
    none at from = elim (cases_eq at len) [
      | inl same ↦ ap (items_at es) same ∙ whole
      | inr other ↦ past_next es len at within (omega arith)
    ]

-- ---- an entry is an item of its position
rest_holds : {T : Type 0} (P : T → Type 0) (b : Bool) (x : T) (items : List T) → All P (cond b (x ∷ items) items) → All P items
rest_holds P true x items all = λ j d within. all (suc j) d (omega arith)
rest_holds P false x items all = all

entry_holds : {T : Type 0} (P : T → Type 0) (es : List (Entry T)) (k : ℕ) (d : Entry T) → k < length es
    → All P (items_at es (get_or es k d).at) → P (get_or es k d).item
entry_holds P [] k d inside all = absurd (omega arith)
entry_holds P (e ∷ es) zero d inside all =
    (subst (λ b. All P (cond b (e.item ∷ items_at es e.at) (items_at es e.at))) (eq-eqb e.at e.at refl) all) 0 e.item (omega arith)
entry_holds P (e ∷ es) (suc k) d inside all =
    let at = (get_or es k d).at in
    entry_holds P es k d (omega arith) (rest_holds P (e.at == at) e.item (items_at es at) all)

pub entries_hold : {T : Type 0} (P : T → Type 0) (es : List (Entry T)) (len : ℕ) → All (λ e. e.at < len) es
    → All (All P) (rows_below es len) → All (λ e. P e.item) es
entries_hold P es len below rows k d inside =
    let at = (get_or es k d).at in
    let within : at < len = below k d inside in
    entry_holds P es k d inside
    (subst (All P) (get_or-map-range_with_len (items_at es) 0 len at at [] within (omega arith))
    (rows at [] (omega (arith, length-map-range_with_len (items_at es) 0 len))))

-- the last position is whole where nothing is left for the next one
pub some_item : {T : Type 0} (es : List (Entry T)) (k : ℕ) (d : Entry T) → k < length es → 0 < length (items_at es (get_or es k d).at)
some_item [] k d inside = absurd (omega arith)
some_item (e ∷ es) zero d inside =
    let here = ap (λ b. length (cond b (e.item ∷ items_at es e.at) (items_at es e.at))) (eq-eqb e.at e.at refl) in omega (arith, here)
some_item (e ∷ es) (suc k) d inside = go (e.at == (get_or es k d).at) (some_item es k d (omega arith))
  where
    go : (b : Bool) → 0 < length (items_at es (get_or es k d).at)
        → 0 < length (cond b (e.item ∷ items_at es (get_or es k d).at) (items_at es (get_or es k d).at))
    go true some = omega arith
    go false some = some

pub entries_below : {T : Type 0} (es : List (Entry T)) (len : ℕ) → All (λ e. e.at ≤ len) es → items_at es len ≡ [] → All (λ e. e.at < len) es
entries_below es len within whole k d inside = elim (cases_lt (get_or es k d).at len) [
  | inl below ↦ below
  | inr from ↦
      let least = within k d inside in
      let same : (get_or es k d).at ≡ len = omega arith in
      let some = subst (λ at. 0 < length (items_at es at)) same (some_item es k d inside) in
      absurd (omega (arith, some, ap length whole))
]

-- ---- each item is changed
cond-map : {T U : Type 0} (f : T → U) (b : Bool) (x : T) (l : List T) → cond b (f x ∷ map f l) (map f l) ≡ map f (cond b (x ∷ l) l)
cond-map f true x l = refl
cond-map f false x l = refl

abbrev pub with_item : {T : Type 0} → (T → T) → Entry T → Entry T
with_item f e = record { at = e.at; item = f e.item }

items_at-map : {T : Type 0} (f : T → T) (es : List (Entry T)) (at : ℕ) → items_at (map (with_item f) es) at ≡ map f (items_at es at)
items_at-map f [] at = refl
items_at-map f (e ∷ es) at =
    ap (λ l. cond (e.at == at) (f e.item ∷ l) l) (items_at-map f es at) ∙ cond-map f (e.at == at) e.item (items_at es at)

pub laid_of-map : {T : Type 0} (f : T → T) (es : List (Entry T)) (len : ℕ)
    → laid_of (map (with_item f) es) len ≡ record { rows = map (map f) (rows_below es len); next = map f (items_at es len) }
laid_of-map f es len =
    ap₂ (λ rows next. record { rows = rows; next = next })
    (map_range_same (items_at (map (with_item f) es)) (λ at. map f (items_at es at)) len (λ k below. items_at-map f es k)
    ∙ sym (map-map (map f) (items_at es) (range_with_len 0 len)))
    (items_at-map f es len)

-- ---- one entry after another
pub record Renumbered (f : ℕ → ℕ) (old now : List (Entry ℕ)) (i : ℕ) : Type 0 where
  pub done : (k : ℕ) (d : Entry ℕ) → k < i → k < length old → get_or now k d ≡ with_item f (get_or old k d)
  pub left : (k : ℕ) (d : Entry ℕ) → i ≤ k → get_or now k d ≡ get_or old k d

pub renumbered_none : (f : ℕ → ℕ) (old : List (Entry ℕ)) → Renumbered f old old 0
renumbered_none f old = record { done = λ k d none within. absurd (omega arith); left = λ k d from. refl }

pub renumbered_more : (f : ℕ → ℕ) (old now : List (Entry ℕ)) (i : ℕ) (none : Entry ℕ) → i < length now → Renumbered f old now i
    → Renumbered f old (set now i (with_item f (get_or now i none))) (i + 1)
renumbered_more f old now i none inside so_far = record {
  done = λ k d below within. elim (cases_eq k i) [
    | inl same ↦
        ap (λ j. get_or (set now i (with_item f (get_or now i none))) j d) same ∙ get_or-set_same now i (with_item f (get_or now i none)) d inside
        ∙ ap (with_item f) (so_far.left i none (omega arith) ∙ get_or_default old i none d (omega arith) ∙ ap (λ j. get_or old j d) (sym same))
    | inr other ↦ get_or-set_other now i k (with_item f (get_or now i none)) d other ∙ so_far.done k d (omega arith) within
  ];
  left = λ k d from.
      get_or-set_other now i k (with_item f (get_or now i none)) d (λ same. omega arith) ∙ so_far.left k d (omega arith);
}

pub renumbered_all : (f : ℕ → ℕ) (old now : List (Entry ℕ)) (i : ℕ) → length now ≡ length old → length old ≤ i → Renumbered f old now i → now ≡ map (with_item f) old
renumbered_all f old now i size all so_far =
    same_lists now (map (with_item f) old) (size ∙ sym (length-map old (with_item f)))
    (λ k d within. so_far.done k d (omega arith) (omega arith) ∙ sym (get_or-map (with_item f) old k d d (omega arith)))
