-- Chosen values differ, and so do the keys that a facet prints.
use Rattle.std.proofs.Common.{◌≡◌, ℕ, List, [], ◌∷◌, ◌++◌, map, Bool, true, false, cond, ◌==◌, nat_le, refl, sym, ◌∙◌, ap, subst, inl, inr}
use Rattle.std.specs.List.{filter, flat_map, range_with_len}
use Rattle.std.specs.Ordering.{is_eq}
use Rattle.std.specs.declared.cmp.Ordering.TheVariants.{Less}
use Rattle.std.proofs.lemmas.Bool.{false≢true, eqb-true}
use Rattle.fc_spec.specs.documents.Val.{Val, val_cmp}
use Rattle.fc_spec.specs.words.Lists.{numbers_below}
use Rattle.fc_spec.specs.requests.Gaps.{gap_count}
use Rattle.fc_spec.specs.requests.DateGaps.{date_gap_count}
use Rattle.fc_spec.specs.requests.Request.{Sort, Terms, Kind, terms, range, date_range, query, Nodes}
use Rattle.fc_spec.specs.requests.Buckets.{Key, value, missing, gap, before, between, after}
use Rattle.fc_spec.specs.requests.Ranks.{Entry, rank, page, of_ranks}
use Rattle.fc_spec.specs.messages.KeyOrder.{same_key}
use Rattle.fc_spec.specs.replies.Printed.{asked}
use Rattle.fc_spec.specs.replies.Reading.{Reading}
use Rattle.fc_spec.specs.replies.Chosen.{candidates, offering, entry_on, known, chosen, chosen_entries}
use Rattle.fc_spec.specs.replies.Distributed.{printed_keys}
use Rattle.fc_spec.proofs.words.Members.{Member, filter_member}
use Rattle.fc_spec.proofs.words.AlikeLists.{member_append, member_map}
use Rattle.fc_spec.proofs.words.Differing.{Differ, Other, differ_filter, differ_append, differ_flat_map, differ_map, differ_weaken, differ_sorted, differ_range}
use Rattle.fc_spec.proofs.documents.Ascending.{distinct_ascends}
use Rattle.fc_spec.proofs.messages.Keys.{same_key_exact, same_key_itself}

-- two keys are two
abbrev pub OtherKey : Key → Key → Type 0
OtherKey k l = same_key k l ≡ false

abbrev pub OtherVal : Val → Val → Type 0
OtherVal v w = OtherKey (value v) (value w)

abbrev OtherEntry : Entry → Entry → Type 0
OtherEntry a b = OtherVal a.val b.val

map_filter_map : (p : Entry → Bool) (g : Val → Entry) (vs : List Val) → ((v : Val) → (g v).val ≡ v) → map (λ e. e.val) (filter p (map g vs)) ≡ filter (λ v. p (g v)) vs
map_filter_map p g [] h = refl
map_filter_map p g (v ∷ vs) h = go (p (g v)) (map_filter_map p g vs h)
  where
    go : (b : Bool) → map (λ e. e.val) (filter p (map g vs)) ≡ filter (λ v. p (g v)) vs → map (λ e. e.val) (cond b (g v ∷ filter p (map g vs)) (filter p (map g vs))) ≡ cond b (v ∷ filter (λ v. p (g v)) vs) (filter (λ v. p (g v)) vs)
    go true ih = λ i. h v i ∷ ih i
    go false ih = ih

pub chosen_differ : {B D : Type 0} (R : Reading B D) (t : Terms) (inner : Nodes) (H : List ℕ) (Y : D) → Differ OtherVal (chosen R t inner H Y)
chosen_differ R t inner H Y =
    subst (Differ OtherVal) (sym (map_filter_map _ (λ v. entry_on R t inner H Y (offering R t inner H Y v) v) (candidates R t inner H Y) (λ v. refl)))
    (differ_filter OtherVal _ (candidates R t inner H Y) (differ_weaken (λ v w. val_cmp v w ≡ Less) OtherVal (candidates R t inner H Y) (λ v w e. ap is_eq e)
    (differ_sorted val_cmp (candidates R t inner H Y) (distinct_ascends (flat_map (λ i. R.offered_by t inner Y i) H)))))

-- ---- pages

-- members of the same value are one, where values differ
same_entry : (V : List Entry) (a b : Entry) → Differ OtherEntry V → Member a V → Member b V → same_key (value a.val) (value b.val) ≡ true → a ≡ b
same_entry [] a b d i j h = absurd i
same_entry (e ∷ V) a b d (inl i) (inl j) h = i ∙ sym j
same_entry (e ∷ V) a b d (inl i) (inr j) h = absurd (false≢true (sym (ap (λ (x : Entry). same_key (value x.val) (value b.val)) i ∙ d.0 b j) ∙ h))
same_entry (e ∷ V) a b d (inr i) (inl j) h =
    let back : same_key (value e.val) (value a.val) ≡ true = ap (λ k. same_key k (value a.val)) (ap (λ (x : Entry). value x.val) (sym j) ∙ sym (same_key_exact (value a.val) (value b.val) h)) ∙ same_key_itself (value a.val) in
    absurd (false≢true (sym (d.0 a i) ∙ back))
same_entry (e ∷ V) a b d (inr i) (inr j) h = same_entry V a b d.1 i j h

ranks_differ : (s : Sort) (V : List Entry) (from n : ℕ) → Differ OtherEntry V → Differ OtherEntry (of_ranks s V from n)
ranks_differ s V from n d =
    differ_flat_map Other OtherEntry (λ k. filter (λ e. rank s V e == k) V) (range_with_len from n) (differ_range n from) (λ k. differ_filter OtherEntry (λ e. rank s V e == k) V d)
    (λ k j a b other x y.
    let p = filter_member (λ e. rank s V e == k) V a x in
    let q = filter_member (λ e. rank s V e == j) V b y in
    apart a b p.0 q.0 (λ same. other (sym (eqb-true (rank s V a) k p.1) ∙ ap (rank s V) same ∙ eqb-true (rank s V b) j q.1)))
  where
    apart : (a b : Entry) → Member a V → Member b V → (a ≡ b → ⊥) → OtherEntry a b
    apart a b i j differs = go (same_key (value a.val) (value b.val)) refl
      where
        go : (c : Bool) → same_key (value a.val) (value b.val) ≡ c → c ≡ false
        go true e = absurd (differs (same_entry V a b d i j e))
        go false e = refl

-- ---- keys

asked_differ : (b : Bool) (k : Key) → Differ OtherKey (asked b k)
asked_differ true k = (λ y m. absurd m, tt)
asked_differ false k = tt

pub asked_is : (b : Bool) (k key : Key) → Member key (asked b k) → key ≡ k
asked_is true k key (inl e) = e
asked_is true k key (inr m) = absurd m
asked_is false k key m = absurd m

-- keys that differ from one that is asked for, before it
differ_asked : (xs : List Key) (b : Bool) (k : Key) → ((x : Key) → Member x xs → OtherKey x k) → Differ OtherKey xs → Differ OtherKey (xs ++ asked b k)
differ_asked xs b k h d = differ_append OtherKey xs (asked b k) d (asked_differ b k) (λ x y i j. subst (OtherKey x) (sym (asked_is b k y j)) (h x i))

gaps_differ : (i j : ℕ) → Other i j → OtherKey (gap i) (gap j)
gaps_differ i j other = go (same_key (gap i) (gap j)) refl
  where
    go : (c : Bool) → same_key (gap i) (gap j) ≡ c → c ≡ false
    go true e = absurd (other (let h = same_key_exact (gap i) (gap j) e in cc))
    go false e = refl

pub printed_differ : {B D : Type 0} (R : Reading B D) (kind : Kind) (inner : Nodes) (H : List ℕ) (Y : D) → Differ OtherKey (printed_keys R kind inner H Y)
printed_differ R (terms t) inner H Y =
    let V = filter (λ (e : Entry). nat_le t.mincount e.stats.count) (chosen_entries R t inner H Y) in
    let d : Differ OtherEntry (chosen_entries R t inner H Y) = differ_map OtherVal OtherEntry (λ v. entry_on R t inner H Y (known R t inner H Y v) v) (chosen R t inner H Y) (λ v w i j e. e) (chosen_differ R t inner H Y) in
    differ_asked (map (λ (e : Entry). value e.val) (page t.sort t.offset t.limit V)) t.missing missing (λ x i. let r = member_map (λ (e : Entry). value e.val) (page t.sort t.offset t.limit V) x i in ap (λ k. same_key k missing) r.2)
    (differ_map OtherEntry OtherKey (λ e. value e.val) (page t.sort t.offset t.limit V) (λ a b i j e. e) (ranks_differ t.sort V t.offset _ (differ_filter OtherEntry (λ e. nat_le t.mincount e.stats.count) (chosen_entries R t inner H Y) d)))
printed_differ R (range g) inner H Y =
    differ_append OtherKey (map gap (numbers_below (gap_count g))) (asked g.before before ++ (asked g.between between ++ asked g.after after))
    (differ_map Other OtherKey gap (numbers_below (gap_count g)) (λ i j m n. gaps_differ i j) (differ_range (gap_count g) 0))
    (differ_append OtherKey (asked g.before before) (asked g.between between ++ asked g.after after) (asked_differ g.before before)
    (differ_append OtherKey (asked g.between between) (asked g.after after) (asked_differ g.between between) (asked_differ g.after after) (λ x y i j. (λ k. same_key (asked_is g.between between x i k) (asked_is g.after after y j k))))
    (λ x y i j. elim (member_append (asked g.between between) (asked g.after after) y j) [
      | inl m ↦ (λ k. same_key (asked_is g.before before x i k) (asked_is g.between between y m k))
      | inr m ↦ (λ k. same_key (asked_is g.before before x i k) (asked_is g.after after y m k))
    ]))
    (λ x y i j. let r = member_map gap (numbers_below (gap_count g)) x i in elim (member_append (asked g.before before) (asked g.between between ++ asked g.after after) y j) [
      | inl m ↦ (λ k. same_key (r.2 k) (asked_is g.before before y m k))
      | inr n ↦ elim (member_append (asked g.between between) (asked g.after after) y n) [
        | inl m ↦ (λ k. same_key (r.2 k) (asked_is g.between between y m k))
        | inr m ↦ (λ k. same_key (r.2 k) (asked_is g.after after y m k))
      ]
    ])
printed_differ R (date_range g) inner H Y =
    differ_append OtherKey (map gap (numbers_below (date_gap_count g))) (asked g.before before ++ (asked g.between between ++ asked g.after after))
    (differ_map Other OtherKey gap (numbers_below (date_gap_count g)) (λ i j m n. gaps_differ i j) (differ_range (date_gap_count g) 0))
    (differ_append OtherKey (asked g.before before) (asked g.between between ++ asked g.after after) (asked_differ g.before before)
    (differ_append OtherKey (asked g.between between) (asked g.after after) (asked_differ g.between between) (asked_differ g.after after) (λ x y i j. (λ k. same_key (asked_is g.between between x i k) (asked_is g.after after y j k))))
    (λ x y i j. elim (member_append (asked g.between between) (asked g.after after) y j) [
      | inl m ↦ (λ k. same_key (asked_is g.before before x i k) (asked_is g.between between y m k))
      | inr m ↦ (λ k. same_key (asked_is g.before before x i k) (asked_is g.after after y m k))
    ]))
    (λ x y i j. let r = member_map gap (numbers_below (date_gap_count g)) x i in elim (member_append (asked g.before before) (asked g.between between ++ asked g.after after) y j) [
      | inl m ↦ (λ k. same_key (r.2 k) (asked_is g.before before y m k))
      | inr n ↦ elim (member_append (asked g.between between) (asked g.after after) y n) [
        | inl m ↦ (λ k. same_key (r.2 k) (asked_is g.between between y m k))
        | inr m ↦ (λ k. same_key (r.2 k) (asked_is g.after after y m k))
      ]
    ])
printed_differ R (query q) inner H Y = (λ y m. absurd m, tt)
