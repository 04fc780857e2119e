-- What numbers count where each of them is a bucket.
use Rattle.std.proofs.Common.{◌≡◌, ◌<◌, ◌==◌, ◌⊎◌, inl, inr, ℕ, zero, suc, ℤ, pos, Bool, true, false, cond, List, [], ◌∷◌, ◌++◌, map, length, Some, refl, sym, ap, ap₂, subst, ◌∙◌, append_assoc, arith}
use Rattle.std.specs.List.{filter}
use Rattle.std.specs.Option.{ForSome}
use Rattle.std.proofs.lemmas.Bool.{eqb-true, false≢true, false_from_ne_true}
use Rattle.fc_docset.specs.Positions.{positions}
use Rattle.fc_spec.specs.documents.Document.{Block}
use Rattle.fc_spec.specs.documents.Sets.{places_on}
use Rattle.fc_spec.specs.documents.Totals.{document_total}
use Rattle.fc_spec.specs.documents.World.{Place}
use Rattle.fc_spec.specs.messages.KeyOrder.{same_key}
use Rattle.fc_spec.specs.requests.Buckets.{Key, bucket_places, in_bucket, is_key_of}
use Rattle.fc_spec.specs.requests.Request.{Kind, Stat}
use Rattle.fc_spec.specs.requests.Statistics.{Stats, stats_over}
use Rattle.fc_spec.specs.words.Lists.{is_empty}
use Rattle.fc_spec.proofs.messages.Keys.{same_key_exact}
use Rattle.fc_partial.specs.Adding.{AddUp}
use Rattle.fc_partial.specs.Celled.{Celled, cell_at}
use Rattle.fc_partial.specs.Tallied.{Entry, Tallied}
use Rattle.fc_partial.specs.Tallying.{entry_at, with_more}
use Rattle.fc_kind.specs.Collecting.{BucketsAddUp, CollectsAmong}
use Rattle.fc_kind.specs.PlaceAt.{place_at}
use Rattle.fc_kind.proofs.PickedPlaces.{next_below, places_picked}
use Rattle.fc_count.specs.Added.{CellsAddUp, HaveAdded}
use Rattle.fc_count.specs.Counted.{AreCounted, held_places}

-- a test of what is made, and a test before
pub filter-map : {X Y : Type 0} (p : Y → Bool) (f : X → Y) (xs : List X) → filter p (map f xs) ≡ map f (filter (λ x. p (f x)) xs)
filter-map p f [] = refl
filter-map p f (x ∷ xs) = go (p (f x)) (filter-map p f xs)
  where
    go : (b : Bool) → filter p (map f xs) ≡ map f (filter (λ x. p (f x)) xs) → cond b (f x ∷ filter p (map f xs)) (filter p (map f xs)) ≡ map f (cond b (x ∷ filter (λ x. p (f x)) xs) (filter (λ x. p (f x)) xs))
    go true h = ap (λ l. f x ∷ l) h
    go false h = h

module _ (blocks : List Block) (set : List Bool) (long : length set ≡ document_total blocks) where
  -- tests that agree on the segment's positions pass the same positions of a set
  same_passing : (p q : ℕ → Bool) → ((at : ℕ) → at < document_total blocks → p at ≡ q at) → (done rest : List ℕ) → done ++ rest ≡ positions set → filter p rest ≡ filter q rest
  same_passing p q same done [] all = refl
  same_passing p q same done (at ∷ rest) all =
      ap₂ (λ b l. cond b (at ∷ l) l) (same at (next_below blocks set long done at rest all))
      (same_passing p q same (done ++ at ∷ []) rest (append_assoc done (at ∷ []) rest ∙ all))

  -- the places that a number holds are those of a bucket
  pub held_bucket : (kind : Kind) (k : Key) (holds : ℕ → ℕ → Bool) (i : ℕ) → ((at : ℕ) → at < document_total blocks → holds at i ≡ in_bucket kind k (place_at blocks at).document)
      → held_places blocks holds (positions set) i ≡ bucket_places kind k (places_on 0 blocks set)
  held_bucket kind k holds i same =
      ap (map (place_at blocks)) (same_passing (λ at. holds at i) (λ at. in_bucket kind k (place_at blocks at).document) same [] (positions set) refl)
      ∙ sym (filter-map (λ (p : Place). in_bucket kind k p.document) (place_at blocks) (positions set))
      ∙ ap (bucket_places kind k) (places_picked blocks set long)

  -- a bucket that holds no document of the segment
  pub none_in_bucket : (kind : Kind) (k : Key) → ((at : ℕ) → at < document_total blocks → in_bucket kind k (place_at blocks at).document ≡ false) → is_empty (bucket_places kind k (places_on 0 blocks set)) ≡ true
  none_in_bucket kind k none = ap is_empty (sym (held_bucket kind k (λ at i. false) 0 (λ at here. sym (none at here))) ∙ ap (map (place_at blocks)) (filter-none (positions set)))
    where
      filter-none : {X : Type 0} (xs : List X) → filter (λ x. false) xs ≡ []
      filter-none [] = refl
      filter-none (x ∷ xs) = filter-none xs

pub not_zero : (n : ℕ) → (n == 0) ≡ false → 0 < n
not_zero zero e = cc
not_zero (suc n) e = omega arith

-- a key is that of a number, or no number's, and then no document of the segment is in its bucket
abbrev pub IsCountedOrNone : List Block → Kind → (ℤ → Key) → ℕ → Key → Type 0
IsCountedOrNone blocks kind key bound k =
    ((i : ℕ) × ((i < bound) × (k ≡ key (pos i))))
    ⊎ (((i : ℕ) → i < bound → same_key k (key (pos i)) ≡ false) × ((at : ℕ) → at < document_total blocks → in_bucket kind k (place_at blocks at).document ≡ false))

module _ (kind : Kind) (keys : Key → Bool) (blocks : List Block) (set : List Bool) (long : length set ≡ document_total blocks) (holds : ℕ → ℕ → Bool) (bound : ℕ) (ss : List Stat) (cells : Celled)
    (counted : AreCounted blocks holds bound ss (positions set) cells) (key : ℤ → Key)
    (same : (i at : ℕ) → i < bound → at < document_total blocks → holds at i ≡ in_bucket kind (key (pos i)) (place_at blocks at).document) where
  -- a number has the statistics of its bucket
  pub cell_of_bucket : (i : ℕ) → i < bound → cell_at cells.cells i ≡ stats_over ss (bucket_places kind (key (pos i)) (places_on 0 blocks set))
  cell_of_bucket i here = counted.each i here ∙ ap (stats_over ss) (held_bucket blocks set long kind (key (pos i)) holds i (λ at there. same i at here there))

  -- what buckets add up, numbers do
  pub buckets_add_up : (es : List Entry) → ((i : ℕ) → i < bound → is_key_of kind (key (pos i)) ≡ true) → BucketsAddUp kind ss (places_on 0 blocks set) es → CellsAddUp key cells.cells bound es
  buckets_add_up es own fits i here some = subst (λ s. ForSome (entry_at es (key (pos i))) (λ there. AddUp there s)) (sym (cell_of_bucket i here)) (fits (key (pos i)) (own i here))

  -- what was counted and added is collected
  module _ (own : (i : ℕ) → i < bound → keys (key (pos i)) ≡ true) (found : (k : Key) → keys k ≡ true → IsCountedOrNone blocks kind key bound k) (old new : Tallied) (is : old.stats ≡ ss)
      (added : HaveAdded key cells.cells bound old new) where
    some_at : (i : ℕ) → i < bound → is_empty (bucket_places kind (key (pos i)) (places_on 0 blocks set)) ≡ false
        → entry_at new.entries (key (pos i)) ≡ Some (with_more ss (entry_at old.entries (key (pos i))) (stats_over ss (bucket_places kind (key (pos i)) (places_on 0 blocks set))))
    some_at i here some =
        added.some i here (subst (λ n. 0 < n) (sym (ap (λ (s : Stats). s.count) (cell_of_bucket i here))) (not_zero _ some))
        ∙ ap₂ (λ l s. Some (with_more l (entry_at old.entries (key (pos i))) s)) is (cell_of_bucket i here)

    none_at : (i : ℕ) → i < bound → is_empty (bucket_places kind (key (pos i)) (places_on 0 blocks set)) ≡ true → entry_at new.entries (key (pos i)) ≡ entry_at old.entries (key (pos i))
    none_at i here none = added.none i here (ap (λ (s : Stats). s.count) (cell_of_bucket i here) ∙ eqb-true _ 0 none)

    some_counted : (k : Key) → IsCountedOrNone blocks kind key bound k → is_empty (bucket_places kind k (places_on 0 blocks set)) ≡ false
        → entry_at new.entries k ≡ Some (with_more ss (entry_at old.entries k) (stats_over ss (bucket_places kind k (places_on 0 blocks set))))
    some_counted k (inl (i, (here, e))) some =
        subst (λ (q : Key). entry_at new.entries q ≡ Some (with_more ss (entry_at old.entries q) (stats_over ss (bucket_places kind q (places_on 0 blocks set))))) (sym e)
        (some_at i here (ap (λ q. is_empty (bucket_places kind q (places_on 0 blocks set))) (sym e) ∙ some))
    some_counted k (inr none) some = absurd (false≢true (sym some ∙ none_in_bucket blocks set long kind k none.1))

    none_counted : (k : Key) → IsCountedOrNone blocks kind key bound k → is_empty (bucket_places kind k (places_on 0 blocks set)) ≡ true → entry_at new.entries k ≡ entry_at old.entries k
    none_counted k (inl (i, (here, e))) none =
        subst (λ (q : Key). entry_at new.entries q ≡ entry_at old.entries q) (sym e) (none_at i here (ap (λ q. is_empty (bucket_places kind q (places_on 0 blocks set))) (sym e) ∙ none))
    none_counted k (inr away) none = added.others k away.0

    other_key : (k : Key) → keys k ≡ false → (i : ℕ) → i < bound → same_key k (key (pos i)) ≡ false
    other_key k e i here = false_from_ne_true _ (λ h. false≢true (sym e ∙ ap keys (same_key_exact k (key (pos i)) h) ∙ own i here))

    pub counted_collects : CollectsAmong keys kind ss (places_on 0 blocks set) old new
    counted_collects = record {
      stats = added.stats;
      grown = λ k e some. some_counted k (found k e) some;
      empty = λ k e none. none_counted k (found k e) none;
      others = λ k e. added.others k (other_key k e);
    }
