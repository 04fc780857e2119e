-- Printed buckets by their keys.
use Rattle.std.proofs.Common.{◌≡◌, ℕ, suc, ◌+◌, ◌-◌, ◌<◌, List, [], ◌∷◌, ◌++◌, map, Bool, true, false, refl, ap, ap₂, sym, ◌∙◌, subst, append_assoc, arith}
use Rattle.std.specs.Prelude.{All}
use Rattle.std.specs.List.{range_with_len}
use Rattle.std.proofs.lemmas.List.{map-append}
use Rattle.std.proofs.lemmas.List.Elements.{All-head, All-tail, All-nil, All-cons}
use Rattle.fc_spec.specs.requests.Buckets.{Key, value, missing, gap, before, between, after}
use Rattle.fc_spec.specs.requests.Ranks.{Entry}
use Rattle.fc_spec.specs.requests.Request.{Terms, Kind, terms, Nodes}
use Rattle.fc_spec.specs.replies.Chosen as chosen
use Rattle.fc_spec.specs.replies.Distributed.{printed_keys}
use Rattle.fc_spec.specs.replies.Printed.{asked}
use Rattle.fc_spec.specs.replies.Reading.{Reading}
use Rattle.fc_base.specs.View.{val_view}
use Rattle.fc_request.specs.Ranged.{IsRange, asks_after, asks_before, asks_between, gap_keys_of, keys_of_range}
use Rattle.fc_reading.specs.declared.candidate.Candidate.{Candidate}
use Rattle.fc_lacks.specs.declared.keyed.Keyed.{Keyed}
use Rattle.fc_reading.specs.Distinct.{AreDistinct}
use Rattle.fc_lacks.specs.Keys.{AreCountedKeys, IsCountedKey, WithKey, keyed_from, keyed_of, keyed_on, keyed_view}
use Rattle.fc_reading.specs.Terms.{candidates_view, IsOn}
use Rattle.fc_reading.proofs.DistinctShards.{known_distinct}
use Rattle.fc_reading.proofs.Ranges.{range_carries, range_prints}

-- the bucket of the next gap is put behind the others
pub next_key : {H : Type 0} (f : Key → WithKey H) (done now : List (WithKey H)) (n end : ℕ) → n < end → now ≡ done ++ f (gap n) ∷ []
    → now ++ map f (map gap (range_with_len (n + 1) (end - (n + 1)))) ≡ done ++ map f (map gap (range_with_len n (end - n)))
next_key f done now n end h is =
    let e : suc (end - (n + 1)) ≡ end - n = omega arith in
    let rest = map f (map gap (range_with_len (n + 1) (end - (n + 1)))) in
    ap (λ l. l ++ rest) is ∙ append_assoc done (f (gap n) ∷ []) rest ∙ ap (λ m. done ++ map f (map gap (range_with_len n m))) e

module _ {H D : Type 0} (R : Reading H D) (inner : Nodes) (K : List ℕ) (Y : D) where
  -- of a terms facet: those of the printed values, and that beside them
  value_is : {B : Type 0} (held : B → H) (t : Terms) (c : Candidate B) → IsOn R t inner K Y held (chosen.known R t inner K Y) c
      → keyed_view held (keyed_from c) ≡ keyed_of R (terms t) inner K Y (value (val_view c.val))
  value_is held t c on = ap₂ (λ s b. record { key = value (val_view c.val); shards = s; bucket = b }) on.shards_are on.bucket

  values_are : {B : Type 0} (held : B → H) (t : Terms) (cs : List (Candidate B)) → All (IsOn R t inner K Y held (chosen.known R t inner K Y)) cs
      → map (keyed_view held) (map keyed_from cs) ≡ map (keyed_of R (terms t) inner K Y) (map (λ (e : Entry). value e.val) (candidates_view cs))
  values_are held t [] on = refl
  values_are held t (c ∷ cs) on =
      ap₂ (λ k ks. k ∷ ks) (value_is held t c (All-head (IsOn R t inner K Y held (chosen.known R t inner K Y)) c cs on))
      (values_are held t cs (All-tail (IsOn R t inner K Y held (chosen.known R t inner K Y)) c cs on))

  same_asked : (f h : Key → WithKey H) (b : Bool) (key : Key) → f key ≡ h key → map f (asked b key) ≡ map h (asked b key)
  same_asked f h true key e = ap (λ (x : WithKey H). x ∷ []) e
  same_asked f h false key e = refl

  pub terms_keyed : {B : Type 0} (held : B → H) (t : Terms) (kind : Kind) (cs : List (Candidate B)) (printed : List Entry) (list : List (Keyed B)) (all : List (WithKey H)) → kind ≡ terms t
      → All (IsOn R t inner K Y held (chosen.known R t inner K Y)) cs → candidates_view cs ≡ printed → list ≡ map keyed_from cs
      → all ≡ map (keyed_view held) list ++ map (keyed_on R kind K Y) (asked t.missing missing)
      → all ≡ map (keyed_of R (terms t) inner K Y) (map (λ (e : Entry). value e.val) printed ++ asked t.missing missing)
  terms_keyed held t kind cs printed list all k on entries made is =
      let f : Key → WithKey H = keyed_of R (terms t) inner K Y in
      is
      ∙ ap₂ (λ a b. a ++ b)
      (ap (map (keyed_view held)) made ∙ values_are held t cs on ∙ ap (λ es. map f (map (λ (e : Entry). value e.val) es)) entries)
      (same_asked (keyed_on R kind K Y) f t.missing missing (ap (λ k. keyed_on R k K Y missing) k))
      ∙ sym (map-append f (map (λ (e : Entry). value e.val) printed) (asked t.missing missing))

  -- of a range facet: those of the gaps, and those beside them
  range_of : (kind : Kind) → IsRange kind → (keys : List Key) → map (keyed_on R kind K Y) keys ≡ map (keyed_of R kind inner K Y) keys
  range_of kind is [] = refl
  range_of kind is (key ∷ keys) = λ i. keyed_on R kind (sym (range_carries R inner K Y kind is key) i) Y key ∷ range_of kind is keys i

  pub range_keyed : (kind : Kind) → IsRange kind → (gaps first second third : List (WithKey H))
      → gaps ≡ map (keyed_on R kind K Y) (gap_keys_of kind)
      → first ≡ gaps ++ map (keyed_on R kind K Y) (asked (asks_before kind) before)
      → second ≡ first ++ map (keyed_on R kind K Y) (asked (asks_between kind) between)
      → third ≡ second ++ map (keyed_on R kind K Y) (asked (asks_after kind) after)
      → third ≡ map (keyed_of R kind inner K Y) (printed_keys R kind inner K Y)
  range_keyed kind range gaps first second third is low middle high =
      let f : Key → WithKey H = keyed_on R kind K Y in
      let js = gap_keys_of kind in
      let a = asked (asks_before kind) before in
      let b = asked (asks_between kind) between in
      let c = asked (asks_after kind) after in
      let left : third ≡ ((map f js ++ map f a) ++ map f b) ++ map f c =
      high ∙ ap (λ l. l ++ map f c) (middle ∙ ap (λ l. l ++ map f b) (low ∙ ap (λ l. l ++ map f a) is)) in
      left ∙ append_assoc (map f js ++ map f a) (map f b) (map f c) ∙ append_assoc (map f js) (map f a) (map f b ++ map f c)
      ∙ ap (λ l. map f js ++ (map f a ++ l)) (sym (map-append f b c)) ∙ ap (λ l. map f js ++ l) (sym (map-append f a (b ++ c)))
      ∙ sym (map-append f js (a ++ (b ++ c)))
      ∙ range_of kind range (keys_of_range kind)
      ∙ ap (map (keyed_of R kind inner K Y)) (sym (range_prints R inner K Y kind range))

  -- a candidate has its count
  value_counted : {B : Type 0} (held : B → H) (t : Terms) → AreDistinct K → (c : Candidate B) → IsOn R t inner K Y held (chosen.known R t inner K Y) c → IsCountedKey R held (keyed_from c)
  value_counted held t apart c on = record {
    distinct = subst AreDistinct (sym on.shards_are) (known_distinct R t inner K Y (val_view c.val) apart);
    count = ap (λ (e : Entry). e.stats.count) on.entry ∙ sym (ap₂ (λ s b. R.count_on s b) on.shards_are on.bucket);
  }

  pub values_counted : {B : Type 0} (held : B → H) (t : Terms) → AreDistinct K → (cs : List (Candidate B)) → All (IsOn R t inner K Y held (chosen.known R t inner K Y)) cs
      → AreCountedKeys R held (map keyed_from cs)
  values_counted held t apart [] on = All-nil (IsCountedKey R held)
  values_counted held t apart (c ∷ cs) on =
      All-cons (IsCountedKey R held) (keyed_from c) (map keyed_from cs)
      (value_counted held t apart c (All-head (IsOn R t inner K Y held (chosen.known R t inner K Y)) c cs on))
      (values_counted held t apart cs (All-tail (IsOn R t inner K Y held (chosen.known R t inner K Y)) c cs on))
