-- The parts of a range facet.
use Rattle.std.proofs.Common.{◌≡◌, ◌∙◌, ◌+◌, ◌-◌, ◌<◌, ◌++◌, ◌∷◌, [], List, ℕ, suc, map, Bool, true, false, Option, None, ap, sym, refl, append_assoc, arith}
use Rattle.std.specs.List.{range_with_len}
use Rattle.std.proofs.lemmas.List.{map-append}
use Rattle.fc_spec.specs.documents.Val.{Val}
use Rattle.fc_spec.specs.replies.Printed.{asked}
use Rattle.fc_spec.specs.replies.Reading.{Reading}
use Rattle.fc_spec.specs.replies.Reply.{listed, spot_of, val_of, as_missing, as_before, as_between, as_after}
use Rattle.fc_spec.specs.requests.Buckets.{Key, gap, before, between, after}
use Rattle.fc_spec.specs.requests.Request.{Kind, terms, range, date_range, query, Nodes, stats_of}
use Rattle.fc_request.specs.Ranged.{IsRange, asks_after, asks_before, asks_between, gap_keys_of}
use Rattle.fc_reading.specs.Parts.{AreCounted, IsPrinted, Seen, beside, part_of, part_view, parts_of, parts_view}
use Rattle.fc_reading.specs.declared.part.Part.{Part}
use Rattle.fc_reading.specs.declared.part.Parts.{Parts}
use Rattle.fc_reading.specs.declared.part.Printed.TheVariants.{Many}
use Rattle.fc_reading.proofs.Ranges.{beside_have_no_val, range_carries, range_prints}

-- the bucket of the next gap is put behind the others
pub next_gap : {B H : Type 0} (held : B → H) (f : Key → Seen H) (done : List (Part B)) (p : Part B) (n end : ℕ) → n < end → part_view held listed p ≡ f (gap n)
    → map (part_view held listed) (done ++ p ∷ []) ++ map f (map gap (range_with_len (n + 1) (end - (n + 1)))) ≡ map (part_view held listed) done ++ map f (map gap (range_with_len n (end - n)))
next_gap {H = H} held f done p n end h is =
    let e : suc (end - (n + 1)) ≡ end - n = omega arith in
    let see = part_view held listed in
    let rest = map f (map gap (range_with_len (n + 1) (end - (n + 1)))) in
    ap (λ l. l ++ rest) (map-append see done (p ∷ [])) ∙ append_assoc (map see done) (see p ∷ []) rest
    ∙ ap (λ (x : Seen H). map see done ++ (x ∷ rest)) is ∙ ap (λ m. map see done ++ map f (map gap (range_with_len n m))) e

-- they are what the facet prints
pub are_printed : {B H D : Type 0} (R : Reading H D) (held : B → H) (kind : Kind) (inner : Nodes) (shards : List ℕ) (Y : D) (ps : Parts B) → IsRange kind
    → parts_view held ps ≡ parts_of R kind inner shards Y → AreCounted R held (stats_of inner) ps → IsPrinted R held kind inner shards Y (Many ps)
are_printed R held (terms t) inner shards Y ps is parts counted = absurd is
are_printed R held (range g) inner shards Y ps is parts counted = (parts, counted)
are_printed R held (query q) inner shards Y ps is parts counted = absurd is
are_printed R held (date_range g) inner shards Y ps is parts counted = (parts, counted)

module _ {H D : Type 0} (R : Reading H D) (inner : Nodes) (shards : List ℕ) (Y : D) (kind : Kind) (is : IsRange kind) where
  -- what the code gives for a key
  abbrev pub part_on : Option Val → Key → Seen H
  part_on val key = record { spot = spot_of key; val = val; shards = shards; bucket = R.bucket_at kind Y key }

  pub part_is : (val : Option Val) (key : Key) → val_of kind key ≡ val → part_on val key ≡ part_of R kind inner shards Y key
  part_is val key v = λ i. record { spot = spot_of key; val = sym v i; shards = sym (range_carries R inner shards Y kind is key) i; bucket = R.bucket_at kind Y key }

  asked_part : (f h : Key → Seen H) (b : Bool) (key : Key) → f key ≡ h key → map f (asked b key) ≡ map h (asked b key)
  asked_part f h true key e = ap (λ (x : Seen H). x ∷ []) e
  asked_part f h false key e = refl

  map_four : (f : Key → Seen H) (js ks ls ms : List Key) → map f (js ++ (ks ++ (ls ++ ms))) ≡ map f js ++ (map f ks ++ (map f ls ++ map f ms))
  map_four f js ks ls ms = map-append f js (ks ++ (ls ++ ms)) ∙ ap (λ l. map f js ++ l) (map-append f ks (ls ++ ms) ∙ ap (λ l. map f ks ++ l) (map-append f ls ms))

  -- the parts of the gaps, and those beside them, are all
  pub all_parts : {B : Type 0} (held : B → H) (ps : Parts B) → ps.missing ≡ None
      → map (part_view held listed) ps.list.items ≡ map (part_of R kind inner shards Y) (gap_keys_of kind)
      → beside held as_before ps.before ≡ map (part_on None) (asked (asks_before kind) before)
      → beside held as_between ps.between ≡ map (part_on None) (asked (asks_between kind) between)
      → beside held as_after ps.after ≡ map (part_on None) (asked (asks_after kind) after)
      → parts_view held ps ≡ parts_of R kind inner shards Y
  all_parts held ps none list low middle high =
      let f = part_of R kind inner shards Y in
      let on : Key → Seen H = part_on None in
      let no_val = beside_have_no_val kind is in
      let first = low ∙ asked_part on f (asks_before kind) before (part_is None before no_val.0) in
      let second = middle ∙ asked_part on f (asks_between kind) between (part_is None between no_val.1) in
      let third = high ∙ asked_part on f (asks_after kind) after (part_is None after no_val.2) in
      ap (λ o. map (part_view held listed) ps.list.items ++ (beside held as_missing o ++ (beside held as_before ps.before ++ (beside held as_between ps.between ++ beside held as_after ps.after)))) none
      ∙ (λ i. list i ++ (first i ++ (second i ++ third i)))
      ∙ sym (map_four f (gap_keys_of kind) (asked (asks_before kind) before) (asked (asks_between kind) between) (asked (asks_after kind) after))
      ∙ ap (map f) (sym (range_prints R inner shards Y kind is))
