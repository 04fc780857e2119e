-- The printed buckets of candidates.
use Rattle.std.proofs.Common.{◌≡◌, ℕ, List, [], ◌∷◌, ◌++◌, map, Bool, true, false, cond, Option, None, Some, refl, ap, ap₂, sym, ◌∙◌, subst}
use Rattle.std.specs.Prelude.{All, nat_le}
use Rattle.std.specs.List.{filter}
use Rattle.std.specs.List.Sorted.{IsStrictlySortedBy}
use Rattle.std.proofs.lemmas.List.Elements.{All-head, All-tail, All-nil, All-cons}
use Rattle.std.proofs.lemmas.List.{append-nil, map-append}
use Rattle.fc_spec.specs.documents.Val.{val_cmp}
use Rattle.fc_spec.specs.words.Lists.{is_below_bound}
use Rattle.fc_spec.specs.requests.Request.{Terms, Kind, Sort, terms, Nodes, stats_of}
use Rattle.fc_spec.specs.requests.Buckets.{Key, value, missing}
use Rattle.fc_spec.specs.requests.Ranks.{Entry, below_rank, page, rank}
use Rattle.fc_spec.specs.replies.Printed.{asked}
use Rattle.fc_spec.specs.replies.Reply.{listed, as_missing, spot_of}
use Rattle.fc_spec.specs.replies.Reading.{Reading, stats_on}
use Rattle.fc_spec.specs.replies.Chosen as chosen
use Rattle.fc_base.specs.View.{val_view}
use Rattle.fc_refine.specs.Entries.{HaveAscendingValues}
use Rattle.fc_refine.proofs.AscendingValues.{ascending-filter}
use Rattle.fc_reading.specs.declared.candidate.Candidate.{Candidate}
use Rattle.fc_reading.specs.declared.part.Part.{Part}
use Rattle.fc_reading.specs.Parts.{Seen, part_of, parts_of, part_view, IsCounted}
use Rattle.fc_reading.specs.Distinct.{AreDistinct}
use Rattle.fc_reading.proofs.Candidates.{entry_vals}
use Rattle.fc_reading.proofs.DistinctShards.{known_distinct}
use Rattle.fc_reading.specs.Terms.{candidate_view, candidate_vals, candidates_view, IsOn, part_from}

one_counted : {B : Type 0} (b : Bool) (c : Candidate B) (cs : List (Candidate B)) (es : List Entry) → candidates_view cs ≡ es
    → candidates_view (cond b (c ∷ cs) cs) ≡ cond b (candidate_view c ∷ es) es
one_counted true c cs es is = ap (λ es. candidate_view c ∷ es) is
one_counted false c cs es is = is

-- the entries of those of a count are the entries of that count
entries_counted : {B : Type 0} (least : ℕ) (cs : List (Candidate B))
    → candidates_view (filter (λ c. nat_le least c.stats.count) cs) ≡ filter (λ (e : Entry). nat_le least e.stats.count) (candidates_view cs)
entries_counted least [] = refl
entries_counted least (c ∷ cs) =
    one_counted (nat_le least c.stats.count) c (filter (λ c. nat_le least c.stats.count) cs) (filter (λ (e : Entry). nat_le least e.stats.count) (candidates_view cs)) (entries_counted least cs)

-- they ascend as all do
pub counted_ascend : {B : Type 0} (least : ℕ) (cs kept : List (Candidate B)) → kept ≡ filter (λ c. nat_le least c.stats.count) cs
    → HaveAscendingValues (candidates_view cs) → HaveAscendingValues (candidates_view kept)
counted_ascend least cs kept is h =
    subst HaveAscendingValues (sym (ap candidates_view is ∙ entries_counted least cs)) (ascending-filter (λ (e : Entry). nat_le least e.stats.count) (candidates_view cs) h)

-- the page of them is that of their entries
pub page_entries : {B : Type 0} (t : Terms) (cs kept : List (Candidate B)) (es printed : List Entry) → kept ≡ filter (λ c. nat_le t.mincount c.stats.count) cs → candidates_view cs ≡ es
    → printed ≡ page t.sort t.offset t.limit (candidates_view kept) → printed ≡ page t.sort t.offset t.limit (filter (λ (e : Entry). nat_le t.mincount e.stats.count) es)
page_entries t cs kept es printed is entries ranks =
    ranks
    ∙ ap (λ es. page t.sort t.offset t.limit es) (ap candidates_view is ∙ entries_counted t.mincount cs ∙ ap (λ es. filter (λ (e : Entry). nat_le t.mincount e.stats.count) es) entries)

-- those of a low enough rank ascend too
pub refined_ascend : {B : Type 0} (s : Sort) (bound : Option ℕ) (cs refined : List (Candidate B))
    → candidate_vals refined ≡ map (λ (e : Entry). e.val) (below_rank s bound (candidates_view cs)) → HaveAscendingValues (candidates_view cs) → HaveAscendingValues (candidates_view refined)
refined_ascend s bound cs refined vals h =
    subst (IsStrictlySortedBy val_cmp) (sym (entry_vals refined ∙ vals)) (ascending-filter (λ e. is_below_bound bound (rank s (candidates_view cs) e)) (candidates_view cs) h)

module _ {B H D : Type 0} (R : Reading H D) (t : Terms) (inner : Nodes) (K : List ℕ) (Y : D) (held : B → H) where
  part_is : (c : Candidate B) → IsOn R t inner K Y held (chosen.known R t inner K Y) c
      → part_view held listed (part_from c) ≡ part_of R (terms t) inner K Y (value (val_view c.val))
  part_is c h = ap₂ (λ s b. record { spot = listed; val = Some (val_view c.val); shards = s; bucket = b }) h.shards_are h.bucket

  parts_are : (cs : List (Candidate B)) → All (IsOn R t inner K Y held (chosen.known R t inner K Y)) cs
      → map (part_view held listed) (map part_from cs) ≡ map (part_of R (terms t) inner K Y) (map (λ (e : Entry). value e.val) (candidates_view cs))
  parts_are [] h = refl
  parts_are (c ∷ cs) h = ap₂ (λ q qs. q ∷ qs) (part_is c (All-head (IsOn R t inner K Y held (chosen.known R t inner K Y)) c cs h)) (parts_are cs (All-tail (IsOn R t inner K Y held (chosen.known R t inner K Y)) c cs h))

  part_counted : AreDistinct K → (c : Candidate B) → IsOn R t inner K Y held (chosen.known R t inner K Y) c → IsCounted R held (stats_of inner) (part_from c)
  part_counted apart c h = record {
    distinct = subst AreDistinct (sym h.shards_are) (known_distinct R t inner K Y (val_view c.val) apart);
    stats = ap (λ (e : Entry). e.stats) h.entry ∙ sym (ap₂ (λ s b. stats_on R (stats_of inner) s b) h.shards_are h.bucket);
  }

  pub parts_counted : AreDistinct K → (cs : List (Candidate B)) → All (IsOn R t inner K Y held (chosen.known R t inner K Y)) cs → All (IsCounted R held (stats_of inner)) (map part_from cs)
  parts_counted apart [] h = All-nil (IsCounted R held (stats_of inner))
  parts_counted apart (c ∷ cs) h =
      All-cons (IsCounted R held (stats_of inner)) (part_from c) (map part_from cs) (part_counted apart c (All-head (IsOn R t inner K Y held (chosen.known R t inner K Y)) c cs h))
      (parts_counted apart cs (All-tail (IsOn R t inner K Y held (chosen.known R t inner K Y)) c cs h))

  -- the bucket of the documents without a value, of a kind that is that of the facet
  pub missing_made : (kind : Kind) (wanted : Bool) (found : List (Seen H)) → kind ≡ terms t
      → found ≡ map (λ key. record { spot = spot_of key; val = None; shards = K; bucket = R.bucket_at kind Y key }) (asked wanted missing)
      → found ≡ map (part_of R (terms t) inner K Y) (asked wanted missing)
  missing_made kind true found is h = h ∙ ap (λ k. record { spot = as_missing; val = None; shards = K; bucket = R.bucket_at k Y missing } ∷ []) is
  missing_made kind false found is h = h

  -- the parts that a terms facet prints
  pub terms_parts_are : (cs : List (Candidate B)) (list : List (Part B)) (beside_them : List (Seen H))
      → All (IsOn R t inner K Y held (chosen.known R t inner K Y)) cs
      → candidates_view cs ≡ page t.sort t.offset t.limit (filter (λ e. nat_le t.mincount e.stats.count) (chosen.chosen_entries R t inner K Y))
      → list ≡ map part_from cs
      → beside_them ≡ map (part_of R (terms t) inner K Y) (asked t.missing missing)
      → map (part_view held listed) list ++ (beside_them ++ []) ≡ parts_of R (terms t) inner K Y
  terms_parts_are cs list beside_them on entries made missing_are =
      let part_at : Key → Seen H = part_of R (terms t) inner K Y in
      let printed : List Entry = page t.sort t.offset t.limit (filter (λ (e : Entry). nat_le t.mincount e.stats.count) (chosen.chosen_entries R t inner K Y)) in
      ap₂ (λ a b. a ++ b)
      (ap (λ ps. map (part_view held listed) ps) made ∙ parts_are cs on ∙ ap (λ es. map part_at (map (λ (e : Entry). value e.val) es)) entries)
      (append-nil beside_them ∙ missing_are)
      ∙ sym (map-append part_at (map (λ (e : Entry). value e.val) printed) (asked t.missing missing))
