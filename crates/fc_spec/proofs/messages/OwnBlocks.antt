-- A shard's answer is made from its own blocks, and its number plays no part.
use Rattle.std.proofs.Common.{◌≡◌, ℕ, zero, suc, ◌+◌, ◌<◌, List, [], ◌∷◌, ◌++◌, map, length, Bool, true, false, cond, not, ◌||◌, ◌&&◌, ◌==◌, Option, None, Some, refl, sym, ◌∙◌, ap, append-nil, subst, inl, inr, arith}
use Rattle.std.specs.Prelude.{nat_le}
use Rattle.std.specs.List.{filter, list_all, slice_get}
use Rattle.std.proofs.lemmas.Bool.{false≢true, or_cases, eqb-true, eq-eqb, ne_eqb}
use Rattle.std.proofs.lemmas.List.Elements.{filter-append}
use Rattle.std.proofs.lemmas.List.{map-append}
use Rattle.fc_spec.specs.documents.Document.{Document, Block}
use Rattle.fc_spec.specs.words.Lists.{is_empty}
use Rattle.fc_spec.specs.queries.Matching.{matches}
use Rattle.fc_spec.specs.documents.World.{World, Place, places, places_from, shard_places, block_places, on_shards, same_block}
use Rattle.fc_spec.specs.requests.Request.{Stat, Request, BlockStep, stay, parents, children, DomainChange, Kind, terms, range, date_range, query, Nodes, no_nodes, statistic, facet, stats_of}
use Rattle.fc_spec.specs.requests.Base.{meets_base}
use Rattle.fc_spec.specs.requests.Domain.{moved, filtered, is_parent_of}
use Rattle.fc_spec.specs.requests.Buckets.{Key, value, missing, whole, in_bucket, bucket_places}
use Rattle.fc_spec.specs.requests.Paths.{Path, at_root, into, meets_rebuilt, rebuilt, domain, path_places}
use Rattle.fc_spec.specs.requests.Shape.{no_exclusions}
use Rattle.fc_spec.specs.requests.Statistics.{stats_over}
use Rattle.fc_spec.specs.replies.Printed.{asked, range_keys, date_range_keys}
use Rattle.fc_spec.specs.requests.Ranks.{below_rank, rank_bound}
use Rattle.fc_spec.specs.replies.Values.{entries_in}
use Rattle.fc_spec.specs.messages.Message.{Partials, no_partials, partial, row, Way, Want, way_of, Ask, first, more}
use Rattle.fc_spec.specs.messages.Target.{Target, leads_nowhere, leads_to, target_nodes, target_path, target_places, target_of}
use Rattle.fc_spec.specs.messages.Answer.{not_empty, listed_keys, partials_of, answer_keys, answer_domain, answer_rows, answer_bucket, answer_wants, answer}
use Rattle.fc_spec.specs.messages.TopRounds.{exact_first, exact_least, exact_more, first_number, later_numbers, least_keys, least_rows}
use Rattle.fc_spec.specs.laws.ShardAlone.{AnswersFromItsBlocks, ExactFromItsBlocks}
use Rattle.fc_spec.proofs.words.MappedLists.{filter-map, list_any-map}
use Rattle.fc_spec.proofs.documents.Shards.{is_on, every_on_shards}
use Rattle.fc_spec.proofs.requests.Locality.{filter-filter, filter_twice, moved_local}
use Rattle.fc_spec.proofs.documents.Renumbered.{Numbers, renumbered, filter_renumbered}
use Rattle.fc_spec.proofs.documents.AlikePlaces.{length_renumbered, bucket_renumbered, stats_renumbered, entries_renumbered}
use Rattle.fc_spec.proofs.messages.HeldAnswers.{part}

-- all places of a block are on its shard, and none on another
block_here : (i s b p : ℕ) (ds : List Document) (d : Document) → i ≡ s → on_shards (i ∷ []) (block_places s b p ds d) ≡ block_places s b p ds d
block_here i s b p [] d e = ap (λ c. cond (c || false) (last ∷ []) []) (eq-eqb i s e)
  where
    last : Place
    last = record { shard = s; position = p; block = b; parent = true; document = d }
block_here i s b p (c ∷ cs) d e = ap (λ t. cond (t || false) (child ∷ on_shards (i ∷ []) (block_places s b (p + 1) cs d)) (on_shards (i ∷ []) (block_places s b (p + 1) cs d))) (eq-eqb i s e) ∙ ap (λ xs. child ∷ xs) (block_here i s b (p + 1) cs d e)
  where
    child : Place
    child = record { shard = s; position = p; block = b; parent = false; document = c }

block_elsewhere : (i s b p : ℕ) (ds : List Document) (d : Document) → (i ≡ s → ⊥) → on_shards (i ∷ []) (block_places s b p ds d) ≡ []
block_elsewhere i s b p [] d e = ap (λ c. cond (c || false) (record { shard = s; position = p; block = b; parent = true; document = d } ∷ []) []) (ne_eqb i s e)
block_elsewhere i s b p (c ∷ cs) d e =
    ap (λ t. cond (t || false) (record { shard = s; position = p; block = b; parent = false; document = c } ∷ on_shards (i ∷ []) (block_places s b (p + 1) cs d)) (on_shards (i ∷ []) (block_places s b (p + 1) cs d))) (ne_eqb i s e)
    ∙ block_elsewhere i s b (p + 1) cs d e

shard_here : (i s b p : ℕ) (xs : List Block) → i ≡ s → on_shards (i ∷ []) (shard_places s b p xs) ≡ shard_places s b p xs
shard_here i s b p [] e = refl
shard_here i s b p (x ∷ xs) e =
    filter-append (is_on (i ∷ [])) (block_places s b p x.children x.parent) (shard_places s (b + 1) (p + length x.children + 1) xs)
    ∙ (λ j. block_here i s b p x.children x.parent e j ++ shard_here i s (b + 1) (p + length x.children + 1) xs e j)

shard_elsewhere : (i s b p : ℕ) (xs : List Block) → (i ≡ s → ⊥) → on_shards (i ∷ []) (shard_places s b p xs) ≡ []
shard_elsewhere i s b p [] e = refl
shard_elsewhere i s b p (x ∷ xs) e =
    filter-append (is_on (i ∷ [])) (block_places s b p x.children x.parent) (shard_places s (b + 1) (p + length x.children + 1) xs)
    ∙ (λ j. block_elsewhere i s b p x.children x.parent e j ++ shard_elsewhere i s (b + 1) (p + length x.children + 1) xs e j)

-- the places of a shard with these blocks
abbrev pub of_blocks : ℕ → Option (List Block) → List Place
of_blocks i None = []
of_blocks i (Some blocks) = shard_places i 0 0 blocks

before_here : (i s : ℕ) (W : World) → i < s → on_shards (i ∷ []) (places_from s W) ≡ []
before_here i s [] h = refl
before_here i s (b ∷ rest) h =
    filter-append (is_on (i ∷ [])) (shard_places s 0 0 b) (places_from (s + 1) rest) ∙ (λ j. shard_elsewhere i s 0 0 b (λ e. omega arith) j ++ before_here i (s + 1) rest (omega arith) j)

part_from : (i s k : ℕ) (W : World) → i ≡ s + k → on_shards (i ∷ []) (places_from s W) ≡ of_blocks i (slice_get W k)
part_from i s k [] e = refl
part_from i s zero (b ∷ rest) e =
    let same : i ≡ s = omega arith in
    filter-append (is_on (i ∷ [])) (shard_places s 0 0 b) (places_from (s + 1) rest) ∙ (λ j. shard_here i s 0 0 b same j ++ before_here i (s + 1) rest (omega arith) j) ∙ append-nil (shard_places s 0 0 b) ∙ ap (λ t. shard_places t 0 0 b) (sym same)
part_from i s (suc k) (b ∷ rest) e =
    filter-append (is_on (i ∷ [])) (shard_places s 0 0 b) (places_from (s + 1) rest) ∙ (λ j. shard_elsewhere i s 0 0 b (λ h. omega arith) j ++ part_from i (s + 1) k rest (omega arith) j)

-- the places of shard i are those of its blocks
pub part_of_places : (i : ℕ) (W : World) → part i (places W) ≡ of_blocks i (slice_get W i)
part_of_places i W = part_from i 0 i W (omega arith)

-- ---- the same blocks at another shard

-- the place at shard j, the rest as before
abbrev pub to_shard : ℕ → Numbers
to_shard j = record { shard = λ p. j; position = λ p. p.position; block = λ p. p.block }

-- the places at shard j
abbrev pub put : ℕ → List Place → List Place
put j X = map (renumbered (to_shard j)) X

block_put : (i j b p : ℕ) (ds : List Document) (d : Document) → block_places j b p ds d ≡ put j (block_places i b p ds d)
block_put i j b p [] d = refl
block_put i j b p (c ∷ cs) d = ap (λ xs. record { shard = j; position = p; block = b; parent = false; document = c } ∷ xs) (block_put i j b (p + 1) cs d)

shard_put : (i j b p : ℕ) (xs : List Block) → shard_places j b p xs ≡ put j (shard_places i b p xs)
shard_put i j b p [] = refl
shard_put i j b p (x ∷ xs) =
    (λ k. block_put i j b p x.children x.parent k ++ shard_put i j (b + 1) (p + length x.children + 1) xs k)
    ∙ sym (map-append (renumbered (to_shard j)) (block_places i b p x.children x.parent) (shard_places i (b + 1) (p + length x.children + 1) xs))

blocks_put : (i j : ℕ) (o : Option (List Block)) → of_blocks j o ≡ put j (of_blocks i o)
blocks_put i j None = refl
blocks_put i j (Some blocks) = shard_put i j 0 0 blocks

-- the part of Y at shard j is that of X at shard i, but for the number of the shard
abbrev pub Alike : ℕ → ℕ → List Place → List Place → Type 0
Alike i j X Y = part j Y ≡ put j (part i X)

-- two worlds with the same places at shard i of the one and shard j of the other
abbrev pub SameAt : ℕ → ℕ → World → World → Type 0
SameAt i j V W = Alike i j (places V) (places W)

-- a place at shard i has its number
at_shard : (i : ℕ) (p : Place) → is_on (i ∷ []) p ≡ true → i ≡ p.shard
at_shard i p h = elim (or_cases (i == p.shard) false h) [ inl e ↦ eqb-true i p.shard e | inr e ↦ absurd (false≢true e) ]

-- two places at shard i are on one shard, as they are when put at shard j
shards_put : (i j : ℕ) (x y : Place) → is_on (i ∷ []) x ≡ true → is_on (i ∷ []) y ≡ true → (j == j) ≡ (x.shard == y.shard)
shards_put i j x y h k = eq-eqb j j refl ∙ sym (eq-eqb x.shard y.shard (sym (at_shard i x h) ∙ at_shard i y k))

-- a filter of all places has alike parts in both, where the tests agree on the places at shard i
filtered_alike : (V W : World) (i j : ℕ) (s t : Place → Bool) → SameAt i j V W → ((p : Place) → is_on (i ∷ []) p ≡ true → t (renumbered (to_shard j) p) ≡ s p) → Alike i j (filter s (places V)) (filter t (places W))
filtered_alike V W i j s t same agree =
    filter-filter (is_on (j ∷ [])) t (places W) ∙ ap (filter t) same ∙ filter-map (renumbered (to_shard j)) (is_on (i ∷ [])) t s (part i (places V)) agree (every_on_shards (i ∷ []) (places V))
    ∙ ap (put j) (sym (filter-filter (is_on (i ∷ [])) s (places V)))

-- so has a block step from the places at shard i, and these at shard j
moved_put : (V W : World) (i j : ℕ) (b : BlockStep) (P : List Place) → SameAt i j V W → Alike i j P (put j (part i P)) → Alike i j (moved V b (part i P)) (moved W b (put j (part i P)))
moved_put V W i j stay P same alike = alike ∙ ap (put j) (sym (filter_twice (is_on (i ∷ [])) P))
moved_put V W i j (parents q) P same alike = filtered_alike V W i j _ _ same (λ p h.
    ap (λ b. p.parent && matches q p.document && b)
    (list_any-map (renumbered (to_shard j)) (is_on (i ∷ [])) (same_block (renumbered (to_shard j) p)) (same_block p) (part i P)
    (λ y k m. shards_put i j p y h k m && (p.block == y.block)) (every_on_shards (i ∷ []) P)))
moved_put V W i j (children q) P same alike = filtered_alike V W i j _ _ same (λ p h.
    list_any-map (renumbered (to_shard j)) (is_on (i ∷ [])) (λ y. is_parent_of y (renumbered (to_shard j) p) && matches q y.document) (λ y. is_parent_of y p && matches q y.document) (part i P)
    (λ y k m. (y.parent && not p.parent && (shards_put i j y p k h m && (y.block == p.block))) && matches q y.document) (every_on_shards (i ∷ []) P))

-- a block step keeps parts alike
moved_alike : (V W : World) (i j : ℕ) (b : BlockStep) (P Q : List Place) → SameAt i j V W → Alike i j P Q → Alike i j (moved V b P) (moved W b Q)
moved_alike V W i j b P Q same alike =
    sym (moved_local W b (j ∷ []) Q) ∙ ap (λ Z. part j (moved W b Z)) alike ∙ moved_put V W i j b P same (ap (part j) (sym alike) ∙ filter_twice (is_on (j ∷ [])) Q ∙ alike) ∙ ap (put j) (moved_local V b (i ∷ []) P)

-- a filter by documents keeps parts alike
documents_alike : (i j : ℕ) (t : Place → Bool) (P Q : List Place) → ((p : Place) → t (renumbered (to_shard j) p) ≡ t p) → Alike i j P Q → Alike i j (filter t P) (filter t Q)
documents_alike i j t P Q same alike =
    filter-filter (is_on (j ∷ [])) t Q ∙ ap (filter t) alike ∙ filter_renumbered (to_shard j) t (part i P) same ∙ ap (put j) (sym (filter-filter (is_on (i ∷ [])) t P))

-- so does the change of a domain
domain_alike : (r : Request) (V W : World) (i j : ℕ) (path : Path) (change : DomainChange) (X Y : List Place) → SameAt i j V W → Alike i j X Y → Alike i j (domain r V path change X) (domain r W path change Y)
domain_alike r V W i j path change X Y same alike = go (is_empty change.exclude)
  where
    from_parts : (P Q : List Place) → Alike i j P Q → Alike i j (filtered change.filters (moved V change.block P)) (filtered change.filters (moved W change.block Q))
    from_parts P Q k = documents_alike i j (λ p. list_all (λ q. matches q p.document) change.filters) (moved V change.block P) (moved W change.block Q) (λ p. refl) (moved_alike V W i j change.block P Q same k)

    go : (b : Bool) → Alike i j (filtered change.filters (moved V change.block (cond b X (rebuilt r V path change.exclude)))) (filtered change.filters (moved W change.block (cond b Y (rebuilt r W path change.exclude))))
    go true = from_parts X Y alike
    go false = from_parts (rebuilt r V path change.exclude) (rebuilt r W path change.exclude) (documents_alike i j (λ p. meets_rebuilt r path change.exclude p.document) (places V) (places W) (λ p. refl) same)

-- the part of a part
part_alike : (i j : ℕ) (X Y : List Place) → Alike i j X Y → Alike i j (part i X) (part j Y)
part_alike i j X Y alike = filter_twice (is_on (j ∷ [])) Y ∙ alike ∙ ap (put j) (sym (filter_twice (is_on (i ∷ [])) X))

-- the same keys are not empty
not_empty_put : (j : ℕ) (kind : Kind) (D : List Place) (keys : List Key) → not_empty kind (put j D) keys ≡ not_empty kind D keys
not_empty_put j kind D keys = λ k. filter (λ key. not (same key k == 0)) keys
  where
    same : (key : Key) → length (bucket_places kind key (put j D)) ≡ length (bucket_places kind key D)
    same key = ap length (bucket_renumbered (to_shard j) kind key D) ∙ length_renumbered (to_shard j) (bucket_places kind key D)

-- the same keys are listed
listed_put : (j : ℕ) (kind : Kind) (inner : Nodes) (D : List Place) (keys : List Key) → listed_keys kind inner (put j D) keys ≡ listed_keys kind inner D keys
listed_put j kind inner D keys = ap (cond (not (no_exclusions inner)) keys) (not_empty_put j kind D keys)

-- the same keys are answered
keys_put : (i j : ℕ) (kind : Kind) (inner : Nodes) (D : List Place) → Alike i j D (put j D) → answer_keys kind inner (put j D) j ≡ answer_keys kind inner D i
keys_put i j (terms t) inner D alike =
    let entries = ap (entries_in t (stats_of inner)) alike ∙ entries_renumbered (to_shard j) t (stats_of inner) (part i D) in
    λ k. map value (map (λ e. e.val) (below_rank t.sort (rank_bound t.offset t.limit t.overrequest) (entries k))) ++ listed_put j (terms t) inner D (asked t.missing missing) k
keys_put i j (range g) inner D alike = listed_put j (range g) inner D (range_keys g)
keys_put i j (date_range g) inner D alike = listed_put j (date_range g) inner D (date_range_keys g)
keys_put i j (query q) inner D alike = refl

-- the statistics of a bucket are the same
bucket_stats_put : (j : ℕ) (kind : Kind) (ss : List Stat) (D : List Place) (key : Key) → stats_over ss (bucket_places kind key (put j D)) ≡ stats_over ss (bucket_places kind key D)
bucket_stats_put j kind ss D key = ap (stats_over ss) (bucket_renumbered (to_shard j) kind key D) ∙ stats_renumbered (to_shard j) ss (bucket_places kind key D)

rows_alike : (r : Request) (V W : World) (i j : ℕ) (path : Path) (nodes : Nodes) (X Y : List Place) → SameAt i j V W → Alike i j X Y → answer_rows r W j path nodes Y ≡ answer_rows r V i path nodes X
rows_alike r V W i j path no_nodes X Y same alike = refl
rows_alike r V W i j path (statistic name s rest) X Y same alike = rows_alike r V W i j path rest X Y same alike
rows_alike r V W i j path (facet f inner rest) X Y same alike =
    let D = answer_domain r V i path f X in
    let over : answer_domain r W j path f Y ≡ put j D = domain_alike r V W i j path f.change X Y same alike in
    let own : Alike i j D (answer_domain r W j path f Y) = part_alike i j (domain r V path f.change X) (domain r W path f.change Y) over in
    let put_alike : Alike i j D (put j D) = subst (Alike i j D) over own in
    let insides = λ (key : Key). rows_alike r V W i j (into path f key) inner (bucket_places f.kind key D) (bucket_places f.kind key (put j D)) same (documents_alike i j (λ p. in_bucket f.kind key p.document) D (put j D) (λ p. refl) put_alike) in
    let first = ap (λ E. partials_of (λ k. stats_over (stats_of inner) (bucket_places f.kind k E)) (λ k. answer_rows r W j (into path f k) inner (bucket_places f.kind k E)) (answer_keys f.kind inner E j)) over
    ∙ (λ m. partials_of (λ k. bucket_stats_put j f.kind (stats_of inner) D k m) (λ k. insides k m) (keys_put i j f.kind inner D put_alike m)) in
    λ m. row (first m) (rows_alike r V W i j path rest X Y same alike m)

-- the places of a path are alike, and so are those where a way leads
path_alike : (r : Request) (V W : World) (i j : ℕ) (path : Path) → SameAt i j V W → Alike i j (path_places r V path) (path_places r W path)
path_alike r V W i j at_root same = documents_alike i j (λ p. meets_base r [] p.document) (places V) (places W) (λ p. refl) same
path_alike r V W i j (into path f key) same =
    documents_alike i j (λ p. in_bucket f.kind key p.document) (domain r V path f.change (path_places r V path)) (domain r W path f.change (path_places r W path)) (λ p. refl)
    (domain_alike r V W i j path f.change (path_places r V path) (path_places r W path) same (path_alike r V W i j path same))

target_alike : (r : Request) (V W : World) (i j : ℕ) (t : Target) → SameAt i j V W → Alike i j (target_places r V t) (target_places r W t)
target_alike r V W i j leads_nowhere same = refl
target_alike r V W i j (leads_to path nodes) same = path_alike r V W i j path same

bucket_alike : (r : Request) (V W : World) (i j : ℕ) (way : Way) (key : Key) (rest other : Partials) → SameAt i j V W → rest ≡ other → answer_bucket r W j way key rest ≡ answer_bucket r V i way key other
bucket_alike r V W i j way key rest other same e =
    let t = target_of r.nodes way in
    let X = target_places r V t in
    let Y = target_places r W t in
    let alike : Alike i j X Y = target_alike r V W i j t same in
    let stats = ap (stats_over (stats_of (target_nodes t))) alike ∙ stats_renumbered (to_shard j) (stats_of (target_nodes t)) (part i X) in
    let rows = rows_alike r V W i j (target_path t) (target_nodes t) (part i X) (part j Y) same (part_alike i j X Y alike) in
    λ m. partial key (stats m) (rows m) (e m)

wants_alike : (r : Request) (V W : World) (i j : ℕ) (ws : List Want) → SameAt i j V W → answer_wants r W j ws ≡ answer_wants r V i ws
wants_alike r V W i j [] same = refl
wants_alike r V W i j (w ∷ ws) same = bucket_alike r V W i j (way_of w) w.key (answer_wants r W j ws) (answer_wants r V i ws) same (wants_alike r V W i j ws same)

-- the same keys from a count on
least_keys_put : (i j n : ℕ) (kind : Kind) (inner : Nodes) (D : List Place) → Alike i j D (put j D) → least_keys kind inner n (put j D) j ≡ least_keys kind inner n D i
least_keys_put i j n (terms t) inner D alike =
    let entries = ap (entries_in t []) alike ∙ entries_renumbered (to_shard j) t [] (part i D) in
    λ k. map value (map (λ e. e.val) (filter (λ e. nat_le n e.stats.count) (entries k))) ++ listed_put j (terms t) inner D (asked t.missing missing) k
least_keys_put i j n (range g) inner D alike = keys_put i j (range g) inner D alike
least_keys_put i j n (date_range g) inner D alike = keys_put i j (date_range g) inner D alike
least_keys_put i j n (query q) inner D alike = keys_put i j (query q) inner D alike

least_rows_alike : (r : Request) (V W : World) (i j : ℕ) (nodes : Nodes) (ns : List ℕ) (X Y : List Place) → SameAt i j V W → Alike i j X Y → least_rows r W j nodes ns Y ≡ least_rows r V i nodes ns X
least_rows_alike r V W i j no_nodes ns X Y same alike = refl
least_rows_alike r V W i j (statistic name s rest) ns X Y same alike = least_rows_alike r V W i j rest ns X Y same alike
least_rows_alike r V W i j (facet f inner rest) ns X Y same alike =
    let D = answer_domain r V i at_root f X in
    let over : answer_domain r W j at_root f Y ≡ put j D = domain_alike r V W i j at_root f.change X Y same alike in
    let own : Alike i j D (answer_domain r W j at_root f Y) = part_alike i j (domain r V at_root f.change X) (domain r W at_root f.change Y) over in
    let put_alike : Alike i j D (put j D) = subst (Alike i j D) over own in
    let insides = λ (key : Key). rows_alike r V W i j (into at_root f key) inner (bucket_places f.kind key D) (bucket_places f.kind key (put j D)) same (documents_alike i j (λ p. in_bucket f.kind key p.document) D (put j D) (λ p. refl) put_alike) in
    let first = ap (λ E. partials_of (λ k. stats_over (stats_of inner) (bucket_places f.kind k E)) (λ k. answer_rows r W j (into at_root f k) inner (bucket_places f.kind k E)) (least_keys f.kind inner (first_number ns) E j)) over
    ∙ (λ m. partials_of (λ k. bucket_stats_put j f.kind (stats_of inner) D k m) (λ k. insides k m) (least_keys_put i j (first_number ns) f.kind inner D put_alike m)) in
    λ m. row (first m) (least_rows_alike r V W i j rest (later_numbers ns) X Y same alike m)

-- shards of the same blocks
same_blocks : (V W : World) (i j : ℕ) → slice_get V i ≡ slice_get W j → SameAt i j V W
same_blocks V W i j e = part_of_places j W ∙ ap (of_blocks j) (sym e) ∙ blocks_put i j (slice_get V i) ∙ ap (put j) (sym (part_of_places i V))

pub answers_from_its_blocks : AnswersFromItsBlocks
answers_from_its_blocks r V W i j e ask = sym (go ask)
  where
    same : SameAt i j V W
    same = same_blocks V W i j e

    go : (a : Ask) → answer r W j a ≡ answer r V i a
    go first = bucket_alike r V W i j [] whole no_partials no_partials same refl
    go (more ws) = wants_alike r V W i j ws same

pub exact_from_its_blocks : ExactFromItsBlocks
exact_from_its_blocks r V W i j e exact_first = answers_from_its_blocks r V W i j e first
exact_from_its_blocks r V W i j e (exact_more ws) = answers_from_its_blocks r V W i j e (more ws)
exact_from_its_blocks r V W i j e (exact_least ns) =
    let same = same_blocks V W i j e in
    let X = path_places r V at_root in
    let Y = path_places r W at_root in
    let alike : Alike i j X Y = path_alike r V W i j at_root same in
    let stats = ap (stats_over (stats_of r.nodes)) alike ∙ stats_renumbered (to_shard j) (stats_of r.nodes) (part i X) in
    let rows = least_rows_alike r V W i j r.nodes ns (part i X) (part j Y) same (part_alike i j X Y alike) in
    sym (λ m. partial whole (stats m) (rows m) no_partials)
