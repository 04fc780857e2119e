-- Lists and buckets that are put behind others.
use Rattle.std.proofs.Common.{◌≡◌, List, [], ◌∷◌, ◌++◌, map, refl, sym, ap, ◌∙◌, append_assoc, append-nil, length, arith}
use Rattle.std.proofs.lemmas.List.{map-append}
use Rattle.fc_spec.specs.messages.Message.{Partials, no_partials, partial, Rows, no_rows, row}
use Rattle.fc_partial.specs.BucketView.{Part, bucket_view, linked, linked_rows, node_view}
use Rattle.fc_partial.specs.declared.bucket.PartialBucket.{PartialBucket}
use Rattle.fc_partial.specs.declared.bucket.PartialNode.{PartialNode}
use Rattle.fc_levels.specs.Jobs.{opened_inside, opened_in_rows, openings_of}
use Rattle.fc_levels.specs.Levels.{put, put_rows}

pub put_none : (bs : List Part) → put bs no_partials ≡ linked bs
put_none [] = refl
put_none (b ∷ bs) = ap (partial b.key b.stats b.rows) (put_none bs)

put_push : (bs : List Part) (b : Part) (ps : Partials) → put (bs ++ b ∷ []) ps ≡ put bs (partial b.key b.stats b.rows ps)
put_push [] b ps = refl
put_push (a ∷ bs) b ps = ap (partial a.key a.stats a.rows) (put_push bs b ps)

put_rows_none : (pss : List Partials) → put_rows pss no_rows ≡ linked_rows pss
put_rows_none [] = refl
put_rows_none (ps ∷ pss) = ap (row ps) (put_rows_none pss)

put_rows_push : (pss : List Partials) (ps : Partials) (rows : Rows) → put_rows (pss ++ ps ∷ []) rows ≡ put_rows pss (row ps rows)
put_rows_push [] ps rows = refl
put_rows_push (qs ∷ pss) ps rows = ap (row qs) (put_rows_push pss ps rows)

-- one more bucket, before others
pub put_bucket : (done done' : List PartialBucket) (b : PartialBucket) (ps : Partials) → done' ≡ done ++ b ∷ []
    → put (map bucket_view done') ps ≡ put (map bucket_view done) (partial (bucket_view b).key (bucket_view b).stats (bucket_view b).rows ps)
put_bucket done done' b ps e = ap (λ bs. put (map bucket_view bs) ps) e ∙ ap (λ bs. put bs ps) (map-append bucket_view done (b ∷ [])) ∙ put_push (map bucket_view done) (bucket_view b) ps

-- one more list, before others
pub put_row : (rows rows' : List PartialNode) (h : PartialNode) (rest : Rows) → rows' ≡ rows ++ h ∷ [] → put_rows (map node_view rows') rest ≡ put_rows (map node_view rows) (row (node_view h) rest)
put_row rows rows' h rest e = ap (λ ns. put_rows (map node_view ns) rest) e ∙ ap (λ pss. put_rows pss rest) (map-append node_view rows (h ∷ [])) ∙ put_rows_push (map node_view rows) (node_view h) rest

-- and after all others
pub last_row : (rows rows' : List PartialNode) (h : PartialNode) → rows' ≡ rows ++ h ∷ [] → linked_rows (map node_view rows') ≡ put_rows (map node_view rows) (row (node_view h) no_rows)
last_row rows rows' h e = sym (put_rows_none (map node_view rows')) ∙ put_row rows rows' h no_rows e

-- ---- the jobs of what is put

pub inside_put : (bs : List Part) (ps : Partials) → opened_inside (put bs ps) ≡ opened_inside (linked bs) ++ opened_inside ps
inside_put [] ps = refl
inside_put (b ∷ bs) ps = ap (λ xs. opened_in_rows b.rows ++ xs) (inside_put bs ps) ∙ sym (append_assoc (opened_in_rows b.rows) (opened_inside (linked bs)) (opened_inside ps))

pub inside_put_rows : (pss : List Partials) (rows : Rows) → opened_in_rows (put_rows pss rows) ≡ opened_in_rows (linked_rows pss) ++ opened_in_rows rows
inside_put_rows [] rows = refl
inside_put_rows (ps ∷ pss) rows = ap (λ xs. openings_of ps ++ xs) (inside_put_rows pss rows) ∙ sym (append_assoc (openings_of ps) (opened_in_rows (linked_rows pss)) (opened_in_rows rows))

pub inside_row : (rows rows' : List PartialNode) (h : PartialNode) → rows' ≡ rows ++ h ∷ [] → opened_in_rows (linked_rows (map node_view rows')) ≡ opened_in_rows (linked_rows (map node_view rows)) ++ openings_of (node_view h)
inside_row rows rows' h e =
    ap opened_in_rows (last_row rows rows' h e) ∙ inside_put_rows (map node_view rows) (row (node_view h) no_rows)
    ∙ ap (λ xs. opened_in_rows (linked_rows (map node_view rows)) ++ xs) (append-nil (openings_of (node_view h)))

pub inside_bucket : (done done' : List PartialBucket) (b : PartialBucket) → done' ≡ done ++ b ∷ [] → opened_inside (linked (map bucket_view done')) ≡ opened_inside (linked (map bucket_view done)) ++ opened_in_rows (bucket_view b).rows
inside_bucket done done' b e =
    ap opened_inside (sym (put_none (map bucket_view done')) ∙ put_bucket done done' b no_partials e) ∙ inside_put (map bucket_view done) (partial (bucket_view b).key (bucket_view b).stats (bucket_view b).rows no_partials)
    ∙ ap (λ xs. opened_inside (linked (map bucket_view done)) ++ xs) (append-nil (opened_in_rows (bucket_view b).rows))

pub none_left : {X : Type 0} (xs : List X) → length xs ≡ 0 → xs ≡ []
none_left [] h = refl
none_left (x ∷ xs) h = absurd (omega (arith, h))
