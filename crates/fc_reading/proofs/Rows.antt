-- Rows and facets, part by part.
use Rattle.std.proofs.Common.{◌≡◌, ℕ, List, [], ◌∷◌, ◌++◌, map, Option, None, Some, option_map, refl, ap, sym, ◌∙◌}
use Rattle.fc_spec.specs.documents.Val.{Text}
use Rattle.fc_spec.specs.requests.Request.{Kind, terms, range, date_range, query, Nodes}
use Rattle.fc_spec.specs.requests.Buckets.{Key}
use Rattle.fc_spec.specs.replies.Reply.{Bucket, Facets, no_parts, part, Spot, listed, as_missing, as_before, as_between, as_after, row_of, with_buckets, spot_of, many, one}
use Rattle.fc_spec.specs.replies.Reading.{Reading}
use Rattle.fc_spec.specs.replies.Distributed.{carried, printed_keys}
use Rattle.fc_reply.specs.declared.reply.ReplyFacet.{ReplyFacet}
use Rattle.fc_reply.specs.ReplyView.{facet_view, facets_over, parts_over, part_over}
use Rattle.fc_reading.specs.declared.part.Part.{Part}
use Rattle.fc_reading.specs.declared.part.Parts.{Parts}
use Rattle.fc_reading.specs.declared.part.Printed.{Printed}
use Rattle.fc_reading.specs.declared.part.Printed.TheVariants.{Many, One}
use Rattle.fc_reading.specs.Parts.{Seen, part_of, bucket_with, row_with, part_view, parts_view, beside, IsPrinted}
use Rattle.fc_reading.specs.Tree.{put_printed}

module _ {B H : Type 0} (held : B → H) (count : List ℕ → H → ℕ) (inside : List ℕ → H → Facets) where
  row_of_list : (spot : Spot) (ps : List (Part B)) (qs : List (Seen H))
      → parts_over spot (map (λ p. bucket_with count inside (part_view held listed p)) ps) (row_with count inside qs) ≡ row_with count inside (map (part_view held spot) ps ++ qs)
  row_of_list spot [] qs = refl
  row_of_list spot (p ∷ ps) qs = ap (part spot (bucket_with count inside (part_view held listed p))) (row_of_list spot ps qs)

  row_beside : (spot : Spot) (o : Option (Part B)) (qs : List (Seen H))
      → part_over spot (option_map (λ p. bucket_with count inside (part_view held listed p)) o) (row_with count inside qs) ≡ row_with count inside (beside held spot o ++ qs)
  row_beside spot None qs = refl
  row_beside spot (Some p) qs = refl

  row_end : (spot : Spot) (o : Option (Part B)) → part_over spot (option_map (λ p. bucket_with count inside (part_view held listed p)) o) no_parts ≡ row_with count inside (beside held spot o)
  row_end spot None = refl
  row_end spot (Some p) = refl

  pub row_of_parts : (ps : Parts B) (list : List Bucket) (missing before between after : Option Bucket)
      → list ≡ map (λ p. bucket_with count inside (part_view held listed p)) ps.list.items
      → missing ≡ option_map (λ p. bucket_with count inside (part_view held listed p)) ps.missing
      → before ≡ option_map (λ p. bucket_with count inside (part_view held listed p)) ps.before
      → between ≡ option_map (λ p. bucket_with count inside (part_view held listed p)) ps.between
      → after ≡ option_map (λ p. bucket_with count inside (part_view held listed p)) ps.after
      → parts_over listed list (part_over as_missing missing (part_over as_before before (part_over as_between between (part_over as_after after no_parts)))) ≡ row_with count inside (parts_view held ps)
  row_of_parts ps list missing before between after l m b t a =
      let at : Option (Part B) → Option Bucket = λ o. option_map (λ p. bucket_with count inside (part_view held listed p)) o in
      let end = ap (λ o. part_over as_after o no_parts) a ∙ row_end as_after ps.after in
      let fourth = ap (λ o. part_over as_between o (part_over as_after after no_parts)) t ∙ ap (part_over as_between (at ps.between)) end ∙ row_beside as_between ps.between _ in
      let third = ap (λ o. part_over as_before o (part_over as_between between (part_over as_after after no_parts))) b ∙ ap (part_over as_before (at ps.before)) fourth ∙ row_beside as_before ps.before _ in
      let second = ap (λ o. part_over as_missing o (part_over as_before before (part_over as_between between (part_over as_after after no_parts)))) m ∙ ap (part_over as_missing (at ps.missing)) third ∙ row_beside as_missing ps.missing _ in
      ap (λ o. parts_over listed o (part_over as_missing missing (part_over as_before before (part_over as_between between (part_over as_after after no_parts))))) l
      ∙ ap (parts_over listed (map (λ p. bucket_with count inside (part_view held listed p)) ps.list.items)) second ∙ row_of_list listed ps.list.items _

-- one more facet at the end
pub facets_more : (done : List ReplyFacet) (f : ReplyFacet) (more : Facets) → facets_over (map facet_view (done ++ f ∷ [])) more ≡ facets_over (map facet_view done) (facet_view f more)
facets_more [] f more = refl
facets_more (d ∷ ds) f more = ap (facet_view d) (facets_more ds f more)

module _ {B H D : Type 0} (R : Reading H D) (held : B → H) (inner : Nodes) (K : List ℕ) (Y : D) (count : List ℕ → H → ℕ) (inside : List ℕ → H → Facets) where
  row_of_keys : (kind : Kind) (keys : List Key)
      → row_of kind (λ k. count (carried R kind inner K Y k) (R.bucket_at kind Y k)) (λ k. inside (carried R kind inner K Y k) (R.bucket_at kind Y k)) keys
      ≡ row_with count inside (map (part_of R kind inner K Y) keys)
  row_of_keys kind [] = refl
  row_of_keys kind (k ∷ ks) = ap (part (spot_of k) (bucket_with count inside (part_of R kind inner K Y k))) (row_of_keys kind ks)

  -- what is printed of a facet is what the definition puts before the others
  pub put_as_defined : (name : Text) (kind : Kind) (p : Printed B) (more : Facets) → IsPrinted R held kind inner K Y p
      → put_printed count inside held name p more
      ≡ with_buckets name kind (λ k. count (carried R kind inner K Y k) (R.bucket_at kind Y k)) (λ k. inside (carried R kind inner K Y k) (R.bucket_at kind Y k)) (printed_keys R kind inner K Y) more
  put_as_defined name (terms t) (Many ps) more h = ap (λ qs. many name (row_with count inside qs) more) h.0 ∙ ap (λ row. many name row more) (sym (row_of_keys (terms t) _))
  put_as_defined name (range g) (Many ps) more h = ap (λ qs. many name (row_with count inside qs) more) h.0 ∙ ap (λ row. many name row more) (sym (row_of_keys (range g) _))
  put_as_defined name (date_range g) (Many ps) more h = ap (λ qs. many name (row_with count inside qs) more) h.0 ∙ ap (λ row. many name row more) (sym (row_of_keys (date_range g) _))
  put_as_defined name (query q) (Many ps) more h = absurd h
  put_as_defined name (terms t) (One p) more h = absurd h
  put_as_defined name (range g) (One p) more h = absurd h
  put_as_defined name (date_range g) (One p) more h = absurd h
  put_as_defined name (query q) (One p) more h = ap (λ s. one name (bucket_with count inside s) more) h.0
