-- Where no number is asked for, the folded tree is the tree.
use Rattle.std.proofs.Common.{◌≡◌, List, [], ◌∷◌, length, Bool, true, false, ◌||◌, ◌&&◌, ◌==◌, cond, refl, ap, ◌∙◌, arith}
use Rattle.std.proofs.lemmas.Bool.{eqb-true}
use Rattle.fc_spec.specs.words.Lists.{is_empty}
use Rattle.fc_spec.specs.requests.Request.{Show, its_buckets, its_number, number_beside, Nodes, no_nodes, statistic, facet}
use Rattle.fc_spec.specs.requests.Spread.{show_first, show_of}
use Rattle.fc_spec.specs.replies.Reply.{Bucket, bucket, Facets, no_facets, number, one, many, counted, Row, no_parts, part}
use Rattle.fc_spec.specs.replies.Folded.{folded_bucket, folded_facets, folded_row, from_printed, inner_of, rest_of, number_for, row_shown, with_count}
use Rattle.fc_request.specs.declared.node.Node.{Node}
use Rattle.fc_request.specs.NodeView.{nodes_view}
use Rattle.fc_unique.specs.Asking.{asks_numbers, shows_number}

left_false : (a b : Bool) → (a || b) ≡ false → a ≡ false
left_false true b h = h
left_false false b h = refl

right_false : (a b : Bool) → (a || b) ≡ false → b ≡ false
right_false true b h = absurd (cc h)
right_false false b h = h

shows_buckets : (s : Show) → shows_number s ≡ false → s ≡ its_buckets
shows_buckets its_buckets h = refl
shows_buckets its_number h = absurd (cc h)
shows_buckets number_beside h = absurd (cc h)

show_unasked : (ns : Nodes) → asks_numbers ns ≡ false → show_first ns ≡ its_buckets
show_unasked no_nodes h = refl
show_unasked (statistic name s rest) h = refl
show_unasked (facet f inner rest) h = shows_buckets (show_of f.kind) (left_false (shows_number (show_of f.kind)) _ h)

inner_unasked : (ns : Nodes) → asks_numbers ns ≡ false → asks_numbers (inner_of ns) ≡ false
inner_unasked no_nodes h = refl
inner_unasked (statistic name s rest) h = refl
inner_unasked (facet f inner rest) h = left_false (asks_numbers inner) (asks_numbers rest) (right_false (shows_number (show_of f.kind)) _ h)

rest_unasked : (ns : Nodes) → asks_numbers ns ≡ false → asks_numbers (rest_of ns) ≡ false
rest_unasked no_nodes h = refl
rest_unasked (statistic name s rest) h = refl
rest_unasked (facet f inner rest) h = right_false (asks_numbers inner) (asks_numbers rest) (right_false (shows_number (show_of f.kind)) _ h)

printed_unasked : (e : Bool) (ns : Nodes) → asks_numbers ns ≡ false → asks_numbers (from_printed e ns) ≡ false
printed_unasked e no_nodes h = refl
printed_unasked e (statistic name s rest) h = printed_unasked e rest h
printed_unasked e (facet f inner rest) h = go (e && is_empty f.change.exclude) (printed_unasked e rest (rest_unasked (facet f inner rest) h))
  where
    go : (b : Bool) → asks_numbers (from_printed e rest) ≡ false → asks_numbers (cond b (from_printed e rest) (facet f inner rest)) ≡ false
    go true none = none
    go false none = h

mutual
  pub unasked_bucket : (ns : Nodes) → asks_numbers ns ≡ false → (b : Bucket) → folded_bucket ns b ≡ b
  unasked_bucket ns h (bucket val count facets) = ap (bucket val count) (unasked_facets (count == 0) ns h facets)

  pub unasked_facets : (e : Bool) (ns : Nodes) → asks_numbers ns ≡ false → (F : Facets) → folded_facets e ns F ≡ F
  unasked_facets e ns h no_facets = refl
  unasked_facets e ns h (number name n more) = ap (number name n) (unasked_facets e ns h more)
  unasked_facets e ns h (one name b more) =
      let here = from_printed e ns in
      let none = printed_unasked e ns h in
      λ i. one name (unasked_bucket (inner_of here) (inner_unasked here none) b i) (unasked_facets e (rest_of here) (rest_unasked here none) more i)
  unasked_facets e ns h (many name row more) =
      let here = from_printed e ns in
      let none = printed_unasked e ns h in
      ap (λ s. row_shown s (number_for (show_first (rest_of here)) more) name row (folded_row (inner_of here) row) (folded_facets e (rest_of here) more)) (show_unasked here none)
      ∙ ap (λ s. with_count (number_for s more) (many name (folded_row (inner_of here) row) (folded_facets e (rest_of here) more))) (show_unasked (rest_of here) (rest_unasked here none))
      ∙ (λ i. many name (unasked_row (inner_of here) (inner_unasked here none) row i) (unasked_facets e (rest_of here) (rest_unasked here none) more i))
  unasked_facets e ns h (counted name n row more) =
      let here = from_printed e ns in
      let none = printed_unasked e ns h in
      λ i. counted name n (unasked_row (inner_of here) (inner_unasked here none) row i) (unasked_facets e (rest_of here) (rest_unasked here none) more i)

  pub unasked_row : (ns : Nodes) → asks_numbers ns ≡ false → (row : Row) → folded_row ns row ≡ row
  unasked_row ns h no_parts = refl
  unasked_row ns h (part spot b row) = λ i. part spot (unasked_bucket ns h b i) (unasked_row ns h row i)

-- where there are no nodes
pub none_folds : (e : Bool) (ns : List Node) → (length ns == 0) ≡ true → (F : Facets) → folded_facets e (nodes_view ns) F ≡ F
none_folds e [] h F = unasked_facets e no_nodes refl F
none_folds e (n ∷ ns) h F = let no : length (n ∷ ns) ≡ 0 = eqb-true (length (n ∷ ns)) 0 h in absurd (omega arith)
