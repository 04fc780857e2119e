-- What nodes print, one after another.
use Rattle.std.proofs.Common.{◌≡◌, List, Bool, true, false, Option, None, Some, is_some, ◌&&◌, if◌then◌else◌, refl, ap, sym, ◌∙◌}
use Rattle.fc_spec.specs.documents.Val.{Text, Val}
use Rattle.fc_spec.specs.words.Lists.{is_empty}
use Rattle.fc_spec.specs.requests.Request as request
use Rattle.fc_spec.specs.requests.Request.{Facet, Kind, Nodes, Terms, Stat}
use Rattle.fc_spec.specs.requests.Shape as shape
use Rattle.fc_spec.specs.replies.Reply.{Facets, many}
use Rattle.fc_spec.specs.replies.Restored.{after_facet, after_first, after_keys, is_number_of, restored_facet, restored_facets, row_from, with_first}
use Rattle.fc_spec.specs.replies.Tops.{first_list, lists_after, top_keys}
use Rattle.fc_base.specs.StatisticView.{stat_view}
use Rattle.fc_facet.specs.declared.kind.Kind.TheVariants as k
use Rattle.fc_request.specs.declared.node.Node.{Node, out-Node}
use Rattle.fc_request.specs.FacetNode.{facet_view, has_buckets, kind_of, kind_view}
use Rattle.fc_request.specs.NodeView.{inner_view, node_view}
use Rattle.fc_request.proofs.Nodes.{before, facet_is, statistic_is}
use Rattle.fc_replaced.specs.ExactParts.{exact_of, is_exact}
use Rattle.fc_replaced.specs.Fronts.{facet_over}
use Rattle.fc_replaced.proofs.ExactKinds.{exact_is, exact_kind, is_exact_by}
use Rattle.fc_replaced.proofs.ReplacedNodes.{not_taken}

module _ (rest : Nodes) (vss : List (List Val)) (empty : Bool) (F : Facets) where
  -- ---- a statistic

  abbrev number_if : Bool → Facets
  number_if there = let more = restored_facets rest vss empty (if there then after_first F else F) in if there then with_first F more else more

  pub number_printed : (name : Text) (s : Stat) → is_number_of name F ≡ true → restored_facets (request.statistic name s rest) vss empty F ≡ with_first F (restored_facets rest vss empty (after_first F))
  number_printed name s h = ap number_if h

  pub number_absent : (name : Text) (s : Stat) → is_number_of name F ≡ false → restored_facets (request.statistic name s rest) vss empty F ≡ restored_facets rest vss empty F
  number_absent name s h = ap number_if h

  -- ---- a facet that has buckets

  abbrev lists_behind : Facet → List (List Val)
  lists_behind f = lists_after (shape.is_exact f.kind) vss

  abbrev facet_unless : Facet → Bool → Facets
  facet_unless f hidden =
      let more = restored_facets rest (lists_behind f) empty (if hidden then F else after_facet f.kind (first_list vss) F) in
      if hidden then more else restored_facet f.kind f.name (first_list vss) F more

  pub facet_hidden : (f : Facet) (inner : Nodes) → (empty && is_empty f.change.exclude) ≡ true → restored_facets (request.facet f inner rest) vss empty F ≡ restored_facets rest (lists_behind f) empty F
  facet_hidden f inner h = ap (facet_unless f) h

  pub facet_shown : (f : Facet) (inner : Nodes) → (empty && is_empty f.change.exclude) ≡ false
      → restored_facets (request.facet f inner rest) vss empty F ≡ restored_facet f.kind f.name (first_list vss) F (restored_facets rest (lists_behind f) empty (after_facet f.kind (first_list vss) F))
  facet_shown f inner h = ap (facet_unless f) h

-- ---- by the kind of a facet

abbrev chosen_if : Bool → Facets → Facets → Facets
chosen_if is this other = if is then this else other

pub exact_restored : (kind : Kind) (t : Terms) (name : Text) (vs : List Val) (F more : Facets) → exact_of kind ≡ Some t
    → restored_facet kind name vs F more ≡ many name (row_from t (top_keys t vs) F) more
exact_restored kind t name vs F more h =
    let exact : shape.is_exact (request.terms t) ≡ true = ap shape.is_exact (sym (exact_kind kind t h)) ∙ is_exact_by kind ∙ ap is_some h in
    ap (λ kind. restored_facet kind name vs F more) (exact_kind kind t h)
    ∙ ap (λ b. chosen_if b (many name (row_from t (top_keys t vs) F) more) (with_first F more)) exact

pub exact_after : (kind : Kind) (t : Terms) (vs : List Val) (F : Facets) → exact_of kind ≡ Some t → after_facet kind vs F ≡ after_keys (top_keys t vs) F
exact_after kind t vs F h =
    let exact : shape.is_exact (request.terms t) ≡ true = ap shape.is_exact (sym (exact_kind kind t h)) ∙ is_exact_by kind ∙ ap is_some h in
    ap (λ kind. after_facet kind vs F) (exact_kind kind t h)
    ∙ ap (λ b. chosen_if b (after_keys (top_keys t vs) F) (after_first F)) exact

pub plain_restored : (kind : Kind) (name : Text) (vs : List Val) (F more : Facets) → exact_of kind ≡ None → restored_facet kind name vs F more ≡ with_first F more
plain_restored (request.terms t) name vs F more h =
    ap (λ b. chosen_if b (many name (row_from t (top_keys t vs) F) more) (with_first F more)) (is_exact_by (request.terms t) ∙ ap is_some h)
plain_restored (request.range g) name vs F more h = refl
plain_restored (request.date_range g) name vs F more h = refl
plain_restored (request.query q) name vs F more h = refl

pub plain_after : (kind : Kind) (vs : List Val) (F : Facets) → exact_of kind ≡ None → after_facet kind vs F ≡ after_first F
plain_after (request.terms t) vs F h = ap (λ b. chosen_if b (after_keys (top_keys t vs) F) (after_first F)) (is_exact_by (request.terms t) ∙ ap is_some h)
plain_after (request.range g) vs F h = refl
plain_after (request.date_range g) vs F h = refl
plain_after (request.query q) vs F h = refl

-- ---- one node of the code

module _ (n : Node) (rest : Nodes) (vss : List (List Val)) (empty : Bool) (F : Facets) where
  abbrev behind : Bool → Facets → Facets
  behind exact G = restored_facets rest (lists_after exact vss) empty G

  pub hidden_step : has_buckets (kind_of n) ≡ true → (empty && is_empty (facet_view n).change.exclude) ≡ true → behind (is_exact (node_view n)) F ≡ restored_facets (before (node_view n) rest) vss empty F
  hidden_step h hidden =
      ap (λ b. behind b F) (exact_is n) ∙ sym (facet_hidden rest vss empty F (facet_view n) (inner_view n) hidden)
      ∙ ap (λ ns. restored_facets ns vss empty F) (sym (facet_is n h rest))

  pub shown_step : (vs : List Val) (G : Facets) (o : Option (Facets → Facets)) → has_buckets (kind_of n) ≡ true → (empty && is_empty (facet_view n).change.exclude) ≡ false → first_list vss ≡ vs
      → ((more : Facets) → facet_over o more ≡ restored_facet (kind_view (kind_of n)) (facet_view n).name vs F more) → G ≡ after_facet (kind_view (kind_of n)) vs F
      → facet_over o (behind (is_exact (node_view n)) G) ≡ restored_facets (before (node_view n) rest) vss empty F
  shown_step vs G o h shown first put left =
      let kind = kind_view (kind_of n) in
      ap (λ b. facet_over o (behind b G)) (exact_is n) ∙ put (behind (shape.is_exact kind) G)
      ∙ ap (λ H. restored_facet kind (facet_view n).name vs F (behind (shape.is_exact kind) H)) left
      ∙ ap (λ us. restored_facet kind (facet_view n).name us F (behind (shape.is_exact kind) (after_facet kind us F))) (sym first)
      ∙ sym (facet_shown rest vss empty F (facet_view n) (inner_view n) shown)
      ∙ ap (λ ns. restored_facets ns vss empty F) (sym (facet_is n h rest))

  pub number_step : (s : _) (G : Facets) (o : Option (Facets → Facets)) → kind_of n ≡ k.Stat s
      → facet_over o (restored_facets rest vss empty G) ≡ restored_facets (request.statistic (out-Node n).name (stat_view s) rest) vss empty F
      → facet_over o (behind (is_exact (node_view n)) G) ≡ restored_facets (before (node_view n) rest) vss empty F
  number_step s G o is put =
      ap (λ b. facet_over o (behind b G)) (exact_is n ∙ ap (λ kind. shape.is_exact (kind_view kind)) is) ∙ ap (λ ls. facet_over o (restored_facets rest ls empty G)) (not_taken vss)
      ∙ put ∙ ap (λ ns. restored_facets ns vss empty F) (sym (statistic_is n s is rest))
