-- What lacks, one node after another.
use Rattle.std.proofs.Common.{◌≡◌, ℕ, suc, ◌-◌, List, [], ◌∷◌, ◌++◌, map, take, length, Bool, true, false, cond, ◌&&◌, refl, ap, ap₂, sym, ◌∙◌, append_assoc, ◌==◌, arith}
use Rattle.std.specs.List.{flat_map}
use Rattle.std.proofs.Math.Seq.{take-append_seam}
use Rattle.std.proofs.lemmas.List.{append-nil, length-append}
use Rattle.std.proofs.lemmas.List.Folds.{flat_map-map}
use Rattle.fc_spec.specs.requests.Request.{Kind, Facet, Nodes, no_nodes}
use Rattle.fc_spec.specs.requests.RequestReading.{of_statistic, of_facet}
use Rattle.fc_spec.specs.requests.Shape.{asks_again}
use Rattle.fc_spec.specs.words.Lists.{is_empty}
use Rattle.fc_spec.specs.replies.Distributed.{printed_keys}
use Rattle.fc_spec.specs.replies.Reading.{Reading}
use Rattle.fc_spec.specs.messages.Lacks.{Lack, facet_wanted}
use Rattle.fc_spec.specs.messages.Message.{Way}
use Rattle.fc_facet.specs.declared.kind.Kind.{Kind as CodeKind}
use Rattle.fc_facet.specs.declared.kind.Kind.TheVariants as k
use Rattle.fc_facet.specs.KindView.{terms_view}
use Rattle.fc_request.specs.declared.node.Node.{Node}
use Rattle.fc_request.specs.FacetNode.{has_buckets, kind_of, kind_view, facet_view}
use Rattle.fc_request.specs.NodeView.{Part, node_view, inner_view}
use Rattle.fc_request.proofs.Nodes.{facet_is, statistic_is}
use Rattle.fc_lacks.specs.Inside.{inside_key, lacking_under}
use Rattle.fc_lacks.specs.Keys.{WithKey, keyed_of}
use Rattle.fc_lacks.specs.Lacking.{lacking, lacking_at, lacking_values}
use Rattle.fc_reading.specs.Tree.{node_before}

-- a list without what was put behind it is as before
pub last_left : {X : Type 0} (xs ys : List X) (x : X) → ys ≡ take (length (xs ++ x ∷ []) - 1) (xs ++ x ∷ []) → ys ≡ xs
last_left xs ys x is =
    let e : length (xs ++ x ∷ []) - 1 ≡ length xs = omega (arith, length-append xs (x ∷ [])) in
    is ∙ ap (λ m. take m (xs ++ x ∷ [])) e ∙ take-append_seam xs (x ∷ [])

module _ {B D : Type 0} (R : Reading B D) (has : B → ℕ → Bool) where
  -- under printed buckets
  pub under_keys : (kind : Kind) (inner : Nodes) (n : ℕ) (H : List ℕ) (Y : D) (way : Way) (d : ℕ) (list : List (WithKey B)) → list ≡ map (keyed_of R kind inner H Y) (printed_keys R kind inner H Y)
      → flat_map (inside_key R has inner n way d) list ≡ lacking_under R has kind inner n H Y way d
  under_keys kind inner n H Y way d list is =
      ap (flat_map (inside_key R has inner n way d)) is ∙ flat_map-map (inside_key R has inner n way d) (keyed_of R kind inner H Y) (printed_keys R kind inner H Y)

  module _ (e n : ℕ) (H : List ℕ) (X : B) (way : Way) where
    -- at the first node, and at those after it
    pub node_first : (p : Part) (rest : Nodes) → lacking R has e (node_before p rest) n H X way ≡ lacking R has e (node_before p no_nodes) n H X way ++ lacking R has e rest (suc n) H X way
    node_first (name, of_statistic s) rest = refl
    node_first (name, of_facet change kind inner) rest =
        let f : Facet = record { name = name; change = change; kind = kind } in
        let Y = R.domain_on n f H X in
        let here : List Lack = facet_wanted (R.count_on H X == 0) f (lacking_at R has kind inner e n H Y way (lacking_under R has kind inner n H Y way)) in
        ap (λ l. l ++ lacking R has e rest (suc n) H X way) (sym (append-nil here))

    -- what lacks at the first of those that are left is put behind
    pub next_node : (done now : List Lack) (p : Part) (rest : Nodes) (whole : List Lack) → now ≡ done ++ lacking R has e (node_before p no_nodes) n H X way
        → done ++ lacking R has e (node_before p rest) n H X way ≡ whole → now ++ lacking R has e rest (suc n) H X way ≡ whole
    next_node done now p rest whole made so_far =
        let here : List Lack = lacking R has e (node_before p no_nodes) n H X way in
        let more : List Lack = lacking R has e rest (suc n) H X way in
        ap (λ ls. ls ++ more) made ∙ append_assoc done here more ∙ ap (λ ls. done ++ ls) (sym (node_first p rest)) ∙ so_far

    -- at a statistic nothing
    pub statistic_lacks : (node : Node) (s : _) → kind_of node ≡ k.Stat s → lacking R has e (node_before (node_view node) no_nodes) n H X way ≡ []
    statistic_lacks node s is = ap (λ ns. lacking R has e ns n H X way) (statistic_is node s is no_nodes)

    module _ (node : Node) (buckets : has_buckets (kind_of node) ≡ true) where
      abbrev f : Facet
      f = facet_view node

      abbrev inner : Nodes
      inner = inner_view node

      abbrev Y : D
      Y = R.domain_on n f H X

      abbrev at_it : List Lack
      at_it = lacking_at R has f.kind inner e n H Y way (lacking_under R has f.kind inner n H Y way)

      facet_lacks : lacking R has e (node_before (node_view node) no_nodes) n H X way ≡ facet_wanted (R.count_on H X == 0) f at_it
      facet_lacks = ap (λ ns. lacking R has e ns n H X way) (facet_is node buckets no_nodes) ∙ append-nil (facet_wanted (R.count_on H X == 0) f at_it)

      -- at a facet that is not printed nothing
      pub left_out : (R.count_on H X == 0) ≡ true → is_empty f.change.exclude ≡ true → lacking R has e (node_before (node_view node) no_nodes) n H X way ≡ []
      left_out none no_tag = facet_lacks ∙ ap₂ (λ a b. cond (a && b) [] at_it) none no_tag

      shown : ((R.count_on H X == 0) && is_empty f.change.exclude) ≡ false → lacking R has e (node_before (node_view node) no_nodes) n H X way ≡ at_it
      shown is = facet_lacks ∙ ap (λ b. cond b [] at_it) is

      -- at a terms facet of the depth its own values
      pub values_here : (t : _) → kind_of node ≡ k.Terms t → e ≡ 0 → ((R.count_on H X == 0) && is_empty f.change.exclude) ≡ false
          → lacking R has e (node_before (node_view node) no_nodes) n H X way ≡ cond (asks_again (terms_view t) inner) (lacking_values R has (terms_view t) inner n H Y way) []
      values_here t is none printed = shown printed ∙ ap₂ (λ kind d. lacking_at R has (kind_view kind) inner d n H Y way (lacking_under R has (kind_view (kind_of node)) inner n H Y way)) is none

      -- at another one what lacks under its buckets
      pub values_under : (t : _) (d : ℕ) → kind_of node ≡ k.Terms t → e ≡ suc d → ((R.count_on H X == 0) && is_empty f.change.exclude) ≡ false
          → lacking R has e (node_before (node_view node) no_nodes) n H X way ≡ lacking_under R has f.kind inner n H Y way d
      values_under t d is some printed = shown printed ∙ ap₂ (λ kind d. lacking_at R has (kind_view kind) inner d n H Y way (lacking_under R has (kind_view (kind_of node)) inner n H Y way)) is some

      -- at a facet of another kind too
      pub others_under : ((s : _) → kind_of node ≡ k.Stat s → ⊥) → ((t : _) → kind_of node ≡ k.Terms t → ⊥) → ((R.count_on H X == 0) && is_empty f.change.exclude) ≡ false
          → lacking R has e (node_before (node_view node) no_nodes) n H X way ≡ lacking_under R has f.kind inner n H Y way e
      others_under no_statistic no_terms printed = shown printed ∙ go (kind_of node) no_statistic no_terms
        where
          go : (kind : CodeKind) → ((s : _) → kind ≡ k.Stat s → ⊥) → ((t : _) → kind ≡ k.Terms t → ⊥)
              → lacking_at R has (kind_view kind) inner e n H Y way (lacking_under R has f.kind inner n H Y way) ≡ lacking_under R has f.kind inner n H Y way e
          go (k.Stat s) no_s no_t = absurd (no_s s refl)
          go (k.Terms t) no_s no_t = absurd (no_t t refl)
          go (k.Range r) no_s no_t = refl
          go (k.DateRange r) no_s no_t = refl
          go (k.Query q) no_s no_t = refl

    -- at a node that is not printed nothing
    pub not_printed : (node : Node) → (R.count_on H X == 0) ≡ true → is_empty (facet_view node).change.exclude ≡ true → lacking R has e (node_before (node_view node) no_nodes) n H X way ≡ []
    not_printed node none no_tag = go (kind_of node) refl
      where
        go : (kind : CodeKind) → kind_of node ≡ kind → lacking R has e (node_before (node_view node) no_nodes) n H X way ≡ []
        go (k.Stat s) is = statistic_lacks node s is
        go (k.Terms t) is = left_out node (ap has_buckets is) none no_tag
        go (k.Range r) is = left_out node (ap has_buckets is) none no_tag
        go (k.DateRange r) is = left_out node (ap has_buckets is) none no_tag
        go (k.Query q) is = left_out node (ap has_buckets is) none no_tag
