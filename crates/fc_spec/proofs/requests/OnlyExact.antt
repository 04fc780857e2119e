-- Of the exact facets of a valid request, with nothing nested in them, a search can be made.
use Rattle.std.proofs.Common.{◌≡◌, ◌≤◌, Bool, true, false, cond, refl, sym, subst, IsTrue, arith}
use Rattle.std.proofs.lemmas.Bool.{and_parts}
use Rattle.fc_spec.specs.documents.Schema.{Schema}
use Rattle.fc_spec.specs.requests.Request.{Terms, Kind, terms, range, date_range, query, Nodes, no_nodes, statistic, facet}
use Rattle.fc_spec.specs.requests.Shape.{has_limit, is_exact, outermost_exact}
use Rattle.fc_spec.specs.requests.ValidRequests.{NamesStatistic, IsValidTerms, IsValidKind, AreValidNodes, node_depth}
use Rattle.fc_spec.specs.replies.Tops.{exact_nodes}
use Rattle.fc_spec.specs.laws.RequestLaws.{OnlyExactAreSearchable}

-- sorted by count it names no statistic
terms_alone : (s : Schema) (inner : Nodes) (t : Terms) → IsValidTerms s inner t → t.exact ≡ true → IsValidTerms s no_nodes t
terms_alone s inner t h e = record {
  field = h.field;
  offset = h.offset;
  limit = h.limit;
  sort = subst (λ o. NamesStatistic no_nodes o.by) (sym (h.exact e).1) tt;
  mincount = h.mincount;
  few = h.few;
  prefix = h.prefix;
  overrequest = h.overrequest;
  overrefine = h.overrefine;
  unlimited = h.unlimited;
  exact = h.exact;
}

kind_alone : (s : Schema) (inner : Nodes) (kind : Kind) → IsValidKind s inner kind → is_exact kind ≡ true → IsValidKind s no_nodes kind
kind_alone s inner (terms t) h e = terms_alone s inner t h (and_parts t.exact (has_limit t) e).0
kind_alone s inner (range g) h e = h
kind_alone s inner (date_range g) h e = h
kind_alone s inner (query q) h e = h

-- what is shown of nodes
abbrev AreAlone : Schema → Nodes → Nodes → Type 0
AreAlone s nodes others = AreValidNodes s true others × IsTrue (outermost_exact others) × (node_depth others ≤ node_depth nodes)

nodes_alone : (s : Schema) (nodes : Nodes) → AreValidNodes s true nodes → AreAlone s nodes (exact_nodes nodes)
nodes_alone s no_nodes h = (tt, cc, omega arith)
nodes_alone s (statistic name st rest) h = let later = nodes_alone s rest h.1 in (later.0, later.1, (let d : node_depth (exact_nodes rest) ≤ node_depth rest = later.2 in omega arith))
nodes_alone s (facet f inner rest) h = go (is_exact f.kind) refl (nodes_alone s rest h.2)
  where
    go : (b : Bool) → is_exact f.kind ≡ b → AreAlone s rest (exact_nodes rest) → AreAlone s (facet f inner rest) (cond b (facet f no_nodes (exact_nodes rest)) (exact_nodes rest))
    go true e later = ((record { change = (h.0).change; kind = kind_alone s inner f.kind (h.0).kind e }, tt, later.0), later.1, (let d : node_depth (exact_nodes rest) ≤ node_depth rest = later.2 in omega arith))
    go false e later = (later.0, later.1, (let d : node_depth (exact_nodes rest) ≤ node_depth rest = later.2 in omega arith))

pub only_exact_are_searchable : OnlyExactAreSearchable
only_exact_are_searchable s r h =
    let alone = nodes_alone s r.nodes h.nodes in
    record { query = h.query; filters = h.filters; nodes = alone.0; exact = alone.1; depth = (let d = h.depth in let e : node_depth (exact_nodes r.nodes) ≤ node_depth r.nodes = alone.2 in omega arith) }
