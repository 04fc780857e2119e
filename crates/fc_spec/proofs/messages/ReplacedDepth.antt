-- With query facets in the place of exact ones, terms facets nest no deeper.
use Rattle.std.proofs.Common.{◌≡◌, ◌+◌, ◌≤◌, max, List, [], ◌∷◌, Bool, true, false, cond, refl, sym, subst, arith}
use Rattle.fc_spec.specs.documents.Val.{Val}
use Rattle.fc_spec.specs.requests.Request.{Terms, Kind, terms, range, date_range, query, Facet, Nodes, no_nodes, statistic, facet}
use Rattle.fc_spec.specs.requests.Shape.{is_exact}
use Rattle.fc_spec.specs.requests.Buckets.{Key}
use Rattle.fc_spec.specs.replies.Tops.{key_nodes, top_keys, first_list, lists_after, replaced_facet, replaced_nodes}
use Rattle.fc_spec.specs.messages.Lacks.{own_depth, terms_depth}

keys_depth : (f : Facet) (t : Terms) (inner : Nodes) (ks : List Key) (more : Nodes) → terms_depth (key_nodes f t inner ks more) ≤ max (terms_depth inner) (terms_depth more)
keys_depth f t inner [] more = omega arith
keys_depth f t inner (k ∷ ks) more = let rest = keys_depth f t inner ks more in omega arith

facet_depth : (f : Facet) (kind : Kind) (inner : Nodes) (vs : List Val) (more : Nodes) → f.kind ≡ kind → terms_depth (replaced_facet kind f inner vs more) ≤ max (own_depth kind + terms_depth inner) (terms_depth more)
facet_depth f (terms t) inner vs more e = go (is_exact (terms t))
  where
    go : (b : Bool) → terms_depth (cond b (key_nodes f t inner (top_keys t vs) more) (facet f inner more)) ≤ max (1 + terms_depth inner) (terms_depth more)
    go true = let keys = keys_depth f t inner (top_keys t vs) more in omega arith
    go false = subst (λ k. max (own_depth k + terms_depth inner) (terms_depth more) ≤ max (1 + terms_depth inner) (terms_depth more)) (sym e) (omega arith)
facet_depth f (range g) inner vs more e = subst (λ k. max (own_depth k + terms_depth inner) (terms_depth more) ≤ max (0 + terms_depth inner) (terms_depth more)) (sym e) (omega arith)
facet_depth f (date_range g) inner vs more e = subst (λ k. max (own_depth k + terms_depth inner) (terms_depth more) ≤ max (0 + terms_depth inner) (terms_depth more)) (sym e) (omega arith)
facet_depth f (query q) inner vs more e = subst (λ k. max (own_depth k + terms_depth inner) (terms_depth more) ≤ max (0 + terms_depth inner) (terms_depth more)) (sym e) (omega arith)

pub replaced_depth : (nodes : Nodes) (vss : List (List Val)) → terms_depth (replaced_nodes nodes vss) ≤ terms_depth nodes
replaced_depth no_nodes vss = omega arith
replaced_depth (statistic name s rest) vss = replaced_depth rest vss
replaced_depth (facet f inner rest) vss =
    let later = replaced_depth rest (lists_after (is_exact f.kind) vss) in
    let here = facet_depth f f.kind inner (first_list vss) (replaced_nodes rest (lists_after (is_exact f.kind) vss)) refl in
    omega arith
