-- The exact facets, one node after another.
use Rattle.std.proofs.Common.{◌≡◌, ◌∙◌, Bool, true, false, not, ◌&&◌, if◌then◌else◌, refl, ap, sym}
use Rattle.fc_spec.specs.requests.Request.{Nodes, no_nodes}
use Rattle.fc_spec.specs.requests.RequestReading.{of_statistic, of_facet}
use Rattle.fc_spec.specs.requests.Shape as shape
use Rattle.fc_spec.specs.replies.Tops.{exact_nodes}
use Rattle.fc_request.specs.Nested.{with_nested}
use Rattle.fc_request.specs.NodeView.{Part}
use Rattle.fc_request.proofs.Nodes.{before}
use Rattle.fc_replaced.specs.ExactParts.{is_exact}

-- ---- whether one is exact

pub no_exact-before : (p : Part) (rest : Nodes) → shape.no_exact (before p rest) ≡ (not (is_exact p) && shape.no_exact rest)
no_exact-before (name, of_statistic s) rest = refl
no_exact-before (name, of_facet change kind inner) rest = refl

pub first_exact : (p : Part) (rest : Nodes) (whole : Bool) → is_exact p ≡ true → shape.no_exact (before p rest) ≡ whole → true ≡ not whole
first_exact p rest whole is same = ap not (sym (no_exact-before p rest ∙ ap (λ b. not b && shape.no_exact rest) is)) ∙ ap not same

pub first_plain : (p : Part) (rest : Nodes) → is_exact p ≡ false → shape.no_exact (before p rest) ≡ shape.no_exact rest
first_plain p rest is = no_exact-before p rest ∙ ap (λ b. not b && shape.no_exact rest) is

-- ---- the exact ones

pub exact_nodes-before : (p : Part) (rest : Nodes) → exact_nodes (before p rest) ≡ (if is_exact p then before (with_nested p no_nodes) (exact_nodes rest) else exact_nodes rest)
exact_nodes-before (name, of_statistic s) rest = refl
exact_nodes-before (name, of_facet change kind inner) rest = refl

pub exact_kept : (p : Part) (rest : Nodes) → is_exact p ≡ true → exact_nodes (before p rest) ≡ before (with_nested p no_nodes) (exact_nodes rest)
exact_kept p rest is = exact_nodes-before p rest ∙ ap (λ b. if b then before (with_nested p no_nodes) (exact_nodes rest) else exact_nodes rest) is

pub plain_left : (p : Part) (rest : Nodes) → is_exact p ≡ false → exact_nodes (before p rest) ≡ exact_nodes rest
plain_left p rest is = exact_nodes-before p rest ∙ ap (λ b. if b then before (with_nested p no_nodes) (exact_nodes rest) else exact_nodes rest) is
