-- Where ways lead, segment by segment.
use Rattle.std.proofs.Common.{◌≡◌, suc, List, [], ◌∷◌, length, replicate, Bool, false, Option, None, Some, refl, sym, ◌∙◌, ap, arith}
use Rattle.std.proofs.lemmas.List.{length-map}
use Rattle.fc_spec.specs.documents.Document.{Block}
use Rattle.fc_spec.specs.documents.Sets.{each_set}
use Rattle.fc_spec.specs.documents.Totals.{document_total}
use Rattle.fc_spec.specs.messages.Message.{Way}
use Rattle.fc_spec.specs.messages.Target.{facet_at, nodes_in}
use Rattle.fc_spec.specs.requests.Buckets.{Key}
use Rattle.fc_spec.specs.requests.Paths.{Path}
use Rattle.fc_spec.specs.requests.DomainSets.{bucket_set}
use Rattle.fc_spec.specs.requests.Request.{Facet, Nodes, Request}
use Rattle.fc_answers.specs.SetAnswer.{Piece, Pieces, Scope, Sets, Spot, domain_sets, nowhere, scope_of, scope_on, spot_from, spot_in, whole_world}
use Rattle.fc_jobs.specs.Pieces.{each_piece}
use Rattle.fc_jobs.specs.Walked.{WalksBySegment, domain_set, nodes_from, path_along, path_in, scope_along, scope_into, set_in, walked}

-- ---- sets for each segment

-- what is made of a set by the blocks of its segment
each_blocks : (g : List Block → List Bool → List Bool) (f : Piece → List Bool → List Bool) (V : Pieces) (sets : Sets) → each_set g (whole_world V) (each_piece f V sets) ≡ each_piece (λ p set. g p.blocks (f p set)) V sets
each_blocks g f [] sets = refl
each_blocks g f (p ∷ V) [] = refl
each_blocks g f (p ∷ V) (set ∷ sets) = ap (λ l. g p.blocks (f p set) ∷ l) (each_blocks g f V sets)

each_again : (g f : Piece → List Bool → List Bool) (V : Pieces) (sets : Sets) → each_piece g V (each_piece f V sets) ≡ each_piece (λ p set. g p (f p set)) V sets
each_again g f [] sets = refl
each_again g f (p ∷ V) [] = refl
each_again g f (p ∷ V) (set ∷ sets) = ap (λ l. g p (f p set) ∷ l) (each_again g f V sets)

each_same : (V : Pieces) (sets : Sets) → length sets ≡ length V → each_piece (λ p set. set) V sets ≡ sets
each_same [] [] e = refl
each_same [] (set ∷ sets) e = absurd (omega arith)
each_same (p ∷ V) [] e = refl
each_same (p ∷ V) (set ∷ sets) e = ap (λ l. set ∷ l) (each_same V sets (omega arith))

each_count : (f : Piece → List Bool → List Bool) (V : Pieces) (sets : Sets) → length sets ≡ length V → length (each_piece f V sets) ≡ length V
each_count f [] sets e = refl
each_count f (p ∷ V) [] e = absurd (omega arith)
each_count f (p ∷ V) (set ∷ sets) e = ap suc (each_count f V sets (omega arith))

-- ---- one step

-- the domain of a facet is made segment by segment
pub domains_by_segment : (o : Scope) (V : Pieces) (f : Facet) (sets : Sets) → domain_sets o V f sets ≡ each_piece (λ p set. domain_set o p f set) V sets
domains_by_segment o [] f sets = refl
domains_by_segment o (p ∷ V) f [] = refl
domains_by_segment o (p ∷ V) f (set ∷ sets) = ap (λ l. domain_set o p f set ∷ l) (domains_by_segment o V f sets)

no_positions : (V : Pieces) (sets : Sets) → length sets ≡ length V → (nowhere V).sets ≡ each_piece (λ p set. replicate (document_total p.blocks) false) V sets
no_positions [] sets e = refl
no_positions (p ∷ V) [] e = absurd (omega arith)
no_positions (p ∷ V) (set ∷ sets) e = ap (λ l. replicate (document_total p.blocks) false ∷ l) (no_positions V sets (omega arith))

module _ (r : Request) (V : Pieces) where
  step_path : (key : Key) (s : Spot) (o : Option (Facet × Nodes)) → (spot_in r V key s o).path ≡ path_in s.path key o
  step_path key s None = refl
  step_path key s (Some f) = refl

  step_scope : (key : Key) (path : Path) (o : Option (Facet × Nodes)) → scope_on r (path_in path key o) ≡ scope_into (scope_on r path) key o
  step_scope key path None = refl
  step_scope key path (Some f) = refl

  step_nodes : (key : Key) (s : Spot) (o : Option (Facet × Nodes)) → (spot_in r V key s o).nodes ≡ nodes_in o
  step_nodes key s None = refl
  step_nodes key s (Some f) = refl

  step_sets : (key : Key) (s : Spot) (o : Option (Facet × Nodes)) → length s.sets ≡ length V → (spot_in r V key s o).sets ≡ each_piece (λ p set. set_in (scope_of r s) p key set o) V s.sets
  step_sets key s None long = no_positions V s.sets long
  step_sets key s (Some f) long =
      ap (each_set (bucket_set (f.0).kind key) (whole_world V)) (domains_by_segment (scope_of r s) V f.0 s.sets) ∙ each_blocks (bucket_set (f.0).kind key) (λ p set. domain_set (scope_of r s) p f.0 set) V s.sets

  -- ---- all steps

  all_steps : (way : Way) (s : Spot) → length s.sets ≡ length V
      → spot_from r V s way ≡ record { path = path_along s.path s.nodes way; nodes = nodes_from s.nodes way; sets = each_piece (λ p set. walked (scope_of r s) p s.nodes set way) V s.sets }
  all_steps [] s long = λ i. record { path = s.path; nodes = s.nodes; sets = sym (each_same V s.sets long) i }
  all_steps (step ∷ way) s long =
      let o = facet_at step.node s.nodes in
      let next = spot_in r V step.key s o in
      let scope = scope_into (scope_of r s) step.key o in
      let f : Piece → List Bool → List Bool = λ p set. set_in (scope_of r s) p step.key set o in
      let path = step_path step.key s o in
      let nodes = step_nodes step.key s o in
      let sets = step_sets step.key s o long in
      all_steps way next (ap length sets ∙ each_count f V s.sets long)
      ∙ (λ i. record {
        path = path_along (path i) (nodes i) way;
        nodes = nodes_from (nodes i) way;
        sets = each_piece (λ p set. walked (scope_on r (path i)) p (nodes i) set way) V (sets i);
      })
      ∙ (λ i. record {
        path = path_along (path_in s.path step.key o) (nodes_in o) way;
        nodes = nodes_from (nodes_in o) way;
        sets = each_piece (λ p set. walked (step_scope step.key s.path o i) p (nodes_in o) set way) V (each_piece f V s.sets);
      })
      ∙ (λ i. record {
        path = path_along (path_in s.path step.key o) (nodes_in o) way;
        nodes = nodes_from (nodes_in o) way;
        sets = each_again (λ p set. walked scope p (nodes_in o) set way) f V s.sets i;
      })

  scope_all : (way : Way) (path : Path) (nodes : Nodes) → scope_on r (path_along path nodes way) ≡ scope_along (scope_on r path) nodes way
  scope_all [] path nodes = refl
  scope_all (step ∷ way) path nodes =
      let o = facet_at step.node nodes in
      scope_all way (path_in path step.key o) (nodes_in o) ∙ ap (λ scope. scope_along scope (nodes_in o) way) (step_scope step.key path o)

pub by_segment : WalksBySegment
by_segment r V s way are = (all_steps r V way s long, scope_all r V way s.path s.nodes)
  where
    long : length s.sets ≡ length V
    long = sym (length-map s.sets length) ∙ ap length are ∙ length-map (whole_world V) document_total ∙ length-map V (λ (p : Piece). p.blocks)
