-- Levels that are closed one after another by a list that is whole.
use Rattle.std.proofs.Common.{◌≡◌, List, [], ◌∷◌, ◌++◌, refl, sym, ap, ◌∙◌, append_assoc, Bor, Some}
use Rattle.std.specs.Prelude.{All}
use Rattle.std.specs.declared.vec.Vec.{Vec}
use Rattle.std.specs.declared.alloc.Global.{Global}
use Rattle.std.proofs.lemmas.List.Elements.{All-same, All-push, All-pop}
use Rattle.fc_spec.specs.documents.Schema.{Schema}
use Rattle.fc_spec.specs.messages.Message.{Partials}
use Rattle.fc_docset.specs.declared.set.DocSet.{DocSet}
use Rattle.fc_partial.specs.BucketView.{node_view}
use Rattle.fc_partial.specs.declared.bucket.PartialNode.{PartialNode}
use Rattle.fc_request.specs.declared.node.Node.{Node}
use Rattle.fc_answers.specs.LiveSets.{AreLive}
use Rattle.fc_answers.specs.SetAnswer.{Pieces, Scope, Sets}
use Rattle.fc_levels.specs.declared.level.Level.{Level}
use Rattle.fc_levels.specs.declared.level.Next.TheVariants.{Job, Whole}
use Rattle.fc_levels.specs.declared.level.Step.TheVariants.{Opened, Closed}
use Rattle.fc_levels.specs.Facets.{nested_view}
use Rattle.fc_levels.specs.Jobs.{opened, openings_of}
use Rattle.fc_levels.specs.Levels.{around, ended_in, ended_inside, open_in, open_scope, open_sets, outermost_domain, plug, row_in, scope_in}
use Rattle.fc_levels.specs.Steps.{Given, IsLevel, IsValidNode, Resumes, StaysValid}
use Rattle.fc_levels.proofs.Stacked.{plug_top, open_top, scope_top, outermost_top, ended_top}

-- a list over a domain, and the levels around it, that come of others: the message and its jobs that have ended are the same
pub record Comes (before : List Level) (start : Sets) (h0 : PartialNode) (now : List Level) (D : Sets) (h : PartialNode) : Type 0 where
  pub plugged : (o : Scope) (V : Pieces) → plug o V now (node_view h) ≡ plug o V before (node_view h0)
  pub ended : (o : Scope) (V : Pieces) → ended_in o V now (node_view h) ++ openings_of (node_view h) ≡ ended_in o V before (node_view h0) ++ openings_of (node_view h0)
  pub domain : outermost_domain D now ≡ outermost_domain start before
  pub kept : (s : Schema) (V : Pieces) → All (IsLevel s V) before → All (IsLevel s V) now
  pub sets : (s : Schema) (V : Pieces) → All (IsLevel s V) before → AreLive V start → AreLive V D

pub comes_same : (before : List Level) (D : Sets) (h : PartialNode) → Comes before D h before D h
comes_same before D h = record { plugged = λ o V. refl; ended = λ o V. refl; domain = refl; kept = λ s V a. a; sets = λ s V a d. d }

module _ (before : List Level) (start : Sets) (h0 : PartialNode) (all : List Level) (D : Sets) (h : PartialNode) (c : Comes before start h0 all D h) (ls : List Level) (l : Level) (e : all ≡ ls ++ l ∷ []) where
  kept_before : (s : Schema) (V : Pieces) → All (IsLevel s V) before → All (IsLevel s V) ls
  kept_before s V a = (All-pop (IsLevel s V) all ls (Some l) e (c.kept s V a)).0

  kept_last : (s : Schema) (V : Pieces) → All (IsLevel s V) before → IsLevel s V l
  kept_last s V a = (All-pop (IsLevel s V) all ls (Some l) e (c.kept s V a)).1

  plugged_last : (o : Scope) (V : Pieces) → plug o V ls (around (scope_in o ls) V l (node_view h)) ≡ plug o V before (node_view h0)
  plugged_last o V = sym (plug_top o V ls l (node_view h)) ∙ ap (λ x. plug o V x (node_view h)) (sym e) ∙ c.plugged o V

  ended_last : (o : Scope) (V : Pieces) → ended_in o V ls (around (scope_in o ls) V l (node_view h)) ++ (opened (around (scope_in o ls) V l (node_view h)) ∷ (ended_inside l ++ openings_of (node_view h))) ≡ ended_in o V before (node_view h0) ++ openings_of (node_view h0)
  ended_last o V =
      sym (append_assoc (ended_in o V ls (around (scope_in o ls) V l (node_view h))) (opened (around (scope_in o ls) V l (node_view h)) ∷ ended_inside l) (openings_of (node_view h)))
      ∙ ap (λ x. x ++ openings_of (node_view h)) (sym (ended_top o V ls l (node_view h)))
      ∙ ap (λ x. ended_in o V x (node_view h) ++ openings_of (node_view h)) (sym e) ∙ c.ended o V

  -- the innermost level is closed
  pub comes_closed : (p : PartialNode) (domain : Vec DocSet Global) → Resumes l h (Closed p domain) → ((s : Schema) (V : Pieces) → IsLevel s V l → StaysValid s V (Closed p domain)) → Comes before start h0 ls domain.items p
  comes_closed p domain went valid = record {
    plugged = λ o V. ap (plug o V ls) (went.0 (scope_in o ls) V) ∙ plugged_last o V;
    ended = λ o V. ap (λ xs. ended_in o V ls (node_view p) ++ (opened (node_view p) ∷ xs)) went.1 ∙ ap (λ ps. ended_in o V ls ps ++ (opened ps ∷ (ended_inside l ++ openings_of (node_view h)))) (went.0 (scope_in o ls) V) ∙ ended_last o V;
    domain = ap (λ d. outermost_domain d ls) went.2 ∙ sym (outermost_top D ls l) ∙ ap (outermost_domain D) (sym e) ∙ c.domain;
    kept = kept_before;
    sets = λ s V a d. valid s V (kept_last s V a);
  }

  -- or opened again
  module _ (new : List Level) (k : Level) (n : Bor Node) (f : new ≡ ls ++ k ∷ []) where
    abbrev first : Scope → Pieces → Partials
    first o V = row_in (open_scope (scope_in o ls) k) V (nested_view n.now) (open_sets V k)

    pub given_opened : Resumes l h (Opened k n) → Given before new start h0 (Job n 0)
    given_opened went = (refl, plugged, ended, domain)
      where
        first_is : (o : Scope) (V : Pieces) → row_in (scope_in o (ls ++ k ∷ [])) V (nested_view n.now) (open_in V [] (ls ++ k ∷ [])) ≡ first o V
        first_is o V = (λ i. row_in (scope_top o ls k i) V (nested_view n.now) (open_top V [] ls k i))

        plugged : (o : Scope) (V : Pieces) → plug o V new (row_in (scope_in o new) V (nested_view n.now) (open_in V [] new)) ≡ plug o V before (node_view h0)
        plugged o V =
            ap (λ x. plug o V x (row_in (scope_in o x) V (nested_view n.now) (open_in V [] x))) f
            ∙ ap (plug o V (ls ++ k ∷ [])) (first_is o V)
            ∙ plug_top o V ls k (first o V) ∙ ap (plug o V ls) (went.0 (scope_in o ls) V) ∙ plugged_last o V

        ended : (o : Scope) (V : Pieces) → ended_in o V new (row_in (scope_in o new) V (nested_view n.now) (open_in V [] new)) ≡ ended_in o V before (node_view h0) ++ openings_of (node_view h0)
        ended o V =
            let outer = scope_in o ls in
            ap (λ x. ended_in o V x (row_in (scope_in o x) V (nested_view n.now) (open_in V [] x))) f
            ∙ ap (ended_in o V (ls ++ k ∷ [])) (first_is o V)
            ∙ ended_top o V ls k (first o V)
            ∙ ap (λ ps. ended_in o V ls ps ++ (opened ps ∷ ended_inside k)) (went.0 outer V)
            ∙ ap (λ xs. ended_in o V ls (around outer V l (node_view h)) ++ (opened (around outer V l (node_view h)) ∷ xs)) went.1
            ∙ ended_last o V

        domain : outermost_domain start new ≡ outermost_domain start before
        domain = ap (outermost_domain start) f ∙ outermost_top start ls k ∙ ap (λ d. outermost_domain d ls) went.2 ∙ sym (outermost_top D ls l) ∙ ap (outermost_domain D) (sym e) ∙ c.domain

    pub kept_opened : ((s : Schema) (V : Pieces) → IsLevel s V l → StaysValid s V (Opened k n)) → (s : Schema) (V : Pieces) → All (IsLevel s V) before → All (IsLevel s V) new
    kept_opened valid s V a = All-same (IsLevel s V) new (ls ++ k ∷ []) f (All-push (IsLevel s V) ls k (kept_before s V a) (valid s V (kept_last s V a)).0)

    pub next_opened : ((s : Schema) (V : Pieces) → IsLevel s V l → StaysValid s V (Opened k n)) → (s : Schema) (V : Pieces) → All (IsLevel s V) before → IsValidNode s n.now
    next_opened valid s V a = (valid s V (kept_last s V a)).1

-- no level is left
pub given_whole : (before : List Level) (start : Sets) (h0 : PartialNode) (all : List Level) (domain : Vec DocSet Global) (h : PartialNode) → Comes before start h0 all domain.items h → all ≡ [] → Given before all start h0 (Whole h domain)
given_whole before start h0 all domain h c e =
    (λ o V. ap (λ x. plug o V x (node_view h)) (sym e) ∙ c.plugged o V, λ o V. ap (λ x. ended_in o V x (node_view h) ++ openings_of (node_view h)) (sym e) ∙ c.ended o V, ap (outermost_domain domain.items) (sym e) ∙ c.domain, e)
