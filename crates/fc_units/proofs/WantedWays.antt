-- The domain of a wanted bucket's facet.
use Rattle.std.proofs.Common.{◌≡◌, ℕ, ◌<◌, List, [], ◌∷◌, ◌++◌, length, get_or, Bool, IsTrue, refl, sym, ◌∙◌, ap, subst}
use Rattle.std.proofs.lemmas.Bool.{and_from}
use Rattle.std.specs.Arc.{arc_value}
use Rattle.std.specs.declared.alloc.Global.{Global}
use Rattle.std.specs.declared.sync.Arc.{Arc}
use Rattle.std.specs.declared.vec.Vec.{Vec}
use Rattle.fc_spec.specs.documents.Live.{HasWholeBlocks}
use Rattle.fc_spec.specs.documents.Totals.{document_total}
use Rattle.fc_spec.specs.laws.LacksLaws.{has_key, names_keys}
use Rattle.fc_spec.specs.messages.Message.{Way}
use Rattle.fc_spec.specs.messages.Target.{facet_at, nodes_in}
use Rattle.fc_spec.specs.requests.Request.{Facet, Nodes, Request}
use Rattle.fc_spec.specs.requests.Paths.{at_root}
use Rattle.fc_answers.specs.SetAnswer.{Piece, base_of, scope_on}
use Rattle.fc_answers.proofs.LiveSets.{base_live}
use Rattle.fc_refine.specs.AskView.{ask_view, way_view}
use Rattle.fc_refine.specs.declared.ask.Ask.{Ask}
use Rattle.fc_refine.specs.declared.ask.Ask.TheVariants.{First, More}
use Rattle.fc_refine.specs.declared.ask.Step.{Step}
use Rattle.fc_refine.specs.declared.ask.Want.{Want}
use Rattle.fc_jobs.specs.Walked.{domain_set, scope_along, walked}
use Rattle.fc_refine.specs.Named.{NamesKeys}
use Rattle.fc_units.specs.Asked.{asked_count, top_scope, top_set}
use Rattle.fc_units.proofs.AskedNodes.{named_at, path_is, split_named, within_more}

-- the first steps of a way that names keys do
pub named_front : (nodes : Nodes) (way more : Way) → IsTrue (names_keys nodes (way ++ more)) → IsTrue (names_keys nodes way)
named_front nodes [] more named = refl
named_front nodes (step ∷ way) more named =
    let both = split_named nodes step (way ++ more) named in
    and_from (has_key (facet_at step.node nodes) step.key) (names_keys (nodes_in (facet_at step.node nodes)) way) both.0 (named_front (nodes_in (facet_at step.node nodes)) way more both.1)

pub base_long : (r : Request) (p : Piece) (base : List Bool) → HasWholeBlocks p.blocks p.live → base ≡ base_of r [] p → length base ≡ document_total p.blocks
base_long r p base whole is = ap length is ∙ (base_live r [] p whole).count

-- of the root it is the base
pub first_set : (r : Request) (ask : Ask) (number : ℕ) (f : Facet) (p : Piece) (base docs : List Bool) → ask ≡ First → base ≡ base_of r [] p → docs ≡ base → docs ≡ top_set r (ask_view ask) number f p
first_set r ask number f p base docs is base_is same = same ∙ base_is ∙ sym (ap (λ a. top_set r (ask_view a) number f p) is)

-- of a bucket that is asked for it is the domain where the way to it leads
module _ (r : Request) (ask : Ask) (wants : Arc (Vec Want Global) Global) (number : ℕ) (is : ask ≡ More wants) (h : number < asked_count (ask_view ask)) (w : Want) (there : w ≡ get_or (arc_value wants).items number w) (path : List Step) (same : path ≡ (arc_value w.path).items) where
  pub want_named : NamesKeys r.nodes (ask_view ask) → IsTrue (names_keys r.nodes (way_view path))
  want_named names =
      subst (λ ss. IsTrue (names_keys r.nodes (way_view ss))) (sym same)
      (named_front r.nodes (way_view (arc_value w.path).items) _ (named_at r.nodes (arc_value wants).items number w (subst (λ a. NamesKeys r.nodes (ask_view a)) is names) (within_more ask wants number is h) there))

  -- its scope is that of the way
  pub want_scope : scope_along (scope_on r at_root) r.nodes (way_view path) ≡ top_scope r (ask_view ask) number
  want_scope =
      ap (λ ss. scope_along (scope_on r at_root) r.nodes (way_view ss)) same
      ∙ ap (scope_along (scope_on r at_root) r.nodes) (sym (path_is (arc_value wants).items number w (within_more ask wants number is h) there))
      ∙ sym (ap (λ a. top_scope r (ask_view a) number) is)

  pub want_set : (f : Facet) (p : Piece) (base docs : List Bool) → base ≡ base_of r [] p → docs ≡ domain_set (scope_along (scope_on r at_root) r.nodes (way_view path)) p f (walked (scope_on r at_root) p r.nodes base (way_view path)) → docs ≡ top_set r (ask_view ask) number f p
  want_set f p base docs base_is docs_are =
      docs_are ∙ (λ i. domain_set (scope_along (scope_on r at_root) r.nodes (way_view (same i))) p f (walked (scope_on r at_root) p r.nodes (base_is i) (way_view (same i))))
      ∙ ap (λ way. domain_set (scope_along (scope_on r at_root) r.nodes way) p f (walked (scope_on r at_root) p r.nodes (base_of r [] p) way)) (sym (path_is (arc_value wants).items number w (within_more ask wants number is h) there))
      ∙ sym (ap (λ a. top_set r (ask_view a) number f p) is)
