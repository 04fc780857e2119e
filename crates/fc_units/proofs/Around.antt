-- The facets around the bucket that is open.
use Rattle.std.proofs.Common.{◌≡◌, ℕ, suc, ◌+◌, ◌<◌, List, ◌∷◌, All, Bool, true, if◌then◌else◌, drop, drop-cons, length, get_or, sym, ◌∙◌, ap, subst, add-one}
use Rattle.fc_spec.specs.requests.DomainSets.{filtered_set, moved_set}
use Rattle.fc_spec.specs.requests.Request.{Facet}
use Rattle.fc_spec.specs.words.Lists.{is_empty}
use Rattle.fc_partial.specs.View.{key_view}
use Rattle.fc_answers.specs.SetAnswer.{Piece, Scope, base_in}
use Rattle.fc_jobs.specs.Scopes.{KeyFits}
use Rattle.fc_jobs.specs.Walked.{domain_set}
use Rattle.fc_levels.specs.Levels.{open_scope, scope_in}
use Rattle.fc_levels.specs.declared.level.Level.{Level}

-- the scope from a level on
pub scope_next : (o : Scope) (levels : List Level) (i : ℕ) (l : Level) → i < length levels → l ≡ get_or levels i l → scope_in o (drop i levels) ≡ scope_in (open_scope o l) (drop (i + 1) levels)
scope_next o levels i l within is = ap (scope_in o) (drop-cons levels i l within ∙ ap (λ x. x ∷ drop (suc i) levels) (sym is) ∙ ap (λ j. l ∷ drop j levels) (sym (add-one i)))

-- a level fits as all of them do
pub level_fits : (texts : List Bool) (levels : List Level) (i : ℕ) (l : Level) → i < length levels → l ≡ get_or levels i l → All (λ (x : Level). KeyFits texts x.node.now (key_view x.key)) levels → KeyFits texts l.node.now (key_view l.key)
level_fits texts levels i l within is all = subst (λ (x : Level). KeyFits texts x.node.now (key_view x.key)) (sym is) (all i l within)

-- the domain of a facet that excludes no tag is the same in each scope
pub domain_alone : (o other : Scope) (p : Piece) (f : Facet) (set : List Bool) → is_empty f.change.exclude ≡ true → domain_set o p f set ≡ domain_set other p f set
domain_alone o other p f set none =
    let made : Scope → Bool → List Bool = λ q b. filtered_set f.change.filters p.blocks (moved_set f.change.block p.blocks (if b then set else base_in q f.change.exclude p)) in
    ap (made o) none ∙ sym (ap (made other) none)
