-- The innermost of some levels.
use Rattle.std.proofs.Common.{◌≡◌, List, [], ◌∷◌, ◌++◌, refl, sym, ◌∙◌, ap, append_assoc, append-nil}
use Rattle.fc_spec.specs.messages.Message.{Partials}
use Rattle.fc_answers.specs.SetAnswer.{Pieces, Scope, Sets}
use Rattle.fc_levels.specs.declared.level.Level.{Level}
use Rattle.fc_levels.specs.Jobs.{opened}
use Rattle.fc_levels.specs.Levels.{around, ended_in, ended_inside, open_in, open_scope, open_sets, outermost_domain, plug, scope_in}

pub plug_top : (o : Scope) (V : Pieces) (ls : List Level) (l : Level) (ps : Partials) → plug o V (ls ++ l ∷ []) ps ≡ plug o V ls (around (scope_in o ls) V l ps)
plug_top o V [] l ps = refl
plug_top o V (k ∷ ls) l ps = ap (around o V k) (plug_top (open_scope o k) V ls l ps)

pub open_top : (V : Pieces) (D : Sets) (ls : List Level) (l : Level) → open_in V D (ls ++ l ∷ []) ≡ open_sets V l
open_top V D [] l = refl
open_top V D (k ∷ ls) l = open_top V (open_sets V k) ls l

pub scope_top : (o : Scope) (ls : List Level) (l : Level) → scope_in o (ls ++ l ∷ []) ≡ open_scope (scope_in o ls) l
scope_top o [] l = refl
scope_top o (k ∷ ls) l = scope_top (open_scope o k) ls l

pub outermost_top : (D : Sets) (ls : List Level) (l : Level) → outermost_domain D (ls ++ l ∷ []) ≡ outermost_domain l.domain.items ls
outermost_top D [] l = refl
outermost_top D (k ∷ ls) l = refl

pub ended_top : (o : Scope) (V : Pieces) (ls : List Level) (l : Level) (ps : Partials) → ended_in o V (ls ++ l ∷ []) ps ≡ ended_in o V ls (around (scope_in o ls) V l ps) ++ (opened (around (scope_in o ls) V l ps) ∷ ended_inside l)
ended_top o V [] l ps = append-nil (opened (around o V l ps) ∷ ended_inside l)
ended_top o V (k ∷ ls) l ps =
    let in' = open_scope o k in
    let top = around (scope_in in' ls) V l ps in
    ap (λ qs. (opened (around o V k qs) ∷ ended_inside k) ++ ended_in in' V (ls ++ l ∷ []) ps) (plug_top in' V ls l ps)
    ∙ ap (λ xs. (opened (around o V k (plug in' V ls top)) ∷ ended_inside k) ++ xs) (ended_top in' V ls l ps)
    ∙ sym (append_assoc (opened (around o V k (plug in' V ls top)) ∷ ended_inside k) (ended_in in' V ls top) (opened top ∷ ended_inside l))
