use Rattle.std.proofs.Common.{List, ◌∷◌, [], ◌++◌, cond, sym, ◌∙◌, ap}
use Rattle.std.specs.Prelude.{position}
use Rattle.fc_spec.specs.documents.Val.{Text, same_text}
use Rattle.fc_script.proofs.SessionNumbers.{among, not_among, number_of}
use Rattle.fc_script.proofs.gather.session.session_number.Goals as goal

pub returns-in-Some-clause-sessions : goal.returns-in-Some-clause-sessions
returns-in-Some-clause-sessions c =
    let known = c.args.sessions.now.items in
    let found = c.in-Some.ensures ∙ ap (λ (ts : List Text). position (same_text c.args.session) ts) c.deref.ensures.value in
    sym (ap (λ b. cond {A = List Text} b known (known ++ c.args.session ∷ [])) (among c.args.session known c.in-Some.number (sym found)))

pub returns-in-Some-clause-session : goal.returns-in-Some-clause-session
returns-in-Some-clause-session c =
    let found = c.in-Some.ensures ∙ ap (λ (ts : List Text). position (same_text c.args.session) ts) c.deref.ensures.value in
    number_of c.args.session c.args.sessions.now.items c.in-Some.number (sym found)

pub returns-in_ok-push-in-None-clause-sessions : goal.returns-in_ok-push-in-None-clause-sessions
returns-in_ok-push-in-None-clause-sessions c =
    let known = c.args.sessions.now.items in
    let none = c.in-None.ensures ∙ ap (λ (ts : List Text). position (same_text c.args.session) ts) c.deref.ensures.value in
    c.in_ok-push-in-None.ensures.items ∙ sym (ap (λ b. cond {A = List Text} b known (known ++ c.args.session ∷ [])) (not_among c.args.session known (sym none)))
