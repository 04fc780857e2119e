use Rattle.std.proofs.Common.{arith, ◌∙◌, ap, ℕ, ◌≤◌, Result}
use Rattle.std.specs.Prelude.{option_and_then}
use Rattle.std.specs.Str.Parse.{ParsesUnsigned, ExplainsUnsignedError, HasUnsignedDigitsIfOk}
use Rattle.std.specs.declared.num.ParseIntError.{ParseIntError}
use Rattle.clap.specs.Words.{found_of}
use Rattle.clap.proofs.WalkLemmas.{one_text-rows}
use Rattle.fc_spec.specs.documents.Val.{Text}
use Rattle.fc_words.specs.Words.{number_in}
use Rattle.fc_words.proofs.Numbers.{unread, beyond, within}
use Rattle.fc_words.proofs.words.number.Goals as goal
use Rattle.fc_words.proofs.words.number.Goals.{then-given-low-via-then-given-low, then-given-low-via-else-given-low+then-given-high}

-- what the read of a text as a `u64` gives
abbrev Gives : Text → Result ℕ ParseIntError → Type 0
Gives t r = ParsesUnsigned 64 10 t r × ExplainsUnsignedError 10 t r × HasUnsignedDigitsIfOk t r

only : (t : Text) (r : Result ℕ ParseIntError) → Gives t r → ParsesUnsigned 64 10 t r
only t r gives = gives.0

pub returns-in_err-given-clause-given : goal.returns-in_err-given-clause-given
returns-in_err-given-clause-given c =
    c.from_residual.ensures
    ∙ unread Gives only c.args.low c.args.high _ (c.in_err-given.ensures.none, c.in_err-given.ensures.value)
    ∙ ap (option_and_then (number_in c.args.low c.args.high)) (one_text-rows (found_of c.args.matches.now) c.args.name.now)

pub returns-then-given-low-clause-given : goal.returns-then-given-low-clause-given
returns-then-given-low-clause-given c =
    let out : c.args.low ≤ c.in_ok-given.given → c.in_ok-given.given ≤ c.args.high → ⊥ = elim c.then-given-low.branch [
      | then-given-low-via-then-given-low w ↦ λ least most. omega arith
      | then-given-low-via-else-given-low+then-given-high w ↦ λ least most. omega arith
    ] in
    beyond Gives only c.args.low c.args.high c.in_ok-given.given _ (c.in_ok-given.ensures.none, c.in_ok-given.ensures.value) out
    ∙ ap (option_and_then (number_in c.args.low c.args.high)) (one_text-rows (found_of c.args.matches.now) c.args.name.now)

pub returns-clause-given : goal.returns-clause-given
returns-clause-given c =
    within Gives only c.args.low c.args.high c.in_ok-given.given _ (c.in_ok-given.ensures.none, c.in_ok-given.ensures.value) (omega arith) (omega arith)
    ∙ ap (option_and_then (number_in c.args.low c.args.high)) (one_text-rows (found_of c.args.matches.now) c.args.name.now)
