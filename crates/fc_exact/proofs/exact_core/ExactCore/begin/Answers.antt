use Rattle.std.proofs.Common.{ap, arith, Some, length}
use Rattle.std.specs.Prelude.{option_map}
use Rattle.std.proofs.lemmas.List.{length-map}
use Rattle.std.proofs.lemmas.List.FromFn.{length-range_with_len}
use Rattle.fc_spec.specs.messages.TopRounds.{exact_first}
use Rattle.fc_spec.specs.words.Lists.{numbers_below}
use Rattle.fc_exact.specs.View.{ask_view}
use Rattle.fc_exact.proofs.exact_core.ExactCore.begin.Goals as goal

pub invariant_of-result-clause-some : goal.invariant_of-result-clause-some
invariant_of-result-clause-some c =
    omega (arith, ap length c.in_ok-first_asks.ensures, length-map c.in_ok-first_asks.field-0.items (option_map ask_view), length-map (numbers_below c.args.shards) (λ i. Some exact_first), length-range_with_len 0 c.args.shards, c.requires.some)

pub invariant_of-result-clause-few : goal.invariant_of-result-clause-few
invariant_of-result-clause-few c =
    omega (arith, ap length c.in_ok-first_asks.ensures, length-map c.in_ok-first_asks.field-0.items (option_map ask_view), length-map (numbers_below c.args.shards) (λ i. Some exact_first), length-range_with_len 0 c.args.shards, c.requires.few)
