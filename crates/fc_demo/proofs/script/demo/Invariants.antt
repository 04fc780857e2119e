use Rattle.std.proofs.Common.{◌≡◌, ◌++◌}
use Rattle.std.specs.List.{flat_map}
use Rattle.fc_spec.specs.words.Lists.{numbers_below}
use Rattle.fc_demo.specs.Demo.{lines_of, schema_line}
use Rattle.fc_demo.proofs.script.demo.Given as goal

abbrev pub invariant-loop-i : goal.invariant-loop-i
invariant-loop-i l = l.script.items ≡ schema_line ++ flat_map lines_of (numbers_below l.i)
