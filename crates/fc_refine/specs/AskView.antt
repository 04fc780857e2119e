-- What asks stand for in the definitions.
use Rattle.std.specs.Prelude.{List, map}
use Rattle.std.specs.Arc.{arc_value}
use Rattle.fc_spec.specs.messages.Message as definition
use Rattle.fc_partial.specs.View.{key_view}
use Rattle.fc_refine.specs.declared.ask.Ask.{Ask}
use Rattle.fc_refine.specs.declared.ask.Ask.TheVariants.{First, More}
use Rattle.fc_refine.specs.declared.ask.Step.{Step}
use Rattle.fc_refine.specs.declared.ask.Want.{Want}

abbrev pub step_view : Step → definition.Step
step_view s = record { node = s.node; key = key_view s.key }

abbrev pub way_view : List Step → definition.Way
way_view steps = map step_view steps

abbrev pub want_view : Want → definition.Want
want_view w = record { path = way_view (arc_value w.path).items; node = w.node; key = key_view w.key }

abbrev pub wants_view : List Want → List definition.Want
wants_view ws = map want_view ws

abbrev pub ask_view : Ask → definition.Ask
ask_view First = definition.first
ask_view (More ws) = definition.more (wants_view (arc_value ws).items)
