-- The lines of searches, as the definitions have them.
use Rattle.std.specs.Prelude.{List, map, Option, option_map, Vec}
use Rattle.std.specs.declared.alloc.Global.{Global}
use Rattle.fc_spec.specs.messages.Trace as trace
use Rattle.fc_spec.specs.scripts.SearchLines as definition
use Rattle.fc_hooks.specs.SentLists.{sent_view}
use Rattle.fc_hooks.specs.declared.round_probe.Sent.{Sent}
use Rattle.fc_work.specs.declared.search_line.SearchLine.{SearchLine}

-- what was sent for a search, if something was
abbrev pub sent_list : Option (Vec Sent Global) → Option (List trace.Sent)
sent_list sent = option_map (λ v. map sent_view v.items) sent

abbrev pub line_view : SearchLine → definition.SearchLine
line_view line = record { text = line.text.items; sent = sent_list line.sent }

abbrev pub line_views : List SearchLine → List definition.SearchLine
line_views lines = map line_view lines
