use Rattle.std.proofs.Common.{◌≡◌, ◌++◌, length, string_bytes, ◌&&◌}
use Rattle.std.specs.List.{list_all, take_while}
use Rattle.fc_spec.specs.queries.QueryCharacters.{behind, is_bare, text_of}
use Rattle.fc_query.specs.View.{part_test}
use Rattle.fc_query.proofs.lex.run_of.Given as goal

abbrev pub invariant-loop-first : goal.invariant-loop-first
invariant-loop-first l = record {
  text : string_bytes l.text ++ text_of (take_while (part_test l.part) l.cursor) ≡ text_of (take_while (part_test l.part) l.fn.cursor);
  plain : (l.plain && list_all is_bare (take_while (part_test l.part) l.cursor)) ≡ list_all is_bare (take_while (part_test l.part) l.fn.cursor);
  left : behind (part_test l.part) l.cursor ≡ behind (part_test l.part) l.fn.cursor;
}

abbrev pub decreases-loop-first : goal.decreases-loop-first
decreases-loop-first l = length l.cursor
