-- What the words of the command ask for.
use Rattle.std.specs.Prelude.{ℕ, List, Bool, not, ◌&&◌, Option, Some, None, codes, option_and_then, unwrap_or, if◌then◌else◌}
use Rattle.std.specs.Str.Parse.{digits_value, without_leading_plus}
use Rattle.clap.specs.Walk.{Row, Rule, one_of}
use Rattle.clap.specs.Simple.{App, new_app, new_rule, with_rule, matches_of}
use Rattle.clap.specs.ValueTests.{is_unsigned_in}
use Rattle.clap.specs.Faults.{fault_of}
use Rattle.clap.specs.declared.builder.value_parser.ValueParser.TheVariants as parser
use Rattle.fc_spec.specs.documents.Val.{Text}
use Rattle.fc_spec.specs.words.Lists.{is_empty}

-- what the words ask for: how many workers, and a demo of so many documents
pub record Asked : Type 0 where
  pub workers : ℕ
  pub demo : Option ℕ

-- an option of this name that takes one whole number from low to high
abbrev pub number_rule : Text → ℕ → ℕ → Rule
number_rule name low high = record (new_rule name) { long = Some name; parser = Some (parser.Unsigned low high) }

-- the command: its options, of which each may stand once
abbrev pub facets_app : App
facets_app = with_rule (with_rule (new_app (codes "facets")) (number_rule (codes "workers") 1 64)) (number_rule (codes "demo") 0 200_000)

-- the words are taken: there are some, and clap's rule finds no fault in them
abbrev pub takes : List Text → Bool
takes words = not (is_empty words) && is_empty (fault_of facets_app words)

-- the number that a text says, where it is one from low to high, as each text is in words that are taken
abbrev pub number_in : ℕ → ℕ → Text → Option ℕ
number_in low high text = if is_unsigned_in low high text then Some (digits_value 10 (without_leading_plus text)) else None

-- what the options that clap finds ask for: one worker where none is named
abbrev pub asked_by : List Row → Asked
asked_by rows = record {
  workers = unwrap_or (option_and_then (number_in 1 64) (one_of (codes "workers") rows)) 1;
  demo = option_and_then (number_in 0 200_000) (one_of (codes "demo") rows);
}

-- what the words ask for, where they are taken
abbrev pub options_of : List Text → Option Asked
options_of words = if takes words then Some (asked_by (matches_of facets_app words)) else None
