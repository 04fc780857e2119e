-- What is booked of what a run writes.
use Rattle.std.specs.Prelude.{◌≡◌, ℕ, List, Option, None, Some, option_map, Result, OnOk, ⊤}
use Rattle.fc_spec.specs.documents.Val.{Text}
use Rattle.fc_spec.specs.scripts.AskedScripts.{AskedScript}
use Rattle.fc_spec.specs.scripts.Booked.{Books, IsBookedOutput, book_all}
use Rattle.fc_spec.specs.scripts.SearchLines.{SearchLine, sent_for, text_of}
use Rattle.fc_run.specs.declared.stop.Stop.{Stop}

-- the text is lines with P, and where the run goes on what was sent for them is booked, for the first of them under this number
pub record AreBookedLines {A : Type 0} (ended : Result A Stop) (first : ℕ) (before after : Option Books) (P : List SearchLine → Type 0) (t : Text) : Type 0 where
  pub lines : List SearchLine
  pub text : t ≡ text_of lines
  pub are : P lines
  pub booked : OnOk ended (after ≡ option_map (book_all first (sent_for lines)) before)

-- where the book tells what it was told, the text is an output of the script, and its searches are booked
abbrev pub AreBookedIn : (before after : Option Books) → AskedScript → Text → Type 0
AreBookedIn (Some m) (Some n) S t = IsBookedOutput S t m n
AreBookedIn (Some m) None S t = ⊥
AreBookedIn None (Some n) S t = ⊥
AreBookedIn None None S t = ⊤
