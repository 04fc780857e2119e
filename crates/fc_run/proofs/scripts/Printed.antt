-- What the searches of a script that was read write, and what is booked of them, is all that is promised.
use Rattle.std.proofs.Common.{◌≡◌, List, Option, None, Some, Ok, Err, IfOk, refl, subst, sym}
use Rattle.std.specs.Prelude.{option_map}
use Rattle.std.proofs.lemmas.List.Elements.{All-weaker}
use Rattle.fc_spec.specs.documents.World.{World}
use Rattle.fc_spec.specs.replies.Replied.{replied}
use Rattle.fc_spec.specs.requests.Request.{Request}
use Rattle.fc_spec.specs.requests.Spread.{IsSpread}
use Rattle.fc_spec.specs.scripts.AskedScripts.{Asked, AskedScript}
use Rattle.fc_spec.specs.scripts.Booked.{Books, IsBookedOutput, book_all}
use Rattle.fc_spec.specs.scripts.Outputs.{Replies, IsOutput, IsOutputBy}
use Rattle.fc_spec.specs.scripts.Phases.{Search, searches}
use Rattle.fc_spec.specs.scripts.ScriptParts.{parts_of}
use Rattle.fc_spec.specs.scripts.ScriptTotals.{script_limits}
use Rattle.fc_spec.specs.scripts.SearchLines.{SearchLine, AreLinesOfParts, sent_for, text_of}
use Rattle.fc_script.specs.PartsView.{parts_view}
use Rattle.fc_script.specs.SoundScripts.{IsSound}
use Rattle.fc_script.specs.declared.script.Script.{Script}
use Rattle.fc_run.specs.Booking.{AreBookedIn}
use Rattle.fc_run.specs.Outcome.{single_without_limits, ArePrinted, IsAnsweredExactly, IsExactReply}
use Rattle.fc_run.specs.RunLaws.{AreRunLaws}
use Rattle.fc_run.proofs.scripts.SameReplies.{same_parts}
use Rattle.fc_run.proofs.scripts.SpreadSearches.{IsSpreadSearch, searches_spread}

module _ (laws : AreRunLaws) where
  exact_reply : (r : Request) (W : World) → IsSpread r → IsExactReply r W (replied r W)
  exact_reply r W spread = record {
    defined = refl;
    numbers = laws.numbers r W spread;
    refined = (laws.refined r W spread).1;
    tops = laws.tops r W spread;
    single_index = λ unlimited. laws.single r W unlimited;
  }

  answered : (q : Search Asked) → IsSpreadSearch q → IsAnsweredExactly replied q
  answered q spread = go q.request spread
    where
      go : (a : Asked) → IfOk a IsSpread → IfOk a (λ r. (W : World) → IsExactReply r W (replied r W))
      go (Ok r) is = λ W. exact_reply r W is
      go (Err f) is = tt

module _ (laws : AreRunLaws) (S : AskedScript) (s : Script) (ls : List SearchLine) (is : parts_of S ≡ parts_view s) (sound : IsSound script_limits s) (lines : AreLinesOfParts replied (parts_view s) ls) where
  -- whatever is booked with it
  output_by : (reply : Replies) → AreLinesOfParts reply (parts_view s) ls → IsOutputBy reply S (text_of ls)
  output_by reply are =
      laws.outputs reply S (text_of ls) none (book_all 0 (sent_for ls) none) (laws.phases reply S ls none (subst (λ parts. AreLinesOfParts reply parts ls) (sym is) are))
    where
      none : Books
      none n = None

  pub printed : ArePrinted S (text_of ls)
  printed = record {
    output = output;
    single_index = output_by single_without_limits (same_parts laws.single s ls lines);
    refined = (replied, All-weaker IsSpreadSearch (IsAnsweredExactly replied) (answered laws) (searches S.lines) (searches_spread laws.by_phase S s is sound), output);
    one_output = λ apart u other. laws.only replied S u (text_of ls) apart other output;
  }
    where
      output : IsOutput S (text_of ls)
      output = output_by replied lines

  booked : (m : Books) → IsBookedOutput S (text_of ls) m (book_all 0 (sent_for ls) m)
  booked m = laws.phases replied S ls m (subst (λ parts. AreLinesOfParts replied parts ls) (sym is) lines)

  pub booked_in : (before after : Option Books) → after ≡ option_map (book_all 0 (sent_for ls)) before → AreBookedIn before after S (text_of ls)
  booked_in (Some m) (Some n) same = let told : n ≡ book_all 0 (sent_for ls) m = cc in subst (λ after. IsBookedOutput S (text_of ls) m after) (sym told) (booked m)
  booked_in (Some m) None same = absurd (cc)
  booked_in None (Some n) same = absurd (cc)
  booked_in None None same = tt
