-- What is booked, piece by piece.
use Rattle.std.proofs.Common.{◌≡◌, ℕ, suc, ◌+◌, List, [], ◌∷◌, ◌++◌, length, Option, None, Some, Ok, Err, refl, sym, ◌∙◌, ap, append_assoc, add-zero, arith}
use Rattle.std.specs.Prelude.{option_map}
use Rattle.std.proofs.lemmas.List.{length-map, map-append}
use Rattle.fc_spec.specs.documents.Document.{Batch}
use Rattle.fc_spec.specs.documents.Val.{Text}
use Rattle.fc_spec.specs.messages.Trace.{Sent}
use Rattle.fc_spec.specs.scripts.AskedScripts.{Asked}
use Rattle.fc_spec.specs.scripts.Booked.{Books, book_all, book_if}
use Rattle.fc_spec.specs.scripts.Outputs.{Replies}
use Rattle.fc_spec.specs.scripts.Phases.{Search}
use Rattle.fc_spec.specs.scripts.SearchLines.{least_after, SearchLine, ArePhaseLines, IsLineOver, sent_for, text_of}

-- ---- lines, and more lines behind them

pub text_of-append : (ls more : List SearchLine) → text_of (ls ++ more) ≡ text_of ls ++ text_of more
text_of-append [] more = refl
text_of-append (l ∷ ls) more = ap (λ t. l.text ++ t) (text_of-append ls more) ∙ sym (append_assoc l.text (text_of ls) (text_of more))

pub book_all-append : (k : ℕ) (os more : List (Option (List Sent))) (m : Books) → book_all k (os ++ more) m ≡ book_all (k + length os) more (book_all k os m)
book_all-append k [] more m = ap (λ n. book_all n more m) (sym (add-zero k))
book_all-append k (o ∷ os) more m =
    book_all-append (suc k) os more (book_if k o m) ∙ ap (λ n. book_all n more (book_all (suc k) os (book_if k o m))) (moved k (length os))
  where
    moved : (j n : ℕ) → suc j + n ≡ j + suc n
    moved j n = omega arith

-- what is booked of lines, and then of more under the numbers behind theirs, is what is booked of all of them
pub booked_more : (first : ℕ) (ls more : List SearchLine) (before between after : Option Books) → first ≡ length ls → between ≡ option_map (book_all 0 (sent_for ls)) before
    → after ≡ option_map (book_all first (sent_for more)) between → after ≡ option_map (book_all 0 (sent_for (ls ++ more))) before
booked_more first ls more before between after count so_far then_ =
    then_ ∙ ap (option_map (book_all first (sent_for more))) so_far ∙ go before
  where
    step : (m : Books) → book_all first (sent_for more) (book_all 0 (sent_for ls) m) ≡ book_all 0 (sent_for (ls ++ more)) m
    step m =
        ap (λ n. book_all n (sent_for more) (book_all 0 (sent_for ls) m)) (count ∙ sym (length-map ls (λ l. l.sent)) ∙ numbered (length (sent_for ls)))
        ∙ sym (book_all-append 0 (sent_for ls) (sent_for more) m)
        ∙ ap (λ os. book_all 0 os m) (sym (map-append (λ (l : SearchLine). l.sent) ls more))
      where
        numbered : (n : ℕ) → n ≡ 0 + n
        numbered n = omega arith

    go : (o : Option Books) → option_map (book_all first (sent_for more)) (option_map (book_all 0 (sent_for ls)) o) ≡ option_map (book_all 0 (sent_for (ls ++ more))) o
    go None = refl
    go (Some m) = ap Some (step m)

-- nothing is booked of no line
pub booked_none : (before : Option Books) → before ≡ option_map (book_all 0 []) before
booked_none None = refl
booked_none (Some m) = refl

-- ---- a phase

module _ (reply : Replies) (shards : List (List Batch)) (high : List ℕ) where
  line_counts : (low : List ℕ) (session : Text) (a : Asked) (Then : List ℕ → Type 0) (Same : Type 0) (l : SearchLine) → ((g : List ℕ) → Then g → Same) → IsLineOver reply shards low high session a Then l → Same
  line_counts low session (Ok r) Then Same l next (g, between, text, sent, rest) = next g rest
  line_counts low session (Err f) Then Same l next (text, sent, rest) = next low rest

  -- it has a line for each of its searches
  pub line_count : (least : Text → List ℕ) (qs : List (Search Asked)) (ls : List SearchLine) → ArePhaseLines reply shards high least qs ls → length ls ≡ length qs
  line_count least [] [] are = refl
  line_count least [] (l ∷ ls) are = absurd are
  line_count least (q ∷ qs) [] are = absurd are
  line_count least (q ∷ qs) (l ∷ ls) are =
      ap (λ n. suc n)
      (line_counts (least q.session) q.session q.request (λ g. ArePhaseLines reply shards high (least_after least q.session g) qs ls) (length ls ≡ length qs) l
      (λ g rest. line_count (least_after least q.session g) qs ls rest)
      are)
