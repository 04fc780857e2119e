-- What is told of a whole run: for each search that has a reply, how long its messages were.
use Rattle.std.specs.Prelude.{◌≡◌, ℕ, suc, List, [], ◌∷◌, ◌++◌, ◌==◌, IsTrue, Option, None, Some, Result, Ok, Err, if◌then◌else◌}
use Rattle.fc_spec.specs.documents.Val.{Text}
use Rattle.fc_spec.specs.requests.Request.{Request}
use Rattle.fc_spec.specs.requests.RequestFault.{RequestFault}
use Rattle.fc_spec.specs.messages.Trace.{Sent}
use Rattle.fc_spec.specs.messages.WholeTrace.{whole_trace}
use Rattle.fc_spec.specs.replies.Replied.{replied}
use Rattle.fc_spec.specs.scripts.Script.{Script, world}
use Rattle.fc_spec.specs.scripts.Phases.{Search, searches}
use Rattle.fc_spec.specs.scripts.Lines.{reply_line, error_line}
use Rattle.fc_spec.specs.scripts.Outputs.{Replies, Seen, shown_to, legal}

-- a finite map from numbers of searches: which messages each had
abbrev pub Books : Type 0
Books = ℕ → Option (List Sent)

-- the messages of a search put in, in the place of others of its number
abbrev pub book : ℕ → List Sent → Books → Books
book k es m = λ n. if n == k then Some es else m n

-- no search is in it
abbrev pub no_books : Books
no_books n = None

-- what was sent for a search, put in; where its request has a fault, nothing is
abbrev pub book_if : ℕ → Option (List Sent) → Books → Books
book_if k None m = m
book_if k (Some es) m = book k es m

-- what was sent for searches, of which the first has the number k, put in one after another
abbrev pub book_all : (k : ℕ) → List (Option (List Sent)) → Books → Books
book_all k [] m = m
book_all k (o ∷ os) m = book_all (suc k) os (book_if k o m)

-- the text is a reply line of the search over some legal generations, and then what the rest is to be, which has seen them and their trace
abbrev pub IsBookedThen : Replies → Script (Result Request RequestFault) → List Seen → (phase : ℕ) → (session : Text) → Request → (List Seen → List Sent → Text → Type 0) → Text → Type 0
IsBookedThen reply S seen phase session r Rest t =
    (g : List ℕ) × (rest : Text) × IsTrue (legal S (shown_to session seen) phase g) × (t ≡ reply_line (reply r (world S g)) g session ++ rest) × Rest (seen ++ (session, g) ∷ []) (whole_trace r (world S g)) rest

-- the same, or an error line, where the request has a fault; which has no trace
abbrev pub IsBookedLineThen : Replies → Script (Result Request RequestFault) → List Seen → (phase : ℕ) → (session : Text) → Result Request RequestFault → (List Seen → List Sent → Text → Type 0) → (List Seen → Text → Type 0) → Text → Type 0
IsBookedLineThen reply S seen phase session (Ok r) Rest Without t = IsBookedThen reply S seen phase session r Rest t
IsBookedLineThen reply S seen phase session (Err f) Rest Without t = (rest : Text) × (t ≡ error_line f session ++ rest) × Without seen rest

-- the text is the lines of these searches, of which the first has the number k, after lines that showed some numbers; and of each that has a reply the trace over the numbers in its line is put into the map
abbrev pub AreBooked : Replies → Script (Result Request RequestFault) → List Seen → (k : ℕ) → List (Search (Result Request RequestFault)) → Text → (before after : Books) → Type 0
AreBooked reply S seen k [] t before after = (t ≡ []) × (after ≡ before)
AreBooked reply S seen k (q ∷ qs) t before after =
    IsBookedLineThen reply S seen q.phase q.session q.request (λ now es rest. AreBooked reply S now (suc k) qs rest (book k es before) after) (λ now rest. AreBooked reply S now (suc k) qs rest before after) t

-- the text is an output of the script, and its searches are booked
abbrev pub IsBookedOutput : Script (Result Request RequestFault) → Text → (before after : Books) → Type 0
IsBookedOutput S t before after = AreBooked replied S [] 0 (searches S.lines) t before after
