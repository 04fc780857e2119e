-- Legal generations, and the outputs of a script.
use Rattle.std.specs.Prelude.{◌≡◌, ℕ, List, [], ◌∷◌, ◌++◌, length, map, Bool, ◌&&◌, ◌==◌, nat_le, IsTrue, slice_index, Result, Ok, Err}
use Rattle.std.specs.List.{filter, list_all}
use Rattle.fc_spec.specs.documents.Val.{Text, same_text}
use Rattle.fc_spec.specs.words.Lists.{numbers_below}
use Rattle.fc_spec.specs.documents.World.{World}
use Rattle.fc_spec.specs.requests.Request.{Request}
use Rattle.fc_spec.specs.requests.RequestFault.{RequestFault}
use Rattle.fc_spec.specs.scripts.Script.{Script, commits_up_to, commits_before, world}
use Rattle.fc_spec.specs.scripts.Phases.{Search, searches}
use Rattle.fc_spec.specs.replies.Reply.{Bucket}
use Rattle.fc_spec.specs.replies.Replied.{replied}
use Rattle.fc_spec.specs.scripts.Lines.{reply_line, error_line}

-- the number of a shard is legal: at least its commits in earlier phases and each number that an earlier reply of the session showed, at most its commits up to the end of the phase
abbrev pub legal_on : {A : Type 0} → Script A → List (List ℕ) → (phase : ℕ) → List ℕ → (shard : ℕ) → Bool
legal_on S earlier phase g s =
    nat_le (commits_before S.lines s phase) (slice_index g s) && nat_le (slice_index g s) (commits_up_to S.lines s phase) && list_all (λ e. nat_le (slice_index e s) (slice_index g s)) earlier

-- one number per shard, each of them legal, after the numbers in the earlier reply lines of the session
abbrev pub legal : {A : Type 0} → Script A → List (List ℕ) → (phase : ℕ) → List ℕ → Bool
legal S earlier phase g = (length g == S.schema.shards) && list_all (legal_on S earlier phase g) (numbers_below S.schema.shards)

-- a session and the numbers in a reply line of it
abbrev pub Seen : Type 0
Seen = Text × List ℕ

-- the numbers that a session's lines have shown
abbrev pub shown_to : Text → List Seen → List (List ℕ)
shown_to session seen = map (λ x. x.1) (filter (λ x. same_text session x.0) seen)

-- a reply for each request and world
abbrev pub Replies : Type 0
Replies = Request → World → Bucket

-- the text is a reply line of the search over some legal generations, and then what the rest is to be, which has seen them
abbrev pub IsReplyThen : Replies → Script (Result Request RequestFault) → List Seen → (phase : ℕ) → (session : Text) → Request → (List Seen → Text → Type 0) → Text → Type 0
IsReplyThen reply S seen phase session r Rest t =
    (g : List ℕ) × (rest : Text) × IsTrue (legal S (shown_to session seen) phase g) × (t ≡ reply_line (reply r (world S g)) g session ++ rest) × Rest (seen ++ (session, g) ∷ []) rest

-- the text is the line of a search, and then what the rest is to be: of a request a reply line, of a fault its error line, which shows no numbers
abbrev pub IsLineThen : Replies → Script (Result Request RequestFault) → List Seen → (phase : ℕ) → (session : Text) → Result Request RequestFault → (List Seen → Text → Type 0) → Text → Type 0
IsLineThen reply S seen phase session (Ok r) Rest t = IsReplyThen reply S seen phase session r Rest t
IsLineThen reply S seen phase session (Err f) Rest t = (rest : Text) × (t ≡ error_line f session ++ rest) × Rest seen rest

-- the text is the lines of these searches, one for each in script order, after lines that showed some numbers
abbrev pub AreLinesOf : Replies → Script (Result Request RequestFault) → List Seen → List (Search (Result Request RequestFault)) → Text → Type 0
AreLinesOf reply S seen [] t = t ≡ []
AreLinesOf reply S seen (q ∷ qs) t = IsLineThen reply S seen q.phase q.session q.request (λ now rest. AreLinesOf reply S now qs rest) t

-- the text is an output of the script with these replies
abbrev pub IsOutputBy : Replies → Script (Result Request RequestFault) → Text → Type 0
IsOutputBy reply S t = AreLinesOf reply S [] (searches S.lines) t

-- the text is an output of the script: with what searches print
abbrev pub IsOutput : Script (Result Request RequestFault) → Text → Type 0
IsOutput S t = IsOutputBy replied S t
