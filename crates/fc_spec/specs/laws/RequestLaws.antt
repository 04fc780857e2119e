-- What is read is valid; and what holds of valid requests: how deep their terms facets and the messages for them nest.
use Rattle.std.specs.Prelude.{◌≡◌, ℕ, List, ◌≤◌, IsTrue, true, Ok, All}
use Rattle.serde_json.specs.Data.{Data}
use Rattle.std.specs.List.{AllByRecursion}
use Rattle.fc_spec.specs.documents.Schema.{Schema}
use Rattle.fc_spec.specs.documents.World.{World}
use Rattle.fc_spec.specs.requests.Request.{Request}
use Rattle.fc_spec.specs.queries.ValidQueries.{IsValidQuery}
use Rattle.fc_spec.specs.requests.Spread.{IsSpread}
use Rattle.fc_spec.specs.requests.ValidRequests.{IsSearchable, IsValidFilter, AreValidNodes, node_depth, IsValidRequest}
use Rattle.fc_spec.specs.scripts.JsonValues.{HasNumbers, HasAscendingKeys}
use Rattle.fc_spec.specs.scripts.Script.{Line, add, delete, commit, sync, asks, Script}
use Rattle.fc_spec.specs.scripts.ScriptTotals.{Limits}
use Rattle.fc_spec.specs.scripts.ScriptReading.{script_of}
use Rattle.fc_spec.specs.requests.RequestReading.{request_of}
use Rattle.fc_spec.specs.requests.Shape.{outermost_exact}
use Rattle.fc_spec.specs.messages.Lacks.{terms_depth}
use Rattle.fc_spec.specs.messages.Rounds.{search_rounds}
use Rattle.fc_spec.specs.messages.Message.{Ask}
use Rattle.fc_spec.specs.messages.Answer.{answer}
use Rattle.fc_spec.specs.messages.Nesting.{nesting}
use Rattle.fc_spec.specs.laws.ReplacedLaw.{AreNamedApart}
use Rattle.fc_spec.specs.laws.TopRoundsLaw.{SortExactByCount}
use Rattle.fc_spec.specs.replies.Tops.{only_exact}
use Rattle.fc_spec.specs.messages.TopRounds.{ExactAsk, exact_answer}

-- for data whose numbers are those of JSON, the query, the filters and each node of the request that is read are valid, only outermost facets are refined exactly, nodes nest at most eight deep, and what shows a number stands where that is asked for
abbrev pub ReadAreValid : Type 0
ReadAreValid = (s : Schema) (d : Data) (r : Request) → HasNumbers d → request_of s d ≡ Ok r → IsValidQuery s r.query × All (IsValidFilter s) r.filters × AreValidNodes s true r.nodes × IsTrue (outermost_exact r.nodes) × (node_depth r.nodes ≤ 8) × IsSpread r

-- where the keys of each object ascend too, the request is valid
abbrev pub ReadAreValidWhole : Type 0
ReadAreValidWhole = (s : Schema) (d : Data) (r : Request) → HasNumbers d → HasAscendingKeys d → request_of s d ≡ Ok r → IsValidRequest s r

-- what a line's search asks is a valid request, where it is one
abbrev pub AsksValid : Schema → Line Data → Type 0
AsksValid s (asks session d) = (r : Request) → request_of s d ≡ Ok r → IsValidRequest s r
AsksValid s (add shard block) = Unit {0}
AsksValid s (delete shard id) = Unit {0}
AsksValid s (commit shard) = Unit {0}
AsksValid s sync = Unit {0}

-- so are the requests of every script that bytes spell
abbrev pub ScriptsAskValid : Type 0
ScriptsAskValid = (limits : Limits) (bytes : List ℕ) (S : Script Data) → script_of limits bytes ≡ Ok S → All (AsksValid S.schema) S.lines

-- exact facets are sorted by count, the greatest first, and no two statistics of the root have one name
abbrev pub ValidSortExactByCount : Type 0
ValidSortExactByCount = (s : Schema) (r : Request) → IsValidRequest s r → SortExactByCount r.nodes

abbrev pub ValidAreNamedApart : Type 0
ValidAreNamedApart = (s : Schema) (r : Request) → IsValidRequest s r → AreNamedApart r.nodes

-- at most eight terms facets stand around each other
abbrev pub ValidHaveFewDepths : Type 0
ValidHaveFewDepths = (s : Schema) (r : Request) → IsSearchable s r → terms_depth r.nodes ≤ 8

-- so the rounds of a search have the numbers from 1 to 9
abbrev pub ValidHaveFewRounds : Type 0
ValidHaveFewRounds = (s : Schema) (r : Request) (W : World) → IsSearchable s r → AllByRecursion (λ m. (1 ≤ m.round) × (m.round ≤ 9)) (search_rounds r W)

-- buckets nest at most nine deep in each answer of a shard
abbrev pub ValidAnswersNestLittle : Type 0
ValidAnswersNestLittle = (s : Schema) (r : Request) (W : World) (i : ℕ) (ask : Ask) → IsSearchable s r → nesting (answer r W i ask) ≤ 9

-- and so do those for exact facets
abbrev pub ExactAnswersNestLittle : Type 0
ExactAnswersNestLittle = (s : Schema) (x : Request) (W : World) (i : ℕ) (ask : ExactAsk) → IsSearchable s x → nesting (exact_answer x W i ask) ≤ 9

-- a search can be made of the exact facets alone
abbrev pub OnlyExactAreSearchable : Type 0
OnlyExactAreSearchable = (s : Schema) (r : Request) → IsValidRequest s r → IsSearchable s (only_exact r)
