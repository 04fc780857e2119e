-- Words for requests in rows. Texts of JSON stand with ' in place of ".
use Rattle.std.specs.Prelude.{◌≡◌, ℕ, List, [], ◌∷◌, ◌++◌, map, ◌==◌, if◌then◌else◌, Option, Some, Result, Ok, Err, option_map, codes, ⊤}
use Rattle.std.specs.Str.{is_utf8, chars}
use Prim.Native.String.{String}
use Rattle.serde_json.specs.Data.{Data}
use Rattle.fc_spec.specs.documents.Val.{Text}
use Rattle.fc_spec.specs.documents.Schema.{Schema, string, plong}
use Rattle.fc_spec.specs.queries.Query.{all}
use Rattle.fc_spec.specs.requests.Request.{Terms, terms, Range, range, Kind, Nodes, no_nodes, facet, Request}
use Rattle.fc_spec.specs.requests.RequestFault.{QFault, RequestFault}
use Rattle.fc_spec.specs.scripts.ScriptLines.{json_of}
use Rattle.fc_spec.specs.queries.FilterReading.{tags_of, local_tags, text_filter, member_filter, object_filter, filter_parts}
use Rattle.fc_spec.specs.queries.QueryTexts.{query_of}
use Rattle.fc_spec.specs.queries.TreeReading.{nested_at, named_at, everything_at, behind_colon_at, value_at, atom_at, clause_at, clauses_at, group_at, group_within, deeper_than}
use Rattle.fc_spec.specs.requests.RequestReading.{request_of}
use Rattle.fc_rows.proofs.Words.{written, named}
use Rattle.fc_rows.proofs.queries.QueryWords.{cut}

-- what an answer unfolds to compute what request a literal is
unfoldable pub walked : ⊤
unfolding written cut is_utf8 chars tags_of local_tags text_filter member_filter object_filter filter_parts query_of nested_at named_at everything_at behind_colon_at value_at atom_at clause_at clauses_at group_at group_within deeper_than request_of
walked = tt

-- `id`, a text `cat` and an integer `n`
abbrev pub small : Schema
small = record { shards = 1; fields = record { name = codes "id"; kind = string } ∷ record { name = codes "cat"; kind = string } ∷ record { name = codes "n"; kind = plong } ∷ [] }

abbrev pub in_quotes : ℕ → ℕ
in_quotes b = if b == 39 then 34 else b

-- what request this text is
abbrev pub request_in : Text → Option (Result Request RequestFault)
request_in t = option_map (request_of small) (json_of (map in_quotes t))

-- it has this fault, inside these facets
abbrev pub FailsAt : Text → List String → QFault → Type 0
FailsAt t at fault = request_in t ≡ Some (Err (record { at = map codes at; fault = fault }))

abbrev pub Fails : String → List String → QFault → Type 0
Fails t at fault = FailsAt (codes t) at fault

-- a request of every document with this command as its facet `x`
abbrev pub commanding : Text → Text
commanding t = codes "{'facet':{'x':" ++ t ++ codes "}}"

-- its members behind the ones that are required
abbrev pub terms_with : String → Text
terms_with t = codes "{'type':'terms','field':'cat'" ++ codes t ++ codes "}"

abbrev pub range_with : String → Text
range_with t = codes "{'type':'range','field':'n','start':0,'end':10,'gap':4" ++ codes t ++ codes "}"

abbrev pub query_with : String → Text
query_with t = codes "{'type':'query','q':'*:*'" ++ codes t ++ codes "}"

-- the facet `x` of this command has this fault
abbrev pub XFails : String → QFault → Type 0
XFails t fault = FailsAt (commanding (codes t)) ("x" ∷ []) fault

abbrev pub TermsFails : String → QFault → Type 0
TermsFails t fault = FailsAt (commanding (terms_with t)) ("x" ∷ []) fault

abbrev pub RangeFails : String → QFault → Type 0
RangeFails t fault = FailsAt (commanding (range_with t)) ("x" ∷ []) fault

-- the facet `x` with this domain change
abbrev pub domain_with : String → Text
domain_with t = codes "{'type':'query','q':'*:*','domain':" ++ codes t ++ codes "}"

abbrev pub DomainFails : String → QFault → Type 0
DomainFails t fault = FailsAt (commanding (domain_with t)) ("x" ∷ []) fault

-- the facet `y` with this domain change, inside `x` with that one
abbrev pub inner_with : (outer inner : String) → Text
inner_with outer inner = commanding (codes "{'type':'query','q':'*:*','domain':" ++ codes outer ++ codes ",'facet':{'y':" ++ domain_with inner ++ codes "}}")

-- inside `x` with a block step
abbrev pub InnerFails : String → QFault → Type 0
InnerFails t fault = FailsAt (inner_with "{'blockChildren':'*:*'}" t) ("x" ∷ "y" ∷ []) fault

-- the JSON of a text
abbrev pub json_in : String → Option Data
json_in t = json_of (map in_quotes (codes t))

-- a request of this text is this one
abbrev pub IsRead : Text → Request → Type 0
IsRead t r = request_in t ≡ Some (Ok r)

-- a request of every document with these nodes
abbrev pub of_nodes : Nodes → Request
of_nodes nodes = record { query = all; filters = []; nodes = nodes }

-- the facet `x` of this command is this one
abbrev pub XRead : Text → Kind → Type 0
XRead t kind = IsRead (commanding t) (of_nodes (facet (named "x" kind) no_nodes no_nodes))

abbrev pub TermsRead : String → Terms → Type 0
TermsRead t f = XRead (terms_with t) (terms f)

abbrev pub RangeRead : String → Range → Type 0
RangeRead t g = XRead (codes "{'type':'range','field':'n'," ++ codes t ++ codes "}") (range g)

-- behind the members that are required
abbrev pub RangeSays : String → Range → Type 0
RangeSays t g = XRead (range_with t) (range g)
