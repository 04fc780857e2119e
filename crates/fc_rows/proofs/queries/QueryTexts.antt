-- What query texts and filters mean as a whole. Fields: id, n (an integer).
use Rattle.std.specs.Prelude.{◌≡◌, ⊤, pos, None, Some, Result, Ok, Err, [], ◌∷◌, refl, codes}
use Prim.Native.String.{String}
use Rattle.std.proofs.Common.{arith, inl, inr}
use Rattle.std.proofs.lemmas.Option.{none-some}
use Rattle.serde_json.specs.Data.{Data, null, string as json_string}
use Rattle.fc_spec.specs.documents.Val.{long}
use Rattle.fc_spec.specs.documents.Schema.{string, plong, Schema}
use Rattle.fc_spec.specs.queries.Query.{Query, all, is, group, must_not, may, no_clauses, clause as clause_of}
use Rattle.fc_spec.specs.requests.Request.{Filter}
use Rattle.fc_spec.specs.queries.QueryFault.{QueryFault, syntax, bad_value, FilterFault, shape, query}
use Rattle.fc_spec.specs.queries.QueryTokens.{word}
use Rattle.fc_spec.specs.queries.QueryTrees.{Group, plain, no_more, clause, group_tokens}
use Rattle.fc_spec.specs.queries.QueryTexts.{query_of, IsReadingOf}
use Rattle.fc_spec.specs.queries.TreeReading.{group_within, group_at, clauses_at, clause_at, atom_at, value_at, behind_colon_at, everything_at, named_at, nested_at, deeper_than}
use Rattle.fc_spec.specs.queries.FilterReading.{tags_of, local_tags, text_filter, member_filter, object_filter, filter_parts, filter_of}
use Rattle.fc_rows.proofs.queries.QueryWords.{cut}

abbrev schema : Schema
schema = record { shards = 1; fields = record { name = codes "id"; kind = string } ∷ record { name = codes "n"; kind = plong } ∷ [] }

abbrev Reads : String → Result Query QueryFault → Type 0
Reads s r = query_of schema (codes s) ≡ r

-- the same, by what trees spell
abbrev TreesSay : String → Result Query QueryFault → Type 0
TreesSay s r = IsReadingOf schema (codes s) r

abbrev FilterReads : Data → Result Filter FilterFault → Type 0
FilterReads d r = filter_of schema d ≡ r

-- `n:W`
abbrev tree : String → Group
tree w = clause None None (plain (Some (codes "n")) (word (codes w))) no_more

pub a_query : TreesSay "n:5" (Ok (is 1 (long (pos 5))))
unfolding cut
a_query = inl (tree "5", (((tt, tt), omega arith), refl), refl)

pub a_fault : TreesSay "n:a" (Err bad_value)
unfolding cut
a_fault = inl (tree "a", (((tt, tt), omega arith), refl), refl)

-- a text without tokens has no tree
pub no_tokens : TreesSay "n:5^2" (Err syntax)
unfolding cut
no_tokens = inr (λ g h. none-some (group_tokens g) h.1, refl)

-- what computes the meaning of a text
unfoldable meant : ⊤
unfolding query_of group_within group_at clauses_at clause_at atom_at value_at behind_colon_at everything_at named_at nested_at deeper_than cut
meant = tt

pub read_query : Reads "n:5" (Ok (is 1 (long (pos 5))))
unfolding meant
read_query = refl

pub read_group : Reads "n:(-5 7) *:*" (Ok (group (clause_of may (group (clause_of must_not (is 1 (long (pos 5))) (clause_of may (is 1 (long (pos 7))) no_clauses))) (clause_of may all no_clauses))))
unfolding meant
read_group = refl

pub read_fault : Reads "n:a" (Err bad_value)
unfolding meant
read_fault = refl

pub read_without_tokens : Reads "n:5^2" (Err syntax)
unfolding meant
read_without_tokens = refl

pub read_without_tree : Reads "n:5)" (Err syntax)
unfolding meant
read_without_tree = refl

pub tagged_filter : FilterReads (json_string (codes "{!tag=A}n:5")) (Ok (record { tags = codes "A" ∷ []; query = is 1 (long (pos 5)) }))
unfolding meant tags_of local_tags text_filter member_filter object_filter filter_parts
tagged_filter = refl

pub filter_with_a_bad_value : FilterReads (json_string (codes "{!tag=A}n:a")) (Err (query bad_value))
unfolding meant tags_of local_tags text_filter member_filter object_filter filter_parts
filter_with_a_bad_value = refl

-- a fault of the tags comes before the query text
pub filter_with_bad_tags : FilterReads (json_string (codes "{!tag=A,}n:a")) (Err (query syntax))
unfolding meant tags_of local_tags text_filter member_filter object_filter filter_parts
filter_with_bad_tags = refl

pub no_filter : FilterReads null (Err shape)
unfolding meant tags_of local_tags text_filter member_filter object_filter filter_parts
no_filter = refl
