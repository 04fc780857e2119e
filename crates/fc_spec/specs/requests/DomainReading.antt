-- The domain change that a facet's `domain` says. Guide: JSON Faceting Domain Changes.
use Rattle.std.specs.Prelude.{List, [], ◌∷◌, codes, Bool, ◌||◌, ◌==◌, Option, None, Some, ok_or, Result, Ok, Err, if◌then◌else◌}
use Rattle.std.specs.List.{list_all, slice_split}
use Rattle.serde_json.specs.Data.{Data, string, array, Members}
use Rattle.serde_json.specs.Find.{get_member, as_object}
use Rattle.fc_spec.specs.documents.Val.{Text}
use Rattle.fc_spec.specs.words.Lists.{is_empty}
use Rattle.fc_spec.specs.documents.Schema.{Schema}
use Rattle.fc_spec.specs.queries.Query.{Query}
use Rattle.fc_spec.specs.queries.QueryTexts.{query_of}
use Rattle.fc_spec.specs.queries.FilterReading.{is_tag}
use Rattle.fc_spec.specs.requests.Request.{BlockStep, stay, parents, children, DomainChange}
use Rattle.fc_spec.specs.requests.RequestFault.{QFault, bad_parameter, nested_exclude}
use Rattle.fc_spec.specs.requests.RequestWalk.{query_fault, check_names, optional, text_in, each_item}
use Rattle.fc_spec.specs.words.Walks.{◌>>=◌, unless, with_fault, each}

-- the query of a text, or its fault
abbrev pub query_in : Schema → Text → Result Query QFault
query_in s t = with_fault query_fault (query_of s t)

-- the query of a value that is a text
abbrev pub text_query : Schema → Data → Result Query QFault
text_query s d = text_in d >>= query_in s

-- a text, or an array of texts
abbrev pub texts_in : Data → Result (List Text) QFault
texts_in (string t) = Ok (t ∷ [])
texts_in (array ds) = each_item text_in ds
texts_in _ = Err bad_parameter

-- the parts of a text between its commas, none where it is empty; or the texts of an array
abbrev pub tag_items : Data → Result (List Text) QFault
tag_items (string t) = Ok (if is_empty t then [] else slice_split (λ b. b == 44) t)
tag_items d = texts_in d

-- the tags that are left out; a facet names none where one around it has a block step
abbrev pub excluded : (unmoved : Bool) → Data → Result (List Text) QFault
excluded unmoved d = do
  tags ← tag_items d
  _ ← unless (list_all is_tag tags) bad_parameter
  _ ← unless (unmoved || is_empty tags) nested_exclude
  Ok tags

-- at most one of the two block members
abbrev pub block_step : Schema → (to_parents to_children : Option Data) → Result BlockStep QFault
block_step s (Some p) (Some c) = Err bad_parameter
block_step s (Some p) None = do
  q ← text_query s p
  Ok (parents q)
block_step s None (Some c) = do
  q ← text_query s c
  Ok (children q)
block_step s None None = Ok stay

-- the domain's own filters, each a text; whether they are texts is tested first
abbrev pub domain_filters : Schema → Data → Result (List Query) QFault
domain_filters s d = do
  ts ← texts_in d
  each (query_in s) ts

abbrev pub change_of : Schema → (unmoved : Bool) → Members → Result DomainChange QFault
change_of s unmoved ms = do
  _ ← check_names (codes "excludeTags" ∷ codes "blockParent" ∷ codes "blockChildren" ∷ codes "filter" ∷ []) ms
  tags ← optional (codes "excludeTags") (excluded unmoved) [] ms
  step ← block_step s (get_member (codes "blockParent") ms) (get_member (codes "blockChildren") ms)
  filters ← optional (codes "filter") (domain_filters s) [] ms
  Ok (record { exclude = tags; block = step; filters = filters })

-- what changes nothing
abbrev pub no_change : DomainChange
no_change = record { exclude = []; block = stay; filters = [] }

-- the change of a facet's members
abbrev pub change_in : Schema → (unmoved : Bool) → Members → Result DomainChange QFault
change_in s unmoved ms = optional (codes "domain") (λ d. ok_or (as_object d) bad_parameter >>= change_of s unmoved) no_change ms
