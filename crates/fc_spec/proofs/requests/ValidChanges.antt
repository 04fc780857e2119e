-- The domain changes and filters that are read are valid for the schema.
use Rattle.std.proofs.Common.{◌≡◌, refl, List, [], ◌∷◌, Bool, true, false, cond, ◌||◌, Option, None, Some, option_map, IfSome, All, IfOk, Result, Ok, Err, ok_or}
use Rattle.std.specs.Prelude.{codes, ◌==◌, unwrap_or}
use Rattle.std.specs.List.{list_all, slice_split}
use Rattle.std.proofs.lemmas.List.Elements.{All-nil, All-cons}
use Rattle.std.proofs.lemmas.List.Sums.{AllPass-from_list_all}
use Rattle.serde_json.specs.Data.{Data, null, boolean, number, string, array, object, Members}
use Rattle.serde_json.specs.Find.{get_member, as_object}
use Rattle.fc_spec.specs.documents.Val.{Text}
use Rattle.fc_spec.specs.words.Lists.{is_empty}
use Rattle.fc_spec.specs.scripts.JsonObjects.{sole_member}
use Rattle.fc_spec.specs.requests.RequestReading.{filter_fault, filter_read, filters_in}
use Rattle.fc_spec.specs.documents.Schema.{Schema}
use Rattle.fc_spec.specs.queries.Query.{Query}
use Rattle.fc_spec.specs.queries.QueryTexts.{query_of}
use Rattle.fc_spec.specs.queries.QueryFault.{QueryFault, shape, syntax, query as of_query}
use Rattle.fc_spec.specs.queries.FilterReading.{is_tag, cut_at, past_front, tags_of, tagged, local_tags, text_filter, member_filter, object_filter, filter_parts, filter_with, filter_of}
use Rattle.fc_spec.specs.requests.RequestFault.{bad_parameter, nested_exclude}
use Rattle.fc_spec.specs.requests.RequestWalk.{query_fault, check_names, said_or, text_in}
use Rattle.fc_spec.specs.requests.DomainReading.{query_in, text_query, texts_in, tag_items, excluded, block_step, domain_filters, change_of, no_change, change_in}
use Rattle.fc_spec.specs.queries.ValidQueries.{IsValidQuery}
use Rattle.fc_spec.specs.requests.ValidRequests.{AreTags, IsValidFilter, IsValidStep, IsValidChange}
use Rattle.fc_spec.specs.words.Walks.{◌>>=◌, unless}
use Rattle.fc_spec.proofs.words.Present.{mapped}
use Rattle.fc_spec.proofs.messages.PrintedKnown.{nothing_is_empty}
use Rattle.fc_spec.proofs.words.ReadingWords.{going_on, whatever, seen, there, passed, if_there, all_of_each, or_right, all_of_items}
use Rattle.fc_spec.proofs.queries.ValidTexts.{text_valid}

pub query_in_valid : (s : Schema) (t : Text) → IfOk (query_in s t) (IsValidQuery s)
query_in_valid s t = seen (IsValidQuery s) query_fault (query_of s t) (text_valid s t)

pub text_query_valid : (s : Schema) (d : Data) → IfOk (text_query s d) (IsValidQuery s)
text_query_valid s d = whatever (IsValidQuery s) (text_in d) (query_in s) (query_in_valid s)

-- ---- tags

-- they are tags, and there are none where a facet around has a block step
record AreExcluded (unmoved : Bool) (items : List Text) : Type 0 where
  tags : AreTags items
  inside : unmoved ≡ false → items ≡ []

no_tags : (unmoved : Bool) → AreExcluded unmoved []
no_tags unmoved = record { tags = All-nil _; inside = λ e. refl }

excluded_valid : (unmoved : Bool) (d : Data) → IfOk (excluded unmoved d) (AreExcluded unmoved)
excluded_valid unmoved d =
    let P = AreExcluded unmoved in
    whatever P (tag_items d) _ (λ tags. going_on P (λ u. list_all is_tag tags ≡ true) (unless (list_all is_tag tags) bad_parameter) _ (passed (list_all is_tag tags) bad_parameter)
    (λ u e. going_on P (λ w. (unmoved || is_empty tags) ≡ true) (unless (unmoved || is_empty tags) nested_exclude) _ (passed (unmoved || is_empty tags) nested_exclude)
    (λ w f. record { tags = AllPass-from_list_all is_tag tags e; inside = λ n. nothing_is_empty tags (or_right unmoved (is_empty tags) f n) })))

-- ---- block members and filters

step_valid : (s : Schema) (to_parents to_children : Option Data) → IfOk (block_step s to_parents to_children) (IsValidStep s)
step_valid s (Some p) (Some c) = tt
step_valid s (Some p) None = going_on (IsValidStep s) (IsValidQuery s) (text_query s p) _ (text_query_valid s p) (λ q h. h)
step_valid s None (Some c) = going_on (IsValidStep s) (IsValidQuery s) (text_query s c) _ (text_query_valid s c) (λ q h. h)
step_valid s None None = tt

domain_filters_valid : (s : Schema) (d : Data) → IfOk (domain_filters s d) (All (IsValidQuery s))
domain_filters_valid s d = whatever (All (IsValidQuery s)) (texts_in d) _ (λ ts. all_of_each (IsValidQuery s) (query_in s) ts (query_in_valid s))

-- ---- changes

change_of_valid : (s : Schema) (unmoved : Bool) (ms : Members) → IfOk (change_of s unmoved ms) (IsValidChange s unmoved)
change_of_valid s unmoved ms =
    let P = IsValidChange s unmoved in
    let tags_at = get_member (codes "excludeTags") ms in
    let parents_at = get_member (codes "blockParent") ms in
    let children_at = get_member (codes "blockChildren") ms in
    let filters_at = get_member (codes "filter") ms in
    whatever P (check_names (codes "excludeTags" ∷ codes "blockParent" ∷ codes "blockChildren" ∷ codes "filter" ∷ []) ms) _
    (λ u. going_on P (AreExcluded unmoved) (said_or (excluded unmoved) [] tags_at) _ (if_there (AreExcluded unmoved) (excluded unmoved) [] tags_at (no_tags unmoved) (excluded_valid unmoved))
    (λ tags h. going_on P (IsValidStep s) (block_step s parents_at children_at) _ (step_valid s parents_at children_at)
    (λ step k. going_on P (All (IsValidQuery s)) (said_or (domain_filters s) [] filters_at) _ (if_there (All (IsValidQuery s)) (domain_filters s) [] filters_at (All-nil (IsValidQuery s)) (domain_filters_valid s))
    (λ filters l. record { tags = h.tags; around = h.inside; step = k; filters = l }))))

nothing_changes : (s : Schema) (unmoved : Bool) → IsValidChange s unmoved no_change
nothing_changes s unmoved = record { tags = All-nil _; around = λ e. refl; step = tt; filters = All-nil (IsValidQuery s) }

pub change_in_valid : (s : Schema) (unmoved : Bool) (ms : Members) → IfOk (change_in s unmoved ms) (IsValidChange s unmoved)
change_in_valid s unmoved ms =
    if_there (IsValidChange s unmoved) (λ d. ok_or (as_object d) bad_parameter >>= change_of s unmoved) no_change (get_member (codes "domain") ms) (nothing_changes s unmoved)
    (λ d. whatever (IsValidChange s unmoved) (ok_or (as_object d) bad_parameter) (change_of s unmoved) (change_of_valid s unmoved))

-- ---- filters of a request

-- tags and a query text, as a filter's parts
abbrev PartsHaveTags : List Text × Text → Type 0
PartsHaveTags p = AreTags p.0

tags_are : (t : Text) → IfSome (tags_of t) AreTags
unfolding tags_of
tags_are t = at (slice_split (λ b. b == 44) t) (list_all is_tag (slice_split (λ b. b == 44) t)) refl
  where
    at : (parts : List Text) (b : Bool) → list_all is_tag parts ≡ b → IfSome (cond b (Some parts) None) AreTags
    at parts true e = AllPass-from_list_all is_tag parts e
    at parts false e = tt

tagged_has : (list t : Text) → IfOk (tagged list t) PartsHaveTags
tagged_has list t = there PartsHaveTags (option_map (λ tags. (tags, t)) (tags_of list)) (of_query syntax) (mapped PartsHaveTags (tags_of list) (λ tags. (tags, t)) (tags_are list))

-- the answer of one that is there, or of none
either_way : {A B E : Type 0} (P : B → Type 0) (o : Option A) (f : A → Result B E) (none : Result B E) → ((a : A) → IfOk (f a) P) → IfOk none P → IfOk (unwrap_or (option_map f o) none) P
either_way P None f none h k = k
either_way P (Some a) f none h k = h a

parts_have : (d : Data) → IfOk (filter_parts d) PartsHaveTags
unfolding filter_parts local_tags text_filter member_filter object_filter
parts_have d = at d
  where
    local : (t : Text) → IfOk (local_tags t) PartsHaveTags
    local t = either_way PartsHaveTags (cut_at 125 t) (λ cut. tagged cut.0 cut.1) (Err (of_query syntax)) (λ cut. tagged_has cut.0 cut.1) tt

    of_member : (o : Option (Text × Data)) → IfOk (object_filter o) PartsHaveTags
    of_member (Some (key, string t)) = either_way PartsHaveTags (past_front (codes "#") key) (λ list. tagged list t) (Err shape) (λ list. tagged_has list t) tt
    of_member (Some (key, null)) = tt
    of_member (Some (key, boolean b)) = tt
    of_member (Some (key, number n)) = tt
    of_member (Some (key, array ds)) = tt
    of_member (Some (key, object ms)) = tt
    of_member None = tt

    at : (d : Data) → IfOk (filter_parts d) PartsHaveTags
    at (string t) = either_way PartsHaveTags (past_front (codes "{!tag=") t) local_tags (Ok ([], t)) local (All-nil _)
    at null = of_member (sole_member null)
    at (boolean b) = of_member (sole_member (boolean b))
    at (number n) = of_member (sole_member (number n))
    at (array ds) = of_member (sole_member (array ds))
    at (object ms) = of_member (sole_member (object ms))

filter_valid : (s : Schema) (d : Data) → IfOk (filter_of s d) (IsValidFilter s)
filter_valid s d = going_on (IsValidFilter s) PartsHaveTags (filter_parts d) _ (parts_have d) (λ p h. with p.0 (query_of s p.1) h (text_valid s p.1))
  where
    with : (tags : List Text) (r : Result Query QueryFault) → AreTags tags → IfOk r (IsValidQuery s) → IfOk (filter_with tags r) (IsValidFilter s)
    with tags (Ok q) h k = record { tags = h; query = k }
    with tags (Err e) h k = tt

filter_read_valid : (s : Schema) (d : Data) → IfOk (filter_read s d) (IsValidFilter s)
filter_read_valid s d = seen (IsValidFilter s) filter_fault (filter_of s d) (filter_valid s d)

one_filter : (s : Schema) (d : Data) → IfOk (filter_read s d >>= (λ f. Ok (f ∷ []))) (All (IsValidFilter s))
one_filter s d = going_on (All (IsValidFilter s)) (IsValidFilter s) (filter_read s d) _ (filter_read_valid s d) (λ f h. All-cons (IsValidFilter s) f [] h (All-nil (IsValidFilter s)))

pub filters_in_valid : (s : Schema) (d : Data) → IfOk (filters_in s d) (All (IsValidFilter s))
filters_in_valid s (array ds) = all_of_items (IsValidFilter s) (filter_read s) ds (filter_read_valid s)
filters_in_valid s null = one_filter s null
filters_in_valid s (boolean b) = one_filter s (boolean b)
filters_in_valid s (number n) = one_filter s (number n)
filters_in_valid s (string t) = one_filter s (string t)
filters_in_valid s (object ms) = one_filter s (object ms)
