-- The requests that are read are valid for the schema.
use Rattle.std.proofs.Common.{◌≡◌, refl, sym, ap, subst, ℕ, zero, suc, ◌+◌, ◌≤◌, [], ◌∷◌, Bool, true, false, not, cond, ◌&&◌, ◌∙◌, IsTrue, Option, None, Some, IfSome, All, IfOk, ok_or, ◌<◌, length, List, ◌⊎◌, inl, inr, Result, Ok, arith}
use Rattle.std.specs.Prelude.{codes, nat_lt}
use Rattle.fc_spec.specs.queries.FilterReading.{is_tag}
use Rattle.std.specs.List.Sorted.{IsStrictlySortedBy}
use Rattle.std.proofs.lemmas.Bool.{false≢true, and_parts, and_from}
use Rattle.std.proofs.lemmas.List.Elements.{All-nil}
use Rattle.std.proofs.lemmas.Result.{IfOk-weaker, IfOk-at_ok}
use Rattle.serde_json.specs.Data.{Data, null, boolean, number, string, array, object, Members, no_members, member}
use Rattle.serde_json.specs.Find.{get_member}
use Rattle.fc_spec.specs.documents.Val.{Text, text_cmp}
use Rattle.fc_spec.specs.documents.Schema.{Schema, field_named}
use Rattle.fc_spec.specs.queries.Query.{all}
use Rattle.fc_spec.specs.requests.Request.{DomainChange, Show, its_buckets, its_number, number_beside, Stat, SortKey, by_count, by_index, by_statistic, Sort, Terms, Kind, terms, range, date_range, query, Facet, Nodes, no_nodes, statistic, facet, Request}
use Rattle.fc_spec.specs.requests.Spread.{show_of, unchanged, number_terms, beside_terms, beside_facet, IsShown, AreShownAfter, IsSpread}
use Rattle.fc_spec.specs.requests.RequestFault.{RequestFault, unknown_field, bad_parameter, reserved_name, too_large}
use Rattle.fc_spec.specs.requests.RequestWalk.{outside, inside, check_names, required, optional, said_or, text_in, truth_in}
use Rattle.fc_spec.specs.requests.StatisticReading.{unique_called, statistic_of}
use Rattle.fc_spec.specs.requests.DomainReading.{change_in}
use Rattle.fc_spec.specs.requests.SortReading.{sort_in, is_by_count, sorts_by_count, allows_exact}
use Rattle.fc_spec.specs.requests.Least.{count_first}
use Rattle.fc_spec.specs.requests.FacetReading.{terms_parts, query_part}
use Rattle.fc_spec.specs.requests.DateRangeReading.{range_part}
use Rattle.fc_spec.specs.requests.RequestReading.{Node, of_statistic, of_facet, asks_number, number_behind, with_its_number, measure_read, Walked, with_node, Reader, members_read, is_reserved, inner_read, own, facet_read, terms_read, range_read, query_read, statistic_read, func_read, FacetType, terms_type, range_type, query_type, func_type, parameters, typed_read, type_of, command_read, node_read, nodes_within, filters_in, zero_in, request_members, request_of}
use Rattle.fc_spec.specs.scripts.JsonValues.{HasNumbers, MembersHaveNumbers, keys_in, HasAscendingKeys, MembersHaveAscendingKeys}
use Rattle.fc_spec.specs.laws.RequestLaws.{ReadAreValid, ReadAreValidWhole}
use Rattle.fc_spec.specs.queries.ValidQueries.{IsValidQuery}
use Rattle.fc_spec.specs.requests.DomainReading.{text_query}
use Rattle.fc_spec.specs.requests.ValidRequests.{IsValidFilter, IsValidChange, IsValidKind, IsValidTerms, IsValidStatistic, with_name, node_names, AreValidNodes, AreOrderedInside, AreOrderedNodes, node_depth}
use Rattle.fc_spec.specs.requests.Shape.{stays, says_exact, none_says_exact, outermost_exact}
use Rattle.fc_spec.specs.words.Walks.{◌>>=◌, unless, with_fault}
use Rattle.fc_spec.proofs.scripts.JsonMembers.{member_numbers, member_keys}
use Rattle.fc_spec.proofs.words.ReadingWords.{going_on, whatever, seen, passed, there, if_there}
use Rattle.fc_spec.proofs.requests.ValidStatistics.{field_there, statistic_valid, NamesItsStatistic, sort_in_valid}
use Rattle.fc_spec.proofs.requests.ValidChanges.{text_query_valid, change_in_valid, filters_in_valid}
use Rattle.fc_spec.proofs.requests.ValidKinds.{IsPlainTerms, parts_valid, terms_valid, IsKindAnywhere, query_part_valid}
use Rattle.fc_spec.proofs.requests.ValidDateRanges.{range_part_valid}

-- of nodes outermost or nested, exact facets stand where they may
abbrev exact_stands : (outermost : Bool) → Nodes → Bool
exact_stands outermost nodes = cond outermost (outermost_exact nodes) (none_says_exact nodes)

-- nodes that the members of an object give, so deep at most
record AreReadFrom (s : Schema) (outermost unmoved : Bool) (left : ℕ) (ms : Members) (nodes : Nodes) : Type 0 where
  valid : AreValidNodes s unmoved nodes
  exact : exact_stands outermost nodes ≡ true
  shallow : node_depth nodes ≤ left
  names : node_names nodes ≡ keys_in ms
  ordered : MembersHaveAscendingKeys ms → AreOrderedInside nodes
  spread : (before : Option Facet) → AreShownAfter before nodes

-- nodes that a value gives, where it is there
record AreInside (s : Schema) (outermost unmoved : Bool) (left : ℕ) (o : Option Data) (nodes : Nodes) : Type 0 where
  valid : AreValidNodes s unmoved nodes
  exact : exact_stands outermost nodes ≡ true
  shallow : node_depth nodes ≤ left
  ordered : IfSome o HasAscendingKeys → AreOrderedNodes nodes
  spread : AreShownAfter None nodes

-- it shows its buckets, or is a `unique`
abbrev IsShownAlone : DomainChange → Kind → Nodes → Type 0
IsShownAlone change kind inner = (show_of kind ≡ its_buckets) ⊎ ((field : ℕ) × (change ≡ unchanged) × (kind ≡ terms (number_terms field)) × (inner ≡ no_nodes))

-- a facet that a value gives, with nodes so deep inside it
record IsReadFacet (s : Schema) (outermost unmoved : Bool) (left : ℕ) (d : Data) (change : DomainChange) (kind : Kind) (inner : Nodes) : Type 0 where
  change_valid : IsValidChange s unmoved change
  kind_valid : IsValidKind s inner kind
  shown : IsShownAlone change kind inner
  inside : AreValidNodes s (unmoved && stays change) inner
  shallow : node_depth inner ≤ left
  ordered : HasAscendingKeys d → AreOrderedNodes inner
  spread : AreShownAfter None inner
  allowed : says_exact kind ≡ true → outermost ≡ true
  none_inside : none_says_exact inner ≡ true

-- a node that a value gives, with nodes so deep inside it
abbrev IsReadNode : Schema → (outermost unmoved : Bool) → ℕ → Data → Node → Type 0
IsReadNode s outermost unmoved left d (of_statistic st) = IsValidStatistic s st
IsReadNode s outermost unmoved left d (of_facet change kind inner) = IsReadFacet s outermost unmoved left d change kind inner

-- a reader gives valid nodes
abbrev ReadsValid : Schema → (outermost unmoved : Bool) → ℕ → Reader → Type 0
ReadsValid s outermost unmoved left deeper = (n : ℕ) (ms : Members) → MembersHaveNumbers ms → IfOk (deeper n ms) (λ w. AreReadFrom s outermost unmoved left ms w.read)

no_order : AreOrderedNodes no_nodes
unfolding IsStrictlySortedBy
no_order = (tt, tt)

-- no nodes
none_exact : (outermost : Bool) → exact_stands outermost no_nodes ≡ true
none_exact true = refl
none_exact false = refl

unchanged_valid : (s : Schema) (unmoved : Bool) → IsValidChange s unmoved unchanged
unchanged_valid s unmoved = record { tags = All-nil (λ t. IsTrue (is_tag t)); around = λ e. refl; step = tt; filters = All-nil (IsValidQuery s) }

-- the facets that ask for numbers are valid
number_valid : (s : Schema) (field : ℕ) → field < length s.fields → IsValidTerms s no_nodes (number_terms field)
number_valid s field h = record {
  field = h;
  offset = omega arith;
  limit = tt;
  sort = tt;
  mincount = omega arith;
  few = omega arith;
  prefix = tt;
  overrequest = omega arith;
  overrefine = omega arith;
  unlimited = λ e. (refl, refl);
  exact = λ e. absurd (false≢true e);
}

beside_valid : (s : Schema) (inner : Nodes) (t : Terms) → IsValidTerms s inner t → IsValidTerms s no_nodes (beside_terms t)
beside_valid s inner t h = record {
  field = h.field;
  offset = omega arith;
  limit = tt;
  sort = tt;
  mincount = h.mincount;
  few = h.few;
  prefix = h.prefix;
  overrequest = omega arith;
  overrefine = omega arith;
  unlimited = λ e. (refl, refl);
  exact = λ e. absurd (false≢true e);
}

-- ---- the nodes nested in a facet

from_members : (s : Schema) (outermost unmoved : Bool) (left : ℕ) (ms : Members) (nodes : Nodes) → AreReadFrom s outermost unmoved left ms nodes → AreInside s outermost unmoved left (Some (object ms)) nodes
from_members s outermost unmoved left ms nodes h = record { valid = h.valid; exact = h.exact; shallow = h.shallow; ordered = λ a. (subst (λ names. IsStrictlySortedBy text_cmp names) (sym h.names) a.0, h.ordered a.1); spread = h.spread None }

inner_valid : (s : Schema) (outermost unmoved : Bool) (left : ℕ) (deeper : Reader) → ReadsValid s outermost unmoved left deeper → (n : ℕ) (o : Option Data) → IfSome o HasNumbers → IfOk (inner_read deeper n o) (λ w. AreInside s outermost unmoved left o w.read)
inner_valid s outermost unmoved left deeper valid n None h = record { valid = tt; exact = none_exact outermost; shallow = omega arith; ordered = λ a. no_order; spread = tt }
inner_valid s outermost unmoved left deeper valid n (Some (object ms)) h = IfOk-weaker (deeper n ms) (λ w. AreReadFrom s outermost unmoved left ms w.read) (λ w. AreInside s outermost unmoved left (Some (object ms)) w.read) (λ w k. from_members s outermost unmoved left ms w.read k) (valid n ms h)
inner_valid s outermost unmoved left deeper valid n (Some null) h = tt
inner_valid s outermost unmoved left deeper valid n (Some (boolean b)) h = tt
inner_valid s outermost unmoved left deeper valid n (Some (number x)) h = tt
inner_valid s outermost unmoved left deeper valid n (Some (string t)) h = tt
inner_valid s outermost unmoved left deeper valid n (Some (array ds)) h = tt

-- ---- one node

-- a node of an object's members
abbrev IsNodeOf : Schema → (outermost unmoved : Bool) → ℕ → Members → Walked Node → Type 0
IsNodeOf s outermost unmoved left ms w = IsReadNode s outermost unmoved left (object ms) w.read

-- the nodes of its member `facet`
abbrev facet_in : Members → Option Data
facet_in ms = get_member (codes "facet") ms

-- what the test of exact facets says
by_count_exact : (s : Sort) → sorts_by_count s ≡ true → s ≡ count_first
by_count_exact s h = let parts = and_parts (is_by_count s.by) s.descending h in λ i. record { by = key s.by parts.0 i; descending = parts.1 i }
  where
    key : (k : SortKey) → is_by_count k ≡ true → k ≡ by_count
    key by_count e = refl
    key by_index e = absurd cc
    key (by_statistic n) e = absurd cc

exact_allowed : (outermost exact : Bool) (sort : Sort) → allows_exact outermost exact sort ≡ true → exact ≡ true → (outermost ≡ true) × (sort ≡ count_first)
exact_allowed outermost true sort h e = let parts = and_parts outermost (sorts_by_count sort) h in (parts.0, by_count_exact sort parts.1)
exact_allowed outermost false sort h e = absurd cc

terms_read_valid : (s : Schema) (outermost unmoved : Bool) (left : ℕ) (deeper : Bool → Reader) → ((b : Bool) → ReadsValid s false b left (deeper b)) → (n : ℕ) (ms : Members) → MembersHaveNumbers ms → IfOk (terms_read s outermost unmoved deeper n ms) (IsNodeOf s outermost unmoved left ms)
terms_read_valid s outermost unmoved left deeper valid n ms numbers =
    let P = IsNodeOf s outermost unmoved left ms in
    going_on P (IsPlainTerms s) (own (terms_parts s ms)) _ (seen (IsPlainTerms s) outside (terms_parts s ms) (parts_valid s ms))
    (λ parts h. whatever P (own (optional (codes "numBuckets") truth_in false ms)) _
    (λ counted. going_on P (IsValidChange s unmoved) (own (change_in s unmoved ms)) _ (seen (IsValidChange s unmoved) outside (change_in s unmoved ms) (change_in_valid s unmoved ms))
    (λ change k. going_on P (λ w. AreInside s false (unmoved && stays change) left (facet_in ms) w.read) (inner_read (deeper (unmoved && stays change)) n (facet_in ms)) _ (inner_valid s false (unmoved && stays change) left (deeper (unmoved && stays change)) (valid (unmoved && stays change)) n (facet_in ms) (member_numbers (codes "facet") ms numbers))
    (λ inner i. going_on P (NamesItsStatistic inner.read) (own (sort_in inner.read ms)) _ (seen (NamesItsStatistic inner.read) outside (sort_in inner.read ms) (sort_in_valid inner.read ms))
    (λ sort z. going_on P (λ u. allows_exact outermost parts.exact sort ≡ true) (own (unless (allows_exact outermost parts.exact sort) bad_parameter)) _
    (seen (λ u. allows_exact outermost parts.exact sort ≡ true) outside (unless (allows_exact outermost parts.exact sort) bad_parameter) (passed (allows_exact outermost parts.exact sort) bad_parameter))
    (λ u a. let allowed = exact_allowed outermost parts.exact sort a in
    record {
      change_valid = k;
      kind_valid = terms_valid s inner.read parts sort h.valid z (λ e. (allowed e).1);
      shown = inl h.shown;
      inside = i.valid;
      shallow = i.shallow;
      ordered = λ keys. i.ordered (member_keys (codes "facet") ms keys.1);
      spread = i.spread;
      allowed = λ e. (allowed e).0;
      none_inside = i.exact;
    }))))))

-- a facet whose kind is read first and does not hang on its nodes
kind_read_valid : (s : Schema) (outermost unmoved : Bool) (left : ℕ) (deeper : Bool → Reader) → ((b : Bool) → ReadsValid s false b left (deeper b)) → (n : ℕ) (ms : Members) → MembersHaveNumbers ms → (kind : Kind) → IsKindAnywhere s kind
    → IfOk (own (change_in s unmoved ms) >>= (λ change. inner_read (deeper (unmoved && stays change)) n (facet_in ms) >>= (λ inner. Ok (facet_read change kind inner)))) (IsNodeOf s outermost unmoved left ms)
kind_read_valid s outermost unmoved left deeper valid n ms numbers kind h =
    let P = IsNodeOf s outermost unmoved left ms in
    going_on P (IsValidChange s unmoved) (own (change_in s unmoved ms)) _ (seen (IsValidChange s unmoved) outside (change_in s unmoved ms) (change_in_valid s unmoved ms))
    (λ change k. going_on P (λ w. AreInside s false (unmoved && stays change) left (facet_in ms) w.read) (inner_read (deeper (unmoved && stays change)) n (facet_in ms)) _ (inner_valid s false (unmoved && stays change) left (deeper (unmoved && stays change)) (valid (unmoved && stays change)) n (facet_in ms) (member_numbers (codes "facet") ms numbers))
    (λ inner i. record {
      change_valid = k;
      kind_valid = h.0 inner.read;
      shown = inl h.2;
      inside = i.valid;
      shallow = i.shallow;
      ordered = λ a. i.ordered (member_keys (codes "facet") ms a.1);
      spread = i.spread;
      allowed = λ e. absurd (false≢true (sym h.1 ∙ e));
      none_inside = i.exact;
    }))

range_read_valid : (s : Schema) (outermost unmoved : Bool) (left : ℕ) (deeper : Bool → Reader) → ((b : Bool) → ReadsValid s false b left (deeper b)) → (n : ℕ) (ms : Members) → MembersHaveNumbers ms → IfOk (range_read s unmoved deeper n ms) (IsNodeOf s outermost unmoved left ms)
range_read_valid s outermost unmoved left deeper valid n ms numbers =
    going_on (IsNodeOf s outermost unmoved left ms) (IsKindAnywhere s) (own (range_part s ms)) _ (seen (IsKindAnywhere s) outside (range_part s ms) (range_part_valid s ms numbers)) (λ kind h. kind_read_valid s outermost unmoved left deeper valid n ms numbers kind h)

query_read_valid : (s : Schema) (outermost unmoved : Bool) (left : ℕ) (deeper : Bool → Reader) → ((b : Bool) → ReadsValid s false b left (deeper b)) → (n : ℕ) (ms : Members) → MembersHaveNumbers ms → IfOk (query_read s unmoved deeper n ms) (IsNodeOf s outermost unmoved left ms)
query_read_valid s outermost unmoved left deeper valid n ms numbers =
    going_on (IsNodeOf s outermost unmoved left ms) (IsKindAnywhere s) (own (query_part s ms)) _ (seen (IsKindAnywhere s) outside (query_part s ms) (query_part_valid s ms))
    (λ kind h. kind_read_valid s outermost unmoved left deeper valid n ms numbers kind h)

measure_read_valid : (s : Schema) (outermost unmoved : Bool) (left n : ℕ) (d : Data) (t : Text) (unique : Option Text) → IfOk (measure_read s n t unique) (λ w. IsReadNode s outermost unmoved left d w.read)
measure_read_valid s outermost unmoved left n d t (Some name) =
    let P : ℕ → Type 0 = λ field. field < length s.fields in
    going_on (λ w. IsReadNode s outermost unmoved left d w.read) P (own (ok_or (field_named s name) unknown_field)) _ (seen P outside (ok_or (field_named s name) unknown_field) (there P (field_named s name) unknown_field (field_there s name)))
    (λ field h. record {
      change_valid = unchanged_valid s unmoved;
      kind_valid = number_valid s field h;
      shown = inr (field, refl, refl, refl);
      inside = tt;
      shallow = omega arith;
      ordered = λ a. no_order;
      spread = tt;
      allowed = λ e. absurd (false≢true e);
      none_inside = refl;
    })
measure_read_valid s outermost unmoved left n d t None = going_on (λ w. IsReadNode s outermost unmoved left d w.read) (IsValidStatistic s) (own (statistic_of s t)) _ (seen (IsValidStatistic s) outside (statistic_of s t) (statistic_valid s t)) (λ st h. h)

statistic_read_valid : (s : Schema) (outermost unmoved : Bool) (left n : ℕ) (d : Data) (t : Text) → IfOk (statistic_read s n t) (λ w. IsReadNode s outermost unmoved left d w.read)
statistic_read_valid s outermost unmoved left n d t = measure_read_valid s outermost unmoved left n d t (unique_called t)

func_read_valid : (s : Schema) (outermost unmoved : Bool) (left n : ℕ) (ms : Members) → IfOk (func_read s n ms) (IsNodeOf s outermost unmoved left ms)
func_read_valid s outermost unmoved left n ms =
    whatever (IsNodeOf s outermost unmoved left ms) (own (required (codes "func") text_in ms)) _ (λ t. statistic_read_valid s outermost unmoved left n (object ms) t)

typed_read_valid : (kind : FacetType) (s : Schema) (outermost unmoved : Bool) (left : ℕ) (deeper : Bool → Reader) → ((b : Bool) → ReadsValid s false b left (deeper b)) → (n : ℕ) (ms : Members) → MembersHaveNumbers ms → IfOk (typed_read kind s outermost unmoved deeper n ms) (IsNodeOf s outermost unmoved left ms)
typed_read_valid terms_type s outermost unmoved left deeper valid n ms numbers = terms_read_valid s outermost unmoved left deeper valid n ms numbers
typed_read_valid range_type s outermost unmoved left deeper valid n ms numbers = range_read_valid s outermost unmoved left deeper valid n ms numbers
typed_read_valid query_type s outermost unmoved left deeper valid n ms numbers = query_read_valid s outermost unmoved left deeper valid n ms numbers
typed_read_valid func_type s outermost unmoved left deeper valid n ms numbers = func_read_valid s outermost unmoved left n ms

command_valid : (s : Schema) (outermost unmoved : Bool) (left : ℕ) (deeper : Bool → Reader) → ((b : Bool) → ReadsValid s false b left (deeper b)) → (n : ℕ) (d : Data) → HasNumbers d → IfOk (command_read s outermost unmoved deeper n d) (λ w. IsReadNode s outermost unmoved left d w.read)
command_valid s outermost unmoved left deeper valid n (string t) numbers = statistic_read_valid s outermost unmoved left n (string t) t
command_valid s outermost unmoved left deeper valid n (object ms) numbers =
    whatever (IsNodeOf s outermost unmoved left ms) (own (type_of ms)) _ (λ kind. whatever (IsNodeOf s outermost unmoved left ms) (own (check_names (parameters kind) ms)) _ (λ u. typed_read_valid kind s outermost unmoved left deeper valid n ms numbers))
command_valid s outermost unmoved left deeper valid n null numbers = tt
command_valid s outermost unmoved left deeper valid n (boolean b) numbers = tt
command_valid s outermost unmoved left deeper valid n (number x) numbers = tt
command_valid s outermost unmoved left deeper valid n (array ds) numbers = tt

node_valid : (s : Schema) (outermost unmoved : Bool) (left : ℕ) (deeper : Bool → Reader) → ((b : Bool) → ReadsValid s false b left (deeper b)) → (n : ℕ) (name : Text) (d : Data) → HasNumbers d → IfOk (node_read s outermost unmoved deeper n name d) (λ w. IsReadNode s outermost unmoved left d w.read)
node_valid s outermost unmoved left deeper valid n name d numbers =
    let P : Walked Node → Type 0 = λ w. IsReadNode s outermost unmoved left d w.read in
    whatever P (own (unless (nat_lt n 64) too_large)) _ (λ u. whatever P (own (unless (not (is_reserved name)) reserved_name)) _ (λ v. command_valid s outermost unmoved left deeper valid (n + 1) d numbers))

-- ---- nodes

-- a facet in front of others
facet_stands : (outermost : Bool) (f : Facet) (inner rest : Nodes) → (says_exact f.kind ≡ true → outermost ≡ true) → none_says_exact inner ≡ true → exact_stands outermost rest ≡ true → exact_stands outermost (facet f inner rest) ≡ true
facet_stands true f inner rest allowed none later = and_from (none_says_exact inner) (outermost_exact rest) none later
facet_stands false f inner rest allowed none later = and_from (not (says_exact f.kind) && none_says_exact inner) (none_says_exact rest) (and_from (not (says_exact f.kind)) (none_says_exact inner) (own (says_exact f.kind) refl) none) later
  where
    own : (b : Bool) → says_exact f.kind ≡ b → not b ≡ true
    own true e = absurd (false≢true (allowed e))
    own false e = refl

-- a statistic in front of others
statistic_stands : (outermost : Bool) (name : Text) (st : Stat) (rest : Nodes) → exact_stands outermost rest ≡ true → exact_stands outermost (statistic name st rest) ≡ true
statistic_stands true name st rest later = later
statistic_stands false name st rest later = later

-- nodes behind a facet that was read
record AreBehind (s : Schema) (outermost unmoved : Bool) (left : ℕ) (ms : Members) (f : Facet) (nodes : Nodes) : Type 0 where
  valid : AreValidNodes s unmoved nodes
  exact : exact_stands outermost nodes ≡ true
  shallow : node_depth nodes ≤ left
  names : node_names nodes ≡ keys_in ms
  ordered : MembersHaveAscendingKeys ms → AreOrderedInside nodes
  spread : AreShownAfter (Some f) nodes

plainly_behind : (s : Schema) (outermost unmoved : Bool) (left : ℕ) (ms : Members) (f : Facet) (nodes : Nodes) → AreReadFrom s outermost unmoved left ms nodes → AreBehind s outermost unmoved left ms f nodes
plainly_behind s outermost unmoved left ms f nodes k = record { valid = k.valid; exact = k.exact; shallow = k.shallow; names = k.names; ordered = k.ordered; spread = k.spread (Some f) }

its_number_valid : (s : Schema) (outermost unmoved : Bool) (left : ℕ) (name : Text) (ms : Members) (b : Bool) (change : DomainChange) (kind : Kind) (inner nodes : Nodes)
    → IsValidChange s unmoved change → IsValidKind s inner kind → AreReadFrom s outermost unmoved (suc left) ms nodes
    → AreBehind s outermost unmoved (suc left) ms (record { name = name; change = change; kind = kind }) (with_its_number b name (of_facet change kind inner) nodes)
its_number_valid s outermost unmoved left name ms false change kind inner nodes c h k = plainly_behind s outermost unmoved (suc left) ms _ nodes k
its_number_valid s outermost unmoved left name ms true change (range g) inner nodes c h k = plainly_behind s outermost unmoved (suc left) ms _ nodes k
its_number_valid s outermost unmoved left name ms true change (date_range g) inner nodes c h k = plainly_behind s outermost unmoved (suc left) ms _ nodes k
its_number_valid s outermost unmoved left name ms true change (query q) inner nodes c h k = plainly_behind s outermost unmoved (suc left) ms _ nodes k
its_number_valid s outermost unmoved left name ms true change (terms t) inner nodes c h k = go t.show refl
  where
    f : Facet
    f = record { name = name; change = change; kind = terms t }

    go : (w : Show) → t.show ≡ w → AreBehind s outermost unmoved (suc left) ms f (number_behind w f t nodes)
    go its_buckets e = record {
      valid = (record { change = c; kind = beside_valid s inner t h }, tt, k.valid);
      exact = facet_stands outermost (beside_facet f t) no_nodes nodes (λ e. absurd (false≢true e)) refl k.exact;
      shallow = (let low = k.shallow in omega arith);
      names = k.names;
      ordered = λ a. (no_order.0, tt, k.ordered a);
      spread = ((f, t, refl, refl, e, refl, refl), tt, k.spread (Some (beside_facet f t)));
    }
    go its_number e = plainly_behind s outermost unmoved (suc left) ms f nodes k
    go number_beside e = plainly_behind s outermost unmoved (suc left) ms f nodes k

-- a facet that was read has its name in front, and stands as it may
name_first : (change : DomainChange) (kind : Kind) (inner : Nodes) (name : Text) (names : List Text) → IsShownAlone change kind inner → with_name (show_of kind) name names ≡ name ∷ names
name_first change kind inner name names (inl e) = ap (λ w. with_name w name names) e
name_first change kind inner name names (inr (field, c, k, none)) = ap (λ w. with_name (show_of w) name names) k

shown_first : (before : Option Facet) (name : Text) (change : DomainChange) (kind : Kind) (inner : Nodes) → IsShownAlone change kind inner → IsShown before (record { name = name; change = change; kind = kind }) inner (show_of kind)
shown_first before name change kind inner (inl e) = subst (IsShown before (record { name = name; change = change; kind = kind }) inner) (sym e) tt
shown_first before name change kind inner (inr (field, c, k, none)) =
    subst (IsShown before (record { name = name; change = change; kind = kind }) inner) (sym (ap show_of k)) (field, (λ i. record { name = name; change = c i; kind = k i }), none)

in_front : (s : Schema) (outermost unmoved : Bool) (left : ℕ) (name : Text) (d : Data) (ms : Members) (node : Node) (nodes : Nodes) → IsReadNode s outermost unmoved left d node → AreReadFrom s outermost unmoved (suc left) ms nodes
    → (b : Bool) → AreReadFrom s outermost unmoved (suc left) (member name d ms) (with_node name node (with_its_number b name node nodes))
in_front s outermost unmoved left name d ms (of_statistic st) nodes h k true = record { valid = (h, k.valid); exact = statistic_stands outermost name st nodes k.exact; shallow = (let low = k.shallow in omega arith); names = ap (λ names. name ∷ names) k.names; ordered = λ a. k.ordered a.1; spread = λ before. k.spread None }
in_front s outermost unmoved left name d ms (of_statistic st) nodes h k false = record { valid = (h, k.valid); exact = statistic_stands outermost name st nodes k.exact; shallow = (let low = k.shallow in omega arith); names = ap (λ names. name ∷ names) k.names; ordered = λ a. k.ordered a.1; spread = λ before. k.spread None }
in_front s outermost unmoved left name d ms (of_facet change kind inner) nodes h k b =
    let more = its_number_valid s outermost unmoved left name ms b change kind inner nodes h.change_valid h.kind_valid k in
    record {
      valid = (record { change = h.change_valid; kind = h.kind_valid }, h.inside, more.valid);
      exact = facet_stands outermost (record { name = name; change = change; kind = kind }) inner (with_its_number b name (of_facet change kind inner) nodes) h.allowed h.none_inside more.exact;
      shallow = (let low = more.shallow in let here : node_depth inner ≤ left = h.shallow in omega arith);
      names = name_first change kind inner name _ h.shown ∙ ap (λ names. name ∷ names) more.names;
      ordered = λ a. ((h.ordered a.0).0, (h.ordered a.0).1, more.ordered a.1);
      spread = λ before. (shown_first before name change kind inner h.shown, h.spread, more.spread);
    }

members_valid : (s : Schema) (outermost unmoved : Bool) (left : ℕ) (node : ℕ → Text → Data → Result (Walked Node) RequestFault) → ((n : ℕ) (name : Text) (d : Data) → HasNumbers d → IfOk (node n name d) (λ w. IsReadNode s outermost unmoved left d w.read))
    → ReadsValid s outermost unmoved (suc left) (members_read node)
members_valid s outermost unmoved left node valid n no_members numbers = record { valid = tt; exact = none_exact outermost; shallow = omega arith; names = refl; ordered = λ a. tt; spread = λ before. tt }
members_valid s outermost unmoved left node valid n (member name d ms) numbers =
    let P : Walked Nodes → Type 0 = λ w. AreReadFrom s outermost unmoved (suc left) (member name d ms) w.read in
    going_on P (λ w. IsReadNode s outermost unmoved left d w.read) (with_fault (inside name) (node n name d)) _ (seen (λ w. IsReadNode s outermost unmoved left d w.read) (inside name) (node n name d) (valid n name d numbers.0))
    (λ first h. going_on P (λ w. AreReadFrom s outermost unmoved (suc left) ms w.read) (members_read node first.nodes ms) _ (members_valid s outermost unmoved left node valid first.nodes ms numbers.1)
    (λ rest k. in_front s outermost unmoved left name d ms first.read rest.read h k (asks_number d)))

within_valid : (left : ℕ) (s : Schema) (outermost unmoved : Bool) → ReadsValid s outermost unmoved left (nodes_within left s outermost unmoved)
within_valid zero s outermost unmoved n no_members numbers = record { valid = tt; exact = none_exact outermost; shallow = omega arith; names = refl; ordered = λ a. tt; spread = λ before. tt }
within_valid zero s outermost unmoved n (member name d ms) numbers = tt
within_valid (suc left) s outermost unmoved n ms numbers =
    members_valid s outermost unmoved left (node_read s outermost unmoved (nodes_within left s false)) (node_valid s outermost unmoved left (nodes_within left s false) (within_valid left s false)) n ms numbers

-- ---- requests

-- valid but for the order of names, which hangs on that of keys
record IsReadFrom (s : Schema) (d : Data) (r : Request) : Type 0 where
  query : IsValidQuery s r.query
  filters : All (IsValidFilter s) r.filters
  nodes : AreValidNodes s true r.nodes
  exact : IsTrue (outermost_exact r.nodes)
  depth : node_depth r.nodes ≤ 8
  names : HasAscendingKeys d → AreOrderedNodes r.nodes
  spread : IsSpread r

request_members_valid : (s : Schema) (ms : Members) → MembersHaveNumbers ms → IfOk (request_members s ms) (IsReadFrom s (object ms))
request_members_valid s ms numbers =
    let P = IsReadFrom s (object ms) in
    let query_at = get_member (codes "query") ms in
    let filters_at = get_member (codes "filter") ms in
    whatever P (own (check_names (codes "query" ∷ codes "filter" ∷ codes "limit" ∷ codes "facet" ∷ []) ms)) _
    (λ u. going_on P (IsValidQuery s) (own (said_or (text_query s) all query_at)) _ (seen (IsValidQuery s) outside (said_or (text_query s) all query_at) (if_there (IsValidQuery s) (text_query s) all query_at (record { fits = tt; shallow = omega arith }) (text_query_valid s)))
    (λ q h. going_on P (All (IsValidFilter s)) (own (said_or (filters_in s) [] filters_at)) _ (seen (All (IsValidFilter s)) outside (said_or (filters_in s) [] filters_at) (if_there (All (IsValidFilter s)) (filters_in s) [] filters_at (All-nil (IsValidFilter s)) (filters_in_valid s)))
    (λ fs k. whatever P (own (optional (codes "limit") zero_in tt ms)) _
    (λ z. going_on P (λ w. AreInside s true true 8 (facet_in ms) w.read) (inner_read (nodes_within 8 s true true) 0 (facet_in ms)) _ (inner_valid s true true 8 (nodes_within 8 s true true) (within_valid 8 s true true) 0 (facet_in ms) (member_numbers (codes "facet") ms numbers))
    (λ nodes i. record { query = h; filters = k; nodes = i.valid; exact = i.exact; depth = i.shallow; names = λ a. i.ordered (member_keys (codes "facet") ms a.1); spread = i.spread })))))

request_valid : (s : Schema) (d : Data) → HasNumbers d → IfOk (request_of s d) (IsReadFrom s d)
unfolding request_of
request_valid s (object ms) numbers = request_members_valid s ms numbers
request_valid s null numbers = tt
request_valid s (boolean b) numbers = tt
request_valid s (number n) numbers = tt
request_valid s (string t) numbers = tt
request_valid s (array ds) numbers = tt

pub read_are_valid : ReadAreValid
read_are_valid s d r numbers e = let h = IfOk-at_ok (IsReadFrom s d) e (request_valid s d numbers) in (h.query, h.filters, h.nodes, h.exact, h.depth, h.spread)

pub read_are_valid_whole : ReadAreValidWhole
read_are_valid_whole s d r numbers keys e = let h = IfOk-at_ok (IsReadFrom s d) e (request_valid s d numbers) in record { query = h.query; filters = h.filters; nodes = h.nodes; exact = h.exact; depth = h.depth; names = h.names keys; spread = h.spread }
