-- The walk of a node is its head and what is read behind it; nodes are read one behind another.
use Rattle.std.proofs.Common.{◌≡◌, ℕ, zero, suc, ◌+◌, ◌-◌, ◌∙◌, ap, sym, refl, arith, List, [], ◌∷◌, ◌++◌, Bool, true, false, not, Option, None, Some, Result, Ok, Err, ok_or}
use Rattle.std.specs.Prelude.{codes, nat_lt}
use Rattle.std.proofs.lemmas.Bool.{lt-ltb}
use Rattle.serde_json.specs.Data.{Data, null, boolean, number, string, array, object, Members, member}
use Rattle.serde_json.specs.Find.{as_object, get_member}
use Rattle.fc_spec.specs.documents.Val.{Text}
use Rattle.fc_spec.specs.documents.Schema.{Schema, field_named}
use Rattle.fc_spec.specs.requests.Request.{DomainChange, Sort, Show, its_buckets, its_number, number_beside, Terms, Kind, terms, range, query, date_range, Nodes, no_nodes}
use Rattle.fc_spec.specs.requests.RequestFault.{QFault, unknown_field, not_an_object, bad_parameter, reserved_name, too_large, RequestFault}
use Rattle.fc_spec.specs.requests.RequestWalk.{truth_in, inside, check_names, required, optional, said_or, text_in}
use Rattle.fc_spec.specs.requests.StatisticReading.{unique_called, statistic_of}
use Rattle.fc_spec.specs.requests.DomainReading.{change_in}
use Rattle.fc_spec.specs.requests.SortReading.{sort_in, allows_exact}
use Rattle.fc_spec.specs.requests.FacetReading.{terms_parts, query_part}
use Rattle.fc_spec.specs.requests.DateRangeReading.{range_part}
use Rattle.fc_spec.specs.requests.RequestReading.{Node, of_statistic, of_facet, Walked, Reader, asks_number, with_node, number_behind, with_its_number, members_read, is_reserved, inner_read, own, facet_read, terms_read, measure_read, statistic_read, FacetType, terms_type, range_type, query_type, func_type, parameters, type_of, typed_read, command_read, nodes_within}
use Rattle.fc_spec.specs.words.Walks.{◌>>=◌, unless}
use Rattle.fc_request.specs.NodeView.{Part, linked}
use Rattle.fc_request.specs.Beside.{shown_beside, numbers_behind, with_numbers}
use Rattle.fc_request.specs.Heads.{whole, unsorted, Head, facet_head, some_object, facet_of, measure_before, measure_head, typed_head, object_head, command_head, node_head, walked, inner_nodes, under, resumed, node_within}

-- ---- steps

-- a step and what follows it, in a walk and in its head with what follows that
pub step : {A B C : Type 0} (k : C → Result B RequestFault) (r : Result A QFault) (f : A → Result B RequestFault) (g : A → Result C QFault) → ((a : A) → f a ≡ (own (g a) >>= k)) → (own r >>= f) ≡ (own (r >>= g) >>= k)
step k (Ok a) f g h = h a
step k (Err e) f g h = refl

-- what follows the same is the same
same_steps : {A B E : Type 0} (r : Result A E) (f g : A → Result B E) → ((a : A) → f a ≡ g a) → (r >>= f) ≡ (r >>= g)
same_steps (Ok a) f g h = h a
same_steps (Err e) f g h = refl

-- the nested nodes, and what follows them
inner_step : (outermost : Bool) (reader : Reader) (deeper : DomainChange → Reader) (n : ℕ) (o : Option Data) (k : Walked Nodes → Result (Walked Node) RequestFault) (c : Option Members → Head) → ((i : Option Members) → resumed outermost deeper n (c i) ≡ (inner_nodes reader n i >>= k))
    → (inner_read reader n o >>= k) ≡ (own (said_or some_object None o >>= (λ i. Ok (c i))) >>= resumed outermost deeper n)
inner_step outermost reader deeper n None k c h = sym (h None)
inner_step outermost reader deeper n (Some d) k c h = of_object (as_object d)
  where
    of_object : (o : Option Members) → ((ok_or o (record { at = []; fault = not_an_object }) >>= reader n) >>= k) ≡ (own ((ok_or o not_an_object >>= (λ ms. Ok (Some ms))) >>= (λ i. Ok (c i))) >>= resumed outermost deeper n)
    of_object None = refl
    of_object (Some ms) = sym (h (Some ms))

-- ---- by type

of_kind : (s : Schema) (outermost unmoved : Bool) (deeper : Bool → Reader) (n : ℕ) (ms : Members) (k : Kind) → (do
  change ← own (change_in s unmoved ms)
  inner ← inner_read (under deeper unmoved change) n (get_member (codes "facet") ms)
  Ok (facet_read change k inner)) ≡ (own (facet_of s unmoved (whole k) ms) >>= resumed outermost (under deeper unmoved) n)
of_kind s outermost unmoved deeper n ms k =
    step (resumed outermost (under deeper unmoved) n) (change_in s unmoved ms) _ _ (λ change.
    inner_step outermost (under deeper unmoved change) (under deeper unmoved) n (get_member (codes "facet") ms) (λ inner. Ok (facet_read change k inner)) (λ i. facet_head change (whole k) i) (λ i. refl))

of_terms : (s : Schema) (outermost unmoved : Bool) (deeper : Bool → Reader) (n : ℕ) (ms : Members) → terms_read s outermost unmoved deeper n ms ≡ (own (typed_head terms_type s unmoved ms) >>= resumed outermost (under deeper unmoved) n)
of_terms s outermost unmoved deeper n ms =
    step (resumed outermost (under deeper unmoved) n) (terms_parts s ms) _ _ (λ t.
    step (resumed outermost (under deeper unmoved) n) (optional (codes "numBuckets") truth_in false ms) _ _ (λ asked.
    step (resumed outermost (under deeper unmoved) n) (change_in s unmoved ms) _ _ (λ change.
    inner_step outermost (under deeper unmoved change) (under deeper unmoved) n (get_member (codes "facet") ms)
    (λ inner. own (sort_in inner.read ms) >>= (λ sort. own (unless (allows_exact outermost t.exact sort) bad_parameter) >>= (λ done. Ok (facet_read change (terms (record t { sort = sort })) inner))))
    (λ i. facet_head change (unsorted t (get_member (codes "sort") ms)) i)
    (λ i. same_steps (inner_nodes (under deeper unmoved change) n i) _ _ (λ w. sorted change t w (sort_in w.read ms))))))
  where
    allowed : (change : DomainChange) (t : Terms) (w : Walked Nodes) (sort : Sort) (b : Bool)
        → (own (unless b bad_parameter >>= (λ done. Ok (terms (record t { sort = sort })))) >>= (λ k. Ok (facet_read change k w))) ≡ (own (unless b bad_parameter) >>= (λ done. Ok (facet_read change (terms (record t { sort = sort })) w)))
    allowed change t w sort true = refl
    allowed change t w sort false = refl

    sorted : (change : DomainChange) (t : Terms) (w : Walked Nodes) (r : Result Sort QFault)
        → (own (r >>= (λ sort. unless (allows_exact outermost t.exact sort) bad_parameter >>= (λ done. Ok (terms (record t { sort = sort }))))) >>= (λ k. Ok (facet_read change k w)))
        ≡ (own r >>= (λ sort. own (unless (allows_exact outermost t.exact sort) bad_parameter) >>= (λ done. Ok (facet_read change (terms (record t { sort = sort })) w))))
    sorted change t w (Ok sort) = allowed change t w sort (allows_exact outermost t.exact sort)
    sorted change t w (Err e) = refl

of_measure : (s : Schema) (outermost : Bool) (deeper : DomainChange → Reader) (n : ℕ) (t : Text) (unique : Option Text) → measure_read s n t unique ≡ (own (measure_before s t unique) >>= resumed outermost deeper n)
of_measure s outermost deeper n t (Some name) = step (resumed outermost deeper n) (ok_or (field_named s name) unknown_field) _ _ (λ field. refl)
of_measure s outermost deeper n t None = step (resumed outermost deeper n) (statistic_of s t) _ _ (λ st. refl)

of_text : (s : Schema) (outermost : Bool) (deeper : DomainChange → Reader) (n : ℕ) (t : Text) → statistic_read s n t ≡ (own (measure_head s t) >>= resumed outermost deeper n)
of_text s outermost deeper n t = of_measure s outermost deeper n t (unique_called t)

of_type : (kind : FacetType) (s : Schema) (outermost unmoved : Bool) (deeper : Bool → Reader) (n : ℕ) (ms : Members) → typed_read kind s outermost unmoved deeper n ms ≡ (own (typed_head kind s unmoved ms) >>= resumed outermost (under deeper unmoved) n)
of_type terms_type s outermost unmoved deeper n ms = of_terms s outermost unmoved deeper n ms
of_type range_type s outermost unmoved deeper n ms = step (resumed outermost (under deeper unmoved) n) (range_part s ms) _ _ (λ k. of_kind s outermost unmoved deeper n ms k)
of_type query_type s outermost unmoved deeper n ms = step (resumed outermost (under deeper unmoved) n) (query_part s ms) _ _ (λ q. of_kind s outermost unmoved deeper n ms q)
of_type func_type s outermost unmoved deeper n ms =
    step (resumed outermost (under deeper unmoved) n) (required (codes "func") text_in ms) _ _ (λ t. of_text s outermost (under deeper unmoved) n t)

-- ---- a node

of_members : (s : Schema) (outermost unmoved : Bool) (deeper : Bool → Reader) (n : ℕ) (ms : Members) → (do
  kind ← own (type_of ms)
  _ ← own (check_names (parameters kind) ms)
  typed_read kind s outermost unmoved deeper n ms) ≡ (own (object_head s unmoved ms) >>= resumed outermost (under deeper unmoved) n)
of_members s outermost unmoved deeper n ms =
    step (resumed outermost (under deeper unmoved) n) (type_of ms) _ _ (λ kind.
    step (resumed outermost (under deeper unmoved) n) (check_names (parameters kind) ms) _ _ (λ known. of_type kind s outermost unmoved deeper n ms))

of_command : (s : Schema) (outermost unmoved : Bool) (deeper : Bool → Reader) (n : ℕ) (d : Data) → command_read s outermost unmoved deeper n d ≡ (own (command_head s unmoved d) >>= resumed outermost (under deeper unmoved) n)
of_command s outermost unmoved deeper n (string t) = of_text s outermost (under deeper unmoved) n t
of_command s outermost unmoved deeper n (object ms) = of_members s outermost unmoved deeper n ms
of_command s outermost unmoved deeper n null = refl
of_command s outermost unmoved deeper n (boolean b) = refl
of_command s outermost unmoved deeper n (number x) = refl
of_command s outermost unmoved deeper n (array ds) = refl

pub of_node : (left n : ℕ) (s : Schema) (outermost unmoved : Bool) (name : Text) (d : Data) → node_within left s outermost unmoved n name d ≡ (own (node_head left n s unmoved name d) >>= resumed outermost (under (nodes_within (left - 1) s false) unmoved) (n + 1))
of_node zero n s outermost unmoved name d = refl
of_node (suc left) n s outermost unmoved name d =
    let deep : nat_lt 0 (suc left) ≡ true = lt-ltb 0 (suc left) (omega arith) in
    let less : suc left - 1 ≡ left = omega arith in
    rw (deep, less)
    (step (resumed outermost (under (nodes_within left s false) unmoved) (n + 1)) (unless (nat_lt n 64) too_large) _ _ (λ few.
    step (resumed outermost (under (nodes_within left s false) unmoved) (n + 1)) (unless (not (is_reserved name)) reserved_name) _ _ (λ free.
    of_command s outermost unmoved (nodes_within left s false) (n + 1) d)))

-- ---- nodes, one behind another

pub of_nodes : (left : ℕ) (s : Schema) (outermost unmoved : Bool) (n : ℕ) (ms : Members) → nodes_within left s outermost unmoved n ms ≡ members_read (node_within left s outermost unmoved) n ms
of_nodes zero s outermost unmoved n ms = refl
of_nodes (suc left) s outermost unmoved n ms = refl

-- these nodes, and then others
abbrev pub linked_before : List Part → Nodes → Nodes
linked_before [] rest = rest
linked_before (p ∷ ps) rest = with_node p.0 p.1 (linked_before ps rest)

pub linked_before-linked : (ps : List Part) → linked_before ps no_nodes ≡ linked ps
linked_before-linked [] = refl
linked_before-linked (p ∷ ps) = ap (with_node p.0 p.1) (linked_before-linked ps)

linked_before-append : (ps qs : List Part) (rest : Nodes) → linked_before (ps ++ qs) rest ≡ linked_before ps (linked_before qs rest)
linked_before-append [] qs rest = refl
linked_before-append (p ∷ ps) qs rest = ap (with_node p.0 p.1) (linked_before-append ps qs rest)

-- what stands behind a node, and then others
shown : (show : Show) (name : Text) (change : DomainChange) (t : Terms) (rest : Nodes) → linked_before (shown_beside show name change t) rest ≡ number_behind show (record { name = name; change = change; kind = terms t }) t rest
shown its_buckets name change t rest = refl
shown its_number name change t rest = refl
shown number_beside name change t rest = refl

with_number : (asked : Bool) (name : Text) (x : Node) (rest : Nodes) → linked_before (numbers_behind asked name x) rest ≡ with_its_number asked name x rest
with_number true name (of_facet change (terms t) inner) rest = shown t.show name change t rest
with_number true name (of_facet change (range g) inner) rest = refl
with_number true name (of_facet change (query q) inner) rest = refl
with_number true name (of_facet change (date_range g) inner) rest = refl
with_number true name (of_statistic s) rest = refl
with_number false name x rest = refl

-- a node with what stands behind it, and then others
linked_before-push : (asked : Bool) (ps : List Part) (name : Text) (x : Node) (rest : Nodes) → linked_before (ps ++ with_numbers asked (name, x)) rest ≡ linked_before ps (with_node name x (with_its_number asked name x rest))
linked_before-push asked ps name x rest = linked_before-append ps (with_numbers asked (name, x)) rest ∙ ap (λ nodes. linked_before ps (with_node name x nodes)) (with_number asked name x rest)

-- these nodes, and then those that are read
abbrev pub behind : List Part → Result (Walked Nodes) RequestFault → Result (Walked Nodes) RequestFault
behind ps r = do
  w ← r
  Ok (walked (linked_before ps w.read) w.nodes)

pub behind-next : (f : ℕ → Text → Data → Result (Walked Node) RequestFault) (ps : List Part) (n m : ℕ) (name : Text) (d : Data) (x : Node) (ms : Members) → f n name d ≡ Ok (walked x m) → behind ps (members_read f n (member name d ms)) ≡ behind (ps ++ with_numbers (asks_number d) (name, x)) (members_read f m ms)
behind-next f ps n m name d x ms e = rw e (rest (members_read f m ms))
  where
    rest : (r : Result (Walked Nodes) RequestFault) → behind ps (r >>= (λ rest. Ok (walked (with_node name x (with_its_number (asks_number d) name x rest.read)) rest.nodes))) ≡ behind (ps ++ with_numbers (asks_number d) (name, x)) r
    rest (Ok w) = ap (λ nodes. Ok (walked nodes w.nodes)) (sym (linked_before-push (asks_number d) ps name x w.read))
    rest (Err fault) = refl

pub behind-fault : (f : ℕ → Text → Data → Result (Walked Node) RequestFault) (ps : List Part) (n : ℕ) (name : Text) (d : Data) (fault : RequestFault) (ms : Members) → f n name d ≡ Err fault → behind ps (members_read f n (member name d ms)) ≡ Err (inside name fault)
behind-fault f ps n name d fault ms e = rw e refl
