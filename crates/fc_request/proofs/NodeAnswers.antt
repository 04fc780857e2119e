-- What is answered for a node, from what its steps answered.
use Rattle.std.proofs.Common.{◌≡◌, ℕ, ◌+◌, ◌-◌, ◌∙◌, ap, sym, subst, List, ◌++◌, Bool, false, map, Option, Result, Ok, Err, MatchResult}
use Rattle.serde_json.specs.Data.{Data, Members, member}
use Rattle.fc_spec.specs.documents.Val.{Text}
use Rattle.fc_spec.specs.documents.Schema.{Schema}
use Rattle.fc_spec.specs.requests.Request.{Stat, DomainChange, Kind, Nodes}
use Rattle.fc_spec.specs.requests.RequestFault.{QFault, RequestFault}
use Rattle.fc_spec.specs.requests.RequestReading.{Node, of_statistic, of_facet, Walked, asks_number, members_read, own, facet_read, nodes_within}
use Rattle.fc_spec.specs.words.Walks.{◌>>=◌}
use Rattle.fc_base.specs.Answers.{Answers}
use Rattle.fc_base.specs.declared.error.Refusal.{Refusal}
use Rattle.fc_base.specs.declared.error.Refusal.TheVariants.{Memory, Fault}
use Rattle.fc_request.specs.declared.fault.RequestFault as code_fault
use Rattle.fc_request.specs.declared.node.Node as code_node
use Rattle.fc_request.specs.FaultView.{request_fault_view}
use Rattle.fc_request.specs.NodeView.{Part, node_view}
use Rattle.fc_request.specs.Beside.{with_numbers}
use Rattle.fc_request.specs.Heads.{KindHead, Head, statistic_head, facet_head, node_head, kind_behind, facet_behind, walked, inner_nodes, under, resumed, node_within}
use Rattle.fc_request.proofs.NodeWalk.{of_node, behind, behind-next}

abbrev Refused : Type 0
Refused = Refusal code_fault.RequestFault

-- a refusal of the head is the node's
pub refused : {A B V W : Type 0} (first : A → V) (view : B → W) (refusal : Refused) (r : Result V RequestFault) (next : V → Result W RequestFault) → Answers first request_fault_view (Err refusal) r → Answers view request_fault_view (Err refusal) (r >>= next)
refused first view Memory r next h = tt
refused first view (Fault f) r next h = ap (λ r. r >>= next) h

pub refused_node : {A B : Type 0} (first : A → Head) (view : B → Walked Node) (refusal : Refused) (left n : ℕ) (s : Schema) (outermost unmoved : Bool) (name : Text) (d : Data) → Answers first request_fault_view (Err refusal) (own (node_head left n s unmoved name d)) → Answers view request_fault_view (Err refusal) (node_within left s outermost unmoved n name d)
refused_node first view refusal left n s outermost unmoved name d h =
    rw (of_node left n s outermost unmoved name d) (refused first view refusal (own (node_head left n s unmoved name d)) (resumed outermost (under (nodes_within (left - 1) s false) unmoved) (n + 1)) h)

-- a statistic
pub statistic_within : (left n : ℕ) (s : Schema) (outermost unmoved : Bool) (name : Text) (d : Data) (st : Stat) (p : Part) → own (node_head left n s unmoved name d) ≡ Ok (statistic_head st) → p ≡ (name, of_statistic st) → node_within left s outermost unmoved n name d ≡ Ok (walked p.1 (n + 1))
statistic_within left n s outermost unmoved name d st p h e =
    of_node left n s outermost unmoved name d
    ∙ ap (λ r. r >>= resumed outermost (under (nodes_within (left - 1) s false) unmoved) (n + 1)) h
    ∙ ap (λ q. Ok (walked q.1 (n + 1))) (sym e)

-- a facet over nodes that were read
of_kind : (view : code_node.Node → Part) (result : Result code_node.Node Refused) (name : Text) (change : DomainChange) (r : Result Kind QFault) (inner : Nodes) (m : ℕ) → Answers view request_fault_view result (own (r >>= (λ k. Ok (name, of_facet change k inner)))) → Answers (λ node. walked (view node).1 m) request_fault_view result (own r >>= (λ k. Ok (facet_read change k (walked inner m))))
of_kind view (Ok node) name change (Ok k) inner m h = ap (λ r. r >>= (λ p. Ok (walked p.1 m))) h
of_kind view (Ok node) name change (Err e) inner m h = ap (λ r. r >>= (λ p. Ok (walked p.1 m))) h
of_kind view (Err Memory) name change r inner m h = tt
of_kind view (Err (Fault f)) name change (Ok k) inner m h = ap (λ r. r >>= (λ p. Ok (walked p.1 m))) h
of_kind view (Err (Fault f)) name change (Err e) inner m h = ap (λ r. r >>= (λ p. Ok (walked p.1 m))) h

-- what follows the nested nodes
abbrev rest : (outermost : Bool) → KindHead → DomainChange → Result (Walked Nodes) RequestFault → Result (Walked Node) RequestFault
rest outermost kind change r = r >>= (λ w. own (kind_behind outermost kind w.read) >>= (λ k. Ok (facet_read change k w)))

with_nodes : {B : Type 0} (inner_view : B → Nodes) (m : ℕ) (outermost : Bool) (name : Text) (change : DomainChange) (kind : KindHead) (whole : Result (Walked Node) RequestFault) (deeper : Result (Walked Nodes) RequestFault) (nodes : Result B Refused) (result : Result code_node.Node Refused)
    → whole ≡ rest outermost kind change deeper
    → Answers (λ nodes. walked (inner_view nodes) m) request_fault_view nodes deeper
    → MatchResult nodes (λ nodes. Answers node_view request_fault_view result (own (facet_behind outermost name change kind (inner_view nodes)))) (λ refusal. result ≡ Err refusal)
    → Answers (λ node. walked (node_view node).1 m) request_fault_view result whole
with_nodes inner_view m outermost name change kind whole deeper (Ok nodes) result cut inner with_them =
    let e : whole ≡ rest outermost kind change (Ok (walked (inner_view nodes) m)) = cut ∙ ap (rest outermost kind change) inner in
    subst (λ w. Answers (λ node. walked (node_view node).1 m) request_fault_view result w) (sym e)
    (of_kind node_view result name change (kind_behind outermost kind (inner_view nodes)) (inner_view nodes) m with_them)
with_nodes inner_view m outermost name change kind whole deeper (Err Memory) result cut inner with_them =
    subst (λ r. Answers (λ node. walked (node_view node).1 m) request_fault_view r whole) (sym with_them) tt
with_nodes inner_view m outermost name change kind whole deeper (Err (Fault f)) result cut inner with_them =
    subst (λ r. Answers (λ node. walked (node_view node).1 m) request_fault_view r whole) (sym with_them) (cut ∙ ap (rest outermost kind change) inner)

-- a facet, whose nested nodes were read or refused
pub facet_within : {B : Type 0} (inner_view : B → Nodes) (left n m : ℕ) (s : Schema) (outermost unmoved : Bool) (name : Text) (d : Data) (change : DomainChange) (kind : KindHead) (members : Option Members) (nodes : Result B Refused) (result : Result code_node.Node Refused)
    → own (node_head left n s unmoved name d) ≡ Ok (facet_head change kind members)
    → Answers (λ nodes. walked (inner_view nodes) m) request_fault_view nodes (inner_nodes (under (nodes_within (left - 1) s false) unmoved change) (n + 1) members)
    → MatchResult nodes (λ nodes. Answers node_view request_fault_view result (own (facet_behind outermost name change kind (inner_view nodes)))) (λ refusal. result ≡ Err refusal)
    → Answers (λ node. walked (node_view node).1 m) request_fault_view result (node_within left s outermost unmoved n name d)
facet_within inner_view left n m s outermost unmoved name d change kind members nodes result h inner with_them =
    with_nodes inner_view m outermost name change kind (node_within left s outermost unmoved n name d) (inner_nodes (under (nodes_within (left - 1) s false) unmoved change) (n + 1) members) nodes result
    (of_node left n s outermost unmoved name d ∙ ap (λ r. r >>= resumed outermost (under (nodes_within (left - 1) s false) unmoved) (n + 1)) h)
    inner with_them

-- one more node behind those that were read, with what stands behind it
pub one_more : (f : ℕ → Text → Data → Result (Walked Node) RequestFault) (before after : List code_node.Node) (node : code_node.Node) (n m : ℕ) (name : Text) (d : Data) (ms : Members) → f n name d ≡ Ok (walked (node_view node).1 m) → (node_view node).0 ≡ name
    → map node_view after ≡ map node_view before ++ with_numbers (asks_number d) (node_view node)
    → behind (map node_view before) (members_read f n (member name d ms)) ≡ behind (map node_view after) (members_read f m ms)
one_more f before after node n m name d ms e named pushed =
    behind-next f (map node_view before) n m name d (node_view node).1 ms e
    ∙ ap (λ t. behind (map node_view before ++ with_numbers (asks_number d) (t, (node_view node).1)) (members_read f m ms)) (sym named)
    ∙ ap (λ ps. behind ps (members_read f m ms)) (sym pushed)
