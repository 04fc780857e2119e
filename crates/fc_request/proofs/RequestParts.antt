-- A request is its query and filters, and its nodes.
use Rattle.std.proofs.Common.{◌≡◌, ◌∙◌, ap, refl, List, [], ◌∷◌, true, None, Some, Result, Ok, Err, IfOk, ok_or}
use Rattle.std.specs.Prelude.{codes}
use Rattle.serde_json.specs.Data.{Data, Members}
use Rattle.serde_json.specs.Find.{as_object, get_member}
use Rattle.fc_spec.specs.documents.Schema.{Schema}
use Rattle.fc_spec.specs.queries.Query.{Query, all}
use Rattle.fc_spec.specs.requests.Request.{Filter, Nodes, Request}
use Rattle.fc_spec.specs.requests.RequestFault.{not_an_object, RequestFault}
use Rattle.fc_spec.specs.requests.RequestWalk.{outside, check_names, optional}
use Rattle.fc_spec.specs.requests.RequestReading.{Walked, own, inner_read, nodes_within, filters_in, zero_in, request_members, request_of}
use Rattle.fc_spec.specs.requests.DomainReading.{text_query}
use Rattle.fc_spec.specs.requests.ValidRequests.{IsValidRequest}
use Rattle.fc_spec.specs.scripts.JsonValues.{HasAscendingKeys, HasNumbers}
use Rattle.fc_spec.specs.words.Walks.{◌>>=◌}
use Rattle.fc_spec.proofs.requests.ValidWalk.{read_are_valid_whole}
use Rattle.fc_base.specs.Answers.{Answers}
use Rattle.fc_base.specs.declared.error.Refusal.{Refusal}
use Rattle.fc_request.specs.declared.fault.RequestFault as code_fault
use Rattle.fc_request.specs.declared.request.Request as code_request
use Rattle.fc_request.specs.FaultView.{request_fault_view}
use Rattle.fc_request.specs.RequestView.{request_view}
use Rattle.fc_request.specs.Heads.{outermost_nodes, request_parts}
use Rattle.fc_request.proofs.NodeWalk.{step}

-- the request of a query and filters with these nodes
abbrev with_nodes : Query × List Filter → Result Nodes RequestFault → Result Request RequestFault
with_nodes head r = r >>= (λ nodes. Ok (record { query = head.0; filters = head.1; nodes = nodes }))

pub of_parts : (s : Schema) (ms : Members) → request_members s ms ≡ request_parts s ms
of_parts s ms =
    step k (check_names (codes "query" ∷ codes "filter" ∷ codes "limit" ∷ codes "facet" ∷ []) ms) _ _ (λ known.
    step k (optional (codes "query") (text_query s) all ms) _ _ (λ q.
    step k (optional (codes "filter") (filters_in s) [] ms) _ _ (λ fs.
    step k (optional (codes "limit") zero_in tt ms) _ (λ zero. Ok (q, fs)) (λ zero.
    of_nodes q fs (inner_read (nodes_within 8 s true true) 0 (get_member (codes "facet") ms))))))
  where
    k : Query × List Filter → Result Request RequestFault
    k head = with_nodes head (outermost_nodes s ms)

    of_nodes : (q : Query) (fs : List Filter) (r : Result (Walked Nodes) RequestFault) → (r >>= (λ nodes. Ok (record { query = q; filters = fs; nodes = nodes.read }))) ≡ with_nodes (q, fs) (r >>= (λ w. Ok w.read))
    of_nodes q fs (Ok w) = refl
    of_nodes q fs (Err e) = refl

-- an object is read by its members, and what is none has a fault
pub of_object : (s : Schema) (d : Data) (ms : Members) → as_object d ≡ Some ms → request_of s d ≡ request_parts s ms
unfolding request_of
of_object s d ms e = ap (λ o. own (ok_or o not_an_object) >>= request_members s) e ∙ of_parts s ms

pub of_no_object : (s : Schema) (d : Data) → as_object d ≡ None → request_of s d ≡ Err (outside not_an_object)
unfolding request_of
of_no_object s d e = ap (λ o. own (ok_or o not_an_object) >>= request_members s) e

-- the request of JSON is valid
pub valid : (result : Result code_request.Request (Refusal code_fault.RequestFault)) (s : Schema) (d : Data) → Answers request_view request_fault_view result (request_of s d) → IfOk result (λ r. HasNumbers d → HasAscendingKeys d → IsValidRequest s (request_view r))
valid (Ok r) s d h = λ numbers keys. read_are_valid_whole s d (request_view r) numbers keys h
valid (Err e) s d h = tt
