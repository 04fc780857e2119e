-- What is made of a set has its length.
use Rattle.std.proofs.Common.{◌≡◌, List, [], ◌∷◌, Bool, length, ap, ◌∙◌}
use Rattle.std.specs.Prelude.{Result, Ok, Err, IfOk}
use Rattle.fc_base.specs.declared.error.WantMemory.{WantMemory}
use Rattle.fc_spec.specs.documents.Document.{Block}
use Rattle.fc_spec.specs.documents.Totals.{document_total}
use Rattle.fc_spec.specs.requests.Buckets.{Key}
use Rattle.fc_spec.specs.requests.DomainSets.{bucket_set}
use Rattle.fc_spec.specs.requests.Request.{Kind}
use Rattle.fc_spec.proofs.requests.SetChanges.{keep_lengths}
use Rattle.fc_partial.specs.View.{key_view}
use Rattle.fc_request.specs.FacetNode.{kind_of, kind_view}
use Rattle.fc_jobs.specs.Scopes.{selected_inside}
use Rattle.fc_jobs.specs.declared.enclosing.Enclosing.{Enclosing}

pub bucket_length : (kind : Kind) (key : Key) (blocks : List Block) (set : List Bool) → length set ≡ document_total blocks → length (bucket_set kind key blocks set) ≡ document_total blocks
bucket_length kind key blocks set long = keep_lengths.bucket kind key blocks set long

-- where it comes of a call
pub selected_length : (kind : Kind) (key : Key) (blocks : List Block) (set : List Bool) (result : Result (List Bool) WantMemory) → length set ≡ document_total blocks → IfOk result (λ bucket. bucket ≡ bucket_set kind key blocks set)
    → IfOk result (λ bucket. length bucket ≡ document_total blocks)
selected_length kind key blocks set (Ok bucket) long is = ap length is ∙ bucket_length kind key blocks set long
selected_length kind key blocks set (Err want) long is = is

pub inside_length : (blocks : List Block) (xs : List Enclosing) (set : List Bool) → length set ≡ document_total blocks → length (selected_inside blocks xs set) ≡ document_total blocks
inside_length blocks [] set long = long
inside_length blocks (x ∷ xs) set long =
    let kind = kind_view (kind_of x.node.now) in
    let key = key_view x.key.now in
    inside_length blocks xs (bucket_set kind key blocks set) (bucket_length kind key blocks set long)
