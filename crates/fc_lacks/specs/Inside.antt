-- What lacks under printed buckets.
use Rattle.std.specs.Prelude.{ℕ, List, [], ◌∷◌, ◌++◌, Bool}
use Rattle.std.specs.List.{flat_map}
use Rattle.fc_spec.specs.requests.Request.{Kind, Nodes}
use Rattle.fc_spec.specs.replies.Distributed.{printed_keys}
use Rattle.fc_spec.specs.replies.Reading.{Reading}
use Rattle.fc_spec.specs.messages.Lacks.{Lack}
use Rattle.fc_spec.specs.messages.Message.{Way}
use Rattle.fc_lacks.specs.Keys.{WithKey, keyed_of}
use Rattle.fc_lacks.specs.Lacking.{lacking}

module _ {B D : Type 0} (R : Reading B D) (has : B → ℕ → Bool) where
  -- what lacks in the bucket of a key of the n-th node
  abbrev pub inside_key : Nodes → ℕ → Way → ℕ → WithKey B → List Lack
  inside_key inner n way d one = lacking R has d inner 0 one.shards one.bucket (way ++ record { node = n; key = one.key } ∷ [])

  -- what lacks under the buckets that it prints
  abbrev pub lacking_under : Kind → Nodes → ℕ → List ℕ → D → Way → ℕ → List Lack
  lacking_under kind inner n H Y way d = flat_map (λ k. inside_key inner n way d (keyed_of R kind inner H Y k)) (printed_keys R kind inner H Y)
