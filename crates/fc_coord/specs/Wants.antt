-- Wants shard by shard.
use Rattle.std.specs.Prelude.{ℕ, zero, suc, List, [], ◌∷◌, ◌++◌}
use Rattle.fc_spec.specs.messages.Message.{Want}

-- one more, behind those of a shard
abbrev pub with_want : ℕ → Want → List (List Want) → List (List Want)
with_want i w [] = []
with_want zero w (ws ∷ rest) = (ws ++ w ∷ []) ∷ rest
with_want (suc i) w (ws ∷ rest) = ws ∷ with_want i w rest
