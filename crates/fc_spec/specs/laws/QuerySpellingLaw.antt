-- A row of tokens has one tree.
use Rattle.std.specs.Prelude.{◌≡◌}
use Rattle.fc_spec.specs.queries.QueryTrees.{Group, group_tokens}
use Rattle.fc_spec.specs.queries.QueryForms.{IsTree}

-- no two trees spell the same row
abbrev pub HasOneTree : Type 0
HasOneTree = (g h : Group) → IsTree g → IsTree h → group_tokens g ≡ group_tokens h → g ≡ h
