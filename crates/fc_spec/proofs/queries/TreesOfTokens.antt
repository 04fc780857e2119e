-- The tree of a row of tokens: the one that spells it, where there is one.
use Rattle.std.proofs.Common.{◌≡◌, ◌∙◌, ap, sym, subst, [], ◌∷◌, Option, None, Some, IfSome, append-nil, false}
use Rattle.fc_spec.specs.queries.QueryTrees.{Group, group_tokens}
use Rattle.fc_spec.specs.queries.QueryForms.{IsTree}
use Rattle.fc_spec.specs.laws.QuerySpellingLaw.{HasOneTree}
use Rattle.fc_spec.specs.queries.TreeReading.{Row, group_within, whole_at, tree_of}
use Rattle.fc_spec.proofs.queries.ReadIsSpelled.{IsGroupOf, read_is_spelled}
use Rattle.fc_spec.proofs.queries.SpelledIsRead.{spelled_is_read}

pub tree_again : (g : Group) → IsTree g → tree_of (group_tokens g) ≡ Some g
tree_again g tree = ap whole_at (ap (group_within 64 false) (sym (append-nil (group_tokens g))) ∙ spelled_is_read 64 false g [] tree.0 tree.1 tt)

whole : (ts : Row) (o : Option (Group × Row)) → IfSome o (IsGroupOf 64 false ts) → IfSome (whole_at o) (λ g. IsTree g × (ts ≡ group_tokens g))
whole ts None h = tt
whole ts (Some (g, [])) h = ((h.formed, h.shallow), h.spelled ∙ append-nil (group_tokens g))
whole ts (Some (g, t ∷ left)) h = tt

pub tree_spells : (ts : Row) (g : Group) → tree_of ts ≡ Some g → IsTree g × (ts ≡ group_tokens g)
tree_spells ts g e = subst (λ (o : Option Group). IfSome o (λ g. IsTree g × (ts ≡ group_tokens g))) e (whole ts (group_within 64 false ts) (read_is_spelled 64 false ts))

pub one_tree : HasOneTree
one_tree g h p q e = let same : Some g ≡ Some h = sym (tree_again g p) ∙ ap tree_of e ∙ tree_again h q in cc
