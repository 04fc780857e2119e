-- The only member of an object, taken out of its map.
use Rattle.std.proofs.Common.{◌≡◌, List, ◌∷◌, length, Option, None, Some, option_map, IsSome, IfSome, string_bytes, refl, sym, ◌∙◌}
use Rattle.serde_json.specs.Data.{object}
use Rattle.serde_json.specs.View.{view, members_view}
use Rattle.fc_spec.specs.scripts.JsonObjects.{sole_member}
use Rattle.fc_base.proofs.JsonObjects.{MapEntry, is_sole, not_sole, sole_member-entries}

pub none_alone : (es : List MapEntry) → (length es ≡ 1 → ⊥) → None ≡ sole_member (object (members_view es))
none_alone es other = sym (sole_member-entries (object (members_view es)) es refl ∙ not_sole es other)

pub taken : (es rest : List MapEntry) (found : Option MapEntry) → length es ≡ 1 → IsSome found → IfSome found (λ e. es ≡ e ∷ rest) → option_map (λ e. (string_bytes e.0, view e.1)) found ≡ sole_member (object (members_view es))
taken es rest None one some first = cc
taken es rest (Some e) one some first = sym (sole_member-entries (object (members_view es)) es refl ∙ is_sole es e one (rw first refl))
