-- The keys of a JSON object ascend.
use Rattle.std.proofs.Common.{◌≡◌, List, [], ◌∷◌, map, String, Global, string_bytes}
use Rattle.std.specs.declared.cmp.Ordering.TheVariants.{Less}
use Rattle.std.specs.List.{AllByRecursion}
use Rattle.std.specs.List.Sorted.{IsStrictlySortedBy}
use Rattle.std.specs.String.{string_cmp}
use Rattle.serde_json.specs.Data.{Members, no_members, member}
use Rattle.serde_json.specs.View.{members_view}
use Rattle.serde_json.specs.declared.value.Value.{Value}
use Rattle.fc_spec.specs.documents.Val.{Text, text_cmp}

abbrev pub member_keys : Members → List Text
member_keys no_members = []
member_keys (member key d ms) = key ∷ member_keys ms

all_after : (key : String Global) (es : List (String Global × Value)) → AllByRecursion (λ k. string_cmp key k ≡ Less) (map (λ e. e.0) es) → AllByRecursion (λ k. text_cmp (string_bytes key) k ≡ Less) (member_keys (members_view es))
all_after key [] after = tt
all_after key (e ∷ es) after = (after.0, all_after key es after.1)

pub keys_ascend : (es : List (String Global × Value)) → IsStrictlySortedBy string_cmp (map (λ e. e.0) es) → IsStrictlySortedBy text_cmp (member_keys (members_view es))
unfolding IsStrictlySortedBy
keys_ascend [] ascend = tt
keys_ascend (e ∷ es) ascend = (all_after e.0 es ascend.0, keys_ascend es ascend.1)
