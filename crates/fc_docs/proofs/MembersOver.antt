-- Members of a document, of which the tokens were read.
use Rattle.std.proofs.Common.{◌≡◌, ◌≤◌, ◌<◌, ◌-◌, ℕ, List, length, Bool, false, Some, None, arith, sym, ◌∙◌, ap, refl}
use Rattle.json.specs.Token.{Token}
use Rattle.json.specs.Json.{members, read_key, value}
use Rattle.json.proofs.Grammar.{read_key-shorter}
use Rattle.serde_json.specs.Data.{Members, put}
use Rattle.serde_json.specs.Read.{converted, of_members}
use Rattle.serde_json.proofs.Views.{get_member-put_other}
use Rattle.fc_spec.specs.documents.Val.{Text, same_text}
use Rattle.fc_spec.specs.documents.Schema.{Schema}
use Rattle.fc_spec.specs.documents.BlockReading.{Role, children_key}
use Rattle.fc_spec.proofs.words.Texts.{same_itself}
use Rattle.fc_docs.specs.Direct.{Given}
use Rattle.fc_docs.specs.DirectState.{AreRead, GivesMember, GoesOver, ReadTo}
use Rattle.fc_docs.proofs.JsonTokens.{member_read, members_over}

pub none_over : (role : Role) (s : Schema) (found : Members) (ts : List Token) (given : Given) (seen : List Bool) → AreRead role s found given seen → GoesOver role s found ts ts given seen
none_over role s found ts given seen read = record { all = found; read = read; children = refl; over = λ depth n some enough. (n, enough, refl) }

pub one_over : (role : Role) (s : Schema) (found : Members) (old before rest new : List Token) (given after : Given) (seen seen_after : List Bool) (key : Text)
    → GoesOver role s found old before given seen → read_key before ≡ Some (Some key, rest) → same_text key children_key ≡ false → GivesMember s key rest new given after seen seen_after → length new < length rest → GoesOver role s found old new after seen_after
one_over role s found old before rest new given after seen seen_after key so_far named other member shorter =
    let apart : children_key ≡ key → ⊥ = λ is. let same : same_text key key ≡ false = ap (same_text key) (sym is) ∙ other in cc (same_itself key) in
    let less : length rest < length before = read_key-shorter before (Some key) rest named in
    record {
      all = put key member.said so_far.all;
      read = member.read role so_far.all so_far.read;
      children = get_member-put_other children_key key member.said so_far.all apart ∙ so_far.children;
      over = λ depth n some enough.
          let turns = so_far.over depth n some enough in
          let more : length before ≤ turns.0 = turns.1 in
          (turns.0 - 1, omega arith, turns.2 ∙ member_read (value depth) so_far.all turns.0 key before rest new member.said (omega arith) named (member.spells depth some));
    }

pub none_to : (s : Schema) (ts : List Token) (given : Given) (seen : List Bool) → ReadTo s ts ts given given seen seen
none_to s ts given seen = record { fewer = omega arith; goes = λ role found read. none_over role s found ts given seen read }

pub one_to : (s : Schema) (old before rest new : List Token) (start given after : Given) (seen_start seen seen_after : List Bool) (key : Text)
    → ReadTo s old before start given seen_start seen → read_key before ≡ Some (Some key, rest) → same_text key children_key ≡ false → GivesMember s key rest new given after seen seen_after → length new < length rest → ReadTo s old new start after seen_start seen_after
one_to s old before rest new start given after seen_start seen seen_after key so_far named other member shorter =
    let less : length rest < length before = read_key-shorter before (Some key) rest named in
    let fewer : length before ≤ length old = so_far.fewer in
    record { fewer = omega arith; goes = λ role found read. one_over role s found old before rest new given after seen seen_after key (so_far.goes role found read) named other member shorter }

-- the members up to the end of the object
pub all_over : (role : Role) (s : Schema) (found : Members) (old before new : List Token) (given : Given) (seen : List Bool) (so_far : GoesOver role s found old before given seen) → read_key before ≡ Some (None, new)
    → (depth n : ℕ) → 1 ≤ depth → length old ≤ n → converted (λ ms. of_members ms found) (members (value depth) n old) ≡ Some (so_far.all, new)
all_over role s found old before new given seen so_far ended depth n some enough =
    let turns = so_far.over depth n some enough in
    turns.2 ∙ members_over (value depth) so_far.all turns.0 before new turns.1 ended
