use Rattle.std.proofs.Common.{◌≡◌, Some, false, arith, rules}
use Rattle.std.proofs.lemmas.Bool.{OnTrue_at}
use Rattle.std.proofs.lemmas.Map.Text.{is_eq-slice_cmp}
use Rattle.json.specs.Json.{read_key}
use Rattle.fc_spec.specs.documents.Val.{same_text}
use Rattle.fc_spec.specs.documents.BlockReading.{children_key}
use Rattle.fc_docs.specs.Direct.{given_view}
use Rattle.fc_docs.proofs.MembersOver.{none_to, one_to}
use Rattle.fc_docs.proofs.direct.fields.read_fields.Goals as goal

pub members-init : goal.members-init
members-init c = none_to c.args.schema.now c.args.reader.now (given_view c.args.given.now.items) c.args.seen.now

pub read_member-requires-clause-other : goal.read_member-requires-clause-other
read_member-requires-clause-other c = rw is_eq-slice_cmp (search rules)

pub members-preserved : goal.members-preserved
members-preserved c =
    let key = c.in-Some.key.now in
    let named : read_key c.members.reader ≡ Some (Some key, c.next_key.new.self) = grind arith in
    let other : same_text key children_key ≡ false = rw is_eq-slice_cmp (search rules) in
    one_to c.args.schema.now c.args.reader.now c.members.reader c.next_key.new.self c.read_member.new.reader (given_view c.args.given.now.items) (given_view c.members.given.items) (given_view c.read_member.new.given.items)
    c.args.seen.now c.members.seen c.read_member.new.seen key c.members.invariant named other (OnTrue_at c.if-not-branch.false c.in_ok-read_member.ensures.member) (OnTrue_at c.if-not-branch.false c.in_ok-read_member.ensures.shorter)
