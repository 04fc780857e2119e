use Rattle.std.proofs.Common.{◌≡◌, Some, option_and_then, ap, rules}
use Rattle.std.specs.Prelude.{codes}
use Rattle.serde_json.specs.Find.{get, as_object}
use Rattle.serde_json.specs.View.{view, members_view}
use Rattle.fc_spec.specs.documents.SchemaReading.{shards_of}
use Rattle.fc_base.specs.Answers.{or_fault}
use Rattle.fc_base.proofs.SchemaMembers.{not_two_members, two_members, not_two, schema_is}
use Rattle.fc_base.proofs.OrFault.{given_by_ok}
use Rattle.fc_base.proofs.schema.Schema.read.Goals as goal

pub returns-then-len-ne2 : goal.returns-then-len-ne2
returns-then-len-ne2 c =
    let is : Some (members_view c.in_ok-members.members.now.entries) ≡ as_object (view c.args.json.now) = rw (c.in_ok-members.ensures.ok_part) at c.as_object.ensures in
    ap or_fault (not_two (view c.args.json.now) _ is (not_two_members c.in_ok-members.members.now.entries c.len.result (search rules) c.if-len-ne2.true))

pub returns : goal.returns
returns c =
    let is : Some (members_view c.in_ok-members.members.now.entries) ≡ as_object (view c.args.json.now) = rw (c.in_ok-members.ensures.ok_part) at c.as_object.ensures in
    let shards : option_and_then shards_of (get (codes "shards") (view c.args.json.now)) ≡ Some c.in_ok-shards.shards = search rules in
    let fields : option_and_then as_object (get (codes "fields") (view c.args.json.now)) ≡ Some (members_view c.in_ok-fields.fields.now.entries) = search rules in
    ap or_fault (schema_is (view c.args.json.now) _ _ _ _ is (two_members c.in_ok-members.members.now.entries c.len.result (search rules) c.if-len-ne2.false) shards fields (given_by_ok _ _ c.in_ok-read_fields.ensures.answer))
