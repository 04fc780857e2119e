use Rattle.serde_json.specs.View.{members_view}
use Rattle.fc_docs.specs.Direct.{given_view}
use Rattle.fc_docs.specs.View.{role_view}
use Rattle.fc_docs.proofs.MembersGiven.{ReadGiven}
use Rattle.fc_docs.proofs.read.read_members.Given as goal

abbrev pub invariant-loop-key : goal.invariant-loop-key
invariant-loop-key l = ReadGiven (role_view l.role) l.schema (members_view l.fn.members.entries) l.fields (given_view l.given.items) (members_view l.key-iterator)
