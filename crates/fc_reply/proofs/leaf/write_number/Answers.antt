use Rattle.std.proofs.Common.{[], ◌∷◌, codes, option_map, subst, sym}
use Rattle.json.specs.Token.{key}
use Rattle.fc_spec.specs.replies.Json.{natural_data}
use Rattle.fc_reply.specs.Tokens.{tokens_of, WritesMember}
use Rattle.fc_reply.proofs.Appending.{appends_more}
use Rattle.fc_reply.proofs.leaf.write_number.Goals as goal

pub returns-in_ok-u64-in-Some : goal.returns-in_ok-u64-in-Some
returns-in_ok-u64-in-Some c =
    let old = c.args.out.now in
    let new = c.u64.new.self in
    let named = c.in_ok-key-in-Some.ensures in
    let written = c.in_ok-u64-in-Some.ensures in
    subst (λ number. WritesMember old new (codes "numBuckets") (option_map natural_data number)) (sym c.in-Some.is)
    (appends_more old c.key.new.self new (key (codes "numBuckets") ∷ []) (tokens_of (natural_data c.in-Some.number)) (named.room.0, named.ok) (written.room.0, written.ok))
