use Rattle.std.proofs.Common.{[], ◌∷◌, codes}
use Rattle.json.specs.Token.{begin_object, end_object, key, string}
use Rattle.serde_json.specs.Data.{array}
use Rattle.fc_spec.specs.replies.Json.{bucket_data}
use Rattle.fc_spec.specs.scripts.Lines.{numbers_data}
use Rattle.fc_reply.specs.ReplyView.{reply_view}
use Rattle.fc_reply.specs.Tokens.{tokens_of}
use Rattle.fc_reply.proofs.Appending.{appends_more}
use Rattle.fc_reply.proofs.line.write_reply.Goals as goal

pub returns : goal.returns
returns c =
    let end = c.end_object.new.self in
    let opened = c.in_ok-begin_object.ensures in
    let first = c.in_ok-key.ensures in
    let second = c.in_ok-key-2.ensures in
    let third = c.in_ok-key-3.ensures in
    let told = c.in_ok-string.ensures in
    let closed = c.in_ok-end_object.ensures in
    let session = appends_more c.key-3.new.self c.string.new.self end (string c.args.session.now ∷ []) (end_object ∷ []) (told.room.0, told.ok) (closed.room.0, closed.ok) in
    let named = appends_more c.write_numbers.new.out c.key-3.new.self end (key (codes "session") ∷ []) _ (third.room.0, third.ok) session in
    let numbers = appends_more c.key-2.new.self c.write_numbers.new.out end (tokens_of (array (numbers_data c.args.generations.now))) _ c.in_ok-write_numbers.ensures named in
    let generations = appends_more c.write_bucket.new.out c.key-2.new.self end (key (codes "generations") ∷ []) _ (second.room.0, second.ok) numbers in
    let facets = appends_more c.key.new.self c.write_bucket.new.out end (tokens_of (bucket_data (reply_view c.args.reply.now))) _ c.in_ok-write_bucket.ensures generations in
    let members = appends_more c.begin_object.new.self c.key.new.self end (key (codes "facets") ∷ []) _ (first.room.0, first.ok) facets in
    appends_more c.args.out.now c.begin_object.new.self end (begin_object ∷ []) _ (opened.room.0, opened.ok) members
