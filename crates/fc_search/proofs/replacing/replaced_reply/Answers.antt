use Rattle.std.proofs.Common.{◌≤◌, length, map, ◌∙◌, ap, arith}
use Rattle.std.specs.Arc.{arc_value}
use Rattle.std.proofs.lemmas.List.{length-map}
use Rattle.fc_spec.specs.replies.Restored.{restored}
use Rattle.fc_spec.specs.replies.Tops.{replaced}
use Rattle.fc_request.specs.RequestView.{request_view}
use Rattle.fc_reply.specs.ReplyView.{reply_view}
use Rattle.fc_replaced.specs.TopsView.{tops_view}
use Rattle.fc_round.specs.Askable.{world_of}
use Rattle.fc_search.proofs.Replaced.{few_before, only_nodes, only_searchable, replaced_searchable, whole_reply, whole_sent}
use Rattle.fc_search.proofs.replacing.replaced_reply.Goals as goal

pub find_tops-requires-clause-askable : goal.find_tops-requires-clause-askable
find_tops-requires-clause-askable g c κs within =
    let gs = map arc_value c.args.generations.now in
    let some : 1 ≤ length (map arc_value c.args.generations.now) = (let long = length-map c.args.generations.now arc_value in omega (arith, long, c.requires.some)) in
    record {
      root = c.in_ok-exact.ensures.root;
      valid = only_searchable c.replacing_laws.ensures (request_view c.args.request.now) gs some c.requires.valid c.requires.schema c.all_own_blocks.ensures (request_view c.in_ok-exact.exact) c.in_ok-exact.ensures.request;
      limits = c.requires.limits;
    }

pub find_tops-requires-clause-nodes : goal.find_tops-requires-clause-nodes
find_tops-requires-clause-nodes g c κs within =
    let gs = map arc_value c.args.generations.now in
    let some : 1 ≤ length (map arc_value c.args.generations.now) = (let long = length-map c.args.generations.now arc_value in omega (arith, long, c.requires.some)) in
    only_nodes c.replacing_laws.ensures (request_view c.args.request.now) gs some c.requires.valid c.requires.schema c.all_own_blocks.ensures (request_view c.in_ok-exact.exact) c.in_ok-exact.ensures.request

pub distributed_reply-requires-clause-behind : goal.distributed_reply-requires-clause-behind
distributed_reply-requires-clause-behind g c κs within = few_before (request_view c.in_ok-exact.exact) (world_of (map arc_value c.args.generations.now)) c.in_ok-found.found.rounds c.in_ok-found.ensures.rounds

pub distributed_reply-requires-clause-askable : goal.distributed_reply-requires-clause-askable
distributed_reply-requires-clause-askable g c κs within =
    let gs = map arc_value c.args.generations.now in
    let some : 1 ≤ length (map arc_value c.args.generations.now) = (let long = length-map c.args.generations.now arc_value in omega (arith, long, c.requires.some)) in
    record {
      root = c.in_ok-made.ensures.root;
      valid = replaced_searchable c.replacing_laws.ensures (request_view c.args.request.now) gs some c.requires.valid c.requires.schema c.all_own_blocks.ensures (request_view c.in_ok-exact.exact) (request_view c.in_ok-made.made)
          (tops_view c.in_ok-found.found.tops.items) c.in_ok-exact.ensures.request c.in_ok-found.ensures.tops (c.in_ok-made.ensures.request ∙ ap (λ ts. replaced (request_view c.args.request.now) (tops_view ts)) c.deref.ensures.value);
      limits = c.requires.limits;
    }

pub returns-clause-reply : goal.returns-clause-reply
returns-clause-reply g c =
    let gs = map arc_value c.args.generations.now in
    let some : 1 ≤ length (map arc_value c.args.generations.now) = (let long = length-map c.args.generations.now arc_value in omega (arith, long, c.requires.some)) in
    whole_reply c.replacing_laws.ensures (request_view c.args.request.now) gs some c.requires.valid c.requires.schema c.all_own_blocks.ensures (request_view c.in_ok-exact.exact) (request_view c.in_ok-made.made)
    (tops_view c.in_ok-found.found.tops.items) (reply_view c.in_ok-merged.merged) (reply_view c.in_ok-reply.reply) c.in_ok-exact.ensures.request c.in_ok-found.ensures.tops (c.in_ok-made.ensures.request ∙ ap (λ ts. replaced (request_view c.args.request.now) (tops_view ts)) c.deref.ensures.value) c.in_ok-merged.ensures.distributed (c.in_ok-reply.ensures ∙ ap (λ ts. restored (request_view c.args.request.now) (tops_view ts) (reply_view c.in_ok-merged.merged)) c.deref-2.ensures.value)

pub returns-clause-trace : goal.returns-clause-trace
returns-clause-trace g c =
    let gs = map arc_value c.args.generations.now in
    let some : 1 ≤ length (map arc_value c.args.generations.now) = (let long = length-map c.args.generations.now arc_value in omega (arith, long, c.requires.some)) in
    whole_sent c.replacing_laws.ensures (request_view c.args.request.now) gs some c.requires.valid c.requires.schema c.all_own_blocks.ensures (request_view c.in_ok-exact.exact) (request_view c.in_ok-made.made)
    (tops_view c.in_ok-found.found.tops.items) c.in_ok-found.found.rounds (g.P.Probe.lengths c.args.probe.now) (g.P.Probe.lengths c.find_tops.new.probe) (g.P.Probe.lengths c.distributed_reply.new.probe)
    c.requires.exact c.in_ok-exact.ensures.request c.in_ok-found.ensures.tops (c.in_ok-made.ensures.request ∙ ap (λ ts. replaced (request_view c.args.request.now) (tops_view ts)) c.deref.ensures.value) c.in_ok-found.ensures.rounds c.in_ok-found.ensures.trace c.in_ok-merged.ensures.trace
