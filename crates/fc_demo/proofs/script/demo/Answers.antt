use Rattle.std.proofs.Common.{◌≡◌, arith}
use Rattle.fc_demo.specs.Demo.{lines_of, schema_line, commit_line, sync_line, search_line}
use Rattle.fc_demo.proofs.Joining.{lines_more, lines_ended}
use Rattle.fc_demo.proofs.script.demo.Goals as goal

pub loop-i-preserved : goal.loop-i-preserved
loop-i-preserved c =
    lines_more lines_of schema_line c.loop-i.script.items c.push_document.new.script.items c.loop-i.i c.loop-i.invariant c.in_ok-push_document.ensures

pub returns : goal.returns
returns c =
    let all : c.loop-i.i ≡ c.args.documents = omega arith in
    lines_ended lines_of schema_line c.loop-i.script.items c.extend_from_slice.new.self.items c.extend_from_slice-2.new.self.items
    c.extend_from_slice-3.new.self.items commit_line sync_line search_line c.loop-i.i c.args.documents all c.loop-i.invariant
    c.in_ok-extend_from_slice.ensures.items c.in_ok-extend_from_slice-2.ensures.items c.in_ok-extend_from_slice-3.ensures.items
