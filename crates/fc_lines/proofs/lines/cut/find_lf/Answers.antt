use Rattle.std.proofs.Common.{◌==◌}
use Rattle.fc_lines.proofs.FirstByte.{first_byte-position}
use Rattle.fc_lines.proofs.lines.cut.find_lf.Goals as goal

pub returns : goal.returns
returns c = first_byte-position (λ b. b == 10) c.args.bytes.now c.memchr.result c.memchr.ensures
