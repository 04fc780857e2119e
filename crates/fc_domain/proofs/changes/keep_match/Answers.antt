use Rattle.std.proofs.Common.{◌&&◌, length, false, ap, ◌∙◌, arith}
use Rattle.std.proofs.lemmas.List.{length-replicate}
use Rattle.fc_spec.proofs.words.WhereTrue.{length-zip_with}
use Rattle.fc_domain.proofs.changes.keep_match.Goals as goal

pub returns-clause-length : goal.returns-clause-length
returns-clause-length c = ap length c.and_with.ensures ∙ length-zip_with ◌&&◌ c.args.into.now c.matches.new.into
    (omega (arith, c.in_ok-matches.ensures.length, ap length c.in_ok-answers.ensures, length-replicate c.len.result false, c.len.ensures))
