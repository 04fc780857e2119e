use Rattle.std.proofs.Common.{◌∙◌, ◌<◌, length, ap, sym}
use Rattle.std.proofs.lemmas.Bool.{ltb-true}
use Rattle.std.specs.Ordering.{is_eq}
use Rattle.fc_column.proofs.MergedOrder.{last_is}
use Rattle.fc_column.proofs.merged_terms.is_last.Goals as goal

pub returns-in-Some : goal.returns-in-Some
returns-in-Some c =
    let item = c.in-Some.ensures.item in
    let some : 0 < length c.args.terms.now = ltb-true 0 (length c.args.terms.now) (sym item.0) in
    c.is_eq.ensures ∙ ap is_eq c.cmp.ensures ∙ last_is c.args.terms.now c.requires.ascending c.args.text.now c.requires.above c.in-Some.last.now some item.1
