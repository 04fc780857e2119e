use Rattle.std.proofs.Common.{◌≡◌, ◌∙◌, map, sym, ap, subst₂, rules}
use Rattle.fc_column.specs.Numbering.{text_numbered}
use Rattle.fc_column.specs.TextMerger.{Keeps}
use Rattle.fc_column.proofs.BuiltTexts.{keeps_built}
use Rattle.fc_column.proofs.builder.TextBuilder.finish.Goals as goal

pub of-merger-requires-clause-keeps : goal.of-merger-requires-clause-keeps
of-merger-requires-clause-keeps c =
    let kept = c.self.invariant in
    let entries = c.self.inside.numbers.entries in
    let rows = c.self.inside.rows.rows in
    let same : c.in_ok-texts.texts.items ≡ entries = search rules in
    subst₂ (λ l n. Keeps l n rows) (sym same) (sym (search rules)) (keeps_built entries rows kept.numbering kept.numbered kept.ascending (kept.used c.if-self.false))

pub returns : goal.returns
returns c =
    let same : c.in_ok-texts.texts.items ≡ c.self.inside.numbers.entries = search rules in
    c.in_ok-column.ensures ∙ c.of-merger.ensures ∙ ap (λ l. map (map (text_numbered l)) c.self.inside.rows.rows) same ∙ c.self.view_is
