use Rattle.std.proofs.Common.{◌≡◌, true, [], ◌++◌, map, replicate, All, subst, sym, ap, ◌∙◌}
use Rattle.std.specs.List.{list_any}
use Rattle.fc_spec.specs.documents.Val.{text_cmp}
use Rattle.fc_spec.specs.documents.Columns.{IsAscending}
use Rattle.fc_column.specs.Terms.{has_text}
use Rattle.fc_column.specs.Numbering.{has_number, text_numbered}
use Rattle.fc_column.proofs.Grown.{texts_skipped, used_skipped, all_skipped, ascending_skipped}
use Rattle.fc_column.proofs.builder.TextBuilder.skip.Goals as goal

pub invariant_of-self-2 : goal.invariant_of-self-2
invariant_of-self-2 c =
    let builder = c.self.inside in
    let entries = builder.numbers.entries in
    let kept = c.self.invariant in
    let count = c.args.count in
    let skipped = c.in_ok-skip.ensures.ok in
    let rows = ap (λ laid. laid.rows) skipped in
    let texts = map (map (text_numbered entries)) builder.rows.rows in
    let column = ap (map (map (text_numbered entries))) rows ∙ texts_skipped entries builder.rows.rows count in
    record {
      numbering = kept.numbering;
      numbered = subst (All (All (λ n. has_number n entries ≡ true))) (sym rows) (all_skipped (λ n. has_number n entries ≡ true) builder.rows.rows count kept.numbered);
      ascending = subst (All (IsAscending text_cmp)) (sym column) (ascending_skipped texts count kept.ascending);
      used = λ whole t. kept.used whole t ∙ sym (ap (list_any (has_text t)) column ∙ used_skipped t texts count);
      whole = λ whole. ap (λ laid. laid.next) skipped;
    }

pub returns : goal.returns
returns c =
    let builder = c.self.inside in
    let entries = builder.numbers.entries in
    ap (λ laid. map (map (text_numbered entries)) laid.rows) c.in_ok-skip.ensures.ok
    ∙ texts_skipped entries builder.rows.rows c.args.count ∙ ap (λ l. l ++ replicate c.args.count []) c.self.view_is
