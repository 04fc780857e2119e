use Rattle.std.proofs.Common.{◌≡◌, ◌∙◌, ◌&&◌, [], Some, get_or, map, slice_get, sym, ap, subst}
use Rattle.std.specs.Option.{option_copied}
use Rattle.fc_spec.specs.documents.Columns.{column_of}
use Rattle.fc_spec.specs.documents.Sets.{zip_with}
use Rattle.fc_spec.specs.documents.Totals.{documents_in}
use Rattle.fc_spec.specs.documents.Val.{has_val, text}
use Rattle.fc_docset.specs.Positions.{positions}
use Rattle.fc_column.specs.Terms.{has_text, terms_of}
use Rattle.fc_column.proofs.TermOrder.{term_placed}
use Rattle.fc_segment.specs.Columned.{Columned}
use Rattle.fc_segment.specs.Ids.{ParentsByTerm}
use Rattle.fc_segment.specs.Parents.{parents_in}
use Rattle.fc_segment.specs.declared.column.Column.TheVariants as column
use Rattle.fc_segment.proofs.FirstColumn.{first_even, first_having, list_of_term}
use Rattle.fc_segment.proofs.ParentTexts.{all_having, none_having}
use Rattle.fc_segment.proofs.segment_core.SegmentCore.parents_having.Goals as goal

pub returns-in_default-ordinal_of : goal.returns-in_default-ordinal_of
returns-in_default-ordinal_of c =
    let s = c.self.inside in
    let id = c.args.id.now in
    let texts = c.in-Some-Text.texts in
    let first : slice_get s.columns.items 0 ≡ Some (column.Text texts) =
    ap (λ l. slice_get l 0) (sym c.deref.ensures.value) ∙ sym c.first.ensures.value ∙ ap option_copied c.in-Some-Text.is ∙ ap Some c.in-Some-Text.field-0-is in
    sym (none_having id s.parents texts (sym c.in_default-ordinal_of.ensures.found))
    ∙ ap positions (sym (first_having s c.self.invariant texts first id))
    ∙ ap (λ (core : Columned). positions (zip_with ◌&&◌ (parents_in core.blocks) (map (has_val (text id)) (column_of 0 (documents_in core.blocks))))) c.self.view_is

pub returns-in-Some-ids : goal.returns-in-Some-ids
returns-in-Some-ids c =
    let s = c.self.inside in
    let id = c.args.id.now in
    let texts = c.in-Some-Text.texts in
    let first : slice_get s.columns.items 0 ≡ Some (column.Text texts) =
    ap (λ l. slice_get l 0) (sym c.deref.ensures.value) ∙ sym c.first.ensures.value ∙ ap option_copied c.in-Some-Text.is ∙ ap Some c.in-Some-Text.field-0-is in
    let are = subst (ParentsByTerm s.parents texts) c.in-Some-ids.is (c.self.invariant.ids texts first) in
    c.list.ensures
    ∙ list_of_term s.parents texts c.in-Some-ids.lists id c.in-Some.ord are c.in-Some.ensures.ordinal c.in-Some.ensures.within (term_placed texts id (sym c.in-Some.ensures.found))
    ∙ ap positions (sym (first_having s c.self.invariant texts first id))
    ∙ ap (λ (core : Columned). positions (zip_with ◌&&◌ (parents_in core.blocks) (map (has_val (text id)) (column_of 0 (documents_in core.blocks))))) c.self.view_is

pub returns-in-None : goal.returns-in-None
returns-in-None c =
    let s = c.self.inside in
    let id = c.args.id.now in
    let texts = c.in-Some-Text.texts in
    let first : slice_get s.columns.items 0 ≡ Some (column.Text texts) =
    ap (λ l. slice_get l 0) (sym c.deref.ensures.value) ∙ sym c.first.ensures.value ∙ ap option_copied c.in-Some-Text.is ∙ ap Some c.in-Some-Text.field-0-is in
    let all = subst (ParentsByTerm s.parents texts) c.in-None.is (c.self.invariant.ids texts first) in
    c.positions_of.ensures.positions
    ∙ ap (λ t. positions (map (has_text t) texts)) (ap (λ n. get_or (terms_of texts) n []) c.in-Some.ensures.ordinal ∙ term_placed texts id (sym c.in-Some.ensures.found))
    ∙ ap positions (sym (all_having id s.parents texts all (first_even s c.self.invariant texts first)) ∙ sym (first_having s c.self.invariant texts first id))
    ∙ ap (λ (core : Columned). positions (zip_with ◌&&◌ (parents_in core.blocks) (map (has_val (text id)) (column_of 0 (documents_in core.blocks))))) c.self.view_is
