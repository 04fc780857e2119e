use Rattle.std.proofs.Common.{◌≡◌, ◌∙◌, [], false, map, get_or, replicate, sym, ap, zero-add}
use Rattle.std.proofs.lemmas.List.{length-map}
use Rattle.std.specs.Option.{is_some}
use Rattle.fc_lists.specs.Among.{is_among}
use Rattle.fc_column.specs.Terms.{has_text, terms_of}
use Rattle.fc_lists.proofs.OfNumbers.{is_among-positions}
use Rattle.fc_docset.specs.Positions.{positions}
use Rattle.fc_domain.proofs.TextRows.{text_nowhere}
use Rattle.fc_spec.specs.documents.Val.{Text, text, has_val}
use Rattle.fc_terms.proofs.PickedPositions.{picked_where, nothing_where}
use Rattle.fc_column.proofs.TermOrder.{term_placed}
use Rattle.fc_terms.proofs.ValueRows.{rows_with_text}
use Rattle.fc_terms.proofs.selecting.select_text.Goals as goal

pub returns-in-Some : goal.returns-in-Some
returns-in-Some c =
    let column = c.args.column.now in
    let docs = c.args.docs.now in
    let t = c.args.text.now in
    let values = map (map text) column in
    let long = length-map column (map text) in
    let found = sym c.ordinal_of.ensures.found ∙ ap is_some c.in-Some.is in
    let term : get_or (terms_of column) c.in-Some.ord [] ≡ t = ap (λ n. get_or (terms_of column) n []) c.in-Some.ensures.ordinal ∙ term_placed column t found in
    let listed : c.positions_of.result.now ≡ positions (map (has_text t) column) = c.positions_of.ensures.positions ∙ ap (λ (u : Text). positions (map (has_text u) column)) term in
    picked_where (has_val (text t)) values docs c.pick.new.into c.positions_of.result.now (c.requires.docs ∙ sym long) c.pick.ensures.length c.pick.ensures.set
    (λ at. ap (is_among at) listed ∙ ap (λ n. is_among n (positions (map (has_text t) column))) (sym (zero-add at)) ∙ is_among-positions 0 (map (has_text t) column) at
    ∙ ap (λ l. get_or l at false) (rows_with_text t column))

pub returns-in-None : goal.returns-in-None
returns-in-None c =
    let column = c.args.column.now in
    let docs = c.args.docs.now in
    let t = c.args.text.now in
    let values = map (map text) column in
    let long = length-map column (map text) in
    let none = sym c.ordinal_of.ensures.found ∙ ap is_some c.in-None.is in
    c.clear.ensures ∙ ap (λ n. replicate n false) (c.requires.length ∙ sym long)
    ∙ nothing_where (has_val (text t)) values docs (c.requires.docs ∙ sym long) (ap (λ n. replicate n false) long ∙ text_nowhere t column none)
