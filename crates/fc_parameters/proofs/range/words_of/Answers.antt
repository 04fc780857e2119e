use Rattle.std.proofs.Common.{sym, ◌∙◌, ap, map}
use Rattle.std.specs.List.{list_all, list_any}
use Rattle.serde_json.specs.View.{view}
use Rattle.fc_spec.specs.documents.Val.{same_text}
use Rattle.fc_parameters.proofs.RangeWords.{words_good, words_bad}
use Rattle.fc_parameters.proofs.range.words_of.Goals as goal

pub returns-then-not-are_words : goal.returns-then-not-are_words
returns-then-not-are_words c =
    let words = map (λ word. word.now) c.args.words.now in
    let test = ap (λ ts. list_all (λ text. list_any (same_text text) (map (λ word. word.now) c.args.words.now)) (map (λ text. text.now) ts)) c.as_slice.ensures.value in
    words_bad words (view c.args.json.now) _ c.in_ok-texts.ensures (sym test ∙ sym c.are_words.ensures ∙ c.if-not-are_words.true)

pub returns : goal.returns
returns c =
    let words = map (λ word. word.now) c.args.words.now in
    let test = ap (λ ts. list_all (λ text. list_any (same_text text) (map (λ word. word.now) c.args.words.now)) (map (λ text. text.now) ts)) c.as_slice.ensures.value in
    words_good words (view c.args.json.now) _ c.in_ok-texts.ensures (sym test ∙ sym c.are_words.ensures ∙ c.if-not-are_words.false)
