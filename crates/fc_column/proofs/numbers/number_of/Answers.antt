use Rattle.std.proofs.Common.{◌==◌, ap, ◌∙◌, arith, rules}
use Rattle.std.specs.Map.{lookup}
use Rattle.std.specs.Cmp.Lexicographic.{pointwise}
use Rattle.indexmap.proofs.CallerLemmas.{insert_entry-new}
use Rattle.fc_column.proofs.Numberings.{number_found, number_added}
use Rattle.fc_column.proofs.numbers.number_of.Goals as goal

pub returns-in-Some-clause-has : goal.returns-in-Some-clause-has
returns-in-Some-clause-has c = (number_found c.args.numbers.now.entries c.args.text.now c.in-Some.number.now c.requires (c.in-Some.ensures.value ∙ ap (λ t. lookup (pointwise (◌==◌) t) c.args.numbers.now.entries) c.text.ensures)).has

pub returns-in-Some-clause-text : goal.returns-in-Some-clause-text
returns-in-Some-clause-text c = (number_found c.args.numbers.now.entries c.args.text.now c.in-Some.number.now c.requires (c.in-Some.ensures.value ∙ ap (λ t. lookup (pointwise (◌==◌) t) c.args.numbers.now.entries) c.text.ensures)).text

pub returns-in-Some-clause-texts : goal.returns-in-Some-clause-texts
returns-in-Some-clause-texts c = (number_found c.args.numbers.now.entries c.args.text.now c.in-Some.number.now c.requires (c.in-Some.ensures.value ∙ ap (λ t. lookup (pointwise (◌==◌) t) c.args.numbers.now.entries) c.text.ensures)).texts

pub returns-clause-numbering : goal.returns-clause-numbering
returns-clause-numbering c =
    (number_added c.args.numbers.now.entries c.insert.new.self.entries c.args.text.now _ c.len-number.result c.requires (c.in_ok-insert.ensures.entries ∙ insert_entry-new (pointwise (◌==◌)) c.args.numbers.now _ c.len-number.result (search rules)) c.in_ok-copy.ensures (search rules) (omega arith)).numbering

pub returns-clause-has : goal.returns-clause-has
returns-clause-has c =
    (number_added c.args.numbers.now.entries c.insert.new.self.entries c.args.text.now _ c.len-number.result c.requires (c.in_ok-insert.ensures.entries ∙ insert_entry-new (pointwise (◌==◌)) c.args.numbers.now _ c.len-number.result (search rules)) c.in_ok-copy.ensures (search rules) (omega arith)).has

pub returns-clause-text : goal.returns-clause-text
returns-clause-text c =
    (number_added c.args.numbers.now.entries c.insert.new.self.entries c.args.text.now _ c.len-number.result c.requires (c.in_ok-insert.ensures.entries ∙ insert_entry-new (pointwise (◌==◌)) c.args.numbers.now _ c.len-number.result (search rules)) c.in_ok-copy.ensures (search rules) (omega arith)).text

pub returns-clause-texts : goal.returns-clause-texts
returns-clause-texts c =
    (number_added c.args.numbers.now.entries c.insert.new.self.entries c.args.text.now _ c.len-number.result c.requires (c.in_ok-insert.ensures.entries ∙ insert_entry-new (pointwise (◌==◌)) c.args.numbers.now _ c.len-number.result (search rules)) c.in_ok-copy.ensures (search rules) (omega arith)).texts

pub returns-clause-others : goal.returns-clause-others
returns-clause-others c =
    (number_added c.args.numbers.now.entries c.insert.new.self.entries c.args.text.now _ c.len-number.result c.requires (c.in_ok-insert.ensures.entries ∙ insert_entry-new (pointwise (◌==◌)) c.args.numbers.now _ c.len-number.result (search rules)) c.in_ok-copy.ensures (search rules) (omega arith)).others

pub returns-clause-other_texts : goal.returns-clause-other_texts
returns-clause-other_texts c =
    (number_added c.args.numbers.now.entries c.insert.new.self.entries c.args.text.now _ c.len-number.result c.requires (c.in_ok-insert.ensures.entries ∙ insert_entry-new (pointwise (◌==◌)) c.args.numbers.now _ c.len-number.result (search rules)) c.in_ok-copy.ensures (search rules) (omega arith)).other_texts
