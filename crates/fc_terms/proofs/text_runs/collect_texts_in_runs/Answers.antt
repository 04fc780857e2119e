use Rattle.fc_spec.specs.requests.Request as definition
use Rattle.fc_facet.specs.KindView.{terms_view}
use Rattle.fc_terms.specs.Gathered.{terms_at}
use Rattle.fc_terms.specs.TermSpan.{IsTermNumber, term_key}
use Rattle.fc_terms.specs.Values.{is_value_key}
use Rattle.fc_terms.proofs.GatheredPlaces.{gathered_places}
use Rattle.fc_terms.proofs.LongRuns.{value_keys}
use Rattle.fc_terms.proofs.RunBuckets.{runs_add_up, runs_collected, runs_fit}
use Rattle.fc_terms.proofs.TermRuns.{number_bucket, number_found, number_is_key, numbers_apart}
use Rattle.fc_terms.proofs.text_runs.collect_texts_in_runs.Goals as goal

pub add_runs-requires-clause-fit : goal.add_runs-requires-clause-fit
add_runs-requires-clause-fit c =
    let t = terms_view c.args.terms.now in
    let blocks = c.args.segment.now.blocks in
    let set = c.args.docs.now in
    let column = c.args.column.now in
    let from = c.args.span.0 in
    let to = c.args.span.1 in
    let cs = c.in_ok-countings.countings in
    runs_fit (definition.terms t) blocks set cs (is_value_key t) (IsTermNumber column from to) (term_key column from) c.in_ok-countings.ensures.numbers (number_is_key t blocks column c.requires.column from to c.requires.span) (value_keys t)
    (λ n has. gathered_places (definition.terms t) (term_key column from n) n (terms_at column from to) blocks set cs c.requires.length (number_bucket t blocks column c.requires.column from to c.requires.span n has) c.in_ok-countings.ensures.gathered) c.requires.limits

pub add_runs-requires-clause-add_up : goal.add_runs-requires-clause-add_up
add_runs-requires-clause-add_up c =
    let t = terms_view c.args.terms.now in
    let blocks = c.args.segment.now.blocks in
    let set = c.args.docs.now in
    let column = c.args.column.now in
    let from = c.args.span.0 in
    let to = c.args.span.1 in
    let cs = c.in_ok-countings.countings in
    runs_add_up (definition.terms t) blocks set cs (is_value_key t) (IsTermNumber column from to) (term_key column from) c.in_ok-countings.ensures.numbers (number_is_key t blocks column c.requires.column from to c.requires.span) (value_keys t)
    (λ n has. gathered_places (definition.terms t) (term_key column from n) n (terms_at column from to) blocks set cs c.requires.length (number_bucket t blocks column c.requires.column from to c.requires.span n has) c.in_ok-countings.ensures.gathered)
    c.args.into.now.stats c.args.into.now.entries c.requires.add_up

pub returns : goal.returns
returns c =
    let t = terms_view c.args.terms.now in
    let blocks = c.args.segment.now.blocks in
    let set = c.args.docs.now in
    let column = c.args.column.now in
    let from = c.args.span.0 in
    let to = c.args.span.1 in
    let cs = c.in_ok-countings.countings in
    runs_collected (definition.terms t) blocks set cs (is_value_key t) (IsTermNumber column from to) (term_key column from) c.in_ok-countings.ensures.numbers (number_is_key t blocks column c.requires.column from to c.requires.span) (value_keys t)
    (λ n has. gathered_places (definition.terms t) (term_key column from n) n (terms_at column from to) blocks set cs c.requires.length (number_bucket t blocks column c.requires.column from to c.requires.span n has) c.in_ok-countings.ensures.gathered)
    c.args.into.now.stats c.args.into.now c.add_runs.new.into c.in_ok-add_runs.ensures (number_found t blocks column c.requires.column from to c.requires.span set c.requires.length)

pub add_runs-requires-clause-apart : goal.add_runs-requires-clause-apart
add_runs-requires-clause-apart c =
    numbers_apart (terms_view c.args.terms.now) c.args.segment.now.blocks c.args.column.now c.requires.column c.args.span.0 c.args.span.1 c.requires.span
