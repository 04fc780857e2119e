use Rattle.std.proofs.Common.{◌-◌, refl}
use Rattle.fc_spec.specs.requests.Request as definition
use Rattle.fc_facet.specs.KindView.{terms_view}
use Rattle.fc_docset.specs.Positions.{positions}
use Rattle.fc_count.specs.Held.{held_stats}
use Rattle.fc_count.proofs.CountedBuckets.{buckets_add_up, counted_collects}
use Rattle.fc_count.proofs.HeldPositions.{held_counted}
use Rattle.fc_terms.specs.TermSpan.{has_term, term_key}
use Rattle.fc_terms.specs.Values.{is_value_key}
use Rattle.fc_terms.proofs.TermBuckets.{found, term_bucket, term_inside, term_is_key, terms_apart}
use Rattle.fc_terms.proofs.text_postings.collect_texts_by_postings.Goals as goal

pub add_postings-requires-clause-apart : goal.add_postings-requires-clause-apart
add_postings-requires-clause-apart c =
    let t = terms_view c.args.terms.now in
    let column = c.args.column.now in
    let blocks = c.args.segment.now.blocks in
    terms_apart column c.args.span.0 (c.args.span.1 - c.args.span.0) (term_inside t blocks column c.requires.column c.args.span.0 c.args.span.1 c.requires.span)

pub add_postings-requires-clause-add_up : goal.add_postings-requires-clause-add_up
add_postings-requires-clause-add_up c =
    let t = terms_view c.args.terms.now in
    let column = c.args.column.now in
    let blocks = c.args.segment.now.blocks in
    let from = c.args.span.0 in
    let to = c.args.span.1 in
    let ss = c.args.into.now.stats in
    buckets_add_up (definition.terms t) (is_value_key t) blocks c.args.docs.now c.requires.length (has_term column from) (to - from) ss
    (record { stats = ss; cells = held_stats blocks (has_term column from) (to - from) ss (positions c.args.docs.now) }) (held_counted blocks (has_term column from) (to - from) ss (positions c.args.docs.now)) (term_key column from)
    (term_bucket t blocks column c.requires.column from to c.requires.span) c.args.into.now.entries (term_is_key t blocks column c.requires.column from to c.requires.span) c.requires.add_up

pub returns : goal.returns
returns c =
    let t = terms_view c.args.terms.now in
    let column = c.args.column.now in
    let blocks = c.args.segment.now.blocks in
    let from = c.args.span.0 in
    let to = c.args.span.1 in
    let ss = c.args.into.now.stats in
    counted_collects (definition.terms t) (is_value_key t) blocks c.args.docs.now c.requires.length (has_term column from) (to - from) ss
    (record { stats = ss; cells = held_stats blocks (has_term column from) (to - from) ss (positions c.args.docs.now) }) (held_counted blocks (has_term column from) (to - from) ss (positions c.args.docs.now)) (term_key column from)
    (term_bucket t blocks column c.requires.column from to c.requires.span) (term_is_key t blocks column c.requires.column from to c.requires.span) (found t blocks column c.requires.column from to c.requires.span)
    c.args.into.now c.add_postings.new.into refl c.in_ok-add_postings.ensures
