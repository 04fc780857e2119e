use Rattle.fc_spec.specs.requests.Request as definition
use Rattle.fc_facet.specs.KindView.{terms_view}
use Rattle.fc_partial.specs.TallyParts.{long_key}
use Rattle.fc_terms.specs.Gathered.{longs_at}
use Rattle.fc_terms.specs.Values.{is_value_key}
use Rattle.fc_terms.proofs.GatheredPlaces.{gathered_places}
use Rattle.fc_terms.proofs.LongRuns.{long_bucket, long_found, long_is_key, value_keys}
use Rattle.fc_terms.proofs.RunBuckets.{runs_add_up, runs_collected, runs_fit}
use Rattle.fc_terms.proofs.long_runs.collect_longs_in_runs.Goals as goal

pub add_runs-requires-clause-fit : goal.add_runs-requires-clause-fit
add_runs-requires-clause-fit c =
    let t = terms_view c.args.terms.now in
    let blocks = c.args.segment.now.blocks in
    let set = c.args.docs.now in
    let column = c.args.column.now in
    let cs = c.in_ok-countings.countings in
    runs_fit (definition.terms t) blocks set cs (is_value_key t) (λ n. Unit {0}) long_key (λ k d inside. tt) (λ n has. long_is_key t blocks column c.requires.column c.requires.prefix n) (value_keys t)
    (λ n has. gathered_places (definition.terms t) (long_key n) n (longs_at column) blocks set cs c.requires.length (long_bucket t blocks column c.requires.column c.requires.prefix n) c.in_ok-countings.ensures.gathered) c.requires.limits

pub add_runs-requires-clause-add_up : goal.add_runs-requires-clause-add_up
add_runs-requires-clause-add_up c =
    let t = terms_view c.args.terms.now in
    let blocks = c.args.segment.now.blocks in
    let set = c.args.docs.now in
    let column = c.args.column.now in
    let cs = c.in_ok-countings.countings in
    runs_add_up (definition.terms t) blocks set cs (is_value_key t) (λ n. Unit {0}) long_key (λ k d inside. tt) (λ n has. long_is_key t blocks column c.requires.column c.requires.prefix n) (value_keys t)
    (λ n has. gathered_places (definition.terms t) (long_key n) n (longs_at column) blocks set cs c.requires.length (long_bucket t blocks column c.requires.column c.requires.prefix n) c.in_ok-countings.ensures.gathered)
    c.args.into.now.stats c.args.into.now.entries c.requires.add_up

pub returns : goal.returns
returns c =
    let t = terms_view c.args.terms.now in
    let blocks = c.args.segment.now.blocks in
    let set = c.args.docs.now in
    let column = c.args.column.now in
    let cs = c.in_ok-countings.countings in
    runs_collected (definition.terms t) blocks set cs (is_value_key t) (λ n. Unit {0}) long_key (λ k d inside. tt) (λ n has. long_is_key t blocks column c.requires.column c.requires.prefix n) (value_keys t)
    (λ n has. gathered_places (definition.terms t) (long_key n) n (longs_at column) blocks set cs c.requires.length (long_bucket t blocks column c.requires.column c.requires.prefix n) c.in_ok-countings.ensures.gathered)
    c.args.into.now.stats c.args.into.now c.add_runs.new.into c.in_ok-add_runs.ensures (long_found t blocks column c.requires.column c.requires.prefix set c.requires.length)
