use Rattle.std.proofs.Common.{◌≡◌, ◌+◌, ◌∙◌, [], get_or, nat_abs, sym, ap, subst, to_z, of_z, w64, arith}
use Rattle.std.proofs.lemmas.Int.{ints}
use Rattle.std.specs.Option.{ForSome}
use Rattle.fc_spec.specs.requests.Buckets.{Key}
use Rattle.fc_column.specs.Terms.{terms_of}
use Rattle.fc_partial.specs.Adding.{AddUp}
use Rattle.fc_partial.specs.StatsView.{stats_view}
use Rattle.fc_partial.specs.TallyParts.{text_key}
use Rattle.fc_partial.specs.Tallying.{entry_at}
use Rattle.fc_terms.specs.TermSpan.{term_key}
use Rattle.fc_terms.proofs.numbers.TermSpanKeys.add.Goals as goal

pub add_text-requires-clause-fits : goal.add_text-requires-clause-fits
add_text-requires-clause-fits c =
    let span = c.args.self.now in
    let same : span.from + nat_abs c.args.number ≡ span.from + nat_abs (to_z w64 (of_z w64 c.args.number)) = omega (arith, ints) in
    let key : term_key span.column.now span.from c.args.number ≡ text_key c.term.result.now =
    ap text_key (ap (λ n. get_or (terms_of span.column.now) n []) same ∙ sym c.term.ensures) in
    subst (λ (k : Key). ForSome (entry_at c.args.into.now.entries k) (λ there. AddUp there (stats_view c.args.stats.now))) key c.requires.fits
