use Rattle.std.proofs.Common.{◌+◌, map, refl, ◌∙◌, ap}
use Rattle.std.specs.Arc.{arc_value}
use Rattle.fc_base.specs.StatisticView.{stat_view}
use Rattle.fc_jobs.specs.Pieces.{pieces_in}
use Rattle.fc_units.specs.declared.jobs.TopJob.{TopJob}
use Rattle.fc_units.proofs.Segments.{piece_at, vec_within}
use Rattle.fc_units.proofs.TopSteps.{top_add_up, top_base, top_bound, top_change, top_facet, top_fit, top_kept, top_key, top_limits, top_long, top_shaped, top_stepped, top_there, top_whole}
use Rattle.fc_units.proofs.units.top_segment.Goals as goal

pub returns-in_default-clause-stepped : goal.returns-in_default-clause-stepped
returns-in_default-clause-stepped g c = λ s st. top_kept s _ _ _ _ _ _ c.in_default.ensures st

pub look_at-requires-clause-covers : goal.look_at-requires-clause-covers
look_at-requires-clause-covers g c = c.requires.covers

pub look_at-requires-clause-base : goal.look_at-requires-clause-base
look_at-requires-clause-base g c = top_base _ _ _ _ _ _ _ _ _ c.in-Some.ensures c.requires.stands.1

pub look_at-requires-clause-fit : goal.look_at-requires-clause-fit
look_at-requires-clause-fit g c = top_fit _ _ _ _ _ _ _ _ _ c.in-Some.ensures c.requires.stands.1

pub look_at-requires-clause-number : goal.look_at-requires-clause-number
look_at-requires-clause-number g c = c.requires.number

pub look_at-requires-clause-names : goal.look_at-requires-clause-names
look_at-requires-clause-names g c = c.requires.names

pub look_at-requires-clause-change : goal.look_at-requires-clause-change
look_at-requires-clause-change g c = top_change _ _ _ _ _ _ _ _ _ c.in-Some.ensures c.requires.stands.1

pub look_at-requires-clause-whole : goal.look_at-requires-clause-whole
look_at-requires-clause-whole g c = top_whole _ _ _ _ _ _ _ _ _ c.in-Some.ensures c.requires.stands.1

pub look_at-requires-clause-there : goal.look_at-requires-clause-there
look_at-requires-clause-there g c = top_there _ _ _ _ _ _ _ _ _ c.in-Some.ensures c.requires.stands.1

pub index-requires : goal.index-requires
index-requires g c = vec_within c.look_at.new.domain c.args.job.now.at (top_bound _ _ _ _ _ _ _ _ _ c.in-Some.ensures c.requires.stands.1 _ c.in_ok-look_at.ensures.domain)

pub bucket_unit-requires-clause-covers : goal.bucket_unit-requires-clause-covers
bucket_unit-requires-clause-covers g c = c.requires.covers

pub bucket_unit-requires-clause-limits : goal.bucket_unit-requires-clause-limits
bucket_unit-requires-clause-limits g c = top_limits _ _ _ _ _ _ _ _ _ c.in-Some.ensures c.requires.stands.1

pub bucket_unit-requires-clause-node : goal.bucket_unit-requires-clause-node
bucket_unit-requires-clause-node g c = top_facet _ _ _ _ _ _ _ _ _ c.in-Some.ensures c.requires.stands.1

pub bucket_unit-requires-clause-key : goal.bucket_unit-requires-clause-key
bucket_unit-requires-clause-key g c = top_key _ _ _ _ _ _ _ _ _ c.in-Some.ensures c.requires.stands.1

pub bucket_unit-requires-clause-length : goal.bucket_unit-requires-clause-length
bucket_unit-requires-clause-length g c = top_long _ _ _ _ _ _ _ _ _ c.in-Some.ensures c.requires.stands.1 _ c.in_ok-look_at.ensures.domain _ c.index.ensures

pub bucket_unit-requires-clause-stats : goal.bucket_unit-requires-clause-stats
bucket_unit-requires-clause-stats g c = ap (map stat_view) c.deref.ensures.value ∙ c.requires.stands.1.is_job.stats

pub bucket_unit-requires-clause-shaped : goal.bucket_unit-requires-clause-shaped
bucket_unit-requires-clause-shaped g c = top_shaped _ _ _ _ _ _ _ _ _ c.in-Some.ensures c.requires.stands.1 _ c.in_ok-look_at.ensures.domain _ c.index.ensures _ (ap (map stat_view) c.deref.ensures.value)

pub bucket_unit-requires-clause-add_up : goal.bucket_unit-requires-clause-add_up
bucket_unit-requires-clause-add_up g c = top_add_up _ _ _ _ _ _ _ _ _ c.in-Some.ensures c.requires.stands.1 _ c.in_ok-look_at.ensures.domain _ c.index.ensures _ (ap (map stat_view) c.deref.ensures.value)

pub look_at-requires-clause-kept : goal.look_at-requires-clause-kept
look_at-requires-clause-kept g c = (pieces_in (map arc_value c.args.segments.now), piece_at (map arc_value c.args.segments.now) c.args.job.now.at c.in-Some.segment.now _ c.in-Some.ensures, c.requires.bases)

pub returns-in_err-look_at-clause-bases : goal.returns-in_err-look_at-clause-bases
returns-in_err-look_at-clause-bases g c = c.look_at.ensures.kept _ (piece_at (map arc_value c.args.segments.now) c.args.job.now.at c.in-Some.segment.now _ c.in-Some.ensures) c.requires.bases

pub returns-in_err-bucket_unit-clause-bases : goal.returns-in_err-bucket_unit-clause-bases
returns-in_err-bucket_unit-clause-bases g c = c.look_at.ensures.kept _ (piece_at (map arc_value c.args.segments.now) c.args.job.now.at c.in-Some.segment.now _ c.in-Some.ensures) c.requires.bases

pub returns-clause-bases : goal.returns-clause-bases
returns-clause-bases g c = c.look_at.ensures.kept _ (piece_at (map arc_value c.args.segments.now) c.args.job.now.at c.in-Some.segment.now _ c.in-Some.ensures) c.requires.bases

pub returns-clause-stepped : goal.returns-clause-stepped
returns-clause-stepped g c =
    let after : TopJob = record c.args.job.now { domain = c.look_at.new.domain; at = c.args.job.now.at + 1; over = c.bucket_unit.new.over } in
    λ s st. top_stepped s _ _ _ _ _ _ _ _ c.in-Some.ensures st _ c.in_ok-look_at.ensures.domain _ c.index.ensures _ (ap (map stat_view) c.deref.ensures.value) _ c.in_ok-look_at.ensures.roots after refl refl refl refl refl c.in_ok-bucket_unit.ensures
