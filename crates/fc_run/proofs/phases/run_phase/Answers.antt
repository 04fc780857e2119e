use Rattle.std.proofs.Common.{◌≡◌, length, map, sym, ap, ◌∙◌, subst, arith}
use Rattle.std.specs.Prelude.{Vec}
use Rattle.std.specs.Arc.{arc_value}
use Rattle.std.specs.declared.alloc.Global.{Global}
use Rattle.std.proofs.lemmas.List.{length-map}
use Rattle.fc_spec.specs.replies.Replied.{replied}
use Rattle.fc_spec.specs.scripts.PinnedWorlds.{world_added}
use Rattle.fc_spec.specs.scripts.SearchLines.{ArePhaseLines}
use Rattle.fc_spec.specs.scripts.WorldLimits.{IsWithinLimits}
use Rattle.fc_docs.specs.declared.block.Batch.{Batch}
use Rattle.fc_script.specs.PartsView.{search_view}
use Rattle.fc_work.specs.Phased.{readers_in}
use Rattle.fc_work.specs.Pinned.{charters_of, most_of}
use Rattle.fc_run.specs.Phased.{numbers_before}
use Rattle.fc_run.specs.Progress.{CanCarryAll, all_left, charters_to, joined_again, progress_of}
use Rattle.fc_run.proofs.scripts.Openings.{as_many, batches_are, can_open, carried_by, charters_in, each_left, highest, lowest, one_schema, searches_by}
use Rattle.fc_run.proofs.phases.run_phase.Goals as goal

pub later_shards-requires-clause-count : goal.later_shards-requires-clause-count
later_shards-requires-clause-count g c = ap length c.deref.ensures.value ∙ c.requires.can.count ∙ length-map c.args.shards.items progress_of

pub later_shards-requires-clause-each : goal.later_shards-requires-clause-each
later_shards-requires-clause-each g c = subst (CanCarryAll (map progress_of c.args.shards.items)) (sym c.deref.ensures.value) c.requires.can.carry

pub openings_of-requires-clause-count : goal.openings_of-requires-clause-count
openings_of-requires-clause-count g c = ap length c.deref-2.ensures.value ∙ c.requires.can.count ∙ length-map c.args.shards.items progress_of

pub openings_of-requires-clause-few : goal.openings_of-requires-clause-few
openings_of-requires-clause-few g c = let long = length-map c.args.shards.items progress_of in omega (arith, long, c.requires.can.few)

pub openings_of-requires-clause-each : goal.openings_of-requires-clause-each
openings_of-requires-clause-each g c = subst (CanCarryAll (map progress_of c.args.shards.items)) (sym c.deref-2.ensures.value) c.requires.can.carry

pub run_searches-requires-clause-open : goal.run_searches-requires-clause-open
run_searches-requires-clause-open g c κs within =
    let ps = map progress_of c.args.shards.items in
    let ns = c.args.phase.commits.items in
    let os = c.in_ok-cut.cut.stores.items in
    let are : charters_in os ≡ charters_to ps ns = c.in_ok-cut.ensures.charters ∙ ap (charters_to ps) c.deref-2.ensures.value in
    can_open ps ns os are c.requires.can.carry

pub run_searches-requires-clause-some : goal.run_searches-requires-clause-some
run_searches-requires-clause-some g c κs within =
    let ps = map progress_of c.args.shards.items in
    let ns = c.args.phase.commits.items in
    let os = c.in_ok-cut.cut.stores.items in
    let are : charters_in os ≡ charters_to ps ns = c.in_ok-cut.ensures.charters ∙ ap (charters_to ps) c.deref-2.ensures.value in
    let many = as_many ps ns os are c.requires.can.count c.requires.can.carry in
    omega (arith, many, c.requires.can.count, c.requires.can.some)

pub run_searches-requires-clause-schema : goal.run_searches-requires-clause-schema
run_searches-requires-clause-schema g c κs within =
    let ps = map progress_of c.args.shards.items in
    let ns = c.args.phase.commits.items in
    let os = c.in_ok-cut.cut.stores.items in
    let are : charters_in os ≡ charters_to ps ns = c.in_ok-cut.ensures.charters ∙ ap (charters_to ps) c.deref-2.ensures.value in
    one_schema ps ns os are c.requires.can.count c.requires.can.schema

pub run_searches-requires-clause-limits : goal.run_searches-requires-clause-limits
run_searches-requires-clause-limits g c κs within =
    let ps = map progress_of c.args.shards.items in
    let ns = c.args.phase.commits.items in
    let os = c.in_ok-cut.cut.stores.items in
    let are : charters_in os ≡ charters_to ps ns = c.in_ok-cut.ensures.charters ∙ ap (charters_to ps) c.deref-2.ensures.value in
    subst IsWithinLimits (sym (ap world_added (batches_are ps ns os are))) c.requires.can.within

pub run_searches-requires-clause-searches : goal.run_searches-requires-clause-searches
run_searches-requires-clause-searches g c κs within =
    let ps = map progress_of c.args.shards.items in
    let ns = c.args.phase.commits.items in
    let os = c.in_ok-cut.cut.stores.items in
    let are : charters_in os ≡ charters_to ps ns = c.in_ok-cut.ensures.charters ∙ ap (charters_to ps) c.deref-2.ensures.value in
    searches_by ps ns os are c.requires.can.count (length c.args.names.now) c.args.phase.searches.items c.requires.can.searches

pub again-requires : goal.again-requires
again-requires g c =
    let ps = map progress_of c.args.shards.items in
    let ns = c.args.phase.commits.items in
    let os = c.in_ok-cut.cut.stores.items in
    let left = c.in_ok-cut.cut.left.items in
    let gs = c.in_ok-ended.ended.generations.items in
    let are : charters_in os ≡ charters_to ps ns = c.in_ok-cut.ensures.charters ∙ ap (charters_to ps) c.deref-2.ensures.value in
    let rest = c.in_ok-cut.ensures.left ∙ ap (λ ns. all_left ps ns) c.deref-2.ensures.value in
    let many = each_left ps ns os are c.requires.can.count c.requires.can.carry (map arc_value gs) (map (λ (own : Vec Batch Global). own.items) left) c.in_ok-ended.ensures.generations rest in
    ap length c.deref-3.ensures.value ∙ sym (length-map gs arc_value) ∙ many ∙ length-map left (λ (own : Vec Batch Global). own.items)

pub returns-clause-shards : goal.returns-clause-shards
returns-clause-shards g c =
    let ps = map progress_of c.args.shards.items in
    let ns = c.args.phase.commits.items in
    let os = c.in_ok-cut.cut.stores.items in
    let left = map (λ (own : Vec Batch Global). own.items) c.in_ok-cut.cut.left.items in
    let are : charters_in os ≡ charters_to ps ns = c.in_ok-cut.ensures.charters ∙ ap (charters_to ps) c.deref-2.ensures.value in
    let rest = c.in_ok-cut.ensures.left ∙ ap (λ ns. all_left ps ns) c.deref-2.ensures.value in
    c.in_ok-later-2.ensures
    ∙ ap (λ gs. joined_again (map arc_value gs) left) c.deref-3.ensures.value
    ∙ carried_by ps ns os are (map arc_value c.in_ok-ended.ended.generations.items) left c.in_ok-ended.ensures.generations rest

pub returns-clause-text : goal.returns-clause-text
returns-clause-text g c number =
    let ps = map progress_of c.args.shards.items in
    let ns = c.args.phase.commits.items in
    let os = c.in_ok-cut.cut.stores.items in
    let qs = map (search_view c.args.names.now number) c.args.phase.searches.items in
    let are : charters_in os ≡ charters_to ps ns = c.in_ok-cut.ensures.charters ∙ ap (charters_to ps) c.deref-2.ensures.value in
    let adds = c.in_ok-ended.ensures.text number in (
      adds.0,
      adds.1,
      adds.2,
      subst (λ shards. ArePhaseLines replied shards ns (λ session. numbers_before ps) qs adds.0) (batches_are ps ns os are)
          (subst (λ high. ArePhaseLines replied (charters_of (readers_in os)) high (λ session. numbers_before ps) qs adds.0) (highest ps ns os are c.requires.can.count c.requires.can.carry)
          (subst (λ low. ArePhaseLines replied (charters_of (readers_in os)) (most_of (readers_in os)) (λ session. low) qs adds.0) (lowest ps ns os are c.requires.can.count) adds.3)),
    )
