use Rattle.std.proofs.Common.{◌≡◌, length, map, Some, refl, ◌∙◌, ap}
use Rattle.std.proofs.lemmas.List.{length-map}
use Rattle.fc_store.specs.Charters.{last_number}
use Rattle.fc_work.specs.Pinned.{batches_of, charters_of, least_of}
use Rattle.fc_work.proofs.Pins.{having_least, having_same}
use Rattle.fc_work.proofs.session_worker.line_of.Goals as goal

pub returns-in_ok-answered-in-Ok-clause-line : goal.returns-in_ok-answered-in-Ok-clause-line
returns-in_ok-answered-in-Ok-clause-line g c =
    let rs = c.args.readers.now in
    let numbers = c.in_ok-answered-in-Ok.answered.generations.items in
    let between = c.in_ok-answered-in-Ok.ensures.between in
    let count : length numbers ≡ length rs = between.count ∙ length-map rs (λ r. last_number r.charter) in
    rw c.in-Ok.is (
      numbers,
      between,
      c.in_ok-answered-in-Ok.ensures.line,
      ap (λ es. Some es) c.in_ok-answered-in-Ok.ensures.sent,
      ap least_of c.in_ok-answered-in-Ok.ensures.pinned ∙ having_least rs numbers count,
    )

pub returns-in_ok-answered-in-Ok-clause-same : goal.returns-in_ok-answered-in-Ok-clause-same
returns-in_ok-answered-in-Ok-clause-same g c =
    let rs = c.args.readers.now in
    let numbers = c.in_ok-answered-in-Ok.answered.generations.items in
    let count : length numbers ≡ length rs = c.in_ok-answered-in-Ok.ensures.between.count ∙ length-map rs (λ r. last_number r.charter) in
    let after = c.in_ok-answered-in-Ok.ensures.pinned in
    record {
      schemas = ap (map (λ r. r.schema)) after ∙ having_same (λ r. r.schema) rs numbers (λ r n. refl) count;
      charters = ap charters_of after ∙ having_same (λ r. batches_of r.charter) rs numbers (λ r n. refl) count;
    }
