use Rattle.std.proofs.Common.{◌≤◌, [], ◌∷◌, map, refl, sym, ◌∙◌, ap, subst}
use Rattle.std.specs.Arc.{arc_value}
use Rattle.fc_spec.specs.messages.Nesting.{Spells, nesting}
use Rattle.fc_kind.specs.Names.{Covers}
use Rattle.fc_request.specs.RequestView.{request_view}
use Rattle.fc_round.specs.Questions.{ShardAnswer}
use Rattle.fc_round.specs.QuestionView.{lent_view}
use Rattle.fc_round.proofs.SeatTurns.{sat_at_first}
use Rattle.fc_round.proofs.slot.bytes_of.Goals as goal

pub finish-requires-clause-covers : goal.finish-requires-clause-covers
finish-requires-clause-covers g c =
    subst (λ kinds. Covers (map (λ b. (goal.FacetKind-dyn g (b.vtable, b.value)).name b.value) kinds)) (sym c.in_ok-future_of.ensures.kinds) c.requires.covers

pub finish-requires-clause-sat : goal.finish-requires-clause-sat
finish-requires-clause-sat g c =
    let begun = c.in_ok-future_of.ensures.begun in
    let nests = c.round_laws.ensures.nest (arc_value c.args.generation.now).schema (request_view c.args.request.now) ((arc_value c.args.generation.now).blocks ∷ []) 0 (lent_view c.args.ask) c.requires.askable.valid in
    sat_at_first _ refl begun.fresh (subst (λ m. nesting m ≤ 9) (sym begun.answer) nests)

pub into_bytes-requires : goal.into_bytes-requires
into_bytes-requires g c = c.finish.ensures.told c.if-is_none.ensures

pub returns : goal.returns
returns g c = subst (Spells c.into_bytes.result.items) (ap (λ (a : ShardAnswer). a.message) c.finish.ensures.answer ∙ c.in_ok-future_of.ensures.begun.answer) c.into_bytes.ensures
