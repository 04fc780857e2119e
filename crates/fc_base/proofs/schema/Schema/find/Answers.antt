use Rattle.std.proofs.Common.{◌∙◌, Some, sym, ap, add-one, rules}
use Rattle.fc_base.proofs.FieldsByName.{others_ascend, first_found, later_found}
use Rattle.fc_base.proofs.schema.Schema.find.Goals as goal

pub returns-then-eq-clause-found : goal.returns-then-eq-clause-found
returns-then-eq-clause-found c =
    rw (← c.self.view_is) (sym (first_found c.args.name.now c.self.inside.fields.items c.index.result.now c.self.invariant.list.id_first c.index.ensures (search rules)))

pub place_of-requires : goal.place_of-requires
place_of-requires c = rw (c.deref.ensures.value) (others_ascend _ c.self.invariant.list.ascend)

pub returns-in_err-at-clause-found : goal.returns-in_err-at-clause-found
returns-in_err-at-clause-found c =
    let later = later_found c.args.name.now c.self.inside.fields.items c.deref.result.now c.index.result.now _ c.self.invariant.list.id_first c.index.ensures (search rules) c.deref.ensures.value c.in_err-at.ensures.place in
    rw (c.from_residual.ensures, ← c.self.view_is) (sym later)

pub returns-clause-found : goal.returns-clause-found
returns-clause-found c =
    let later = later_found c.args.name.now c.self.inside.fields.items c.deref.result.now c.index.result.now _ c.self.invariant.list.id_first c.index.ensures (search rules) c.deref.ensures.value c.in_ok-at.ensures.place in
    rw (← c.self.view_is) (ap Some (add-one c.in_ok-at.at) ∙ sym later)
