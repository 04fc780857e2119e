use Rattle.std.proofs.Common.{◌≡◌, ◌&&◌, length, map, sym, ap₂, ◌∙◌}
use Rattle.std.proofs.lemmas.List.{length-map}
use Rattle.fc_column.specs.Terms.{ordinals_in, has_from_to}
use Rattle.fc_lane.proofs.BitLists.{first_bits_is}
use Rattle.fc_query.specs.QueryView.{bound_view}
use Rattle.fc_domain.specs.Within.{meets}
use Rattle.fc_domain.proofs.TextRows.{texts_pass}
use Rattle.fc_domain.proofs.texts.select_between.Goals as goal

pub returns : goal.returns
returns c =
    let column = c.args.column.now in
    let from = c.first_above-from.result in
    let past = c.first_beyond-past.result in
    let bits = map (λ ts. has_from_to from past (ordinals_in column ts)) column in
    let size : length bits ≡ length c.args.into.now = length-map column _ ∙ sym c.requires.length in
    c.set_mask.ensures ∙ first_bits_is (length c.args.into.now) c.between.new.into bits size (λ k within. c.between.ensures k)
    ∙ texts_pass column from past (meets (bound_view c.args.low.now) (bound_view c.args.high.now))
    (λ t among. ap₂ (λ a b. a && b) (c.first_above-from.ensures t among) (c.first_beyond-past.ensures t among))
