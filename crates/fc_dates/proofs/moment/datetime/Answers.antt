use Rattle.std.proofs.Common.{◌≡◌, ◌*◌, Bool, true, false, Some, None, if◌then◌else◌, refl, rules, to_z, w8, w32, pos}
use Rattle.std.specs.Int.{w16}
use Rattle.fc_spec.specs.dates.Calendar.{is_moment}
use Rattle.fc_dates.specs.MomentView.{parts_view}
use Rattle.fc_dates.proofs.CivilParts.{civil_parts}
use Rattle.fc_dates.proofs.moment.datetime.Goals as goal

pub returns-in-Err-clause-value : goal.returns-in-Err-clause-value
returns-in-Err-clause-value c = go (is_moment (parts_view c.args.parts.now)) refl
  where
    go : (b : Bool) → is_moment (parts_view c.args.parts.now) ≡ b → None ≡ (if b then Some (parts_view c.args.parts.now) else None)
    go false e = refl
    go true e =
        let p = c.args.parts.now in
        let small = c.requires in
        let y : to_z w16 p.year ≡ pos p.year = search rules in
        let mo : to_z w8 p.month ≡ pos p.month = search rules in
        let d : to_z w8 p.day ≡ pos p.day = search rules in
        let h : to_z w8 p.hour ≡ pos p.hour = search rules in
        let mi : to_z w8 p.minute ≡ pos p.minute = search rules in
        let s : to_z w8 p.second ≡ pos p.second = search rules in
        let ns : to_z w32 (p.milli * 1_000_000) ≡ pos (p.milli * 1_000_000) = search rules in
        let bad = c.in-Err.ensures.succeeds.1 (civil_parts (parts_view p) e _ _ _ _ _ _ _ y mo d h mi s ns) in
        absurd cc
