-- Units of an answer from counts on.
use Rattle.std.proofs.Common.{◌≡◌, ◌∙◌, ℕ, zero, suc, ◌+◌, ◌*◌, ◌<◌, List, [], ◌∷◌, drop, get_or, length, unwrap_or, Bor, Option, None, Some, refl, sym, ap, subst, arith}
use Rattle.std.specs.Option.{option_copied}
use Rattle.std.specs.Slice.{IsItemAt}
use Rattle.fc_spec.specs.documents.Schema.{Schema}
use Rattle.fc_spec.specs.messages.TopRounds.{first_number}
use Rattle.fc_request.specs.declared.request.Request.{Request}
use Rattle.fc_segment.specs.Segmented.{Segmented}
use Rattle.fc_levels.specs.Jobs.{units_each}
use Rattle.fc_units.specs.Leasts.{IsLeastBuilt, IsOneMore, LeastGoesOn, LeastUnitDone, jobs_ended, least_done}
use Rattle.fc_units.specs.Stepping.{IsOneFurther}
use Rattle.fc_units.specs.declared.leasts.LeastBuilding.{LeastBuilding}
use Rattle.fc_units.specs.declared.leasts.LeastGone.{LeastGone}
use Rattle.fc_units.specs.declared.leasts.LeastGone.TheVariants.{On, Whole}
use Rattle.fc_units.proofs.JobEnds.{within_unit}
use Rattle.fc_units.proofs.Turning.{each_some}

read_at : (ns : List ℕ) (n : ℕ) → get_or ns n 0 ≡ first_number (drop n ns)
read_at [] zero = refl
read_at [] (suc n) = refl
read_at (x ∷ ns) zero = refl
read_at (x ∷ ns) (suc n) = read_at ns n

-- the count at a number
pub count_is : (ns : List ℕ) (n : ℕ) (r : Option (Bor ℕ)) → IsItemAt ns n r → unwrap_or (option_copied r) 0 ≡ first_number (drop n ns)
count_is ns n None at = at.4 (omega arith) 0 ∙ read_at ns n
count_is ns n (Some x) at = at.4 (omega arith) 0 ∙ read_at ns n

more_up : (M e : ℕ) → M * (e + 1) ≡ M * e + M
more_up M e = grind arith

past_count : (M e k j at : ℕ) → k + 1 ≡ M → j ≡ e + 1 → at ≡ 0 → M * j + at ≡ M * e + k + 1
past_count M e k j at last up none = omega (arith, last, none, ap (λ n. M * n) up, more_up M e)

further_count : (M e k at : ℕ) → at ≡ k + 1 → M * e + at ≡ M * e + k + 1
further_count M e k at up = omega (arith, up)

-- a segment more of the same job
pub goes_further : (s : Schema) (cut : List Segmented) (request : Request) (ns : List ℕ) (b : LeastBuilding) (k : ℕ) → IsLeastBuilt s cut request ns b → least_done b < length cut → IsOneFurther (length cut) k (least_done b)
    → LeastUnitDone s cut request ns (jobs_ended b) k (On b)
goes_further s cut request ns b k built within further =
    let unit = within_unit (length cut) k (least_done b) further within in
    (built, record { within = unit.1; count = further_count (units_each (length cut)) (jobs_ended b) k (least_done b) unit.0 })

-- the last segment of a job
pub goes_past : (s : Schema) (cut : List Segmented) (request : Request) (ns : List ℕ) (e k : ℕ) (g : LeastGone) → k + 1 ≡ units_each (length cut) → LeastGoesOn s cut request ns (e + 1) g → LeastUnitDone s cut request ns e k g
goes_past s cut request ns e k (On b) last on = (
  on.0,
  record {
    within = subst (λ n. n < units_each (length cut)) (sym on.1) (each_some (length cut));
    count = past_count (units_each (length cut)) e k (jobs_ended b) (least_done b) last on.2 on.1;
  },
)
goes_past s cut request ns e k (Whole m) last on = (on.0, on.1, last)
