-- The byte order of canonical texts is the order of time.
use Rattle.std.proofs.Common.{◌≡◌, ℕ, ◌+◌, ◌-◌, ◌*◌, ◌<◌, ◌≤◌, ◌∷◌, ◌++◌, refl, ap, sym, ◌∙◌, arith, true}
use Rattle.std.specs.Prelude.{codes}
use Rattle.std.specs.Ordering.{nat_cmp, ordering_then}
use Rattle.std.specs.declared.cmp.Ordering.{Ordering}
use Rattle.std.specs.declared.cmp.Ordering.TheVariants.{Less, Equal, Greater}
use Rattle.fc_spec.specs.documents.Val.{text_cmp}
use Rattle.fc_spec.specs.dates.Calendar.{Moment, is_moment, moment_cmp}
use Rattle.fc_spec.specs.dates.DateTexts.{padded, canonical_text}
use Rattle.fc_spec.proofs.dates.Digits.{two, shift, less, two_digits, three_digits, four_digits}
use Rattle.fc_spec.proofs.dates.DateBounds.{IsTime, time_is, length_in, day_key, time_key}

then_equal : (o : Ordering) → ordering_then o Equal ≡ o
then_equal Less = refl
then_equal Equal = refl
then_equal Greater = refl

pub in_order : (a b : Moment) → is_moment a ≡ true → is_moment b ≡ true → text_cmp (canonical_text a) (canonical_text b) ≡ moment_cmp a b
in_order a b ha hb =
    let s = (time_is a ha).0 in let t = (time_is b hb).0 in
    let la = length_in a.year a.month in let lb = length_in b.year b.month in
    let first = four_digits a.year b.year
    (45 ∷ padded 2 a.month ++ (45 ∷ padded 2 a.day ++ (84 ∷ padded 2 a.hour ++ (58 ∷ padded 2 a.minute ++ (58 ∷ padded 2 a.second ++ (46 ∷ padded 3 a.milli ++ codes "Z"))))))
    (45 ∷ padded 2 b.month ++ (45 ∷ padded 2 b.day ++ (84 ∷ padded 2 b.hour ++ (58 ∷ padded 2 b.minute ++ (58 ∷ padded 2 b.second ++ (46 ∷ padded 3 b.milli ++ codes "Z"))))))
    (omega (arith, (time_is a ha).1)) (omega (arith, (time_is b hb).1)) in
    let second = two_digits a.month b.month
    (45 ∷ padded 2 a.day ++ (84 ∷ padded 2 a.hour ++ (58 ∷ padded 2 a.minute ++ (58 ∷ padded 2 a.second ++ (46 ∷ padded 3 a.milli ++ codes "Z")))))
    (45 ∷ padded 2 b.day ++ (84 ∷ padded 2 b.hour ++ (58 ∷ padded 2 b.minute ++ (58 ∷ padded 2 b.second ++ (46 ∷ padded 3 b.milli ++ codes "Z")))))
    (omega (arith, s.month)) (omega (arith, t.month)) in
    let third = two_digits a.day b.day
    (84 ∷ padded 2 a.hour ++ (58 ∷ padded 2 a.minute ++ (58 ∷ padded 2 a.second ++ (46 ∷ padded 3 a.milli ++ codes "Z"))))
    (84 ∷ padded 2 b.hour ++ (58 ∷ padded 2 b.minute ++ (58 ∷ padded 2 b.second ++ (46 ∷ padded 3 b.milli ++ codes "Z"))))
    (omega (arith, s.day, la.1)) (omega (arith, t.day, lb.1)) in
    let fourth = two_digits a.hour b.hour
    (58 ∷ padded 2 a.minute ++ (58 ∷ padded 2 a.second ++ (46 ∷ padded 3 a.milli ++ codes "Z")))
    (58 ∷ padded 2 b.minute ++ (58 ∷ padded 2 b.second ++ (46 ∷ padded 3 b.milli ++ codes "Z")))
    (omega (arith, s.hour)) (omega (arith, t.hour)) in
    let fifth = two_digits a.minute b.minute
    (58 ∷ padded 2 a.second ++ (46 ∷ padded 3 a.milli ++ codes "Z"))
    (58 ∷ padded 2 b.second ++ (46 ∷ padded 3 b.milli ++ codes "Z"))
    (omega (arith, s.minute)) (omega (arith, t.minute)) in
    let sixth = two_digits a.second b.second
    (46 ∷ padded 3 a.milli ++ codes "Z") (46 ∷ padded 3 b.milli ++ codes "Z")
    (omega (arith, s.second)) (omega (arith, t.second)) in
    let seventh = three_digits a.milli b.milli (codes "Z") (codes "Z") (omega (arith, s.milli)) (omega (arith, t.milli)) ∙ then_equal (nat_cmp a.milli b.milli) in
    first ∙ ap (ordering_then (nat_cmp a.year b.year))
    (second ∙ ap (ordering_then (nat_cmp a.month b.month))
    (third ∙ ap (ordering_then (nat_cmp a.day b.day))
    (fourth ∙ ap (ordering_then (nat_cmp a.hour b.hour))
    (fifth ∙ ap (ordering_then (nat_cmp a.minute b.minute))
    (sixth ∙ ap (ordering_then (nat_cmp a.second b.second)) seventh)))))

-- ---- by one number

lower : (c d : ℕ) → 1 ≤ c → 1 ≤ d → nat_cmp c d ≡ nat_cmp (c - 1) (d - 1)
lower c d hc hd =
    let e : 1 + (c - 1) ≡ c = omega arith in
    let f : 1 + (d - 1) ≡ d = omega arith in
    (λ i. nat_cmp (sym e i) (sym f i)) ∙ shift 1 (c - 1) (d - 1)

-- what has the lesser number is earlier
pub earlier : (a b : Moment) → IsTime a → IsTime b → time_key a < time_key b → moment_cmp a b ≡ Less
unfolding day_key time_key
earlier a b s t h =
    let la = length_in a.year a.month in let lb = length_in b.year b.month in
    let cm = nat_cmp a.milli b.milli in
    let cs = ordering_then (nat_cmp a.second b.second) cm in
    let cn = ordering_then (nat_cmp a.minute b.minute) cs in
    let ch = ordering_then (nat_cmp a.hour b.hour) cn in
    let months_a = a.year * 12 + (a.month - 1) in
    let months_b = b.year * 12 + (b.month - 1) in
    let days_a = months_a * 31 + (a.day - 1) in
    let days_b = months_b * 31 + (b.day - 1) in
    (λ i. ordering_then (nat_cmp a.year b.year) (ordering_then (lower a.month b.month s.first_month t.first_month i) (ordering_then (lower a.day b.day s.first_day t.first_day i) ch)))
    ∙ two 12 a.year b.year (a.month - 1) (b.month - 1) (ordering_then (nat_cmp (a.day - 1) (b.day - 1)) ch) (omega (arith, s.month)) (omega (arith, t.month))
    ∙ two 31 months_a months_b (a.day - 1) (b.day - 1) ch (omega (arith, s.first_day, s.day, la.1)) (omega (arith, t.first_day, t.day, lb.1))
    ∙ two 24 days_a days_b a.hour b.hour cn s.hour t.hour
    ∙ two 60 (days_a * 24 + a.hour) (days_b * 24 + b.hour) a.minute b.minute cs s.minute t.minute
    ∙ two 60 ((days_a * 24 + a.hour) * 60 + a.minute) ((days_b * 24 + b.hour) * 60 + b.minute) a.second b.second cm s.second t.second
    ∙ ap (λ o. ordering_then o cm) (less (((days_a * 24 + a.hour) * 60 + a.minute) * 60 + a.second) (((days_b * 24 + b.hour) * 60 + b.minute) * 60 + b.second) (omega (arith, h)))
