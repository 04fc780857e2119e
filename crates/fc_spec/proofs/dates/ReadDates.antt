-- A canonical text says its moment again.
use Rattle.std.proofs.Common.{◌≡◌, ℕ, option_map, ◌<◌, ◌*◌, ◌/◌, refl, ap, ◌∙◌, arith, Bool, true, false, Option, Some, None, IfSome, if◌then◌else◌}
use Rattle.fc_spec.specs.documents.Val.{Text}
use Rattle.fc_spec.specs.documents.IntegerTexts.{natural_of}
use Rattle.fc_spec.specs.words.Options.{◌>>=◌}
use Rattle.fc_spec.specs.dates.Calendar.{Moment, is_moment}
use Rattle.fc_spec.specs.dates.DateTexts.{padded, canonical_text, has_marks, parts_of, moment_of, IsCanonical}
use Rattle.fc_spec.proofs.dates.Digits.{reads_2, reads_3, reads_4}
use Rattle.fc_spec.proofs.dates.DateBounds.{time_is, length_in}

step : {A B : Type 0} (o : Option A) (a : A) (next : A → Option B) (r : Option B) → o ≡ Some a → next a ≡ r → (o >>= next) ≡ r
step o a next r e h = ap (λ o. o >>= next) e ∙ h

milli_again : (n : ℕ) → n < 1000 → option_map (λ k. k * 1000 / 1000) (natural_of (padded 3 n)) ≡ Some n
milli_again n h = ap (option_map (λ k. k * 1000 / 1000)) (reads_3 n h) ∙ ap Some (let e : n * 1000 / 1000 ≡ n = omega arith in e)

parts_again : (m : Moment) → is_moment m ≡ true → parts_of (canonical_text m) ≡ Some m
parts_again m h =
    let t = (time_is m h).0 in
    step _ m.year _ _ (reads_4 m.year (omega (arith, (time_is m h).1)))
    (step _ m.month _ _ (reads_2 m.month (omega (arith, t.month)))
    (step _ m.day _ _ (reads_2 m.day (omega (arith, t.day, (length_in m.year m.month).1)))
    (step _ m.hour _ _ (reads_2 m.hour (omega (arith, t.hour)))
    (step _ m.minute _ _ (reads_2 m.minute (omega (arith, t.minute)))
    (step _ m.second _ _ (reads_2 m.second (omega (arith, t.second)))
    (step _ m.milli _ _ (milli_again m.milli t.milli) refl))))))

pub reads_again : (m : Moment) → is_moment m ≡ true → moment_of (canonical_text m) ≡ Some m
reads_again m h = step _ m _ _ (parts_again m h) (ap (λ b. if b then Some m else None) h)

pub text_is_canonical : (m : Moment) → is_moment m ≡ true → IsCanonical (canonical_text m)
text_is_canonical m h = ap (option_map canonical_text) (reads_again m h)

-- what is read is a moment
IsMoment : Moment → Type 0
IsMoment m = is_moment m ≡ true

tested : (o : Option Moment) → IfSome (o >>= λ m. if is_moment m then Some m else None) IsMoment
unfolding IsMoment
tested None = tt
tested (Some m) = at (is_moment m) refl
  where
    at : (b : Bool) → is_moment m ≡ b → IfSome (if b then Some m else None) IsMoment
    at true e = e
    at false e = tt

pub read_is : (t : Text) → IfSome (moment_of t) (λ m. is_moment m ≡ true)
unfolding IsMoment
read_is t = at (has_marks t)
  where
    at : (b : Bool) → IfSome (if b then (parts_of t >>= λ m. if is_moment m then Some m else None) else None) IsMoment
    at true = tested (parts_of t)
    at false = tt
