-- What is written of a moment that was read is canonical, and what is a gap later too.
use Rattle.std.proofs.Common.{◌≡◌, ℕ, Bool, true, false, if◌then◌else◌, Some, None, IfSome, refl, ap, sym, subst, ◌∙◌, arith}
use Rattle.std.specs.Option.{option_and_then}
use Rattle.std.specs.Prelude.{nat_le}
use Rattle.std.proofs.lemmas.Bool.Decides.{nat_tests}
use Rattle.fc_spec.specs.documents.Val.{Text}
use Rattle.fc_spec.specs.dates.Calendar.{Moment, is_moment}
use Rattle.fc_spec.specs.dates.DateTexts.{canonical_text, moment_of, IsCanonical}
use Rattle.fc_spec.specs.dates.GapTexts.{Unit}
use Rattle.fc_spec.specs.dates.Adding.{later, added}
use Rattle.fc_spec.proofs.dates.DateBounds.{time_is, moment_is}
use Rattle.fc_spec.proofs.dates.ReadDates.{text_is_canonical, read_is}
use Rattle.fc_spec.proofs.dates.LaterDates.{later_time}
use Rattle.fc_dates.specs.MomentView.{in_years}

is_read : (t : Text) (m : Moment) → Some m ≡ moment_of t → is_moment m ≡ true
is_read t m e = subst (λ o. IfSome o (λ k. is_moment k ≡ true)) (sym e) (read_is t)

pub canonical_from : (t bs : Text) (m : Moment) → Some m ≡ moment_of t → bs ≡ canonical_text m → IsCanonical bs
canonical_from t bs m e is = subst IsCanonical (sym is) (text_is_canonical m (is_read t m e))

some_is : (x y : Moment) → Some x ≡ Some y → x ≡ y
some_is x y e = cc

later_is : (u : Unit) (n : ℕ) (m s : Moment) → is_moment m ≡ true → Some s ≡ in_years (later u n m) → is_moment s ≡ true
later_is u n m s valid e = go (nat_le (later u n m).year 9999) refl e
  where
    go : (b : Bool) → nat_le (later u n m).year 9999 ≡ b → Some s ≡ (if b then Some (later u n m) else None) → is_moment s ≡ true
    go true k f =
        let time = later_time u n m (time_is m valid).0 in
        subst (λ x. is_moment x ≡ true) (sym (some_is s (later u n m) f)) (moment_is (later u n m) time (let h = k in grind (arith, nat_tests)))
    go false k f = absurd cc

pub sum_canonical : (t bs : Text) (u : Unit) (n : ℕ) (m s : Moment) → Some m ≡ moment_of t → Some s ≡ in_years (later u n m) → bs ≡ canonical_text s → IsCanonical bs
sum_canonical t bs u n m s e f is = subst IsCanonical (sym is) (text_is_canonical s (later_is u n m s (is_read t m e) f))

pub added_is : (t bs : Text) (u : Unit) (n : ℕ) (m s : Moment) → Some m ≡ moment_of t → Some s ≡ in_years (later u n m) → bs ≡ canonical_text s → Some bs ≡ added t (record { unit = u; number = n })
added_is t bs u n m s e f is = go (nat_le (later u n m).year 9999) refl f ∙ ap (λ o. option_and_then (λ k. if nat_le (later u n k).year 9999 then Some (canonical_text (later u n k)) else None) o) e
  where
    go : (b : Bool) → nat_le (later u n m).year 9999 ≡ b → Some s ≡ (if b then Some (later u n m) else None) → Some bs ≡ (if nat_le (later u n m).year 9999 then Some (canonical_text (later u n m)) else None)
    go true k g = ap Some (is ∙ ap canonical_text (some_is s (later u n m) g)) ∙ sym (ap (λ b. if b then Some (canonical_text (later u n m)) else None) k)
    go false k g = absurd cc
