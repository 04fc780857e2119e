-- What a read of an option says of the text that it stands for.
use Rattle.std.proofs.Common.{◌≡◌, ℕ, ◌≤◌, Bool, true, false, cond, Option, Some, None, Result, Ok, Err, refl, sym, ap, subst}
use Rattle.std.specs.Prelude.{option_and_then}
use Rattle.std.specs.Str.Parse.{ParsesUnsigned, digits_value, without_leading_plus}
use Rattle.clap.specs.Values.{IsUnsignedIn}
use Rattle.clap.specs.ValueTests.{is_unsigned_in}
use Rattle.clap.specs.Matches.{ReadsOne}
use Rattle.clap.proofs.ValueTestLemmas.{Accepts-accepts, accepts-Accepts}
use Rattle.clap.specs.declared.builder.value_parser.ValueParser.TheVariants as parser
use Rattle.fc_spec.specs.documents.Val.{Text}
use Rattle.fc_words.specs.Words.{number_in}

by_test : (b : Bool) (low high : ℕ) (t : Text) → is_unsigned_in low high t ≡ b → (IsUnsignedIn low high t → ⊥)
    → None ≡ cond b (Some (digits_value 10 (without_leading_plus t))) None
by_test true low high t is out = absurd (out (accepts-Accepts false (parser.Unsigned low high) t is))
by_test false low high t is out = refl

outside : (low high : ℕ) (t : Text) → (IsUnsignedIn low high t → ⊥) → None ≡ number_in low high t
outside low high t out = by_test (is_unsigned_in low high t) low high t refl out

inside : (low high n : ℕ) (t : Text) → n ≡ digits_value 10 (without_leading_plus t) → IsUnsignedIn low high t → Some n ≡ number_in low high t
inside low high n t value within =
    let test : is_unsigned_in low high t ≡ true = Accepts-accepts false (parser.Unsigned low high) t within in
    rw test (ap (λ m. Some m) value)

module _ {E : Type 0} (G : Text → Result ℕ E → Type 0) (only : (t : Text) (r : Result ℕ E) → G t r → ParsesUnsigned 64 10 t r) where
  -- what a read of an option ensures, where `o` is the text that it stands for
  abbrev pub Reads : Option Text → Option ℕ → Type 0
  Reads o r = (o ≡ None → r ≡ None) × ((t : Text) → o ≡ Some t → ReadsOne G t r)

  pub unread : (low high : ℕ) (o : Option Text) → Reads o None → None ≡ option_and_then (number_in low high) o
  unread low high None read = refl
  unread low high (Some t) read =
      let fault = read.1 t refl in
      let none = only t (Err fault.0) fault.1 in
      outside low high t (λ h. none (h.0, h.1))

  pub beyond : (low high n : ℕ) (o : Option Text) → Reads o (Some n) → (low ≤ n → n ≤ high → ⊥) → None ≡ option_and_then (number_in low high) o
  beyond low high n None read out =
      let bad = read.0 refl in cc
  beyond low high n (Some t) read out =
      let value : digits_value 10 (without_leading_plus t) ≡ n = sym ((only t (Ok n) (read.1 t refl)).1) in
      outside low high t (λ h. out (subst (λ m. low ≤ m) value h.2) (subst (λ m. m ≤ high) value h.3))

  pub within : (low high n : ℕ) (o : Option Text) → Reads o (Some n) → low ≤ n → n ≤ high → Some n ≡ option_and_then (number_in low high) o
  within low high n None read least most =
      let bad = read.0 refl in cc
  within low high n (Some t) read least most =
      let p = only t (Ok n) (read.1 t refl) in
      let value : n ≡ digits_value 10 (without_leading_plus t) = p.1 in
      inside low high n t value (p.0.0, p.0.1, subst (λ m. low ≤ m) value least, subst (λ m. m ≤ high) value most)
