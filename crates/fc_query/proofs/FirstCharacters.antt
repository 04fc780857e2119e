-- The first character of a text, as it stands or behind a backslash.
use Rattle.std.proofs.Common.{◌≡◌, ◌≢◌, ◌∙◌, ap, refl, sym, ℕ, List, [], ◌∷◌, ◌++◌, length, false, eqb, arith, subst}
use Rattle.std.proofs.lemmas.Bool.Decides.{nat_tests}
use Rattle.std.proofs.lemmas.List.{nil_from_length}
use Rattle.std.specs.Str.{chars, IsUtf8}
use Rattle.std.specs.Char.{encode_utf8}
use Rattle.std.proofs.lemmas.Str.{chars_past_char, IsUtf8-past_char, chars-nil}
use Rattle.fc_spec.specs.queries.QueryCharacters.{bare, escaped, characters}

not_backslash : (c : ℕ) → c ≢ 92 → eqb c 92 ≡ false
not_backslash c h = grind (arith, nat_tests)

not_u : (c : ℕ) → c ≢ 117 → eqb c 117 ≡ false
not_u c h = grind (arith, nat_tests)

as_it_stands : (c : ℕ) (cs : List ℕ) → eqb c 92 ≡ false → characters (c ∷ cs) ≡ bare c ∷ characters cs
as_it_stands c [] h = refl
as_it_stands c (d ∷ cs) h = rw (h, characters) refl

behind_backslash : (d : ℕ) (cs : List ℕ) → eqb d 117 ≡ false → characters (92 ∷ d ∷ cs) ≡ escaped d ∷ characters cs
behind_backslash d cs h = rw (h, characters) refl

pub bare_first : (t r : List ℕ) (c : ℕ) → IsUtf8 t → t ≡ encode_utf8 c ++ r → c ≢ 92 → characters (chars t) ≡ bare c ∷ characters (chars r)
bare_first t r c u e h = ap characters (chars_past_char t r c u e) ∙ as_it_stands c (chars r) (not_backslash c h)

pub escaped_first : (t r s : List ℕ) (c d : ℕ) → IsUtf8 t → c ≡ 92 → t ≡ encode_utf8 c ++ r → r ≡ encode_utf8 d ++ s → d ≢ 117 → characters (chars t) ≡ escaped d ∷ characters (chars s)
escaped_first t r s c d u z e f h =
    ap characters (chars_past_char t r c u e ∙ ap (λ cs. c ∷ cs) (chars_past_char r s d (IsUtf8-past_char t r c u e) f))
    ∙ ap (λ b. characters (b ∷ d ∷ chars s)) z
    ∙ behind_backslash d (chars s) (not_u d h)

pub backslash_before_u : (t r s : List ℕ) (c d : ℕ) → IsUtf8 t → c ≡ 92 → t ≡ encode_utf8 c ++ r → r ≡ encode_utf8 d ++ s → d ≡ 117 → characters (chars t) ≡ bare c ∷ characters (chars r)
backslash_before_u t r s c d u z e f h =
    let rest = chars_past_char r s d (IsUtf8-past_char t r c u e) f ∙ ap (λ x. x ∷ chars s) h in
    ap characters (chars_past_char t r c u e) ∙ ap (λ cs. characters (c ∷ cs)) rest
    ∙ ap (λ b. characters (b ∷ 117 ∷ chars s)) z
    ∙ subst (λ (b : ℕ). bare 92 ∷ characters (117 ∷ chars s) ≡ bare b ∷ characters (117 ∷ chars s)) (sym z) refl
    ∙ ap (λ cs. bare c ∷ characters cs) (sym rest)

pub backslash_at_end : (t r : List ℕ) (c : ℕ) → IsUtf8 t → t ≡ encode_utf8 c ++ r → length r ≡ 0 → characters (chars t) ≡ bare c ∷ characters (chars r)
backslash_at_end t r c u e h =
    let rest : r ≡ [] = nil_from_length r h in
    ap characters (chars_past_char t r c u e) ∙ ap (λ x. characters (c ∷ chars x)) rest ∙ ap (λ cs. characters (c ∷ cs)) chars-nil
    ∙ ap (λ cs. bare c ∷ characters cs) (sym chars-nil) ∙ ap (λ x. bare c ∷ characters (chars x)) (sym rest)
