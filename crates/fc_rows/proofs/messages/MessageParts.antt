-- The bytes of keys, statistics and small messages; nesting, texts, and bytes behind a message.
use Rattle.std.specs.Prelude.{pos, negsuc, Some, None}
use Rattle.std.proofs.Common.{◌≡◌, ℕ, zero, suc, ◌≤◌, List, [], ◌∷◌, ◌++◌, true, false, refl, sym, ap, ◌∙◌, arith}
use Rattle.std.proofs.lemmas.List.{append-nil}
use Rattle.std.specs.Str.{is_utf8, chars}
use Rattle.fc_spec.specs.documents.Val.{text, long}
use Rattle.fc_spec.specs.requests.Buckets.{value, missing, gap, before, between, after, whole}
use Rattle.fc_spec.specs.requests.Statistics.{number, extreme}
use Rattle.fc_spec.specs.messages.Message.{Partials, no_partials, partial, no_rows, row}
use Rattle.fc_spec.specs.messages.MessageBytes.{key_bytes, value_bytes, message_bytes}
use Rattle.fc_spec.specs.laws.SpellingLaw.{FitsMessage}
use Rattle.fc_spec.specs.messages.Nesting.{nesting, has_text, IsMessage, Spells}
use Rattle.fc_spec.proofs.messages.MessageSpelling.{one_spelling}
use Rattle.fc_rows.proofs.messages.MessageWords.{key_of, leaf, around}

pub text_key : key_bytes (key_of "ab") ≡ 0 ∷ 2 ∷ 0 ∷ 0 ∷ 0 ∷ 0 ∷ 0 ∷ 0 ∷ 0 ∷ 97 ∷ 98 ∷ []
text_key = refl

pub integer_key : key_bytes (value (long (pos 258))) ≡ 1 ∷ 2 ∷ 1 ∷ 0 ∷ 0 ∷ 0 ∷ 0 ∷ 0 ∷ 0 ∷ []
integer_key = refl

-- two's complement
pub negative_key : key_bytes (value (long (negsuc 1))) ≡ 1 ∷ 254 ∷ 255 ∷ 255 ∷ 255 ∷ 255 ∷ 255 ∷ 255 ∷ 255 ∷ []
negative_key = refl

-- a gap's number has four bytes
pub gap_key : key_bytes (gap 259) ≡ 3 ∷ 3 ∷ 1 ∷ 0 ∷ 0 ∷ []
gap_key = refl

pub missing_key : key_bytes missing ≡ 2 ∷ []
missing_key = refl

pub before_key : key_bytes before ≡ 4 ∷ []
before_key = refl

pub between_key : key_bytes between ≡ 5 ∷ []
between_key = refl

pub after_key : key_bytes after ≡ 6 ∷ []
after_key = refl

pub whole_key : key_bytes whole ≡ 7 ∷ []
whole_key = refl

pub number_value : value_bytes (number (negsuc 0)) ≡ 0 ∷ 255 ∷ 255 ∷ 255 ∷ 255 ∷ 255 ∷ 255 ∷ 255 ∷ 255 ∷ []
number_value = refl

pub absent_value : value_bytes (extreme None) ≡ 1 ∷ []
absent_value = refl

pub extreme_value : value_bytes (extreme (Some (pos 256))) ≡ 2 ∷ 0 ∷ 1 ∷ 0 ∷ 0 ∷ 0 ∷ 0 ∷ 0 ∷ 0 ∷ []
extreme_value = refl

-- a message without buckets, and one with a statistic and a node without buckets
pub no_bucket : message_bytes no_partials ≡ 77 ∷ 0 ∷ 0 ∷ 0 ∷ 0 ∷ 0 ∷ 0 ∷ 0 ∷ 0 ∷ []
no_bucket = refl

pub one_bucket : message_bytes (partial before (record { count = 3; values = number (pos 5) ∷ [] }) (row no_partials no_rows) no_partials)
    ≡ 77 ∷ 1 ∷ 0 ∷ 0 ∷ 0 ∷ 0 ∷ 0 ∷ 0 ∷ 0
    ∷ 4 ∷ 3 ∷ 0 ∷ 0 ∷ 0 ∷ 0 ∷ 0 ∷ 0 ∷ 0
    ∷ 1 ∷ 0 ∷ 0 ∷ 0 ∷ 0 ∷ 0 ∷ 0 ∷ 0 ∷ 0 ∷ 5 ∷ 0 ∷ 0 ∷ 0 ∷ 0 ∷ 0 ∷ 0 ∷ 0
    ∷ 1 ∷ 0 ∷ 0 ∷ 0 ∷ 0 ∷ 0 ∷ 0 ∷ 0 ∷ 0 ∷ 0 ∷ 0 ∷ 0 ∷ 0 ∷ 0 ∷ 0 ∷ 0 ∷ []
one_bucket = refl

-- nine bytes spell the message without buckets, and neither ten nor eight of them spell any
abbrev pub nine_bytes : List ℕ
nine_bytes = 77 ∷ 0 ∷ 0 ∷ 0 ∷ 0 ∷ 0 ∷ 0 ∷ 0 ∷ 0 ∷ []

pub fits : FitsMessage no_partials
fits = (omega arith, tt)

pub nine_spelled : Spells nine_bytes no_partials
nine_spelled = (refl, (fits, tt, omega arith))

pub ten_not_spelled : (m : Partials) → Spells (nine_bytes ++ 0 ∷ []) m → ⊥
ten_not_spelled m spelled = let rest = (one_spelling m no_partials [] (0 ∷ []) (spelled.1.0) fits (append-nil (message_bytes m) ∙ sym (spelled.0))).1 in cc

pub eight_not_spelled : (m : Partials) → Spells (77 ∷ 0 ∷ 0 ∷ 0 ∷ 0 ∷ 0 ∷ 0 ∷ 0 ∷ []) m → ⊥
eight_not_spelled m spelled = let rest = (one_spelling m no_partials (0 ∷ []) [] (spelled.1.0) fits (ap (λ (l : List ℕ). l ++ 0 ∷ []) (sym (spelled.0)))).1 in cc

-- so many buckets, each around the next
abbrev pub nested : ℕ → Partials
nested zero = no_partials
nested (suc n) = around whole 1 (nested n)

pub one_alone : nesting (leaf whole 1 (leaf whole 1 no_partials)) ≡ 1
one_alone = refl

pub nine_deep : nesting (nested 9) ≡ 9
nine_deep = refl

-- ten are too many
pub ten_deep : IsMessage (nested 10) → ⊥
ten_deep message = go (message.2)
  where
    go : 10 ≤ 9 → ⊥
    go h = omega arith

-- the deepest counts
pub deepest : nesting (leaf whole 1 (around whole 1 (leaf whole 1 no_partials))) ≡ 2
deepest = refl

-- the two bytes of a letter, and two that are none
pub plain_text : has_text (value (text (195 ∷ 169 ∷ []))) ≡ true
unfolding is_utf8 chars lib.Utf8.encode
plain_text = refl

pub broken_text : has_text (value (text (195 ∷ 40 ∷ []))) ≡ false
unfolding is_utf8 chars lib.Utf8.encode
broken_text = refl
