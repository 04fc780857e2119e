-- What an iterator over positions has left.
use Rattle.std.specs.Prelude.{ℕ, ◌+◌, ◌*◌, ◌^◌, ◌≤◌, List, ◌∷◌, length}
use Rattle.fc_spec.specs.documents.Bits.{first_bits}
use Rattle.fc_docset.specs.Positions.{positions_from}
use Rattle.fc_docset.specs.declared.iter.Positions.TheInside.{Inside}

-- the words that are left, the one that is read now first
abbrev pub words_left : Inside → List ℕ
words_left it = it.word ∷ it.words.now

abbrev pub positions_left : Inside → List ℕ
positions_left it = positions_from it.base (first_bits (64 * length (words_left it)) (words_left it))

-- each position that is left fits
abbrev pub Fits : Inside → Type 0
Fits it = it.base + 64 * length (words_left it) ≤ 2 ^ 32
