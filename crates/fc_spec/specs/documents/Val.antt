-- Texts and values, and index order. Guide: JSON Facet API, "Terms Facet" (`sort`).
use Rattle.std.specs.Prelude.{ℕ, ℤ, List, [], ◌∷◌, Bool}
use Rattle.std.specs.List.{list_any}
use Rattle.std.specs.Ordering.{nat_cmp, int_cmp, is_eq, match_ordering}
use Rattle.std.specs.declared.cmp.Ordering.{Ordering}
use Rattle.std.specs.declared.cmp.Ordering.TheVariants.{Less, Greater}
use Rattle.std.specs.Cmp.Lexicographic.{slice_cmp}

-- a text, by its UTF-8 bytes
abbrev pub Text : Type 0
Text = List ℕ

-- a value of a field
pub data Val : Type 0 where
  text : Text → Val
  long : ℤ → Val

-- texts in the order of their bytes
abbrev pub text_cmp : Text → Text → Ordering
text_cmp = slice_cmp nat_cmp

-- the two texts are one
abbrev pub same_text : Text → Text → Bool
same_text a b = is_eq (text_cmp a b)

-- index order: integers by their number, texts by their bytes, every integer before every text
abbrev pub val_cmp : Val → Val → Ordering
val_cmp (long a) (long b) = int_cmp a b
val_cmp (long a) (text b) = Less
val_cmp (text a) (long b) = Greater
val_cmp (text a) (text b) = text_cmp a b

-- the two values are one
abbrev pub same_val : Val → Val → Bool
same_val a b = is_eq (val_cmp a b)

-- whether a value is among these
abbrev pub has_val : Val → List Val → Bool
has_val v vs = list_any (same_val v) vs

-- an ascending list with v put in its place, unless it is there
abbrev pub insert_val : Val → List Val → List Val
insert_val v [] = v ∷ []
insert_val v (w ∷ ws) = match_ordering (val_cmp v w) (v ∷ w ∷ ws) (w ∷ ws) (w ∷ insert_val v ws)

-- the different values of a list, each once, in index order
abbrev pub distinct : List Val → List Val
distinct [] = []
distinct (v ∷ vs) = insert_val v (distinct vs)
