-- Sets of positions that keep to the live documents of segments. V is the list of the segments.
use Rattle.std.specs.Prelude.{◌≡◌, List, [], ◌∷◌, Bool, ◌&&◌, length}
use Rattle.fc_spec.specs.documents.Sets.{zip_with}
use Rattle.fc_spec.specs.documents.Totals.{document_total}
use Rattle.fc_answers.specs.SetAnswer.{Piece, Pieces, Sets}

-- the set has a Bool for each document, and no document that is not live
pub record IsLive (p : Piece) (set : List Bool) : Type 0 where
  pub count : length set ≡ document_total p.blocks
  pub live : zip_with ◌&&◌ set p.live ≡ set

-- a set for each segment, each of its live documents
abbrev pub AreLive : Pieces → Sets → Type 0
AreLive [] [] = Unit {0}
AreLive [] (set ∷ sets) = ⊥
AreLive (p ∷ V) [] = ⊥
AreLive (p ∷ V) (set ∷ sets) = IsLive p set × AreLive V sets
