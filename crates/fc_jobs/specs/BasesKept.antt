-- The bases that are kept for a request.
use Rattle.std.specs.Prelude.{◌≡◌, ℕ, ◌<◌, List, [], Bool, All, length, slice_index_or}
use Rattle.fc_spec.specs.documents.Totals.{document_total}
use Rattle.fc_spec.specs.documents.Val.{Text}
use Rattle.fc_spec.specs.queries.Query.{Query}
use Rattle.fc_spec.specs.requests.DomainSets.{filtered_set}
use Rattle.fc_spec.specs.requests.Request.{Request}
use Rattle.fc_answers.specs.SetAnswer.{Piece, Pieces, base_of}
use Rattle.fc_jobs.specs.FilterLists.{queries_in}
use Rattle.fc_jobs.specs.Pieces.{no_piece}
use Rattle.fc_jobs.specs.declared.bases.Bases.{Bases}
use Rattle.fc_jobs.specs.declared.bases.KeptBase.{KeptBase}

-- none is there
abbrev pub HasNone : Bases → Type 0
HasNone bases = bases.kept.items ≡ []

-- the base without the filters with one of the tags, of which what matches each query is kept
abbrev pub kept_base : Request → List Text → List Query → Piece → List Bool
kept_base r tags filters p = filtered_set filters p.blocks (base_of r tags p)

-- the set is that of the request without the filters that have one of its tags, in the segment with its number, and of it what matches each of its filters; it has a Bool for each document there
pub record IsBase (r : Request) (V : Pieces) (b : KeptBase) : Type 0 where
  pub set : b.docs ≡ kept_base r b.tags.items (queries_in b.filters.items) (slice_index_or V b.at no_piece)
  pub count : length b.docs ≡ document_total (slice_index_or V b.at no_piece).blocks

-- each of them is one, over these segments
abbrev pub AreBases : Request → Pieces → Bases → Type 0
AreBases r V bases = All (IsBase r V) bases.kept.items

-- over some segments, of which the one with this number is p
abbrev pub AreBasesAt : Request → ℕ → Piece → Bases → Type 0
AreBasesAt r at p bases = (V : Pieces) × (slice_index_or V at no_piece ≡ p) × AreBases r V bases

-- over whatever segments they were bases, of which the one with this number is p, they are afterwards
abbrev pub StayBases : Request → ℕ → Piece → (before after : Bases) → Type 0
StayBases r at p before after = (V : Pieces) → slice_index_or V at no_piece ≡ p → AreBases r V before → AreBases r V after

-- the one with this number is there, and these are its documents
pub record Holds (bases : Bases) (number : ℕ) (docs : List Bool) : Type 0 where
  pub there : number < length bases.kept.items
  pub held : (b : KeptBase) → b ≡ slice_index_or bases.kept.items number b → b.docs ≡ docs
