-- A range facet's parameters: the words behind the numbers.
use Rattle.std.specs.Prelude.{◌≡◌, [], codes, Result, Ok, Err}
use Rattle.serde_json.specs.Data.{Members}
use Rattle.fc_spec.specs.requests.Request.{Range}
use Rattle.fc_spec.specs.requests.RequestFault as definition
use Rattle.fc_spec.specs.requests.RequestWalk.{optional}
use Rattle.fc_spec.specs.requests.FacetReading.{words_in, other_words, include_words, range_of}
use Rattle.fc_spec.specs.words.Walks.{◌>>=◌}
use Rattle.fc_base.specs.declared.error.Refusal.{Refusal}
use Rattle.fc_base.specs.declared.error.Refusal.TheVariants.{Memory, Fault}
use Rattle.fc_facet.specs.declared.fault.QFault.{QFault}
use Rattle.fc_facet.specs.FaultView.{fault_view}

-- what is read behind the field and the numbers of a range
abbrev pub words_behind : Members → Range → Result Range definition.QFault
words_behind ms g = do
  other ← optional (codes "other") (words_in other_words) [] ms
  include ← optional (codes "include") (words_in include_words) [] ms
  Ok (range_of g.field g.start g.end g.gap g.hardend other include)

-- The first part of a walk: what follows from its value is what the walk gives, or its fault is the walk's.
abbrev pub GoesOn : {A V : Type 0} → (A → Result V definition.QFault) → Result A (Refusal QFault) → Result V definition.QFault → Type 0
GoesOn next (Ok value) defined = defined ≡ next value
GoesOn next (Err Memory) defined = Unit {0}
GoesOn next (Err (Fault fault)) defined = defined ≡ Err (fault_view fault)
