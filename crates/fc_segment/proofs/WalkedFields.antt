-- A document handed to the builders of its fields, field by field.
use Rattle.std.proofs.Common.{◌≡◌, ◌≢◌, ℕ, zero, suc, ◌+◌, ◌-◌, ◌<◌, ◌≤◌, ◌⊎◌, inl, inr, List, [], ◌∷◌, ◌++◌, length, get_or, set, map, replicate, All, refl, sym, ap, ◌∙◌, arith}
use Rattle.std.proofs.lemmas.Bool.{cases_eq, cases_lt}
use Rattle.std.proofs.lemmas.List.{append-nil, append_assoc, length-append, length-replicate, length_push, get_or-map, get_or-set_same, get_or-set_other, replicate_more, get_or_past}
use Rattle.std.proofs.lemmas.List.Elements.{All-head, All-tail}
use Rattle.fc_spec.specs.documents.Document.{Document, values_of}
use Rattle.fc_spec.specs.documents.Val.{Val}
use Rattle.fc_docs.specs.Fields.{FieldValues, values_at, Ascend, HaveValues}
use Rattle.fc_docs.proofs.Entries.{Entry, below, here, skip}
use Rattle.fc_segment.specs.declared.builder.Builder.{Builder}
use Rattle.fc_segment.specs.Building.{values_built, padded}

-- ---- columns that lack their last positions
pub length-padded : (len : ℕ) (rows : List (List Val)) → length rows ≤ len → length (padded len rows) ≡ len
length-padded len rows behind =
    let nothing : List Val = [] in
    length-append rows (replicate (len - length rows) nothing) ∙ ap (λ n. length rows + n) (length-replicate (len - length rows) nothing) ∙ omega arith

padded-whole : (rows : List (List Val)) (len : ℕ) → length rows ≡ len → padded len rows ≡ rows
padded-whole rows len whole =
    let none : len - length rows ≡ 0 = omega arith in
    ap (λ n. rows ++ replicate n []) none ∙ append-nil rows

pub padded-more : (len : ℕ) (rows : List (List Val)) → length rows ≤ len → padded (len + 1) rows ≡ padded len rows ++ [] ∷ []
padded-more len rows behind =
    let nothing : List Val = [] in
    let next : len + 1 - length rows ≡ len - length rows + 1 = omega arith in
    ap (λ n. rows ++ replicate n nothing) next ∙ ap (λ l. rows ++ l) (sym (replicate_more (len - length rows) nothing))
    ∙ sym (append_assoc rows (replicate (len - length rows) nothing) (nothing ∷ []))

pub padded-push : (len : ℕ) (rows new : List (List Val)) (row : List Val) → length rows ≤ len → new ≡ padded len rows ++ row ∷ []
    → (padded (len + 1) new ≡ padded len rows ++ row ∷ []) × (length new ≡ len + 1)
padded-push len rows new row behind is =
    let long : length new ≡ len + 1 = omega (arith, ap length is, length_push (padded len rows) row, length-padded len rows behind) in
    (padded-whole new (len + 1) long ∙ is, long)

-- ---- the fields of a document
abbrev pub Rows : Type 0
Rows = List (List (List Val))

-- the fields before a bound have got the document, and the others wait for the fields that are left
pub record Pushed (old new : Rows) (at : ℕ) (d : Document) (left : FieldValues) : Type 0 where
  pub bound : ℕ
  pub ascends : Ascend bound left
  pub some : HaveValues left
  pub finals : (n : ℕ) → n < bound → padded (at + 1) (get_or new n []) ≡ padded at (get_or old n []) ++ values_of d n ∷ []
  pub behind : (n : ℕ) → n < bound → length (get_or new n []) ≤ at + 1
  pub untouched : (n : ℕ) → bound ≤ n → get_or new n [] ≡ get_or old n []
  pub rest : (n : ℕ) → bound ≤ n → values_of d n ≡ values_at left n

module _ (old : Rows) (at : ℕ) (waits : (n : ℕ) → length (get_or old n []) ≤ at) (d : Document) where
  pub pushed_none : (left : FieldValues) → Ascend 0 left → HaveValues left → ((n : ℕ) → values_at left n ≡ values_of d n) → Pushed old old at d left
  pushed_none left ascends some values = record {
    bound = 0;
    ascends = ascends;
    some = some;
    finals = λ n none. absurd (omega arith);
    behind = λ n none. absurd (omega arith);
    untouched = λ n from. refl;
    rest = λ n from. sym (values n);
  }

  -- a field that the document has no value for
  passed : (new : Rows) (n : ℕ) → get_or new n [] ≡ get_or old n [] → values_of d n ≡ []
      → (padded (at + 1) (get_or new n []) ≡ padded at (get_or old n []) ++ values_of d n ∷ []) × (length (get_or new n []) ≤ at + 1)
  passed new n same none = (
    ap (padded (at + 1)) same ∙ padded-more at (get_or old n []) (waits n) ∙ ap (λ row. padded at (get_or old n []) ++ row ∷ []) (sym none),
    omega (arith, waits n, ap length same),
  )

  module _ (new : Rows) (e : Entry) (left : FieldValues) (so_far : Pushed old new at d (e ∷ left)) where
    between : (n : ℕ) → so_far.bound ≤ n → n < e.0 → values_of d n ≡ []
    between n from before =
        so_far.rest n from ∙ skip e left n (λ same. omega arith) ∙ below (e.0 + 1) n left so_far.ascends.1 (omega arith)

    pub here_is : values_of d e.0 ≡ e.1
    here_is = so_far.rest e.0 so_far.ascends.0 ∙ here e left

    pub some_here : 0 < length e.1
    some_here = All-head (λ f. 0 < length f.1) e left so_far.some

    pub still_waits : get_or new e.0 [] ≡ get_or old e.0 []
    still_waits = so_far.untouched e.0 so_far.ascends.0

    -- the next rows, where they differ in this field alone
    next_pushed : (next : Rows) → ((n : ℕ) → n ≢ e.0 → get_or next n [] ≡ get_or new n [])
        → (padded (at + 1) (get_or next e.0 []) ≡ padded at (get_or old e.0 []) ++ values_of d e.0 ∷ []) × (length (get_or next e.0 []) ≤ at + 1)
        → Pushed old next at d left
    next_pushed next others here = record {
      bound = e.0 + 1;
      ascends = so_far.ascends.1;
      some = All-tail (λ f. 0 < length f.1) e left so_far.some;
      finals = λ n below. (at_field n below (cases_eq n e.0)).0;
      behind = λ n below. (at_field n below (cases_eq n e.0)).1;
      untouched = λ n from. others n (λ same. omega arith) ∙ so_far.untouched n (omega (arith, so_far.ascends.0));
      rest = λ n from. so_far.rest n (omega (arith, so_far.ascends.0)) ∙ skip e left n (λ same. omega arith);
    }
      where
        at_field : (n : ℕ) → n < e.0 + 1 → ((n ≡ e.0) ⊎ (n ≡ e.0 → ⊥))
            → (padded (at + 1) (get_or next n []) ≡ padded at (get_or old n []) ++ values_of d n ∷ []) × (length (get_or next n []) ≤ at + 1)
        at_field n below (inl same) = (
          ap (λ m. padded (at + 1) (get_or next m [])) same ∙ here.0 ∙ ap (λ m. padded at (get_or old m []) ++ values_of d m ∷ []) (sym same),
          omega (arith, here.1, ap (λ m. length (get_or next m [])) same),
        )
        at_field n below (inr other) = elim (cases_lt n so_far.bound) [
          | inl done ↦ (ap (padded (at + 1)) (others n other) ∙ so_far.finals n done, omega (arith, so_far.behind n done, ap length (others n other)))
          | inr waiting ↦ passed next n (others n other ∙ so_far.untouched n waiting) (between n waiting (omega arith))
        ]

    pub pushed_value : e.0 < length new → Pushed old (set new e.0 (padded at (get_or new e.0 []) ++ e.1 ∷ [])) at d left
    pushed_value within =
        let row = padded at (get_or new e.0 []) ++ e.1 ∷ [] in
        let set_here = get_or-set_same new e.0 row [] within in
        let pushed = padded-push at (get_or old e.0 []) row e.1 (waits e.0) (ap (λ rows. padded at rows ++ e.1 ∷ []) still_waits) in
        next_pushed (set new e.0 row) (λ n other. get_or-set_other new e.0 n row [] other)
        (ap (padded (at + 1)) set_here ∙ pushed.0 ∙ ap (λ r. padded at (get_or old e.0 []) ++ r ∷ []) (sym here_is), omega (arith, pushed.1, ap length set_here))

  pub pushed_all : (new : Rows) → Pushed old new at d [] → (n : ℕ)
      → (padded (at + 1) (get_or new n []) ≡ padded at (get_or old n []) ++ values_of d n ∷ []) × (length (get_or new n []) ≤ at + 1)
  pushed_all new so_far n = elim (cases_lt n so_far.bound) [
    | inl done ↦ (so_far.finals n done, so_far.behind n done)
    | inr waiting ↦ passed new n (so_far.untouched n waiting) (so_far.rest n waiting)
  ]

-- ---- builders by their rows
pub waits_of : (builders : List Builder) (at : ℕ) → All (λ b. length (values_built b) ≤ at) builders → (n : ℕ) → length (get_or (map values_built builders) n []) ≤ at
waits_of [] at all n = omega arith
waits_of (b ∷ builders) at all zero = all 0 b (omega arith)
waits_of (b ∷ builders) at all (suc n) = waits_of builders at (λ k d inside. all (suc k) d (omega arith)) n

pub all_wait : (builders : List Builder) (at : ℕ) → ((n : ℕ) → length (get_or (map values_built builders) n []) ≤ at) → All (λ b. length (values_built b) ≤ at) builders
all_wait builders at waits k d inside = omega (arith, waits k, ap length (get_or-map values_built builders k d [] inside))

-- a field with values is one of the document
pub field_within : (d : Document) (values : List Val) (f : ℕ) → values_of d f ≡ values → 0 < length values → f < length d
field_within d values f is some = elim (cases_lt f (length d)) [
  | inl within ↦ within
  | inr past ↦ absurd (omega (arith, ap length (get_or_past d f [] past), ap length is))
]
