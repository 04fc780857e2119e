-- What a writer knows behind its steps.
use Rattle.std.proofs.Common.{◌≡◌, ℕ, ◌+◌, ◌<◌, List, [], ◌∷◌, ◌++◌, map, fold, length, Result, Ok, Err, MatchResult, IfOk, refl, sym, ap, subst, ◌∙◌, arith}
use Rattle.left_right.specs.Register.{TurnsAt}
use Rattle.fc_store.specs.Generated.{Generated}
use Rattle.fc_store.specs.Charters.{IsChartered}
use Rattle.fc_store.specs.declared.rule.Shown.{Shown}
use Rattle.fc_store.specs.declared.rule.Known.{Known}
use Rattle.fc_store.specs.Rule.{Content, content, Keeps, known, binds, publishes, Follows, IsNext, IsLed}
use Rattle.fc_store.proofs.KeptRule.{binds_kept, publishes_kept}

-- what readers will take when all that waits is applied; f says what an operation stands for
abbrev pub applied : {A : Type 0} → (A → Generated) → Content → List A → Content
applied f x waiting = fold (λ (z : Content) operation. (z.0, f operation)) x waiting

-- where something waits it is one generation, the next
pub next_waits : {A : Type 0} (f : A → Generated) (x : Content) (waiting : List A) → IsNext x (map f waiting) → 0 < length waiting → (g : Generated) × Follows x g × (applied f x waiting ≡ (x.0, g))
next_waits f x [] next some = absurd (omega arith)
next_waits f x (op ∷ []) next some = (f op, next, refl)
next_waits f x (op ∷ o ∷ ops) next some = absurd next

-- the first step, with nothing that waits, keeps the rule
pub first_keeps : {A : Type 0} (f : A → Generated) (seat : ℕ) (v : Known) (s t : Shown) (waiting : List A) → waiting ≡ [] → content t ≡ applied f (content s) waiting → TurnsAt Keeps seat v s t binds
first_keeps {A} f seat v s t waiting none now = binds_kept seat v s t (now ∙ ap (λ (z : List A). applied f (content s) z) none)

-- publishing what waits keeps it
pub publishing_keeps : {A : Type 0} (f : A → Generated) (seat : ℕ) (v : Known) (s t : Shown) (waiting : List A) → IsNext (content s) (map f waiting) → 0 < length waiting
    → content t ≡ applied f (content s) waiting → TurnsAt Keeps seat v s t publishes
publishing_keeps f seat v s t waiting next some now =
    let (g, follows, folds) = next_waits f (content s) waiting next some in
    publishes_kept seat v s t g follows (now ∙ folds)

-- behind an attempt to publish what waits the writer leads again
pub leads_on : {A U E : Type 0} (f : A → Generated) (s t : Shown) (v w : Known) (before after : List A) (r : Result U E)
    → IsLed (content s) v (map f before) → 0 < length before
    → MatchResult r (λ _. (content t ≡ applied f (content s) before) × (after ≡ [])) (λ _. (t ≡ s) × (after ≡ before))
    → MatchResult r (λ _. publishes v s t w) (λ _. w ≡ v)
    → IsLed (content t) w (map f after)
    × ((content t).0 ≡ (content s).0) × ((content t).1.schema ≡ (content s).1.schema)
    × MatchResult r (λ _. (content t).1.number ≡ (content s).1.number + 1) (λ _. content t ≡ content s)
leads_on {A = A} f s t v w before after (Ok u) led some values rule =
    let x = content s in
    let (g, follows, folds) = next_waits f x before led.next some in
    let now : content t ≡ (x.0, g) = values.0 ∙ folds in
    let number : (content t).1.number ≡ g.number = ap (λ (z : Content). z.1.number) now in
    let schema : (content t).1.schema ≡ x.1.schema = ap (λ (z : Content). z.1.schema) now ∙ follows.schema in
    let charter : (content t).0 ≡ x.0 = ap (λ (z : Content). z.0) now in
    let knew : record v { at = (content t).1.number } ≡ known (content t) =
    ap (λ (z : Known). record z { at = (content t).1.number }) led.knows ∙ (λ i. record { bound = (known x).bound; schema = sym schema i; charter = sym charter i; at = (content t).1.number }) in (
      record {
        knows = rule ∙ knew;
        charted = subst (λ (z : Content). IsChartered z.0 z.1) (sym now) follows.charted;
        next = subst (λ (z : List A). IsNext (content t) (map f z)) (sym values.1) tt;
      },
      charter,
      schema,
      number ∙ follows.next,
    )
leads_on {A = A} f s t v w before after (Err e) led some values rule = (
  subst (λ (z : Shown × (Known × List A)). IsLed (content z.0) z.1.0 (map f z.1.1)) (λ i. (sym values.0 i, (sym rule i, sym values.1 i))) led,
  ap (λ (z : Shown). (content z).0) values.0,
  ap (λ (z : Shown). (content z).1.schema) values.0,
  ap content values.0,
)

-- behind its first step the writer leads
pub leads_first : {A U E : Type 0} (f : A → Generated) (s t : Shown) (v w : Known) (before after : List A) (r : Result U E)
    → IsChartered (content s).0 (content s).1 → before ≡ []
    → MatchResult r (λ _. (content t ≡ applied f (content s) before) × (after ≡ [])) (λ _. (t ≡ s) × (after ≡ before))
    → MatchResult r (λ _. binds v s t w) (λ _. w ≡ v)
    → IfOk r (λ _. IsLed (content t) w (map f after) × (content t ≡ content s))
leads_first {A = A} f s t v w before after (Ok u) charted none values rule =
    let now : content t ≡ content s = values.0 ∙ ap (λ (z : List A). applied f (content s) z) none in (
      record {
        knows = rule ∙ ap known (sym now);
        charted = subst (λ (z : Content). IsChartered z.0 z.1) (sym now) charted;
        next = subst (λ (z : List A). IsNext (content t) (map f z)) (sym values.1) tt;
      },
      now,
    )
leads_first f s t v w before after (Err e) charted none values rule = tt

-- behind an attempt to have a generation wait, where none did
pub waits_now : {A U : Type 0} (f : A → Generated) (x : Content) (before after : List A) (op : A) (r : Result U A) → ¬ (0 < length before) → Follows x (f op)
    → MatchResult r (λ _. after ≡ before ++ op ∷ []) (λ o. (o ≡ op) × (after ≡ before)) → IsNext x (map f after)
waits_now {A = A} f x [] after op (Ok u) none follows is = subst (λ (z : List A). IsNext x (map f z)) (sym is) follows
waits_now {A = A} f x [] after op (Err o) none follows is = subst (λ (z : List A). IsNext x (map f z)) (sym is.1) tt
waits_now f x (o ∷ ops) after op r none follows is = absurd (none (omega arith))
