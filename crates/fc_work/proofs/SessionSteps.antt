-- A session's searches, one after another.
use Rattle.std.proofs.Common.{◌≡◌, ℕ, ◌+◌, ◌<◌, ◌≤◌, List, [], ◌∷◌, ◌++◌, length, map, drop, get_or, Ok, Err, refl, sym, ◌∙◌, ap, subst, append_assoc, append-nil, arith}
use Rattle.std.specs.Prelude.{All, IfOk}
use Rattle.std.proofs.lemmas.Bool.{eq-eqb, ne_eqb}
use Rattle.std.proofs.lemmas.List.{drop_all, drop_more, get_or-map, length-map}
use Rattle.fc_spec.specs.requests.ValidRequests.{IsValidRequest}
use Rattle.fc_request.specs.RequestView.{request_view}
use Rattle.fc_work.specs.Working.{AreReady, AreSameStores, CanAsk, asked_of}
use Rattle.fc_spec.specs.documents.Document.{Batch}
use Rattle.fc_spec.specs.documents.Val.{Text}
use Rattle.fc_spec.specs.replies.Replied.{replied}
use Rattle.fc_spec.specs.scripts.AskedScripts.{Asked}
use Rattle.fc_spec.specs.scripts.PinnedWorlds.{world_added}
use Rattle.fc_spec.specs.scripts.SearchLines.{AreSessionLines, IsLineOver, SearchLine}
use Rattle.fc_spec.specs.scripts.WorldLimits.{IsWithinLimits}
use Rattle.fc_lines.specs.LineView.{asked_view}
use Rattle.fc_search.specs.Schemas.{AreSame}
use Rattle.fc_store.specs.Ends.{Pinning}
use Rattle.fc_work.specs.Pinned.{charters_of, least_of, most_of}
use Rattle.fc_work.proofs.Batches.{batches_count}
use Rattle.fc_request.specs.declared.fault.RequestFault.{RequestFault}
use Rattle.fc_request.specs.declared.request.Request.{Request}
use Rattle.std.specs.Prelude.{Result}

abbrev Asking : Type 0
Asking = Result Request RequestFault

most_is : (rs : List Pinning) → most_of rs ≡ map (λ c. length c) (charters_of rs)
most_is [] = refl
most_is (r ∷ rs) = λ i. sym (batches_count r.charter) i ∷ most_is rs i

line_next : (C : List (List Batch)) (low high : List ℕ) (s : Text) (a : Asked) (Then Later : List ℕ → Type 0) (l : SearchLine) → ((g : List ℕ) → Then g → Later g)
    → IsLineOver replied C low high s a Then l → IsLineOver replied C low high s a Later l
line_next C low high s (Ok r) Then Later l next (g, between, is, sent, more) = (g, between, is, sent, next g more)
line_next C low high s (Err f) Then Later l next (is, sent, more) = (is, sent, next low more)

module _ (s : Text) (init : List Pinning) where
  -- the lines of some requests, from what these readers have pinned on
  abbrev pub Lines : List Pinning → List Asking → List SearchLine → Type 0
  Lines readers asked lines = AreSessionLines replied (charters_of init) (most_of init) s (least_of readers) (map asked_view asked) lines

  pub session_more : (now after : List Pinning) (all left next : List Asking) (a : Asking) (lines : List SearchLine) (line : SearchLine) → left ≡ a ∷ next → charters_of now ≡ charters_of init
      → IsLineOver replied (charters_of now) (least_of now) (most_of now) s (asked_view a) (λ g. least_of after ≡ g) line
      → ((rest : List SearchLine) → Lines now left rest → Lines init all (lines ++ rest))
      → (rest : List SearchLine) → Lines after next rest → Lines init all ((lines ++ line ∷ []) ++ rest)
  session_more now after all left next a lines line first same is was rest more =
      subst (Lines init all) (sym (append_assoc lines (line ∷ []) rest))
      (was (line ∷ rest) (subst (λ asked. Lines now asked (line ∷ rest)) (sym first) here))
    where
      most : most_of now ≡ most_of init
      most = most_is now ∙ ap (map (λ c. length c)) same ∙ sym (most_is init)

      here : Lines now (a ∷ next) (line ∷ rest)
      here =
          line_next (charters_of init) (least_of now) (most_of init) s (asked_view a) (λ g. least_of after ≡ g)
          (λ g. AreSessionLines replied (charters_of init) (most_of init) s g (map asked_view next) rest) line
          (λ g shown. subst (λ low. AreSessionLines replied (charters_of init) (most_of init) s low (map asked_view next) rest) shown more)
          (subst (λ high. IsLineOver replied (charters_of init) (least_of now) high s (asked_view a) (λ g. least_of after ≡ g) line) most
          (subst (λ C. IsLineOver replied C (least_of now) (most_of now) s (asked_view a) (λ g. least_of after ≡ g) line) same is))

  pub session_skip : (now : List Pinning) (all left next : List Asking) (lines : List SearchLine) → left ≡ next → ((rest : List SearchLine) → Lines now left rest → Lines init all (lines ++ rest))
      → (rest : List SearchLine) → Lines now next rest → Lines init all (lines ++ rest)
  session_skip now all left next lines same was rest more = was rest (subst (λ asked. Lines now asked rest) (sym same) more)

  pub session_done : (now : List Pinning) (all left : List Asking) (lines : List SearchLine) → left ≡ [] → ((rest : List SearchLine) → Lines now left rest → Lines init all (lines ++ rest)) → Lines init all lines
  session_done now all left lines none was = subst (Lines init all) (append-nil lines) (was [] (subst (λ asked. Lines now asked []) (sym none) tt))

-- ---- whose searches they are

pub asked_next : (c : ℕ) (order : List ℕ) (asked : List Asking) (i : ℕ) (d : Asking) → length order ≡ length asked → i < length asked → get_or order i 0 ≡ c
    → asked_of c (drop i order) (drop i asked) ≡ get_or asked i d ∷ asked_of c (drop (i + 1) order) (drop (i + 1) asked)
asked_next c order asked i d same below is =
    (λ k. asked_of c (drop_more order i 0 (omega (arith, same, below)) k) (drop_more asked i d below k)) ∙ rw (eq-eqb (get_or order i 0) c is) refl

pub asked_skip : (c : ℕ) (order : List ℕ) (asked : List Asking) (i : ℕ) (d : Asking) → length order ≡ length asked → i < length asked → (get_or order i 0 ≡ c → ⊥)
    → asked_of c (drop i order) (drop i asked) ≡ asked_of c (drop (i + 1) order) (drop (i + 1) asked)
asked_skip c order asked i d same below other =
    (λ k. asked_of c (drop_more order i 0 (omega (arith, same, below)) k) (drop_more asked i d below k)) ∙ rw (ne_eqb (get_or order i 0) c other) refl

pub asked_done : (c : ℕ) (order : List ℕ) (asked : List Asking) (i : ℕ) → length asked ≤ i → length order ≡ length asked → asked_of c (drop i order) (drop i asked) ≡ []
asked_done c order asked i past same = λ k. asked_of c (drop_all i order (omega (arith, same, past)) k) (drop_all i asked past k)

-- ---- readers of the same stores can be asked the same

same_schema : (old new : List Pinning) (k : ℕ) (d : Pinning) → AreSameStores old new → k < length new → (get_or new k d).schema ≡ (get_or old k d).schema
same_schema old new k d same below =
    let long : length new ≡ length old = sym (length-map new (λ r. r.schema)) ∙ ap length same.schemas ∙ length-map old (λ r. r.schema) in
    sym (get_or-map (λ r. r.schema) new k d d.schema below) ∙ ap (λ ss. get_or ss k d.schema) same.schemas ∙ get_or-map (λ r. r.schema) old k d d.schema (omega (arith, long, below))

valid_for : (old new : List Pinning) (a : Asking) → AreSameStores old new → IfOk a (λ r. All (λ reader. IsValidRequest reader.schema (request_view r)) old)
    → IfOk a (λ r. All (λ reader. IsValidRequest reader.schema (request_view r)) new)
valid_for old new (Ok r) same valid = λ k d below.
    let long : length new ≡ length old = sym (length-map new (λ r. r.schema)) ∙ ap length same.schemas ∙ length-map old (λ r. r.schema) in
    subst (λ t. IsValidRequest t (request_view r)) (sym (same_schema old new k d same below)) (valid k d (omega (arith, long, below)))
valid_for old new (Err f) same valid = tt

pub can_ask : (old new : List Pinning) (asked : List Asking) (i : ℕ) (d : Asking) → AreSameStores old new → i < length asked → All (CanAsk old) asked → CanAsk new (get_or asked i d)
can_ask old new asked i d same below all = let here = all i d below in record { root = here.root; valid = valid_for old new (get_or asked i d) same here.valid }

pub ready_again : (old new : List Pinning) → AreSameStores old new → AreReady old → AreReady new
ready_again old new same ready = record {
  some = (
      let long : length new ≡ length old = sym (length-map new (λ r. r.schema)) ∙ ap length same.schemas ∙ length-map old (λ r. r.schema) in
      let some = ready.some in
      omega (arith, long, some)
      );
  schema = subst AreSame (sym same.schemas) ready.schema;
  limits = subst (λ C. IsWithinLimits (world_added C)) (sym same.charters) ready.limits;
}

pub same_again : (init now after : List Pinning) → AreSameStores init now → AreSameStores now after → AreSameStores init after
same_again init now after one two = record { schemas = two.schemas ∙ one.schemas; charters = two.charters ∙ one.charters }
