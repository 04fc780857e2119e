-- A base that is found, and one that is made.
use Rattle.std.proofs.Common.{◌≡◌, ℕ, suc, ◌+◌, ◌<◌, List, ◌∷◌, drop, drop-cons, length, get_or, map, Bool, true, ◌==◌, sym, ◌∙◌, ap, subst, add-one}
use Rattle.std.specs.List.{list_all}
use Rattle.std.specs.Cmp.Lexicographic.{pointwise}
use Rattle.std.proofs.lemmas.List.{get_or_default}
use Rattle.std.proofs.lemmas.List.Elements.{All-get_or, All-same}
use Rattle.std.proofs.lemmas.List.Folds.{list_all-append}
use Rattle.std.proofs.lemmas.Slice.Eq.{bytes_eq-Decides, slice_eq-Decides}
use denote.Ref.{Bor}
use Rattle.fc_spec.specs.documents.Document.{Block}
use Rattle.fc_spec.specs.documents.Sets.{passing_of}
use Rattle.fc_spec.specs.documents.Totals.{document_total}
use Rattle.fc_spec.specs.documents.Val.{Text}
use Rattle.fc_spec.specs.queries.Matching.{matches}
use Rattle.fc_spec.specs.queries.Query as definition
use Rattle.fc_spec.specs.requests.DomainSets.{filtered_set}
use Rattle.fc_spec.specs.requests.Request.{Request}
use Rattle.fc_query.specs.QueryView.{query_view}
use Rattle.fc_query.specs.declared.query.Query.{Query}
use Rattle.fc_domain.proofs.StepSets.{passing_of-passing_of}
use Rattle.fc_answers.specs.SetAnswer.{Pieces}
use Rattle.fc_jobs.specs.BasesKept.{AreBases, Holds, IsBase, kept_base}
use Rattle.fc_jobs.specs.FilterLists.{queries_in}
use Rattle.fc_jobs.specs.Pieces.{no_piece}
use Rattle.fc_jobs.specs.declared.bases.Bases.{Bases}
use Rattle.fc_jobs.specs.declared.bases.KeptBase.{KeptBase}

-- tags that are told the same are the same
pub same_tags : (one other : List Text) (told : Bool) → told ≡ pointwise (pointwise ◌==◌) one other → told ≡ true → one ≡ other
same_tags one other told is holds = (slice_eq-Decides bytes_eq-Decides one other told is).0 holds

found_base : (r : Request) (V : Pieces) (bases : Bases) (kept : List KeptBase) (i : ℕ) (b : KeptBase) → kept ≡ bases.kept.items → i < length kept → b ≡ get_or kept i b → AreBases r V bases → IsBase r V b
found_base r V bases kept i b same within is are = subst (IsBase r V) (sym is) (All-get_or (IsBase r V) kept i b within (All-same (IsBase r V) kept bases.kept.items same are))

-- one of them holds the base of its tags in its segment, and of it what matches its filters
pub found_is : (r : Request) (V : Pieces) (bases : Bases) (kept : List KeptBase) (i : ℕ) (b : KeptBase) (at : ℕ) (tags : List Text) (filters : List definition.Query)
    → kept ≡ bases.kept.items → i < length kept → b ≡ get_or kept i b → b.at ≡ at → b.tags.items ≡ tags → queries_in b.filters.items ≡ filters → AreBases r V bases
    → Holds bases i (kept_base r tags filters (get_or V at no_piece))
found_is r V bases kept i b at tags filters same within is number names queries are = record {
  there = subst (λ xs. i < length xs) same within;
  held = λ x here.
      let found : x ≡ b = here ∙ ap (λ xs. get_or xs i x) (sym same) ∙ get_or_default kept i x b within ∙ sym is in
      ap (λ (y : KeptBase). y.docs) found
      ∙ (found_base r V bases kept i b same within is are).set
      ∙ (λ k. kept_base r (names k) (queries k) (get_or V (number k) no_piece));
}

-- which has a Bool for each document there
pub found_count : (r : Request) (V : Pieces) (bases : Bases) (kept : List KeptBase) (i : ℕ) (b : KeptBase) (at : ℕ) (tags : List Text) (filters : List definition.Query)
    → kept ≡ bases.kept.items → i < length kept → b ≡ get_or kept i b → b.at ≡ at → b.tags.items ≡ tags → queries_in b.filters.items ≡ filters → AreBases r V bases
    → length (kept_base r tags filters (get_or V at no_piece)) ≡ document_total (get_or V at no_piece).blocks
found_count r V bases kept i b at tags filters same within is number names queries are =
    let base = found_base r V bases kept i b same within is are in
    ap length (sym (base.set ∙ (λ k. kept_base r (names k) (queries k) (get_or V (number k) no_piece)))) ∙ base.count ∙ ap (λ n. document_total (get_or V n no_piece).blocks) number

-- the filters that are left to keep, from one list on
pub filtered_from : (blocks : List Block) (lists : List (Bor (List Query))) (i : ℕ) (qs : Bor (List Query)) (set : List Bool) → i < length lists → qs ≡ get_or lists i qs
    → filtered_set (queries_in (drop (i + 1) lists)) blocks (filtered_set (map query_view qs.now) blocks set) ≡ filtered_set (queries_in (drop i lists)) blocks set
filtered_from blocks lists i qs set within is =
    let own = map query_view qs.now in
    let left = queries_in (drop (i + 1) lists) in
    passing_of-passing_of (λ d. list_all (λ q. matches q d) left) (λ d. list_all (λ q. matches q d) own) blocks set
    ∙ (λ k. passing_of (λ d. sym (list_all-append (λ q. matches q d) own left) k) blocks set)
    ∙ sym (ap (λ ls. filtered_set (queries_in ls) blocks set) (drop-cons lists i qs within ∙ ap (λ y. y ∷ drop (suc i) lists) (sym is) ∙ ap (λ j. qs ∷ drop j lists) (sym (add-one i))))
