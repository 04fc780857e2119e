-- Cutting documents behind their parents gives back the blocks.
use Rattle.std.proofs.Common.{◌≡◌, ◌+◌, List, [], ◌∷◌, ◌++◌, length, replicate, Bool, true, false, refl, sym, ap, ◌∙◌, arith}
use Rattle.std.proofs.lemmas.List.{append-nil, append_assoc, length-append, length-replicate, length_push, replicate_more}
use Rattle.fc_spec.specs.documents.Document.{Document, Block}
use Rattle.fc_spec.specs.documents.Totals.{documents_in, document_total}
use Rattle.fc_spec.proofs.documents.BlockTotals.{document_total-cons}
use Rattle.fc_segment.specs.Parents.{marks_of, parents_in}
use Rattle.fc_segment.specs.Cut.{cut_behind, cut, ends_with_parent}

cut-block : (done children : List Document) (parent : Document) (marks : List Bool) (ds : List Document)
    → cut_behind done ((replicate (length children) false ++ true ∷ []) ++ marks) ((children ++ parent ∷ []) ++ ds) ≡ record { children = done ++ children; parent = parent } ∷ cut_behind [] marks ds
cut-block done [] parent marks ds = ap (λ (l : List Document). let b : Block = record { children = l; parent = parent } in b ∷ cut_behind [] marks ds) (sym (append-nil done))
cut-block done (c ∷ children) parent marks ds =
    cut-block (done ++ c ∷ []) children parent marks ds
    ∙ ap (λ (l : List Document). let b : Block = record { children = l; parent = parent } in b ∷ cut_behind [] marks ds) (append_assoc done (c ∷ []) children)

pub cut-documents_in : (blocks : List Block) → cut (parents_in blocks) (documents_in blocks) ≡ blocks
cut-documents_in [] = refl
cut-documents_in (b ∷ blocks) = cut-block [] b.children b.parent (parents_in blocks) (documents_in blocks) ∙ ap (λ rest. b ∷ rest) (cut-documents_in blocks)

-- ---- what is cut keeps its documents and its parents
documents_in-cut_behind : (answer : Bool) (done : List Document) (marks : List Bool) (ds : List Document) → length marks ≡ length ds → ends_with_parent answer marks ≡ true → (answer ≡ true → done ≡ [])
    → documents_in (cut_behind done marks ds) ≡ done ++ ds
documents_in-cut_behind answer done [] [] even whole none = sym (append-nil done ∙ none whole)
documents_in-cut_behind answer done [] (d ∷ ds) even whole none = absurd (omega arith)
documents_in-cut_behind answer done (mark ∷ marks) [] even whole none = absurd (omega arith)
documents_in-cut_behind answer done (true ∷ marks) (d ∷ ds) even whole none =
    ap (λ rest. (done ++ d ∷ []) ++ rest) (documents_in-cut_behind true [] marks ds (omega arith) whole (λ _. refl)) ∙ append_assoc done (d ∷ []) ds
documents_in-cut_behind answer done (false ∷ marks) (d ∷ ds) even whole none =
    documents_in-cut_behind false (done ++ d ∷ []) marks ds (omega arith) whole (λ h. cc) ∙ append_assoc done (d ∷ []) ds

parents_in-cut_behind : (answer : Bool) (done : List Document) (marks : List Bool) (ds : List Document) → length marks ≡ length ds → ends_with_parent answer marks ≡ true → (answer ≡ true → done ≡ [])
    → parents_in (cut_behind done marks ds) ≡ replicate (length done) false ++ marks
parents_in-cut_behind answer done [] [] even whole none = ap (λ l. replicate (length l) false ++ []) (sym (none whole))
parents_in-cut_behind answer done [] (d ∷ ds) even whole none = absurd (omega arith)
parents_in-cut_behind answer done (mark ∷ marks) [] even whole none = absurd (omega arith)
parents_in-cut_behind answer done (true ∷ marks) (d ∷ ds) even whole none =
    ap (λ rest. (replicate (length done) false ++ true ∷ []) ++ rest) (parents_in-cut_behind true [] marks ds (omega arith) whole (λ _. refl))
    ∙ append_assoc (replicate (length done) false) (true ∷ []) marks
parents_in-cut_behind answer done (false ∷ marks) (d ∷ ds) even whole none =
    parents_in-cut_behind false (done ++ d ∷ []) marks ds (omega arith) whole (λ h. cc)
    ∙ ap (λ n. replicate n false ++ marks) (length_push done d)
    ∙ ap (λ l. l ++ marks) (sym (replicate_more (length done) false))
    ∙ append_assoc (replicate (length done) false) (false ∷ []) marks

pub documents_in-cut : (marks : List Bool) (ds : List Document) → length marks ≡ length ds → ends_with_parent true marks ≡ true → documents_in (cut marks ds) ≡ ds
documents_in-cut marks ds even whole = documents_in-cut_behind true [] marks ds even whole (λ _. refl)

pub parents_in-cut : (marks : List Bool) (ds : List Document) → length marks ≡ length ds → ends_with_parent true marks ≡ true → parents_in (cut marks ds) ≡ marks
parents_in-cut marks ds even whole = parents_in-cut_behind true [] marks ds even whole (λ _. refl)

-- ---- the parents of blocks
ends_with_parent-append : (answer : Bool) (xs ys : List Bool) → ends_with_parent answer (xs ++ ys) ≡ ends_with_parent (ends_with_parent answer xs) ys
ends_with_parent-append answer [] ys = refl
ends_with_parent-append answer (x ∷ xs) ys = ends_with_parent-append x xs ys

pub ends_with_parent-parents_in : (blocks : List Block) → ends_with_parent true (parents_in blocks) ≡ true
ends_with_parent-parents_in [] = refl
ends_with_parent-parents_in (b ∷ blocks) =
    ends_with_parent-append true (marks_of b) (parents_in blocks)
    ∙ ap (λ (answer : Bool). ends_with_parent answer (parents_in blocks)) (ends_with_parent-append true (replicate (length b.children) false) (true ∷ []))
    ∙ ends_with_parent-parents_in blocks

pub length-parents_in : (blocks : List Block) → length (parents_in blocks) ≡ document_total blocks
length-parents_in [] = refl
length-parents_in (b ∷ blocks) =
    length-append (marks_of b) (parents_in blocks)
    ∙ ap (λ n. n + length (parents_in blocks)) (length_push (replicate (length b.children) false) true)
    ∙ ap (λ n. n + 1 + length (parents_in blocks)) (length-replicate (length b.children) false)
    ∙ ap (λ n. length b.children + 1 + n) (length-parents_in blocks)
    ∙ sym (document_total-cons b blocks)
