-- Questions, one after another.
use Rattle.std.proofs.Common.{◌≡◌, ℕ, ◌+◌, ◌<◌, List, [], ◌∷◌, ◌++◌, append_assoc, map, length, drop, get_or, All, sym, ◌∙◌, ap, subst}
use Rattle.std.proofs.lemmas.List.{at_drop_more, map-append}
use Rattle.fc_spec.specs.documents.World.{World}
use Rattle.fc_spec.specs.requests.Request.{Request}
use Rattle.fc_round.specs.Questions.{CanBeAsked, ShardAnswer, answered}
use Rattle.fc_round.specs.QuestionView.{question_view}
use Rattle.fc_round.specs.declared.question.Question.{Question}

-- the answers to them
abbrev pub answers_to : Request → World → List Question → List ShardAnswer
answers_to r W qs = map (answered r W) (map question_view qs)

-- ---- the one at a place

module _ (r : Request) (qs : List Question) (k : ℕ) (q : Question) (below : k < length qs) (is : q ≡ get_or qs k q) where
  pub can_be_asked : (n : ℕ) → All (λ q. CanBeAsked r n (question_view q)) qs → CanBeAsked r n (question_view q)
  can_be_asked n all = subst (λ x. CanBeAsked r n (question_view x)) (sym is) (all k q below)

  next_answer : (W : World) → answers_to r W (drop k qs) ≡ answered r W (question_view q) ∷ answers_to r W (drop (k + 1) qs)
  next_answer W = at_drop_more (answers_to r W) qs k q below ∙ ap (λ x. answered r W (question_view x) ∷ answers_to r W (drop (k + 1) qs)) (sym is)

  -- something more answers, and it gives that answer
  pub one_answered : (W : World) {X : Type 0} (f : X → ShardAnswer) (xs : List X) (x : X) (all : List ShardAnswer) → f x ≡ answered r W (question_view q)
      → map f xs ++ answers_to r W (drop k qs) ≡ all → map f (xs ++ x ∷ []) ++ answers_to r W (drop (k + 1) qs) ≡ all
  one_answered W f xs x all own was =
      let rest = answers_to r W (drop (k + 1) qs) in
      ap (λ answers. answers ++ rest) (map-append f xs (x ∷ [])) ∙ append_assoc (map f xs) (f x ∷ []) rest ∙ ap (λ a. map f xs ++ a ∷ rest) own
      ∙ ap (λ others. map f xs ++ others) (sym (next_answer W)) ∙ was
