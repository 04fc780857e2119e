-- A list that a loop makes of another, member by member.
use Rattle.std.proofs.Common.{◌≡◌, List, [], ◌∷◌, ◌++◌, map, ap, sym, ◌∙◌, subst}
use Rattle.std.specs.Prelude.{All}
use Rattle.std.proofs.lemmas.List.Elements.{All-head, All-tail, All-push}

-- one member more is made of the first of those that are left
module _ {X Y : Type 0} (done now : List X) (made : X) (one : Y) (left rest : List Y) (pushed : now ≡ done ++ made ∷ []) (first : left ≡ one ∷ rest) where
  pub made_more : (Q : X → Type 0) (P : Y → Type 0) → All Q done → All P left → (P one → Q made) → All Q now × All P rest
  made_more Q P so_far of_left makes =
      let of_all = subst (All P) first of_left in
      (subst (All Q) (sym pushed) (All-push Q done made so_far (makes (All-head P one rest of_all))), All-tail P one rest of_all)

  behind : {Z : Type 0} (f : X → Z) (g : Y → Z) (xs : List X) → f made ≡ g one → map f (xs ++ made ∷ []) ++ map g rest ≡ map f xs ++ map g (one ∷ rest)
  behind f g [] same = ap (λ z. z ∷ map g rest) same
  behind f g (x ∷ xs) same = ap (λ zs. f x ∷ zs) (behind f g xs same)

  pub images_more : {Z : Type 0} (f : X → Z) (g : Y → Z) (all : List Z) → f made ≡ g one → map f done ++ map g left ≡ all → map f now ++ map g rest ≡ all
  images_more f g all same so_far = ap (λ xs. map f xs ++ map g rest) pushed ∙ behind f g done same ∙ ap (λ ys. map f done ++ map g ys) (sym first) ∙ so_far
