-- What is held with one more told bucket that nobody of its shard had told.
use Rattle.std.proofs.Common.{◌≡◌, ℕ, List, [], ◌∷◌, ◌++◌, Bool, true, false, cond, ◌==◌, Option, None, Some, is_some, refl, sym, ◌∙◌, ap, subst, inl, inr}
use Rattle.std.specs.Prelude.{option_map}
use Rattle.std.specs.Option.{option_and_then}
use Rattle.std.proofs.lemmas.Bool.{eqb-true, eq-eqb}
use Rattle.fc_spec.specs.messages.Message.{Way}
use Rattle.fc_spec.specs.messages.Held.{HeldBucket, Told, descend, held_in, held, or_else}
use Rattle.fc_spec.specs.laws.LacksLaws.{TellApart}
use Rattle.fc_spec.proofs.words.Members.{Member}
use Rattle.fc_spec.proofs.words.Differing.{Differ}
use Rattle.fc_spec.proofs.messages.HeldFurther.{behind_itself}
use Rattle.fc_spec.proofs.messages.HeldOrder.{held_joins}
use Rattle.fc_told.proofs.Tellers.{differs}

pub own_bucket : (t : Told) → held_in t t.way ≡ Some t.bucket
own_bucket t = ap (option_and_then (λ rest. descend rest t.bucket)) (behind_itself t.way)

pub none_from_map : {X Y : Type 0} (f : X → Y) (o : Option X) → option_map f o ≡ None → o ≡ None
none_from_map f None h = refl
none_from_map f (Some x) h = absurd cc

-- each that stands before has the relation
pub differ_across : {X : Type 0} (D : X → X → Type 0) (xs : List X) (y : X) (ys : List X) → Differ D (xs ++ y ∷ ys) → (x : X) → Member x xs → D x y
differ_across D [] y ys d x m = absurd m
differ_across D (z ∷ zs) y ys d x m = go m (differ_across D zs y ys d.1 x)
  where
    among : (zs : List _) → Member y (zs ++ y ∷ ys)
    among [] = inl refl
    among (w ∷ ws) = inr (among ws)

    go : Member x (z ∷ zs) → (Member x zs → D x y) → D x y
    go (inl e) ih = subst (λ w. D w y) (sym e) (d.0 y (among zs))
    go (inr n) ih = ih n

-- the later ones have it among themselves
pub differ_later : {X : Type 0} (D : X → X → Type 0) (xs ys : List X) → Differ D (xs ++ ys) → Differ D ys
differ_later D [] ys d = d
differ_later D (x ∷ xs) ys d = differ_later D xs ys d.1

no_more : (a : Option HeldBucket) → or_else a None ≡ a
no_more None = refl
no_more (Some b) = refl

module _ (A : List Told) (t : Told) (apart : (u : Told) → Member u A → TellApart u t) where
  -- where the bucket tells, its shard had told nothing
  pub untold : (way : Way) (b : HeldBucket) → held_in t way ≡ Some b → held A t.shard way ≡ None
  untold way b h = go A apart
    where
      go : (us : List Told) → ((u : Told) → Member u us → TellApart u t) → held us t.shard way ≡ None
      go [] a = refl
      go (u ∷ us) a = here (u.shard == t.shard) (held_in u way) refl refl (go us (λ x m. a x (inr m)))
        where
          here : (c : Bool) (o : Option HeldBucket) → (u.shard == t.shard) ≡ c → held_in u way ≡ o → held us t.shard way ≡ None → or_else (cond c o None) (held us t.shard way) ≡ None
          here true None e k ih = ih
          here true (Some x) e k ih = absurd (a u (inl refl) (eqb-true u.shard t.shard e) way (ap is_some k) (ap is_some h))
          here false o e k ih = ih

  pub held_own : (way : Way) (b : HeldBucket) → held_in t way ≡ Some b → held (A ++ t ∷ []) t.shard way ≡ Some b
  held_own way b h =
      held_joins A (t ∷ []) t.shard way ∙ ap (λ a. or_else a (held (t ∷ []) t.shard way)) (untold way b h) ∙ ap (λ c. or_else (cond c (held_in t way) None) None) (eq-eqb t.shard t.shard refl)
      ∙ ap (λ o. or_else o None) h

  pub held_other : (j : ℕ) (way : Way) → (t.shard ≡ j → ⊥) → held (A ++ t ∷ []) j way ≡ held A j way
  held_other j way other =
      held_joins A (t ∷ []) j way ∙ ap (λ c. or_else (held A j way) (or_else (cond c (held_in t way) None) None)) (differs t.shard j other) ∙ no_more (held A j way)

  pub held_silent : (j : ℕ) (way : Way) → held_in t way ≡ None → held (A ++ t ∷ []) j way ≡ held A j way
  held_silent j way h =
      held_joins A (t ∷ []) j way ∙ ap (λ o. or_else (held A j way) (or_else (cond (t.shard == j) o None) None)) h ∙ ap (or_else (held A j way)) (either (t.shard == j)) ∙ no_more (held A j way)
    where
      either : (c : Bool) → or_else {A = HeldBucket} (cond c None None) None ≡ None
      either true = refl
      either false = refl
