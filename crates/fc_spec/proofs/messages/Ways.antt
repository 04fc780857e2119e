-- Ways: one behind another, and where they lead.
use Rattle.std.proofs.Common.{◌≡◌, [], ◌∷◌, ◌++◌, Bool, true, false, cond, ◌&&◌, ◌==◌, Option, None, Some, refl, sym, ap}
use Rattle.std.specs.Option.{option_and_then}
use Rattle.std.proofs.lemmas.Bool.{and_parts, eqb-true}
use Rattle.fc_spec.specs.messages.KeyOrder.{same_key}
use Rattle.fc_spec.specs.messages.Message.{Way}
use Rattle.fc_spec.specs.messages.Target.{Target, target_in, target_from, target_nodes, facet_at}
use Rattle.fc_spec.specs.messages.Held.{HeldBucket, descend, behind, bucket_in}
use Rattle.fc_spec.proofs.messages.Keys.{same_key_exact}

pub some_exact : {A : Type 0} (a b : A) → Some a ≡ Some b → a ≡ b
some_exact a b e = cc

pub none_not_some : {A : Type 0} (a : A) → None ≡ Some a → ⊥
none_not_some a e = cc

-- one way behind another leads on from where that leads
pub target_from-append : (way rest : Way) (t : Target) → target_from t (way ++ rest) ≡ target_from (target_from t way) rest
target_from-append [] rest t = refl
target_from-append (step ∷ way) rest t = target_from-append way rest (target_in step.key t (facet_at step.node (target_nodes t)))

pub descend-append : (way rest : Way) (b : HeldBucket) → descend (way ++ rest) b ≡ option_and_then (descend rest) (descend way b)
descend-append [] rest b = refl
descend-append (step ∷ way) rest b = go (bucket_in step.node step.key b) (λ c. descend-append way rest c)
  where
    go : (o : Option HeldBucket) → ((c : HeldBucket) → descend (way ++ rest) c ≡ option_and_then (descend rest) (descend way c)) → option_and_then (descend (way ++ rest)) o ≡ option_and_then (descend rest) (option_and_then (descend way) o)
    go None ih = refl
    go (Some c) ih = ih c

-- what is behind a way completes it
pub behind_is : (first way rest : Way) → behind first way ≡ Some rest → way ≡ first ++ rest
behind_is [] way rest h = some_exact way rest h
behind_is (s ∷ ss) [] rest h = absurd (none_not_some rest h)
behind_is (s ∷ ss) (step ∷ way) rest h = go ((s.node == step.node) && same_key s.key step.key) refl h (behind_is ss way rest)
  where
    go : (b : Bool) → ((s.node == step.node) && same_key s.key step.key) ≡ b → cond b (behind ss way) None ≡ Some rest → (behind ss way ≡ Some rest → way ≡ ss ++ rest) → step ∷ way ≡ s ∷ (ss ++ rest)
    go true e k ih =
        let both = and_parts (s.node == step.node) (same_key s.key step.key) e in
        let nodes = sym (eqb-true s.node step.node both.0) in
        let keys = sym (same_key_exact s.key step.key both.1) in
        λ i. record { node = nodes i; key = keys i } ∷ ih k i
    go false e k ih = absurd (none_not_some rest k)

-- a longer way has more behind
pub behind-append : (first way rest more : Way) → behind first way ≡ Some rest → behind first (way ++ more) ≡ Some (rest ++ more)
behind-append [] way rest more h = ap (λ w. Some (w ++ more)) (some_exact way rest h)
behind-append (s ∷ ss) [] rest more h = absurd (none_not_some rest h)
behind-append (s ∷ ss) (step ∷ way) rest more h = go ((s.node == step.node) && same_key s.key step.key) h (behind-append ss way rest more)
  where
    go : (b : Bool) → cond b (behind ss way) None ≡ Some rest → (behind ss way ≡ Some rest → behind ss (way ++ more) ≡ Some (rest ++ more)) → cond b (behind ss (way ++ more)) None ≡ Some (rest ++ more)
    go true k ih = ih k
    go false k ih = absurd (none_not_some rest k)
