-- What is known of offered values and of the lists that their candidates are counted on.
use Rattle.std.proofs.Common.{◌≡◌, ℕ, List, [], ◌∷◌, map, Bool, true, false, cond, not, ◌&&◌, ◌||◌, refl, ap, sym, ◌∙◌, subst}
use Rattle.std.specs.Prelude.{All}
use Rattle.std.proofs.lemmas.List.Elements.{All-head, All-tail, All-nil, All-cons, All-map}
use Rattle.fc_spec.specs.documents.Val.{Val}
use Rattle.fc_spec.specs.requests.Request.{Terms, Nodes}
use Rattle.fc_spec.specs.requests.Shape.{asks_again}
use Rattle.fc_spec.specs.replies.Reading.{Reading}
use Rattle.fc_spec.specs.replies.Chosen as chosen
use Rattle.fc_base.specs.View.{val_view}
use Rattle.fc_reading.specs.declared.candidate.Candidate.{Candidate}
use Rattle.fc_reading.specs.declared.offered.Offered.{Offered}
use Rattle.fc_reading.specs.Distinct.{AreDistinct}
use Rattle.fc_reading.specs.Terms.{counted_first, IsOn, offered_view}
use Rattle.fc_reading.proofs.DistinctShards.{offering_distinct}

All-unmap : {X Y : Type 0} (P : Y → Type 0) (f : X → Y) (xs : List X) → All P (map f xs) → All (λ x. P (f x)) xs
All-unmap P f [] all = All-nil (λ x. P (f x))
All-unmap P f (x ∷ xs) all = All-cons (λ x. P (f x)) x xs (All-head P (f x) (map f xs) all) (All-unmap P f xs (All-tail P (f x) (map f xs) all))

firsts : (os : List Offered) → map (λ (p : Val × List ℕ). p.0) (map offered_view os) ≡ map (λ o. val_view o.val.now) os
firsts [] = refl
firsts (o ∷ os) = ap (λ vs. val_view o.val.now ∷ vs) (firsts os)

firsts_made : (h : Val → List ℕ) (vs : List Val) → map (λ (p : Val × List ℕ). p.0) (map (λ v. (v, h v)) vs) ≡ vs
firsts_made h [] = refl
firsts_made h (v ∷ vs) = ap (λ ws. v ∷ ws) (firsts_made h vs)

module _ (h : Val → List ℕ) (vs : List Val) (os : List Offered) (is : map offered_view os ≡ map (λ v. (v, h v)) vs) where
  -- each has the shards of its value
  pub offered_shards : All (λ (o : Offered). o.shards.items ≡ h (val_view o.val.now)) os
  offered_shards = All-unmap (λ (p : Val × List ℕ). p.1 ≡ h p.0) offered_view os
      (subst (All (λ (p : Val × List ℕ). p.1 ≡ h p.0)) (sym is) (All-map (λ (p : Val × List ℕ). p.1 ≡ h p.0) (λ v. (v, h v)) vs (λ k d lt. refl)))

  -- their values
  pub offered_vals : map (λ o. val_view o.val.now) os ≡ vs
  offered_vals = sym (firsts os) ∙ ap (λ ps. map (λ (p : Val × List ℕ). p.0) ps) is ∙ firsts_made h vs

module _ {B H D : Type 0} (R : Reading H D) (t : Terms) (inner : Nodes) (K : List ℕ) (Y : D) (held : B → H) where
  -- the shards that are counted first
  first_shards : (offering : List ℕ) (refine again : Bool) → cond (refine && not again) K offering ≡ cond again offering (cond (refine || again) K offering)
  first_shards offering true true = refl
  first_shards offering true false = refl
  first_shards offering false true = refl
  first_shards offering false false = refl

  -- counted on the shards that are its value's
  pub on_where : (counted : Val → List ℕ) (shards : List ℕ) (c : Candidate B) → shards ≡ counted (val_view c.val) → IsOn R t inner K Y held (λ v. shards) c → IsOn R t inner K Y held counted c
  on_where counted shards c is h = record {
    bucket = h.bucket;
    shards_are = h.shards_are ∙ is;
    entry = h.entry ∙ ap (λ s. chosen.entry_on R t inner K Y s (val_view c.val)) is;
  }

  -- counted on shards of which none is named twice
  pub first_distinct : (val : Val) (offered shards : List ℕ) (again : Bool) → offered ≡ chosen.offering R t inner K Y val → shards ≡ cond (t.refine && not again) K offered → AreDistinct K → AreDistinct shards
  first_distinct val offered shards again offers is apart = subst AreDistinct (sym is) (go (t.refine && not again))
    where
      go : (b : Bool) → AreDistinct (cond b K offered)
      go true = apart
      go false = subst AreDistinct (sym offers) (offering_distinct R t inner K Y val apart)

  pub on_first : (val : Val) (offered shards : List ℕ) (again : Bool) (c : Candidate B) → again ≡ asks_again t inner → val_view c.val ≡ val → offered ≡ chosen.offering R t inner K Y val
      → shards ≡ cond (t.refine && not again) K offered → IsOn R t inner K Y held (λ v. shards) c → IsOn R t inner K Y held (counted_first R t inner K Y) c
  on_first val offered shards again c asks same offers is h =
      on_where (counted_first R t inner K Y) shards c
      (is ∙ (λ i. cond (t.refine && not (asks i)) K (offers i)) ∙ first_shards (chosen.offering R t inner K Y val) t.refine (asks_again t inner) ∙ ap (counted_first R t inner K Y) (sym same)) h
