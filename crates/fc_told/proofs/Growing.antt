-- The tree with a told bucket: at each way the bucket's own there is put in, or all is as it was.
use Rattle.std.proofs.Common.{◌≡◌, ℕ, List, [], ◌∷◌, ◌++◌, Bool, true, false, ◌==◌, Option, None, Some, refl, sym, ◌∙◌, ap, subst}
use Rattle.std.specs.Prelude.{option_map}
use Rattle.std.specs.Option.{option_and_then}
use Rattle.std.proofs.lemmas.Bool.{false≢true, eqb-true, eq-eqb}
use Rattle.fc_spec.specs.requests.Request.{Terms}
use Rattle.fc_spec.specs.messages.Message.{Way}
use Rattle.fc_spec.specs.messages.Held.{HeldBucket, Told, behind, descend, held_in, held}
use Rattle.fc_spec.specs.laws.LacksLaws.{TellApart}
use Rattle.fc_spec.proofs.words.Members.{Member}
use Rattle.fc_told.specs.Trees.{Teller, Tree, tellers_in, forks_in, branches_at, teller_of, at, was_listed, is_listed_by}
use Rattle.fc_told.specs.Adding.{told_added}
use Rattle.fc_told.specs.Telling.{Tells}
use Rattle.fc_told.proofs.Branches.{Ascend}
use Rattle.fc_told.proofs.Tellers.{teller_itself}
use Rattle.fc_told.proofs.Rising.{HasFittingRows}
use Rattle.fc_told.proofs.Putting.{AllAscend, teller_by, put, put_tellers, at_put}
use Rattle.fc_told.proofs.ListedAt.{put_lists_other}
use Rattle.fc_told.proofs.Changing.{at-append, there, at_behind, Alike, alike_same, ListsKept, elsewhere}
use Rattle.fc_told.proofs.HeldMore.{own_bucket, none_from_map, untold, held_own, held_other, held_silent}

-- what became of a bucket
abbrev pub Grown : ℕ → Option HeldBucket → Tree → Tree → Type 0
Grown i None X U = Alike X U
Grown i (Some b) X U = (listed : Bool) × (U ≡ put i listed (Some b) X)

module _ (most : Terms → Option ℕ) (T : Tree) (A : List Told) (tells : Tells T A) (t : Told) (fit : HasFittingRows most t.bucket) (apart : (u : Told) → Member u A → TellApart u t) where
  -- the shard is no teller where the bucket tells
  pub not_teller : (way : Way) (b : HeldBucket) → held_in t way ≡ Some b → teller_of t.shard (tellers_in (at way T)) ≡ None
  not_teller way b h = none_from_map (λ (u : Teller). u.stats) (teller_of t.shard (tellers_in (at way T))) (tells.stats t.shard way ∙ ap (option_map (λ (c : HeldBucket). c.stats)) (untold A t apart way b h))

  kept : ListsKept (put t.shard false (Some t.bucket)) (at t.way T)
  kept j = go (t.shard == j) refl
    where
      X : Tree
      X = at t.way T

      go : (c : Bool) → (t.shard == j) ≡ c → is_listed_by j (put t.shard false (Some t.bucket) X) ≡ is_listed_by j X
      go true e =
          ap (λ k. was_listed (teller_of k (tellers_in (put t.shard false (Some t.bucket) X)))) (sym (eqb-true t.shard j e))
          ∙ ap (λ us. was_listed (teller_of t.shard us)) (put_tellers t.shard false t.bucket X) ∙ ap was_listed (teller_itself (teller_by t.shard false t.bucket) (tellers_in X))
          ∙ sym (ap (λ k. was_listed (teller_of k (tellers_in X))) (sym (eqb-true t.shard j e)) ∙ ap was_listed (not_teller t.way t.bucket (own_bucket t)))
      go false e = put_lists_other t.shard j false t.bucket X (λ h. false≢true (sym e ∙ eq-eqb t.shard j h))

  below : AllAscend (at t.way T)
  below n way = subst (λ X. Ascend (branches_at n (forks_in X))) (at-append t.way way T) (tells.ascends n (t.way ++ way))

  pub grown_at : (way : Way) → Grown t.shard (held_in t way) (at way T) (at way (told_added t T))
  grown_at way = go (behind t.way way) refl
    where
      go : (o : Option Way) → behind t.way way ≡ o → Grown t.shard (option_and_then (λ rest. descend rest t.bucket) o) (at way T) (at way (told_added t T))
      go None e = elsewhere t.way way (put t.shard false (Some t.bucket)) T tells.ascends kept e
      go (Some rest) e = at_rest (descend rest t.bucket) refl
        where
          put_there : (x : Bool) × (at rest (put t.shard false (Some t.bucket) (at t.way T)) ≡ put t.shard x (descend rest t.bucket) (at rest (at t.way T)))
          put_there = at_put t.shard most rest false t.bucket (at t.way T) below fit

          is : at way (told_added t T) ≡ put t.shard put_there.0 (descend rest t.bucket) (at way T)
          is = there t.way way rest (put t.shard false (Some t.bucket)) T tells.ascends e ∙ put_there.1 ∙ ap (put t.shard put_there.0 (descend rest t.bucket)) (sym (at_behind t.way way rest T e))

          at_rest : (o : Option HeldBucket) → descend rest t.bucket ≡ o → Grown t.shard o (at way T) (at way (told_added t T))
          at_rest None d = alike_same (at way T) (at way (told_added t T)) (λ n. tells.ascends n way) (is ∙ ap (λ o. put t.shard put_there.0 o (at way T)) d)
          at_rest (Some b) d = (put_there.0, is ∙ ap (λ o. put t.shard put_there.0 o (at way T)) d)

  -- shard by shard: the bucket's own, another, or none where it doesn't tell
  pub by_shard : (j : ℕ) (way : Way) (P : Tree → Option HeldBucket → Type 0) → ((U : Tree) → Alike (at way T) U → P U (held A j way))
      → ((listed : Bool) (b : HeldBucket) → held_in t way ≡ Some b → t.shard ≡ j → held A j way ≡ None → P (put t.shard listed (Some b) (at way T)) (Some b)) → ((listed : Bool) (b : HeldBucket) → (t.shard ≡ j → ⊥) → P (put t.shard listed (Some b) (at way T)) (held A j way))
      → P (at way (told_added t T)) (held (A ++ t ∷ []) j way)
  by_shard j way P silent own other = go (held_in t way) refl (grown_at way)
    where
      U : Tree
      U = at way (told_added t T)

      go : (o : Option HeldBucket) → held_in t way ≡ o → Grown t.shard o (at way T) U → P U (held (A ++ t ∷ []) j way)
      go None e g = subst (P U) (sym (held_silent A t apart j way e)) (silent U g)
      go (Some b) e g = subst (λ X. P X (held (A ++ t ∷ []) j way)) (sym g.1) (either (t.shard == j) refl)
        where
          either : (c : Bool) → (t.shard == j) ≡ c → P (put t.shard g.0 (Some b) (at way T)) (held (A ++ t ∷ []) j way)
          either true d =
              let same = eqb-true t.shard j d in
              subst (P (put t.shard g.0 (Some b) (at way T))) (sym (ap (λ k. held (A ++ t ∷ []) k way) (sym same) ∙ held_own A t apart way b e)) (own g.0 b e same (ap (λ k. held A k way) (sym same) ∙ untold A t apart way b e))
          either false d =
              let differ = λ (h : t.shard ≡ j). false≢true (sym d ∙ eq-eqb t.shard j h) in
              subst (P (put t.shard g.0 (Some b) (at way T))) (sym (held_other A t apart j way differ)) (other g.0 b differ)
