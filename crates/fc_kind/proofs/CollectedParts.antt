-- What is collected in parts, some buckets after others.
use Rattle.std.proofs.Common.{◌≡◌, List, Bool, true, false, ◌||◌, Some, refl, sym, ap, subst, ◌∙◌}
use Rattle.std.proofs.lemmas.Bool.{false≢true}
use Rattle.fc_spec.specs.documents.World.{Place}
use Rattle.fc_spec.specs.messages.KeyOrder.{same_key}
use Rattle.fc_spec.specs.requests.Buckets.{Key, bucket_places}
use Rattle.fc_spec.specs.requests.Request.{Kind, Stat}
use Rattle.fc_spec.specs.requests.Statistics.{stats_over}
use Rattle.fc_spec.specs.words.Lists.{is_empty}
use Rattle.fc_spec.proofs.messages.Keys.{same_key_exact}
use Rattle.fc_partial.specs.Tallied.{Tallied}
use Rattle.fc_partial.specs.Tallying.{entry_at, with_more}
use Rattle.fc_kind.specs.Collecting.{CollectsAmong, GrowsBy}

-- among no key
pub among_none : (kind : Kind) (ss : List Stat) (Y : List Place) (t : Tallied) → CollectsAmong (λ k. false) kind ss Y t t
among_none kind ss Y t = record {
  stats = refl;
  grown = λ k e h. absurd (false≢true e);
  empty = λ k e h. refl;
  others = λ k e. refl;
}

-- among keys that are told by another test
pub among_same : (keys other : Key → Bool) (kind : Kind) (ss : List Stat) (Y : List Place) (old new : Tallied) → ((k : Key) → other k ≡ keys k)
    → CollectsAmong keys kind ss Y old new → CollectsAmong other kind ss Y old new
among_same keys other kind ss Y old new e c = record {
  stats = c.stats;
  grown = λ k h. c.grown k (sym (e k) ∙ h);
  empty = λ k h. c.empty k (sym (e k) ∙ h);
  others = λ k h. c.others k (sym (e k) ∙ h);
}

-- among some keys and then among others
module _ (one other : Key → Bool) (kind : Kind) (ss : List Stat) (Y : List Place) (old mid new : Tallied) (apart : (k : Key) → one k ≡ true → other k ≡ false) (a : CollectsAmong one kind ss Y old mid) (b : CollectsAmong other kind ss Y mid new) where
  both_grown : (k : Key) (here : Bool) → one k ≡ here → (here || other k) ≡ true → is_empty (bucket_places kind k Y) ≡ false
      → entry_at new.entries k ≡ Some (with_more ss (entry_at old.entries k) (stats_over ss (bucket_places kind k Y)))
  both_grown k true e h some = b.others k (apart k e) ∙ a.grown k e some
  both_grown k false e h some = b.grown k h some ∙ ap (λ there. Some (with_more ss there (stats_over ss (bucket_places kind k Y)))) (a.others k e)

  both_empty : (k : Key) (here : Bool) → one k ≡ here → (here || other k) ≡ true → is_empty (bucket_places kind k Y) ≡ true → entry_at new.entries k ≡ entry_at old.entries k
  both_empty k true e h none = b.others k (apart k e) ∙ a.empty k e none
  both_empty k false e h none = b.empty k h none ∙ a.others k e

  both_others : (k : Key) (here : Bool) → one k ≡ here → (here || other k) ≡ false → entry_at new.entries k ≡ entry_at old.entries k
  both_others k true e h = absurd (false≢true (sym h))
  both_others k false e h = b.others k h ∙ a.others k e

  pub both_parts : CollectsAmong (λ k. one k || other k) kind ss Y old new
  both_parts = record {
    stats = b.stats ∙ a.stats;
    grown = λ k h. both_grown k (one k) refl h;
    empty = λ k h. both_empty k (one k) refl h;
    others = λ k h. both_others k (one k) refl h;
  }

-- one bucket
pub one_bucket : (kind : Kind) (l : Key) (Y : List Place) (old new : Tallied) → GrowsBy l (bucket_places kind l Y) old new → CollectsAmong (λ k. same_key k l) kind old.stats Y old new
one_bucket kind l Y old new g = record {
  stats = g.stats;
  grown = λ k e some. let same = same_key_exact k l e in
      subst (λ (q : Key). entry_at new.entries q ≡ Some (with_more old.stats (entry_at old.entries q) (stats_over old.stats (bucket_places kind q Y)))) (sym same) (g.some (ap (λ q. is_empty (bucket_places kind q Y)) (sym same) ∙ some));
  empty = λ k e none. let same = same_key_exact k l e in
      subst (λ (q : Key). entry_at new.entries q ≡ entry_at old.entries q) (sym same) (g.none (ap (λ q. is_empty (bucket_places kind q Y)) (sym same) ∙ none));
  others = g.others;
}
