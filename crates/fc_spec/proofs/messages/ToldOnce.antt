-- No shard tells a bucket twice.
use Rattle.std.proofs.Common.{◌≡◌, ◌≢◌, ◌⊎◌, ℕ, ◌+◌, ◌≤◌, List, [], ◌∷◌, ◌++◌, Bool, true, false, cond, ◌==◌, Option, None, Some, is_some, is_none, refl, sym, ◌∙◌, ap, subst, inl, inr, arith}
use Rattle.std.specs.List.{filter}
use Rattle.std.specs.Option.{option_and_then}
use Rattle.std.proofs.lemmas.Bool.{false≢true, eqb-true, eq-eqb}
use Rattle.fc_spec.specs.requests.Request.{Nodes, Request}
use Rattle.fc_spec.specs.requests.Paths.{at_root}
use Rattle.fc_spec.specs.messages.Message.{Partials, no_partials, partial, Way, Want, way_of, first}
use Rattle.fc_spec.specs.messages.Target.{leads_to, target_nodes, target_of}
use Rattle.fc_spec.specs.messages.Held.{HeldBucket, Told, descend, behind, held_in, held, or_else, told_by, told_wants}
use Rattle.fc_spec.specs.messages.Merged.{over_held}
use Rattle.fc_spec.specs.messages.Lacks.{Lack, wanted, lacks}
use Rattle.fc_spec.specs.messages.Rounds.{wants_of}
use Rattle.fc_spec.specs.words.Lists.{numbers_below}
use Rattle.fc_spec.specs.laws.LacksLaws.{AreApart, TellApart, way_depth, AreOfOthers, FirstTellOnce, RoundsTellOnce}
use Rattle.fc_spec.proofs.words.Members.{Member, filter_member, all_from_members, each_member}
use Rattle.fc_spec.proofs.words.AlikeLists.{member_append, member_map}
use Rattle.fc_spec.proofs.words.Differing.{Differ, differ_append, differ_pairs, pairs_differ}
use Rattle.fc_spec.proofs.messages.Ways.{none_not_some, descend-append, behind_is, behind-append}
use Rattle.fc_spec.proofs.messages.HeldFurther.{behind_itself}
use Rattle.fc_spec.proofs.messages.LacksApart.{own_wants_differ}
use Rattle.fc_spec.proofs.messages.LacksDeep.{depth-append, lack_is_deep}

-- of two ways that begin one way, one begins the other
abbrev Begins : Way → Way → Way → Way → Type 0
Begins x y p q = ((z : Way) × (y ≡ x ++ z) × (p ≡ z ++ q)) ⊎ ((z : Way) × (x ≡ y ++ z))

one_begins : (x y p q : Way) → x ++ p ≡ y ++ q → Begins x y p q
one_begins [] y p q e = inl (y, refl, e)
one_begins (s ∷ x) [] p q e = inr (s ∷ x, refl)
one_begins (s ∷ x) (u ∷ y) p q e =
    let step : s ≡ u = cc in
    let rest : x ++ p ≡ y ++ q = cc in
    elim (one_begins x y p q rest) [
      | inl a ↦ inl (a.0, (λ i. sym step i ∷ a.1 i), a.2)
      | inr b ↦ inr (b.0, (λ i. step i ∷ b.1 i))
    ]

behind_front : (x z : Way) → behind x (x ++ z) ≡ Some z
behind_front x z = behind-append x x [] z (behind_itself x)

-- what a told bucket holds stands behind its way
held_behind : (t : Told) (way : Way) → is_some (held_in t way) ≡ true → (rest : Way) × (way ≡ t.way ++ rest) × (is_some (descend rest t.bucket) ≡ true)
held_behind t way h = go (behind t.way way) refl h
  where
    go : (o : Option Way) → behind t.way way ≡ o → is_some (option_and_then (λ rest. descend rest t.bucket) o) ≡ true → (rest : Way) × (way ≡ t.way ++ rest) × (is_some (descend rest t.bucket) ≡ true)
    go None e k = absurd (false≢true k)
    go (Some rest) e k = (rest, behind_is t.way way rest e, k)

-- where a bucket is told, so are those on the way to it
descend_front : (z q : Way) (b : HeldBucket) → is_some (descend (z ++ q) b) ≡ true → is_some (descend z b) ≡ true
descend_front z q b h = go (descend z b) refl (ap is_some (sym (descend-append z q b)) ∙ h)
  where
    go : (o : Option HeldBucket) → descend z b ≡ o → is_some (option_and_then (descend q) o) ≡ true → is_some (descend z b) ≡ true
    go None e k = absurd (false≢true k)
    go (Some c) e k = ap is_some e

held_front : (t : Told) (z q : Way) → is_some (descend (z ++ q) t.bucket) ≡ true → is_some (held_in t (t.way ++ z)) ≡ true
held_front t z q h = ap (λ o. is_some (option_and_then (λ rest. descend rest t.bucket) o)) (behind_front t.way z) ∙ descend_front z q t.bucket h

-- what one of told buckets holds is held
held_of_member : (A : List Told) (t : Told) (i : ℕ) (way : Way) → Member t A → t.shard ≡ i → is_some (held_in t way) ≡ true → is_some (held A i way) ≡ true
held_of_member [] t i way m same h = absurd m
held_of_member (u ∷ A) t i way (inl e) same h = front (u.shard == i) (held_in u way) (eq-eqb u.shard i (ap (λ (x : Told). x.shard) (sym e) ∙ same)) (ap (λ (x : Told). is_some (held_in x way)) (sym e) ∙ h)
  where
    front : (b : Bool) (o : Option HeldBucket) → b ≡ true → is_some o ≡ true → is_some (or_else (cond b o None) (held A i way)) ≡ true
    front true (Some c) e k = refl
    front true None e k = absurd (false≢true k)
    front false o e k = absurd (false≢true e)
held_of_member (u ∷ A) t i way (inr m) same h = later (cond (u.shard == i) (held_in u way) None) (held_of_member A t i way m same h)
  where
    later : (o : Option HeldBucket) → is_some (held A i way) ≡ true → is_some (or_else o (held A i way)) ≡ true
    later None k = k
    later (Some c) k = refl

-- ways that are apart begin no way both
apart_tell : (t u : Told) → AreApart t.way u.way → (way : Way) → is_some (held_in t way) ≡ true → is_some (held_in u way) ≡ true → ⊥
apart_tell t u apart way h k =
    let a = held_behind t way h in
    let b = held_behind u way k in
    elim (one_begins t.way u.way a.0 b.0 (sym a.1 ∙ b.1)) [
      | inl c ↦ none_not_some c.0 (sym apart.0 ∙ ap (behind t.way) c.1 ∙ behind_front t.way c.0)
      | inr c ↦ none_not_some c.0 (sym apart.1 ∙ ap (behind u.way) c.1 ∙ behind_front u.way c.0)
    ]

-- what is told tells no bucket under a deeper way that it doesn't hold
shallow_tells : (r : Request) (A : List Told) (e : ℕ) (t u : Told) → Member t A → way_depth r.nodes t.way ≤ e → way_depth r.nodes u.way ≡ e + 1 → held A u.shard u.way ≡ None → TellApart t u
shallow_tells r A e t u m shallow deep none same way h k =
    let a = held_behind t way h in
    let b = held_behind u way k in
    elim (one_begins t.way u.way a.0 b.0 (sym a.1 ∙ b.1)) [
      | inl c ↦ (let there = held_front t c.0 b.0 (ap (λ w. is_some (descend w t.bucket)) (sym c.2) ∙ a.2) in
          let some = held_of_member A t u.shard u.way m same (ap (λ w. is_some (held_in t w)) c.1 ∙ there) in
          false≢true (sym (ap is_some none) ∙ some))
      | inr c ↦ (let sum = ap (way_depth r.nodes) c.1 ∙ depth-append u.way c.0 (leads_to at_root r.nodes) in absurd (omega arith))
    ]

-- ---- what an ask for wants tells

pub told_want : (nodes : Nodes) (i : ℕ) (ws : List Want) (m : Partials) (t : Told) → Member t (told_wants nodes i ws m) → (w : Want) × Member w ws × (t.shard ≡ i) × (t.way ≡ way_of w)
told_want nodes i [] m t there = absurd there
told_want nodes i (w ∷ ws) no_partials t there = absurd there
told_want nodes i (w ∷ ws) (partial k stats rows rest) t (inl e) = (w, inl refl, ap (λ (x : Told). x.shard) e, ap (λ (x : Told). x.way) e)
told_want nodes i (w ∷ ws) (partial k stats rows rest) t (inr m) = let r = told_want nodes i ws rest t m in (r.0, inr r.1, r.2, r.3)

wants_tell_apart : (nodes : Nodes) (i : ℕ) (ws : List Want) (m : Partials) → Differ (λ v w. AreApart (way_of v) (way_of w)) ws → Differ TellApart (told_wants nodes i ws m)
wants_tell_apart nodes i [] m d = tt
wants_tell_apart nodes i (w ∷ ws) no_partials d = tt
wants_tell_apart nodes i (w ∷ ws) (partial k stats rows rest) d = (
  λ u there same. let r = told_want nodes i ws rest u there in apart_tell (record { shard = i; way = way_of w; bucket = record { stats = stats; nodes = target_nodes (target_of nodes (way_of w)); rows = rows } }) u (subst (AreApart (way_of w)) (sym r.3) (d.0 r.0 r.1)),
  wants_tell_apart nodes i ws rest d.1,
)

-- what is wanted of a shard lacks there
own_lack : (i : ℕ) (all : List Lack) (w : Want) → Member w (wants_of i all) → (l : Lack) × Member l all × (l.shard ≡ i) × (w ≡ l.want)
own_lack i all w m =
    let r = member_map (λ (l : Lack). l.want) (filter (λ l. l.shard == i) all) w m in
    let f = filter_member (λ (l : Lack). l.shard == i) all r.0 r.1 in
    (r.0, f.0, eqb-true (r.0).shard i f.1, r.2)

is_none_held : (o : Option HeldBucket) → is_none o ≡ true → o ≡ None
is_none_held None h = refl
is_none_held (Some b) h = absurd (false≢true h)

-- others tell nothing of the shard
others_apart : (i : ℕ) (B : List Told) (t u : Told) → AreOfOthers i B → Member t B → u.shard ≡ i → TellApart t u
others_apart i B t u others m is same = absurd (each_member (λ (x : Told). x.shard ≢ i) B t others m (same ∙ is))

pub rounds_tell_once : RoundsTellOnce
rounds_tell_once r n A B e i m once shallow others = (
  differ_pairs TellApart ((A ++ B) ++ told) (differ_append TellApart (A ++ B) told (pairs_differ TellApart (A ++ B) once) (wants_tell_apart r.nodes i (wants_of i all) m (own_wants_differ r n A e i)) cross),
  all_from_members (λ t. way_depth r.nodes t.way ≤ e + 1) told (λ t there. let d = deep t there in omega arith),
)
  where
    all : List Lack
    all = lacks r n A e

    told : List Told
    told = told_wants r.nodes i (wants_of i all) m

    deep : (t : Told) → Member t told → way_depth r.nodes t.way ≡ e + 1
    deep t there =
        let w = told_want r.nodes i (wants_of i all) m t there in
        let l = own_lack i all w.0 w.1 in
        ap (way_depth r.nodes) (w.3 ∙ ap way_of l.3) ∙ lack_is_deep r n A e l.0 l.1

    untold_there : (t : Told) → Member t told → held A t.shard t.way ≡ None
    untold_there t there =
        let w = told_want r.nodes i (wants_of i all) m t there in
        let l = own_lack i all w.0 w.1 in
        let none = is_none_held (held A (l.0).shard (way_of (l.0).want)) (filter_member (λ k. is_none (held A k.shard (way_of k.want))) (wanted (over_held A) e r.nodes 0 (numbers_below n) [] []) l.0 l.1).1 in
        (λ j. held A ((w.2 ∙ sym l.2) j) ((w.3 ∙ ap way_of l.3) j)) ∙ none

    cross : (t u : Told) → Member t (A ++ B) → Member u told → TellApart t u
    cross t u a there = elim (member_append A B t a) [
      | inl x ↦ shallow_tells r A e t u x (each_member (λ (y : Told). way_depth r.nodes y.way ≤ e) A t shallow x) (deep u there) (untold_there u there)
      | inr y ↦ others_apart i B t u others y (told_want r.nodes i (wants_of i all) m u there).2
    ]

pub first_tell_once : FirstTellOnce
first_tell_once nodes B i no_partials once others = (
  differ_pairs TellApart (B ++ []) (differ_append TellApart B [] (pairs_differ TellApart B once) tt (λ t u a there. absurd there)),
  tt,
)
first_tell_once nodes B i (partial k stats rows rest) once others = (
  differ_pairs TellApart (B ++ told_by nodes i first (partial k stats rows rest)) (differ_append TellApart B (told_by nodes i first (partial k stats rows rest)) (pairs_differ TellApart B once) ((λ y m. absurd m), tt)
      (λ t u a there. elim there [ inl e ↦ others_apart i B t u others a (ap (λ (x : Told). x.shard) e) | inr m ↦ absurd m ])),
  (omega arith, tt),
)
