-- Once what lacked at a depth is told, nothing lacks down to that depth, whatever was told of it.
use Rattle.std.proofs.Common.{◌≡◌, ◌⊎◌, ℕ, suc, ◌<◌, ◌≤◌, List, [], ◌∷◌, ◌++◌, Bool, true, false, cond, ◌==◌, Option, None, Some, is_some, is_none, refl, sym, ◌∙◌, ap, subst, inl, inr, arith}
use Rattle.std.specs.List.{AllByRecursion}
use Rattle.std.specs.Option.{option_and_then}
use Rattle.std.proofs.lemmas.Bool.{false≢true, cases_lt}
use Rattle.fc_spec.specs.words.Lists.{numbers_below}
use Rattle.fc_spec.specs.requests.Request.{Request}
use Rattle.fc_spec.specs.requests.Paths.{at_root}
use Rattle.fc_spec.specs.messages.Message.{Way, way_of}
use Rattle.fc_spec.specs.messages.Target.{leads_to}
use Rattle.fc_spec.specs.messages.Held.{HeldBucket, Told, descend, behind, held, or_else}
use Rattle.fc_spec.specs.messages.Merged.{over_held}
use Rattle.fc_spec.specs.messages.Lacks.{Lack, wanted, lacks, untold}
use Rattle.fc_spec.specs.laws.LacksLaws.{way_depth}
use Rattle.fc_spec.proofs.words.Members.{Member, every_from_members, every_member, member_of_filter}
use Rattle.fc_spec.proofs.messages.Ways.{behind_is}
use Rattle.fc_spec.proofs.messages.HeldFurther.{held_among_more, held_among_later}
use Rattle.fc_spec.proofs.messages.HeldOrder.{held_joins}
use Rattle.fc_spec.proofs.messages.LacksDeep.{depth-append}
use Rattle.fc_spec.proofs.messages.Merges.{AllTold, from_start}
use Rattle.fc_spec.proofs.messages.MergedReply.{all_told, none_untold}
use Rattle.fc_coord.proofs.WantedAlike.{wanted_alike}

-- what is told of deeper buckets holds none that is less deep
deep_holds_none : (r : Request) (e : ℕ) (B : List Told) (i : ℕ) (way : Way) → AllByRecursion (λ t. e < way_depth r.nodes t.way) B → way_depth r.nodes way ≤ e → held B i way ≡ None
deep_holds_none r e [] i way deep le = refl
deep_holds_none r e (t ∷ ts) i way deep le =
    ap (λ o. or_else (cond (t.shard == i) o None) (held ts i way)) (own (behind t.way way) refl) ∙ either (t.shard == i) (deep_holds_none r e ts i way deep.1 le)
  where
    own : (o : Option Way) → behind t.way way ≡ o → option_and_then (λ rest. descend rest t.bucket) o ≡ None
    own None h = refl
    own (Some rest) h =
        let sum = ap (way_depth r.nodes) (behind_is t.way way rest h) ∙ depth-append t.way rest (leads_to at_root r.nodes) in
        let more : e < way_depth r.nodes t.way = deep.0 in
        absurd (omega arith)

    either : (b : Bool) → held ts i way ≡ None → or_else (cond b None None) (held ts i way) ≡ None
    either true h = h
    either false h = h

held_or_lacks : (A : List Told) (all : List Lack) (l : Lack) → Member l all → (is_some (held A l.shard (way_of l.want)) ≡ true) ⊎ Member l (untold A all)
held_or_lacks A all l m = go (held A l.shard (way_of l.want)) refl
  where
    go : (o : Option HeldBucket) → held A l.shard (way_of l.want) ≡ o → (is_some (held A l.shard (way_of l.want)) ≡ true) ⊎ Member l (untold A all)
    go None e = inr (member_of_filter (λ k. is_none (held A k.shard (way_of k.want))) all l m (ap is_none e))
    go (Some b) e = inl (ap is_some e)

-- behind what lacks nothing at less depth
pub nothing_lacks_down_to : (r : Request) (n e : ℕ) (A B : List Told) → ((d : ℕ) → d < e → lacks r n A d ≡ []) → AllByRecursion (λ t. e < way_depth r.nodes t.way) B
    → ((l : Lack) → Member l (lacks r n A e) → is_some (held B l.shard (way_of l.want)) ≡ true) → (d : ℕ) → d < suc e → lacks r n (A ++ B) d ≡ []
nothing_lacks_down_to r n e A B none deep answered d less =
    none_untold (A ++ B) (wanted (over_held (A ++ B)) d r.nodes 0 (numbers_below n) [] [])
    (subst (AllTold (A ++ B)) same (every_from_members (λ l. is_some (held (A ++ B) l.shard (way_of l.want))) wanted_A (λ l m. there l m (cases_lt d e))))
  where
    wanted_A : List Lack
    wanted_A = wanted (over_held A) d r.nodes 0 (numbers_below n) [] []

    shallow : (i : ℕ) (way : Way) → way_depth r.nodes way ≤ e → held A i way ≡ held (A ++ B) i way
    shallow i way le = sym (held_joins A B i way ∙ ap (or_else (held A i way)) (deep_holds_none r e B i way deep le) ∙ first (held A i way))
      where
        first : (o : Option HeldBucket) → or_else o None ≡ o
        first None = refl
        first (Some b) = refl

    still : (i : ℕ) (way : Way) → is_some (held A i way) ≡ true → held A i way ≡ held (A ++ B) i way
    still i way h = sym (held_joins A B i way ∙ first (held A i way) h)
      where
        first : (o : Option HeldBucket) → is_some o ≡ true → or_else o (held B i way) ≡ o
        first None k = absurd (false≢true k)
        first (Some b) k = refl

    same : wanted_A ≡ wanted (over_held (A ++ B)) d r.nodes 0 (numbers_below n) [] []
    same = wanted_alike A (A ++ B) r e shallow still r.nodes d 0 0 (numbers_below n) [] (from_start r [] [] r.nodes refl) (let l : d < suc e = less in omega arith)

    there : (l : Lack) → Member l wanted_A → (d < e) ⊎ (e ≤ d) → is_some (held (A ++ B) l.shard (way_of l.want)) ≡ true
    there l m (inl low) = held_among_more A B l.shard (way_of l.want) (every_member (λ k. is_some (held A k.shard (way_of k.want))) wanted_A l (all_told A wanted_A (none d low)) m)
    there l m (inr high) =
        let at : d ≡ e = (let l : d < suc e = less in omega arith) in
        elim (held_or_lacks A wanted_A l m) [
          | inl h ↦ held_among_more A B l.shard (way_of l.want) h
          | inr lacking ↦ held_among_later A B l.shard (way_of l.want) (answered l (subst (λ c. Member l (lacks r n A c)) at lacking))
        ]
