-- What a tree tells is read from it as from lists of what was told.
use Rattle.std.proofs.Common.{◌≡◌, ℕ, ◌+◌, List, [], ◌∷◌, ◌++◌, None, Some, Option, is_some, refl, sym, ◌∙◌, ap, ap₂}
use Rattle.std.specs.Prelude.{option_map}
use Rattle.fc_spec.specs.requests.Request.{Stat, Nodes}
use Rattle.fc_spec.specs.requests.Statistics.{combined_value}
use Rattle.fc_spec.specs.replies.Distributed.{reply_over}
use Rattle.fc_spec.specs.messages.Message.{Step, Way}
use Rattle.fc_spec.specs.messages.Held.{HeldBucket, Told, held}
use Rattle.fc_spec.specs.messages.Merged.{NodeOf, over_held, held_count, held_value, count_held, value_held}
use Rattle.fc_lacks.specs.Lacking.{lacking}
use Rattle.fc_told.specs.Trees.{Tree, child, at}
use Rattle.fc_told.specs.Telling.{Tells}
use Rattle.fc_coord.specs.TreeReading.{told_count, told_value, count_told, value_told, NodeIn, over_tree, has_told}
use Rattle.fc_coord.proofs.MappedReading.{IsCarried, reply_same, lacking_same}

-- one step behind a way
at_more : (way : Way) (s : Step) (T : Tree) → at (way ++ s ∷ []) T ≡ child s (at way T)
at_more [] s T = refl
at_more (u ∷ way) s T = at_more way s (child u T)

-- what is held, by its statistics
count_of_held : (o : Option HeldBucket) → held_count o ≡ told_count (option_map (λ b. b.stats) o)
count_of_held None = refl
count_of_held (Some b) = refl

value_of_held : (m : ℕ) (s : Stat) (o : Option HeldBucket) → held_value m s o ≡ told_value m s (option_map (λ b. b.stats) o)
value_of_held m s None = refl
value_of_held m s (Some b) = refl

there_if_held : (o : Option HeldBucket) → is_some o ≡ is_some (option_map (λ (b : HeldBucket). b.stats) o)
there_if_held None = refl
there_if_held (Some b) = refl

module _ (T : Tree) (A : List Told) (tells : Tells T A) where
  count_same : (H : List ℕ) (way : Way) → count_held A H way ≡ count_told H (at way T)
  count_same [] way = refl
  count_same (i ∷ H) way = ap₂ (λ m n. m + n) (count_of_held (held A i way) ∙ ap told_count (sym (tells.stats i way))) (count_same H way)

  value_same : (m : ℕ) (s : Stat) (H : List ℕ) (way : Way) → value_held A m s H way ≡ value_told m s H (at way T)
  value_same m s [] way = refl
  value_same m s (i ∷ H) way = ap₂ (combined_value s.of) (value_of_held m s (held A i way) ∙ ap (told_value m s) (sym (tells.stats i way))) (value_same m s H way)

  -- a way leads to a bucket of the tree
  abbrev node_at : NodeOf → NodeIn
  node_at Y = record { tree = at Y.way T; node = Y.node }

  carries : IsCarried (over_held A) over_tree (λ way. at way T) node_at
  carries = record {
    count = count_same;
    statistic = value_same;
    offered = λ t inner Y i. sym (tells.offers i Y.node Y.way);
    at_key = λ kind Y key. at_more Y.way (record { node = Y.node; key = key }) T;
    domain = λ n f H way. refl;
  }

  pub reply_read : (nodes : Nodes) (H : List ℕ) → reply_over over_tree nodes H T ≡ reply_over (over_held A) nodes H []
  reply_read nodes H = sym (reply_same (over_held A) over_tree (λ way. at way T) node_at carries nodes H [])

  pub lacking_read : (e : ℕ) (nodes : Nodes) (n : ℕ) (H : List ℕ) → lacking over_tree has_told e nodes n H T [] ≡ lacking (over_held A) (λ way i. is_some (held A i way)) e nodes n H [] []
  lacking_read e nodes n H =
      let alike = λ (way : Way) (i : ℕ). there_if_held (held A i way) ∙ ap is_some (sym (tells.stats i way)) in
      sym (lacking_same (over_held A) over_tree (λ way. at way T) node_at carries (λ way i. is_some (held A i way)) has_told alike nodes e n H [] [])
