-- Places with other numbers: a filter of them is a filter of the places that they are made of.
use Rattle.std.proofs.Common.{◌≡◌, ℕ, List, map, Bool, true, refl, ◌∙◌, ap}
use Rattle.std.specs.List.{filter}
use Rattle.fc_spec.specs.documents.World.{World, Place, places, same_block}
use Rattle.fc_spec.proofs.words.Members.{Every, every_from_members}
use Rattle.fc_spec.proofs.words.MappedLists.{filter-map}

-- other numbers for each place
pub record Numbers : Type 0 where
  pub shard : Place → ℕ
  pub position : Place → ℕ
  pub block : Place → ℕ

-- the place with its other numbers, its document and its part in the block as before
abbrev pub renumbered : Numbers → Place → Place
renumbered n p = record { shard = n.shard p; position = n.position p; block = n.block p; parent = p.parent; document = p.document }

-- the places of V are those of W with other numbers, and are of one block where those are
pub record Renumbering (W V : World) : Type 0 where
  pub numbers : Numbers
  pub image : places V ≡ map (renumbered numbers) (places W)
  pub known : Place → Bool
  pub all_known : Every known (places W)
  pub same_blocks : (x y : Place) → known x ≡ true → known y ≡ true → same_block (renumbered numbers x) (renumbered numbers y) ≡ same_block x y

-- a filter of all places, by a test that gives the same before and after
pub filter_places : {W V : World} (R : Renumbering W V) (t s : Place → Bool) → ((x : Place) → R.known x ≡ true → t (renumbered R.numbers x) ≡ s x)
    → filter t (places V) ≡ map (renumbered R.numbers) (filter s (places W))
filter_places {W} R t s same = ap (filter t) R.image ∙ filter-map (renumbered R.numbers) R.known t s (places W) same R.all_known

-- a filter of any places, by a test that does not look at the numbers
pub filter_renumbered : (n : Numbers) (t : Place → Bool) (X : List Place) → ((p : Place) → t (renumbered n p) ≡ t p) → filter t (map (renumbered n) X) ≡ map (renumbered n) (filter t X)
filter_renumbered n t X same = filter-map (renumbered n) (λ p. true) t t X (λ p h. same p) (every_from_members (λ p. true) X (λ p m. refl))
