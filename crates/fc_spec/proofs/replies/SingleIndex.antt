-- The exact reply is that over one shard with all the blocks.
use Rattle.std.proofs.Common.{◌≡◌, List, [], ◌∷◌, ◌++◌, true, refl, sym, ◌∙◌, ap}
use Rattle.std.proofs.lemmas.List.{append_assoc, append-nil}
use Rattle.fc_spec.specs.documents.Document.{Block}
use Rattle.fc_spec.specs.words.Lists.{joined}
use Rattle.fc_spec.specs.documents.World.{World}
use Rattle.fc_spec.specs.requests.Request.{Request}
use Rattle.fc_spec.specs.replies.Exact.{exact}
use Rattle.fc_spec.specs.laws.TopsLaw.{IsExactWithTops, IsSingleWithTops}
use Rattle.fc_spec.proofs.replies.ByOffers.{made_by_offers, no_limits_no_exact}
use Rattle.fc_spec.specs.laws.WithoutLimits.{IsExactOverSingle, IsSingleWithoutLimits}
use Rattle.fc_spec.proofs.documents.Renumbered.{Renumbering}
use Rattle.fc_spec.proofs.replies.RenumberedReply.{exact_renumbered}
use Rattle.fc_spec.proofs.documents.JoinedShards.{joining_renumbers}
use Rattle.fc_spec.proofs.replies.NoLimits.{exact_without_limits}

-- one shard with no block is no shard
empty_renumbers : Renumbering [] ([] ∷ [])
empty_renumbers = record {
  numbers = record { shard = λ p. p.shard; position = λ p. p.position; block = λ p. p.block };
  image = refl;
  known = λ p. true;
  all_known = tt;
  same_blocks = λ x y h k. refl;
}

-- shard after shard joined to the first
first_joined : (r : Request) (A : List Block) (rest : World) → exact r (A ∷ rest) ≡ exact r ((A ++ joined rest) ∷ [])
first_joined r A [] = ap (λ X. exact r (X ∷ [])) (sym (append-nil A))
first_joined r A (B ∷ rest) =
    exact_renumbered (joining_renumbers A B rest) r ∙ first_joined r (A ++ B) rest ∙ ap (λ X. exact r (X ∷ [])) (append_assoc A B (joined rest))

-- however the blocks are cut into shards
pub exact_over_single : IsExactOverSingle
exact_over_single r [] = exact_renumbered empty_renumbers r
exact_over_single r (A ∷ rest) = first_joined r A rest

-- without limits the distributed reply is that of the single index
pub single_without_limits : IsSingleWithoutLimits
single_without_limits r W unlimited = exact_without_limits r W unlimited ∙ exact_over_single r W

-- so is the reply with top buckets, of which none is exact
pub exact_with_tops : IsExactWithTops
exact_with_tops r W unlimited = made_by_offers r W (no_limits_no_exact r.nodes unlimited) ∙ exact_without_limits r W unlimited

pub single_with_tops : IsSingleWithTops
single_with_tops r W unlimited = made_by_offers r W (no_limits_no_exact r.nodes unlimited) ∙ single_without_limits r W unlimited
