use Rattle.std.proofs.Common.{◌∙◌, ◌++◌, ◌∷◌, [], ap, sym, take}
use Rattle.std.proofs.lemmas.List.{take_more, take_all}
use Rattle.fc_partial.specs.BucketView.{buckets_view}
use Rattle.fc_refine.specs.Listings.{listed_in, listed_view}
use Rattle.fc_refine.proofs.ListedValues.{grows_by_again, grows_by_same, listed_append, node_is}
use Rattle.fc_refine.proofs.listing.push_part.Goals as goal

pub loop-bucket-preserved : goal.loop-bucket-preserved
loop-bucket-preserved c =
    let xs = c.deref-bucket-items.result.now in
    let at = c.loop-bucket.bucket-index in
    let item = c.bucket-item.result in
    grows_by_again listed_view c.args.by_value.now c.loop-bucket.by_value c.push_bucket.new.by_value _ _ _ c.loop-bucket.invariant c.in_ok-push_bucket.ensures
    (λ v. ap (λ l. listed_in v c.args.shard (buckets_view l)) (take_more xs at item c.loop-bucket-test.true ∙ ap (λ b. take at xs ++ b ∷ []) (sym c.bucket-item.is)) ∙ listed_append v c.args.shard (take at xs) (item ∷ []))

pub returns : goal.returns
returns c =
    let xs = c.deref-bucket-items.result.now in
    let at = c.loop-bucket.bucket-index in
    grows_by_same listed_view c.args.by_value.now c.loop-bucket.by_value _ _ c.loop-bucket.invariant
    (λ v. ap (listed_in v c.args.shard) (node_is c.args.node.now) ∙ ap (λ l. listed_in v c.args.shard (buckets_view l)) (sym (take_all at xs c.loop-bucket-test.false ∙ c.deref-bucket-items.ensures.value)))
