use Rattle.std.proofs.Common.{◌≡◌, [], ◌∷◌, ◌++◌, ◌<◌, ◌^◌, ap, subst, sym, ◌∙◌}
use Rattle.fc_spec.specs.messages.MessageBytes.{long_bytes, partial_count, partials_bytes}
use Rattle.fc_partial.specs.BucketView.{buckets_view}
use Rattle.fc_wire.specs.Fitting.{BucketsFit}
use Rattle.fc_wire.proofs.Written.{two_alone, buckets_count}
use Rattle.fc_wire.proofs.encoding.encode.Goals as goal

pub returns : goal.returns
returns c =
    let bs = c.args.message.now.buckets in
    let count : c.len.result ≡ partial_count (buckets_view bs.items) = c.len.ensures ∙ bs.ok.0 ∙ sym (buckets_count bs.items) in
    let mark : c.push.new.self.items ≡ 77 ∷ [] = c.in_ok-push.ensures.items ∙ ap (λ l. l ++ 77 ∷ []) c.in_ok-out.ensures.items in
    let number : c.put_length.new.out.items ≡ (77 ∷ []) ++ long_bytes (partial_count (buckets_view bs.items)) = c.in_ok-put_length.ensures.bytes ∙ (λ j. mark j ++ long_bytes (count j)) in
    let buckets = c.in_ok-put_buckets.ensures.bytes ∙ ap (λ xs. c.put_length.new.out.items ++ partials_bytes (buckets_view xs)) c.deref.ensures.value in
    let fit = subst (λ xs. BucketsFit (buckets_view xs)) c.deref.ensures.value c.in_ok-put_buckets.ensures.fit in
    let below = subst (λ n. n < 2 ^ 64) count c.in_ok-put_length.ensures.fits in (
      two_alone (77 ∷ []) c.put_length.new.out.items c.put_buckets.new.out.items (long_bytes (partial_count (buckets_view bs.items))) (partials_bytes (buckets_view bs.items)) number buckets,
      ((below, fit.0), fit.1, c.requires),
    )
