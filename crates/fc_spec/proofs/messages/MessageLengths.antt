-- How long answers are: the order in which buckets are asked for plays no part.
use Rattle.std.proofs.Common.{◌≡◌, ℕ, suc, ◌+◌, List, [], ◌∷◌, ◌++◌, length, sum_by, refl, sym, ◌∙◌, ap, arith}
use Rattle.std.proofs.lemmas.List.{length-append}
use Rattle.std.proofs.lemmas.List.Sums.{sum_by-cons}
use Rattle.std.proofs.lemmas.List.Sorted.{sum_by-IsPermutation}
use Rattle.fc_spec.specs.documents.World.{World}
use Rattle.fc_spec.specs.requests.Request.{Request}
use Rattle.fc_spec.specs.requests.Buckets.{Key}
use Rattle.fc_spec.specs.requests.Statistics.{Stats}
use Rattle.fc_spec.specs.messages.Message.{Partials, no_partials, partial, Rows, Want, way_of}
use Rattle.fc_spec.specs.messages.Answer.{answer_bucket, answer_wants}
use Rattle.fc_spec.specs.messages.MessageBytes.{long_bytes, key_bytes, stats_bytes, row_count, partials_bytes, rows_bytes}
use Rattle.fc_spec.specs.laws.TraceLaws.{OrderOfWantsIsFree}

-- a bucket is as long in front of others as alone
in_front : (key : Key) (stats : Stats) (rows : Rows) (rest : Partials) → length (partials_bytes (partial key stats rows rest)) ≡ length (partials_bytes (partial key stats rows no_partials)) + length (partials_bytes rest)
in_front key stats rows rest = parts (key_bytes key) (stats_bytes stats) (long_bytes (row_count rows)) (rows_bytes rows) (partials_bytes rest)
  where
    parts : (k s n r more : List ℕ) → length (k ++ (s ++ (n ++ (r ++ more)))) ≡ length (k ++ (s ++ (n ++ (r ++ [])))) + length more
    parts k s n r more = simp length-append (omega arith)

-- of the bucket of one want
want_length : Request → World → ℕ → Want → ℕ
want_length r W i w = length (partials_bytes (answer_bucket r W i (way_of w) w.key no_partials))

wants_length : (r : Request) (W : World) (i : ℕ) (ws : List Want) → length (partials_bytes (answer_wants r W i ws)) ≡ sum_by (want_length r W i) ws
unfolding want_length
wants_length r W i [] = refl
wants_length r W i (w ∷ ws) =
    let b = answer_bucket r W i (way_of w) w.key no_partials in
    let front : length (partials_bytes (answer_wants r W i (w ∷ ws))) ≡ want_length r W i w + length (partials_bytes (answer_wants r W i ws)) = in_front _ _ _ _ in
    front ∙ ap (λ n. want_length r W i w + n) (wants_length r W i ws) ∙ sym (sum_by-cons (want_length r W i) w ws)

pub order_of_wants_is_free : OrderOfWantsIsFree
order_of_wants_is_free r W i ws others same =
    ap (λ n. suc (suc (suc (suc (suc (suc (suc (suc (suc n)))))))))
    (wants_length r W i others ∙ sum_by-IsPermutation (want_length r W i) ws others same ∙ sym (wants_length r W i ws))
