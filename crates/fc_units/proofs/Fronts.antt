-- Whole top buckets, and what follows them.
use Rattle.std.proofs.Common.{◌≡◌, ◌+◌, ◌≤◌, List, [], ◌∷◌, ◌++◌, length, map, refl, sym, ◌∙◌, ap, arith, length-append}
use Rattle.std.proofs.lemmas.List.{length-map, map-append}
use Rattle.fc_spec.specs.messages.Message.{Ask, Partials, no_partials, partial, Rows}
use Rattle.fc_spec.specs.requests.Buckets.{Key}
use Rattle.fc_spec.specs.requests.Request as definition
use Rattle.fc_spec.specs.requests.Statistics.{Stats}
use Rattle.fc_partial.specs.BucketView.{Part, bucket_view, linked}
use Rattle.fc_partial.specs.declared.bucket.PartialBucket.{PartialBucket}
use Rattle.fc_answers.specs.SetAnswer.{Pieces, set_answer}
use Rattle.fc_levels.specs.Jobs.{openings}
use Rattle.fc_levels.specs.Levels.{put}
use Rattle.fc_units.specs.Asked.{IsTop, answer_from, asked_count, followed, top_bucket, top_domain, top_scope}
use Rattle.fc_units.specs.Going.{AreFront}
use Rattle.fc_units.proofs.Opening.{openings-put}
use Rattle.fc_units.proofs.FirstCounts.{past_last}

pub put_none : (bs : List Part) → put bs no_partials ≡ linked bs
put_none [] = refl
put_none (b ∷ bs) = ap (partial b.key b.stats b.rows) (put_none bs)

pub put-append : (bs cs : List Part) (ps : Partials) → put (bs ++ cs) ps ≡ put bs (put cs ps)
put-append [] cs ps = refl
put-append (b ∷ bs) cs ps = ap (partial b.key b.stats b.rows) (put-append bs cs ps)

pub put_followed : (bs : List Part) (ps : Partials) → put bs ps ≡ followed (linked bs) ps
put_followed [] ps = refl
put_followed (b ∷ bs) ps = ap (partial b.key b.stats b.rows) (put_followed bs ps)

pub openings_linked : (bs cs : List Part) → openings (linked (bs ++ cs)) ≡ openings (linked bs) ++ openings (linked cs)
openings_linked bs cs = ap openings (sym (put_none (bs ++ cs)) ∙ put-append bs cs no_partials ∙ ap (put bs) (put_none cs)) ∙ openings-put bs (linked cs)

-- a list of one bucket
one_part : (bs : List Part) (k : Key) (s : Stats) (rows : Rows) → linked bs ≡ partial k s rows no_partials → length bs ≡ 1
one_part [] k s rows e = absurd (cc)
one_part (b ∷ []) k s rows e = refl
one_part (b ∷ c ∷ bs) k s rows e = absurd (cc)

pub one_bucket_there : (bs : List PartialBucket) (k : Key) (s : Stats) (rows : Rows) → linked (map bucket_view bs) ≡ partial k s rows no_partials → length bs ≡ 1
one_bucket_there bs k s rows e = sym (length-map bs bucket_view) ∙ one_part (map bucket_view bs) k s rows e

-- the next top bucket is whole
pub next_front : (r : definition.Request) (V : Pieces) (ask : Ask) (n : _) (k : Key) (buckets more : List PartialBucket) → AreFront r V ask buckets → IsTop r V ask (length buckets) n k
    → linked (map bucket_view more) ≡ top_bucket (top_scope r ask (length buckets)) V n k (top_domain r V ask (length buckets) n.0) → AreFront r V ask (buckets ++ more) × (length (buckets ++ more) ≡ length buckets + 1)
next_front r V ask n k buckets more front top whole = (fronts, count)
  where
    one : length more ≡ 1
    one = one_bucket_there more k _ _ whole

    count : length (buckets ++ more) ≡ length buckets + 1
    count = omega (arith, length-append buckets more, one)

    fronts : AreFront r V ask (buckets ++ more)
    fronts =
        ap (λ bs. put bs (answer_from r V ask (length (buckets ++ more)))) (map-append bucket_view buckets more) ∙ ap (λ i. put (map bucket_view buckets ++ map bucket_view more) (answer_from r V ask i)) count
        ∙ put-append (map bucket_view buckets) (map bucket_view more) (answer_from r V ask (length buckets + 1))
        ∙ ap (put (map bucket_view buckets)) (put_followed (map bucket_view more) (answer_from r V ask (length buckets + 1)) ∙ ap (λ ps. followed ps (answer_from r V ask (length buckets + 1))) whole ∙ sym top)
        ∙ front

-- all of them are
pub all_front : (r : definition.Request) (V : Pieces) (ask : Ask) (buckets : List PartialBucket) → AreFront r V ask buckets → asked_count ask ≤ length buckets → linked (map bucket_view buckets) ≡ set_answer r V ask
all_front r V ask buckets front h = sym (put_none (map bucket_view buckets)) ∙ ap (put (map bucket_view buckets)) (sym (past_last r V ask (length buckets) h)) ∙ front
