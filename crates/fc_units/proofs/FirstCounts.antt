-- The jobs that are known from the start, bucket by bucket.
use Rattle.std.proofs.Common.{◌≡◌, ℕ, zero, suc, ◌+◌, ◌≤◌, length, sum, take, refl, sym, ◌∙◌, ap, subst, arith}
use Rattle.std.proofs.Math.Seq.{take-length}
use Rattle.std.proofs.lemmas.List.{drop_all}
use Rattle.fc_spec.specs.messages.Message.{Ask, first, more, Partials, no_partials, partial}
use Rattle.fc_spec.specs.requests.Buckets.{Key}
use Rattle.fc_spec.specs.requests.Request.{Nodes, no_nodes, statistic, facet, Request}
use Rattle.fc_answers.specs.SetAnswer.{Pieces, Scope, Sets, bucket_sets, inside, set_answer, set_rows}
use Rattle.fc_levels.specs.Facets.{Nested, facet_count}
use Rattle.fc_levels.specs.Jobs.{AreCounted, job_count, opened, openings, row_count, top_buckets}
use Rattle.fc_units.specs.Asked.{IsTop, answer_from, asked_count, followed, top_bucket, top_domain, top_scope}
use Rattle.fc_units.proofs.Turning.{AreKnown}

-- a list for each facet
pub rows_count : (o : Scope) (V : Pieces) (nodes : Nodes) (sets : Sets) → row_count (set_rows o V nodes sets) ≡ facet_count nodes
rows_count o V no_nodes sets = refl
rows_count o V (statistic name s rest) sets = rows_count o V rest sets
rows_count o V (facet f inner rest) sets = ap suc (rows_count o V rest sets)

first_count : Partials → ℕ
first_count ps = top_buckets ps + opened ps

top-followed : (ps qs : Partials) → top_buckets (followed ps qs) ≡ top_buckets ps + top_buckets qs
top-followed no_partials qs = omega arith
top-followed (partial k stats rows rest) qs = omega (arith, top-followed rest qs)

opened-followed : (ps qs : Partials) → opened (followed ps qs) ≡ opened ps + opened qs
opened-followed no_partials qs = omega arith
opened-followed (partial k stats rows rest) qs = omega (arith, opened-followed rest qs)

-- one bucket more
pub one_bucket : (r : Request) (V : Pieces) (ask : Ask) (i : ℕ) (n : Nested) (k : Key) → IsTop r V ask i n k
    → top_buckets (answer_from r V ask i) + opened (answer_from r V ask i) ≡ facet_count n.1 + 1 + (top_buckets (answer_from r V ask (i + 1)) + opened (answer_from r V ask (i + 1)))
one_bucket r V ask i n k top =
    let b = top_bucket (top_scope r ask i) V n k (top_domain r V ask i n.0) in
    let rest = answer_from r V ask (i + 1) in
    omega (
      arith,
      ap top_buckets top,
      ap opened top,
      top-followed b rest,
      opened-followed b rest,
      rows_count (inside (top_scope r ask i) n.0 k) V n.1 (bucket_sets V n.0.kind k (top_domain r V ask i n.0)),
    )

-- from the first one on it is the whole answer, and behind the last one there is nothing
pub from_first : (r : Request) (V : Pieces) (ask : Ask) → answer_from r V ask 0 ≡ set_answer r V ask
from_first r V first = refl
from_first r V (more wants) = refl

pub past_last : (r : Request) (V : Pieces) (ask : Ask) (i : ℕ) → asked_count ask ≤ i → answer_from r V ask i ≡ no_partials
past_last r V first zero h = absurd (omega (arith, h))
past_last r V first (suc i) h = refl
past_last r V (more wants) i h = ap (λ ws. answer_from r V (more ws) 0) (drop_all i wants h)

-- the law of jobs, in terms of their list
pub known_from : (m : Partials) → AreCounted m → AreKnown (top_buckets m + opened m) (openings m)
known_from m c = record {
  all = subst (λ l. top_buckets m + opened m + sum l ≡ job_count m) (whole (job_count m) c.all) c.in_the_end ∙ sym c.all;
  ahead = λ n h. c.before n (omega (arith, h, c.all));
}
  where
    whole : (j : ℕ) → length (openings m) ≡ j → take j (openings m) ≡ openings m
    whole j e = ap (λ n. take n (openings m)) (sym e) ∙ take-length (openings m)
