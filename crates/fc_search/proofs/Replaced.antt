-- The request of exact facets alone, and that with query facets in their place.
use Rattle.std.proofs.Common.{◌≡◌, ℕ, zero, suc, ◌+◌, ◌<◌, ◌≤◌, List, [], ◌∷◌, ◌++◌, map, length, get_or, All, Bool, true, false, not, cond, Option, refl, sym, ◌∙◌, ap, subst, arith}
use Rattle.std.specs.Prelude.{option_map}
use Rattle.std.specs.Arc.{arc_value}
use Rattle.std.specs.declared.alloc.Global.{Global}
use Rattle.std.specs.declared.sync.Arc.{Arc}
use Rattle.std.proofs.lemmas.List.{get_or-map, length-map}
use Rattle.fc_spec.specs.documents.Schema.{Schema}
use Rattle.fc_spec.specs.documents.Val.{Val}
use Rattle.fc_spec.specs.documents.ValidBlocks.{IsBlockOf}
use Rattle.fc_spec.specs.documents.World.{World}
use Rattle.fc_spec.specs.requests.Request.{Request}
use Rattle.fc_spec.specs.requests.Shape.{no_exact}
use Rattle.fc_spec.specs.requests.ValidRequests.{IsSearchable, IsValidRequest}
use Rattle.fc_spec.specs.replies.Distributed.{distributed}
use Rattle.fc_spec.specs.replies.Reply.{Bucket}
use Rattle.fc_spec.specs.replies.Restored.{restored}
use Rattle.fc_spec.specs.replies.Tops.{only_exact, replaced, tops_of}
use Rattle.fc_spec.specs.replies.WithTops.{with_tops}
use Rattle.fc_spec.specs.laws.ReplacedLaw.{HasBlocksOf}
use Rattle.fc_spec.specs.laws.TopRoundsLaw.{AreTopNodes}
use Rattle.fc_spec.specs.messages.Lengths.{Lengths, put_all}
use Rattle.fc_spec.specs.messages.Trace.{Sent, trace}
use Rattle.fc_spec.specs.messages.WholeTrace.{behind_rounds, exact_round_count, exact_trace, whole_trace}
use Rattle.fc_store.specs.Generated.{Generated}
use Rattle.fc_round.specs.Askable.{world_of}
use Rattle.fc_exact.proofs.InOrder.{few_rounds}
use Rattle.fc_tops.proofs.Puts.{put_both}
use Rattle.fc_search.specs.Schemas.{AreAll, AreSame, HasOwnBlocks}
use Rattle.fc_search.specs.SearchLaws.{AreReplacingLaws}

-- the schema of each generation is the one of all
schema_is : (gs : List Generated) (s : Schema) → AreAll s (map (λ g. g.schema) gs) → (k : ℕ) (d : Generated) → k < length gs → (get_or gs k d).schema ≡ s
schema_is gs s all k d below = sym (get_or-map (λ g. g.schema) gs k d d.schema below) ∙ all k d.schema (let long = length-map gs (λ g. g.schema) in omega (arith, long, below))

-- so all their blocks are blocks of it
blocks_of : (gs : List Generated) (s : Schema) → AreAll s (map (λ g. g.schema) gs) → All HasOwnBlocks gs → HasBlocksOf s (world_of gs)
blocks_of gs s all own = λ k d below.
    let there : k < length gs = (let long = length-map gs (λ g. g.blocks) in omega (arith, long, below)) in
    let g : Generated = record { schema = s; number = 0; blocks = d } in
    subst (All (IsBlockOf s)) (sym (get_or-map (λ g. g.blocks) gs k g d there))
    (subst (λ t. All (IsBlockOf t) (get_or gs k g).blocks) (schema_is gs s all k g there) (own k g there))

module _ (laws : AreReplacingLaws) (r : Request) (gs : List Generated) (some : 1 ≤ length gs) (valid : All (λ g. IsValidRequest g.schema r) gs) (same : AreSame (map (λ g. g.schema) gs)) (own : All HasOwnBlocks gs) where
  abbrev W : World
  W = world_of gs

  abbrev s : Schema
  s = same.0

  -- the request is valid for it
  valid_one : IsValidRequest s r
  valid_one = go gs valid some same.1
    where
      go : (all : List Generated) → All (λ g. IsValidRequest g.schema r) all → 1 ≤ length all → AreAll s (map (λ g. g.schema) all) → IsValidRequest s r
      go [] valids any are = absurd (omega (arith, any))
      go (g ∷ all) valids any are = subst (λ t. IsValidRequest t r) (are 0 g.schema (omega arith)) (valids 0 g (omega arith))

  -- ---- the exact facets alone

  pub only_searchable : (x : Request) → x ≡ only_exact r → All (λ g. IsSearchable g.schema x) gs
  only_searchable x is = λ k d below. subst (IsSearchable (get_or gs k d).schema) (sym is) (laws.only (get_or gs k d).schema r (valid k d below))

  only_tops : AreTopNodes (only_exact r).nodes × (tops_of (only_exact r) W ≡ tops_of r W)
  only_tops = laws.tops r W (laws.sorted s r valid_one)

  pub only_nodes : (x : Request) → x ≡ only_exact r → AreTopNodes x.nodes
  only_nodes x is = subst (λ (y : Request). AreTopNodes y.nodes) (sym is) only_tops.0

  pub tops_are : (x : Request) (vss : List (List Val)) → x ≡ only_exact r → vss ≡ tops_of x W → vss ≡ tops_of r W
  tops_are x vss is found = found ∙ ap (λ y. tops_of y W) is ∙ only_tops.1

  -- ---- query facets in their place

  pub replaced_searchable : (x made : Request) (vss : List (List Val)) → x ≡ only_exact r → vss ≡ tops_of x W → made ≡ replaced r vss → All (λ g. IsSearchable g.schema made) gs
  replaced_searchable x made vss is found are = λ k d below.
      subst (λ t. IsSearchable t made) (sym (schema_is gs s same.1 k d below))
      (subst (IsSearchable s) (sym (are ∙ ap (replaced r) (tops_are x vss is found))) (laws.searchable s r W valid_one (blocks_of gs s same.1 own)))

  -- the reply is put together again
  pub whole_reply : (x made : Request) (vss : List (List Val)) (merged reply : Bucket) → x ≡ only_exact r → vss ≡ tops_of x W → made ≡ replaced r vss → merged ≡ distributed made W → reply ≡ restored r vss merged → reply ≡ with_tops r W
  whole_reply x made vss merged reply is found are merges restores =
      let tops = tops_are x vss is found in
      restores ∙ (λ j. restored r (tops j) ((merges ∙ ap (λ m. distributed m W) (are ∙ ap (replaced r) tops)) j)) ∙ laws.restored r W (laws.apart s r valid_one)

  -- and what was sent for both is sent for the search
  pub whole_sent : (x made : Request) (vss : List (List Val)) (rounds : ℕ) (old between new : Option Lengths) → no_exact r.nodes ≡ false → x ≡ only_exact r → vss ≡ tops_of x W → made ≡ replaced r vss → rounds ≡ exact_round_count x W
      → between ≡ option_map (put_all (exact_trace x W)) old → new ≡ option_map (put_all (map (behind_rounds rounds) (trace made W))) between → new ≡ option_map (put_all (whole_trace r W)) old
  whole_sent x made vss rounds old between new some_exact is found are counted first later =
      put_both (exact_trace x W) (map (behind_rounds rounds) (trace made W)) old between new first later ∙ ap (λ es. option_map (put_all es) old) entries
    where
      own_trace : List Sent
      own_trace = exact_trace (only_exact r) W ++ map (behind_rounds (exact_round_count (only_exact r) W)) (trace (replaced r (tops_of r W)) W)

      entries : exact_trace x W ++ map (behind_rounds rounds) (trace made W) ≡ whole_trace r W
      entries =
          (λ j. exact_trace (is j) W ++ map (behind_rounds ((counted ∙ ap (λ y. exact_round_count y W) is) j)) (trace ((are ∙ ap (replaced r) (tops_are x vss is found)) j) W))
          ∙ sym (ap (λ b. cond b (trace r W) own_trace) some_exact)

-- ---- without exact facets

pub not_false : (b : Bool) → not b ≡ false → b ≡ true
not_false true e = refl
not_false false e = sym e

none_before : (n : ℕ) → 0 + n ≡ n
none_before n = omega arith

pub behind_none : (es : List Sent) → map (behind_rounds 0) es ≡ es
behind_none [] = refl
behind_none (e ∷ es) = λ j. record e { round = none_before e.round j } ∷ behind_none es j

pub plain_sent : (r : Request) (W : World) (old new : Option Lengths) → no_exact r.nodes ≡ true → new ≡ option_map (put_all (map (behind_rounds 0) (trace r W))) old → new ≡ option_map (put_all (whole_trace r W)) old
plain_sent r W old new none is =
    is ∙ ap (λ es. option_map (put_all es) old) (behind_none (trace r W))
    ∙ ap (λ es. option_map (put_all es) old)
    (sym (ap (λ b. cond b (trace r W) (exact_trace (only_exact r) W ++ map (behind_rounds (exact_round_count (only_exact r) W)) (trace (replaced r (tops_of r W)) W))) none))

-- there are three rounds before at most
pub few_before : (x : Request) (W : World) (rounds : ℕ) → rounds ≡ exact_round_count x W → rounds ≤ 3
few_before x W rounds is = let few = (few_rounds x W).1 in omega (arith, is, few)

-- ---- generations one after another

-- what holds of all numbers below one, and of that one
pub below_more : (P : ℕ → Type 0) (n : ℕ) → ((k : ℕ) → k < n → P k) → P n → (k : ℕ) → k < n + 1 → P k
below_more P zero was last zero below = last
below_more P zero was last (suc k) below = absurd (omega (arith, below))
below_more P (suc n) was last zero below = was zero (omega arith)
below_more P (suc n) was last (suc k) below = below_more (λ j. P (suc j)) n (λ j less. was (suc j) (omega (arith, less))) last k (omega (arith, below))

pub own_at : (gs : List (Arc Generated Global)) (k : ℕ) (g : Arc Generated Global) (d : Generated) → k < length gs → g ≡ get_or gs k g → HasOwnBlocks (arc_value {X = Generated} g) → HasOwnBlocks (get_or (map (arc_value {X = Generated}) gs) k d)
own_at gs k g d below is own = subst HasOwnBlocks (sym (get_or-map (arc_value {X = Generated}) gs k g d below ∙ ap (arc_value {X = Generated}) (sym is))) own
