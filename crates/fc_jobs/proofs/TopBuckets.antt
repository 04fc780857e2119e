-- A bucket whose statistics are combined segment by segment.
use Rattle.std.proofs.Common.{◌≡◌, ◌<◌, ℕ, zero, suc, ◌+◌, List, [], ◌∷◌, ◌++◌, length, take, drop, Bool, refl, sym, ◌∙◌, ap, subst, arith, add-one}
use Rattle.std.proofs.lemmas.List.{length-map, length-take, take-append-drop}
use Rattle.std.proofs.Math.Seq.{take-length}
use Rattle.fc_spec.specs.documents.Document.{Block}
use Rattle.fc_spec.specs.documents.Sets.{AreSets, each_set, places_at, places_on}
use Rattle.fc_spec.specs.documents.Totals.{document_total}
use Rattle.fc_spec.specs.documents.World.{World}
use Rattle.fc_spec.specs.requests.Buckets.{Key}
use Rattle.fc_spec.specs.requests.Combining.{combined}
use Rattle.fc_spec.specs.requests.DomainSets.{bucket_set}
use Rattle.fc_spec.specs.requests.Request.{Kind, Stat}
use Rattle.fc_spec.specs.requests.Statistics.{Stats, stats_over}
use Rattle.fc_spec.proofs.requests.SetChanges.{are_sets_again}
use Rattle.fc_spec.proofs.requests.Statistics.{stats_over-append}
use Rattle.fc_partial.specs.Adding.{AddUp, HasShape}
use Rattle.fc_partial.specs.Fitting.{StatisticsFit}
use Rattle.fc_partial.proofs.Fitting.{front_fits}
use Rattle.fc_partial.proofs.FittingSums.{add_up}
use Rattle.fc_partial.proofs.NeutralCells.{shape_over}
use Rattle.fc_kind.proofs.JoinedTallies.{stats_same}
use Rattle.fc_answers.specs.SetAnswer.{Piece, Pieces, Sets, bucket_sets, whole_world}
use Rattle.fc_jobs.specs.Gathered.{AreSoFar, gathered}
use Rattle.fc_jobs.specs.Pieces.{each_piece}
use Rattle.fc_jobs.proofs.GatheredPlaces.{gathered_front, gathered_more, gathered_none, gathered_whole, same_documents, whole_there}

-- ---- lists

-- what stands at a place is there
below_length : {X : Type 0} (n : ℕ) (x : X) (xs rest : List X) → drop n xs ≡ x ∷ rest → n < length xs
below_length zero x [] rest e = absurd (cc)
below_length zero x (y ∷ xs) rest e = omega arith
below_length (suc n) x [] rest e = absurd (cc)
below_length (suc n) x (y ∷ xs) rest e = let h = below_length n x xs rest e in omega arith

length-front : {X : Type 0} (n : ℕ) (x : X) (xs rest : List X) → drop n xs ≡ x ∷ rest → length (take n xs) ≡ n
length-front zero x xs rest e = refl
length-front (suc n) x [] rest e = absurd (cc)
length-front (suc n) x (y ∷ xs) rest e = ap suc (length-front n x xs rest e)

take_next : {X : Type 0} (n : ℕ) (x : X) (xs rest : List X) → drop n xs ≡ x ∷ rest → take (suc n) xs ≡ take n xs ++ x ∷ []
take_next zero x [] rest e = absurd (cc)
take_next zero x (y ∷ xs) rest e = λ i. head i ∷ []
  where
    head : y ≡ x
    head = cc
take_next (suc n) x [] rest e = absurd (cc)
take_next (suc n) x (y ∷ xs) rest e = ap (λ l. y ∷ l) (take_next n x xs rest e)

-- what is made of a set stands where the set does
pub drop-each_set : (f : List Block → List Bool → List Bool) (n : ℕ) (V rest : World) (sets more : Sets) (blocks : List Block) (set : List Bool)
    → drop n V ≡ blocks ∷ rest → drop n sets ≡ set ∷ more → drop n (each_set f V sets) ≡ f blocks set ∷ each_set f rest more
drop-each_set f zero V rest sets more blocks set there next = λ i. each_set f (there i) (next i)
drop-each_set f (suc n) [] rest sets more blocks set there next = absurd (cc)
drop-each_set f (suc n) (b ∷ V) rest [] more blocks set there next = absurd (cc)
drop-each_set f (suc n) (b ∷ V) rest (s ∷ sets) more blocks set there next = drop-each_set f n V rest sets more blocks set there next

pub drop-each_piece : (f : Piece → List Bool → List Bool) (n : ℕ) (V rest : Pieces) (sets more : Sets) (p : Piece) (set : List Bool)
    → drop n V ≡ p ∷ rest → drop n sets ≡ set ∷ more → drop n (each_piece f V sets) ≡ f p set ∷ each_piece f rest more
drop-each_piece f zero V rest sets more p set there next = λ i. each_piece f (there i) (next i)
drop-each_piece f (suc n) [] rest sets more p set there next = absurd (cc)
drop-each_piece f (suc n) (q ∷ V) rest [] more p set there next = absurd (cc)
drop-each_piece f (suc n) (q ∷ V) rest (s ∷ sets) more p set there next = drop-each_piece f n V rest sets more p set there next

-- ---- the start

pub bucket_none : (V : Pieces) (domain : Sets) (kind : Kind) (ss : List Stat) (key : Key) → AreSoFar V domain kind ss key 0 (stats_over ss [])
bucket_none V domain kind ss key = ap (stats_over ss) (sym (gathered_none 0 (whole_world V)))

-- ---- a step

module _ (V rest : Pieces) (domain more : Sets) (kind : Kind) (ss : List Stat) (key : Key) (at : ℕ) (p : Piece) (set : List Bool) (there : drop at V ≡ p ∷ rest) (next : drop at domain ≡ set ∷ more) where
  abbrev all_sets : Sets
  all_sets = bucket_sets V kind key domain

  abbrev own_set : List Bool
  own_set = bucket_set kind key p.blocks set

  blocks_there : drop at (whole_world V) ≡ p.blocks ∷ whole_world rest
  blocks_there = whole_there at V rest p there

  stands : drop at all_sets ≡ own_set ∷ bucket_sets rest kind key more
  stands = drop-each_set (bucket_set kind key) at (whole_world V) (whole_world rest) domain more p.blocks set blocks_there next

  one_more : take (at + 1) all_sets ≡ take at all_sets ++ own_set ∷ []
  one_more = ap (λ n. take n all_sets) (add-one at) ∙ take_next at own_set all_sets (bucket_sets rest kind key more) stands

  places_more : gathered (whole_world V) (take (at + 1) all_sets) ≡ gathered (whole_world V) (take at all_sets) ++ places_on at p.blocks own_set
  places_more =
      let long = length-front at own_set all_sets (bucket_sets rest kind key more) stands in
      ap (gathered (whole_world V)) one_more
      ∙ gathered_more (whole_world V) (whole_world rest) (take at all_sets) p.blocks own_set (ap (λ n. drop n (whole_world V)) long ∙ blocks_there)
      ∙ ap (λ n. gathered (whole_world V) (take at all_sets) ++ places_on n p.blocks own_set) long

  own_stats : stats_over ss (places_on at p.blocks own_set) ≡ stats_over ss (places_on 0 p.blocks own_set)
  own_stats = stats_same (places_on at p.blocks own_set) (places_on 0 p.blocks own_set) (same_documents at 0 p.blocks own_set) ss

  pub bucket_more : (stats new : Stats) → AreSoFar V domain kind ss key at stats → new ≡ combined ss stats (stats_over ss (places_on 0 p.blocks own_set)) → AreSoFar V domain kind ss key (at + 1) new
  bucket_more stats new so_far is =
      is ∙ (λ i. combined ss (so_far i) (sym own_stats i)) ∙ sym (stats_over-append ss (gathered (whole_world V) (take at all_sets)) (places_on at p.blocks own_set))
      ∙ ap (stats_over ss) (sym places_more)

  pub bucket_add_up : (stats : Stats) → AreSets (whole_world V) domain → StatisticsFit (places_at (whole_world V) all_sets) → AreSoFar V domain kind ss key at stats → AddUp stats (stats_over ss (places_on 0 p.blocks own_set))
  bucket_add_up stats are fit so_far =
      let whole = gathered_front (whole_world V) all_sets (take (at + 1) all_sets) first ∙ gathered_whole (whole_world V) all_sets (are_sets_again.buckets kind key (whole_world V) domain are) in
      let front = front_fits (gathered (whole_world V) (take (at + 1) all_sets)) _ (subst StatisticsFit (sym whole) fit) in
      let sums = add_up (gathered (whole_world V) (take at all_sets)) (places_on at p.blocks own_set) (subst StatisticsFit places_more front) ss in
      subst (λ (s : Stats). AddUp s (stats_over ss (places_on 0 p.blocks own_set))) (sym so_far) (subst (AddUp (stats_over ss (gathered (whole_world V) (take at all_sets)))) own_stats sums)
    where
      long : length (take (at + 1) all_sets) ≡ at + 1
      long = let below = below_length at own_set all_sets (bucket_sets rest kind key more) stands in omega (arith, length-take (at + 1) all_sets)

      first : take (at + 1) all_sets ++ drop (length (take (at + 1) all_sets)) all_sets ≡ all_sets
      first = ap (λ n. take (at + 1) all_sets ++ drop n all_sets) long ∙ take-append-drop (at + 1) all_sets

-- they have a value for each statistic
pub bucket_shape : (V : Pieces) (domain : Sets) (kind : Kind) (ss : List Stat) (key : Key) (at : ℕ) (stats : Stats) → AreSoFar V domain kind ss key at stats → HasShape ss stats
bucket_shape V domain kind ss key at stats so_far = subst (HasShape ss) (sym so_far) (shape_over ss (gathered (whole_world V) (take at (bucket_sets V kind key domain))))

-- ---- the end

length-sets : (V : Pieces) (sets : Sets) → AreSets (whole_world V) sets → length sets ≡ length V
length-sets V sets are = sym (length-map sets length) ∙ ap length are ∙ length-map (whole_world V) document_total ∙ length-map V (λ p. p.blocks)

pub bucket_all : (V : Pieces) (domain : Sets) (kind : Kind) (ss : List Stat) (key : Key) (at : ℕ) (stats : Stats) → AreSets (whole_world V) domain → at ≡ length V
    → AreSoFar V domain kind ss key at stats → stats ≡ stats_over ss (places_at (whole_world V) (bucket_sets V kind key domain))
bucket_all V domain kind ss key at stats are ended so_far =
    let again = are_sets_again.buckets kind key (whole_world V) domain are in
    so_far ∙ ap (λ n. stats_over ss (gathered (whole_world V) (take n (bucket_sets V kind key domain)))) (ended ∙ sym (length-sets V (bucket_sets V kind key domain) again))
    ∙ ap (λ l. stats_over ss (gathered (whole_world V) l)) (take-length (bucket_sets V kind key domain))
    ∙ ap (stats_over ss) (gathered_whole (whole_world V) (bucket_sets V kind key domain) again)
