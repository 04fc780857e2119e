-- Tallies that are counted segment by segment.
use Rattle.std.proofs.Common.{◌≡◌, ◌∷◌, ◌++◌, List, [], length, drop, Bool, true, false, cond, ◌&&◌, not, Option, Some, None, refl, sym, ◌∙◌, ap, subst}
use Rattle.std.specs.Option.{ForSome}
use Rattle.std.proofs.lemmas.List.Elements.{filter-append}
use Rattle.std.proofs.lemmas.Option.{same_Some}
use Rattle.fc_spec.specs.documents.Sets.{AreSets, places_at, places_on}
use Rattle.fc_spec.specs.documents.World.{Place}
use Rattle.fc_spec.specs.requests.Buckets.{Key, bucket_places, in_bucket, is_key_of}
use Rattle.fc_spec.specs.requests.Request.{Kind, Stat}
use Rattle.fc_spec.specs.requests.Statistics.{Stats, stats_over}
use Rattle.fc_spec.specs.words.Lists.{is_empty}
use Rattle.fc_partial.specs.Adding.{AddUp}
use Rattle.fc_partial.specs.Fitting.{StatisticsFit}
use Rattle.fc_partial.specs.Tallied.{Tallied}
use Rattle.fc_partial.proofs.Fitting.{filtered_fit, front_fits}
use Rattle.fc_partial.proofs.FittingSums.{add_up}
use Rattle.fc_kind.specs.Collecting.{BucketsAddUp, Collects}
use Rattle.fc_kind.specs.Tallies.{IsTallyOf}
use Rattle.fc_kind.proofs.JoinedTallies.{bucket_same, joins, stats_same}
use Rattle.fc_answers.specs.SetAnswer.{Piece, Pieces, Sets, whole_world}
use Rattle.fc_jobs.specs.Gathered.{IsCountedSoFar, gathered}
use Rattle.fc_jobs.proofs.GatheredPlaces.{first_more, gathered_front, gathered_more, gathered_none, gathered_whole, same_documents, whole_there}

-- ---- the start

-- the tally of no place is empty
pub counted_none : (V : Pieces) (D : Sets) (kind : Kind) (ss : List Stat) → IsCountedSoFar V D kind ss [] (record { stats = ss; entries = [] })
counted_none V D kind ss = record { first = refl; tally = record { stats = refl; entries = λ k. go k (is_key_of kind k) ∙ ap (λ X. wanted k X) (sym (gathered_none 0 (whole_world V))) } }
  where
    wanted : Key → List Place → Option Stats
    wanted k X = cond (is_key_of kind k && not (is_empty (bucket_places kind k X))) (Some (stats_over ss (bucket_places kind k X))) None

    go : (k : Key) (b : Bool) → None ≡ cond (b && false) (Some (stats_over ss [])) None
    go k true = refl
    go k false = refl

-- ---- a step

-- of the places so far and those of the next segment
pub counted_more : (V rest : Pieces) (D domain more : Sets) (kind : Kind) (ss : List Stat) (p : Piece) (set : List Bool) (old new : Tallied)
    → drop (length domain) V ≡ p ∷ rest → drop (length domain) D ≡ set ∷ more
    → IsCountedSoFar V D kind ss domain old → Collects kind ss (places_on 0 p.blocks set) old new → IsCountedSoFar V D kind ss (domain ++ set ∷ []) new
counted_more V rest D domain more kind ss p set old new there next so_far collects = record {
  first = first_more D domain more set so_far.first next;
  tally = subst (λ X. IsTallyOf kind ss X new) (sym (gathered_more (whole_world V) (whole_world rest) domain p.blocks set (whole_there (length domain) V rest p there)))
      (joins kind ss (gathered (whole_world V) domain) (places_on (length domain) p.blocks set) (places_on 0 p.blocks set) old new (same_documents 0 (length domain) p.blocks set) so_far.tally collects);
}

-- what each bucket has adds up with what the next segment's places give
pub counted_add_up : (V rest : Pieces) (D domain more : Sets) (kind : Kind) (ss : List Stat) (p : Piece) (set : List Bool) (t : Tallied)
    → drop (length domain) V ≡ p ∷ rest → drop (length domain) D ≡ set ∷ more → AreSets (whole_world V) D → StatisticsFit (places_at (whole_world V) D)
    → IsCountedSoFar V D kind ss domain t → BucketsAddUp kind ss (places_on 0 p.blocks set) t.entries
counted_add_up V rest D domain more kind ss p set t there next are fit so_far k own =
    subst (λ (o : Option Stats). ForSome o (λ here. AddUp here (stats_over ss (bucket_places kind k (places_on 0 p.blocks set))))) (sym (so_far.tally.entries k))
    (go (is_key_of kind k && not (is_empty (bucket_places kind k (gathered (whole_world V) domain)))))
  where
    both_fit : StatisticsFit (gathered (whole_world V) domain ++ places_on (length domain) p.blocks set)
    both_fit = subst StatisticsFit (gathered_more (whole_world V) (whole_world rest) domain p.blocks set (whole_there (length domain) V rest p there))
        (front_fits (gathered (whole_world V) (domain ++ set ∷ [])) _ (subst StatisticsFit (sym (gathered_front (whole_world V) D (domain ++ set ∷ []) (first_more D domain more set so_far.first next) ∙ gathered_whole (whole_world V) D are)) fit))

    buckets_fit : StatisticsFit (bucket_places kind k (gathered (whole_world V) domain) ++ bucket_places kind k (places_on (length domain) p.blocks set))
    buckets_fit = subst StatisticsFit (filter-append (λ (p : Place). in_bucket kind k p.document) (gathered (whole_world V) domain) (places_on (length domain) p.blocks set))
        (filtered_fit (λ (p : Place). in_bucket kind k p.document) (gathered (whole_world V) domain ++ places_on (length domain) p.blocks set) both_fit)

    here : AddUp (stats_over ss (bucket_places kind k (gathered (whole_world V) domain))) (stats_over ss (bucket_places kind k (places_on 0 p.blocks set)))
    here = subst (AddUp (stats_over ss (bucket_places kind k (gathered (whole_world V) domain))))
        (stats_same (bucket_places kind k (places_on (length domain) p.blocks set)) (bucket_places kind k (places_on 0 p.blocks set))
        (bucket_same kind k (places_on (length domain) p.blocks set) (places_on 0 p.blocks set) (same_documents (length domain) 0 p.blocks set)) ss)
        (add_up (bucket_places kind k (gathered (whole_world V) domain)) (bucket_places kind k (places_on (length domain) p.blocks set)) buckets_fit ss)

    go : (b : Bool) → ForSome (cond b (Some (stats_over ss (bucket_places kind k (gathered (whole_world V) domain)))) None) (λ there. AddUp there (stats_over ss (bucket_places kind k (places_on 0 p.blocks set))))
    go true = (λ s e. subst (λ (x : Stats). AddUp x (stats_over ss (bucket_places kind k (places_on 0 p.blocks set)))) (same_Some _ s e) here)
    go false = λ s e. absurd (cc)

-- ---- the end

-- of all the sets it is the tally of the places at their positions
pub counted_all : (V : Pieces) (D : Sets) (kind : Kind) (ss : List Stat) (t : Tallied) → AreSets (whole_world V) D → IsCountedSoFar V D kind ss D t → IsTallyOf kind ss (places_at (whole_world V) D) t
counted_all V D kind ss t are so_far = subst (λ X. IsTallyOf kind ss X t) (gathered_whole (whole_world V) D are) so_far.tally
