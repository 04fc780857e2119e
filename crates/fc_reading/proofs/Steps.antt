-- One node after another.
use Rattle.std.proofs.Common.{◌≡◌, ℕ, zero, suc, ◌+◌, List, [], ◌∷◌, ◌++◌, map, drop, Bool, true, false, Option, None, Some, option_map, is_some, refl, ap, sym, ◌∙◌, append_assoc, add-one, ◌&&◌, arith}
use Rattle.std.specs.Prelude.{slice_get}
use Rattle.std.specs.List.{enumerate_from}
use Rattle.std.proofs.lemmas.Bool.{true≢false, false≢true}
use Rattle.std.proofs.lemmas.List.{map-append}
use Rattle.fc_spec.specs.requests.Request.{Stat, Nodes, no_nodes, stats_of}
use Rattle.fc_spec.specs.requests.RequestReading.{of_statistic, of_facet}
use Rattle.fc_spec.specs.requests.Statistics.{StatValue, Stats}
use Rattle.fc_spec.specs.replies.Reply.{Facets, Bucket}
use Rattle.fc_spec.specs.replies.Reading.{Reading}
use Rattle.fc_request.specs.NodeView.{Part}
use Rattle.fc_reply.specs.declared.reply.ReplyFacet.{ReplyFacet}
use Rattle.fc_reply.specs.declared.reply.ReplyBucket.{ReplyBucket}
use Rattle.fc_reply.specs.ReplyView.{facet_view, facets_over, bucket_view, facet_over}
use Rattle.fc_refine.specs.CountableRanges.{AreCountable}
use Rattle.fc_reading.specs.Tree.{HasValue, node_before, one_more_if, statistics_after}
use Rattle.fc_reading.proofs.Rows.{facets_more}

-- ---- what is left of a list

pub at_front : {X : Type 0} (m : ℕ) (xs : List X) (v : X) (vs : List X) → drop m xs ≡ v ∷ vs → slice_get xs m ≡ Some v
at_front zero xs v vs h = ap (λ l. slice_get l 0) h
at_front (suc m) [] v vs h = absurd (cc h)
at_front (suc m) (x ∷ xs) v vs h = at_front m xs v vs h

pub past_front : {X : Type 0} (m : ℕ) (xs : List X) (v : X) (vs : List X) → drop m xs ≡ v ∷ vs → drop (suc m) xs ≡ vs
past_front zero xs v vs h = ap (drop 1) h
past_front (suc m) [] v vs h = absurd (cc h)
past_front (suc m) (x ∷ xs) v vs h = past_front m xs v vs h

-- ---- the first of the nodes that are left

pub countable_first : (p : Part) (rest : Nodes) → AreCountable (node_before p rest) → AreCountable (node_before p no_nodes)
countable_first (name, of_statistic s) rest h = tt
countable_first (name, of_facet change kind inner) rest h = (h.0, h.1, tt)

pub countable_others : (p : Part) (rest : Nodes) → AreCountable (node_before p rest) → AreCountable rest
countable_others (name, of_statistic s) rest h = h
countable_others (name, of_facet change kind inner) rest h = h.2

module _ {B D : Type 0} (R : Reading B D) (H : List ℕ) (X : B) where
  abbrev pub numbered : ℕ × Stat → StatValue
  numbered s = R.statistic_on s.0 s.1 H X

  pub value_first : (stats : Stats) (p : Part) (rest : Nodes) (m : ℕ) → drop m stats.values ≡ map numbered (enumerate_from m (stats_of (node_before p rest))) → HasValue R H X stats p m
  value_first stats (name, of_statistic st) rest m h s is =
      at_front m stats.values (numbered (m, st)) (map numbered (enumerate_from (m + 1) (stats_of rest))) h ∙ ap (λ o. option_map (λ s. R.statistic_on m s H X) o) is
  value_first stats (name, of_facet change kind inner) rest m h s is = absurd (cc is)

  pub values_others : (values : List StatValue) (p : Part) (rest : Nodes) (m : ℕ) → drop m values ≡ map numbered (enumerate_from m (stats_of (node_before p rest)))
      → drop (statistics_after p m) values ≡ map numbered (enumerate_from (statistics_after p m) (stats_of rest))
  values_others values (name, of_statistic st) rest m h =
      past_front m values (numbered (m, st)) (map numbered (enumerate_from (m + 1) (stats_of rest))) h ∙ ap (λ k. map numbered (enumerate_from k (stats_of rest))) (add-one m)
  values_others values (name, of_facet change kind inner) rest m h = h

-- ---- how many statistics there were

pub one_more : (o : Option Stat) (m : ℕ) → is_some o ≡ true → one_more_if o m ≡ m + 1
one_more None m h = absurd (false≢true h)
one_more (Some s) m h = omega arith

pub no_more : (o : Option Stat) (m : ℕ) → is_some o ≡ false → one_more_if o m ≡ m
no_more None m h = refl
no_more (Some s) m h = absurd (true≢false h)

-- ---- what is printed so far

pub facet_printed : (done printed : List ReplyFacet) (o : Option ReplyFacet) (f : ReplyFacet) (more all whole : Facets) → o ≡ Some f → printed ≡ done ++ f ∷ []
    → facets_over (map facet_view done) all ≡ whole → facet_over (option_map facet_view o) more ≡ all → facets_over (map facet_view printed) more ≡ whole
facet_printed done printed o f more all whole there pushed so_far put =
    ap (λ fs. facets_over (map facet_view fs) more) pushed ∙ facets_more done f more
    ∙ ap (facets_over (map facet_view done)) (ap (λ o. facet_over (option_map facet_view o) more) (sym there) ∙ put) ∙ so_far

pub nothing_printed : (done printed : List ReplyFacet) (o : Option ReplyFacet) (more all whole : Facets) → o ≡ None → printed ≡ done
    → facets_over (map facet_view done) all ≡ whole → facet_over (option_map facet_view o) more ≡ all → facets_over (map facet_view printed) more ≡ whole
nothing_printed done printed o more all whole there same so_far put =
    ap (λ fs. facets_over (map facet_view fs) more) same
    ∙ ap (facets_over (map facet_view done)) (ap (λ o. facet_over (option_map facet_view o) more) (sym there) ∙ put) ∙ so_far

-- one more bucket of those that are left
pub bucket_made : {P : Type 0} (F : P → Bucket) (done : List ReplyBucket) (b : ReplyBucket) (p : P) (rest left : List P) (whole : List Bucket) → left ≡ p ∷ rest → bucket_view b ≡ F p
    → map bucket_view done ++ map F left ≡ whole → map bucket_view (done ++ b ∷ []) ++ map F rest ≡ whole
bucket_made F done b p rest left whole first made so_far =
    ap (λ l. l ++ map F rest) (map-append bucket_view done (b ∷ [])) ∙ append_assoc (map bucket_view done) (bucket_view b ∷ []) (map F rest)
    ∙ ap (λ x. map bucket_view done ++ (x ∷ map F rest)) made ∙ ap (λ l. map bucket_view done ++ map F l) (sym first) ∙ so_far

-- ---- both tests

pub first_fails : (a b : Bool) → a ≡ false → (a && b) ≡ false
first_fails true b h = absurd (true≢false h)
first_fails false b h = refl

pub second_fails : (a b : Bool) → b ≡ false → (a && b) ≡ false
second_fails true b h = h
second_fails false b h = refl
