-- The base that is rebuilt inside buckets.
use Rattle.std.proofs.Common.{◌≡◌, ℕ, suc, ◌+◌, ◌<◌, List, [], ◌∷◌, ◌++◌, drop, drop-cons, length, get_or, Bool, true, false, ◌&&◌, refl, sym, ◌∙◌, ap, ap₂, append_assoc, append-nil, add-one}
use Rattle.std.specs.List.{list_all}
use Rattle.std.proofs.Math.Bool.{and-true, and_comm}
use Rattle.std.proofs.lemmas.List.Folds.{list_all-append}
use Rattle.fc_spec.specs.documents.Document.{Block, Document}
use Rattle.fc_spec.specs.documents.Sets.{passing_of}
use Rattle.fc_spec.specs.documents.Val.{Text}
use Rattle.fc_spec.specs.queries.Matching.{matches}
use Rattle.fc_spec.specs.requests.Base.{meets_base}
use Rattle.fc_spec.specs.requests.Buckets.{in_bucket}
use Rattle.fc_spec.specs.requests.DomainSets.{bucket_set}
use Rattle.fc_spec.specs.requests.Paths.{at_root}
use Rattle.fc_spec.specs.requests.Request.{Request}
use Rattle.fc_domain.proofs.StepSets.{passing_of-passing_of}
use Rattle.fc_partial.specs.View.{key_view}
use Rattle.fc_request.specs.FacetNode.{facet_view, kind_of, kind_view}
use Rattle.fc_answers.specs.SetAnswer.{Piece, Scope, base_in, scope_on}
use Rattle.fc_jobs.specs.BasesKept.{kept_base}
use Rattle.fc_jobs.specs.Scopes.{filters_in, scope_from, scope_inside, scope_over, selected_inside, tags_in}
use Rattle.fc_jobs.specs.declared.enclosing.Enclosing.{Enclosing}

-- one more facet around
pub scope_push : (o : Scope) (xs : List Enclosing) (x : Enclosing) → scope_from o (xs ++ x ∷ []) ≡ scope_inside (scope_from o xs) x
scope_push o [] x = refl
scope_push o (y ∷ xs) x = scope_push (scope_inside o y) xs x

-- what they exclude
excluded_from : (o : Scope) (xs : List Enclosing) → (scope_from o xs).excluded ≡ o.excluded ++ tags_in xs
excluded_from o [] = sym (append-nil o.excluded)
excluded_from o (x ∷ xs) = excluded_from (scope_inside o x) xs ∙ append_assoc o.excluded (facet_view x.node.now).change.exclude (tags_in xs)

request_from : (o : Scope) (xs : List Enclosing) → (scope_from o xs).request ≡ o.request
request_from o [] = refl
request_from o (x ∷ xs) = request_from (scope_inside o x) xs

pub tags_push : (xs : List Enclosing) (x : Enclosing) → tags_in (xs ++ x ∷ []) ≡ tags_in xs ++ (facet_view x.node.now).change.exclude
tags_push [] x = append-nil (facet_view x.node.now).change.exclude
tags_push (y ∷ xs) x = ap (λ ts. (facet_view y.node.now).change.exclude ++ ts) (tags_push xs x) ∙ sym (append_assoc (facet_view y.node.now).change.exclude (tags_in xs) (facet_view x.node.now).change.exclude)

-- ---- tests one after another

tests_turned : (m b t w u : Bool) → (m && (b && (t && w))) && u ≡ (m && t && u) && (b && w)
tests_turned false b t w u = refl
tests_turned true true true w u = and_comm w u
tests_turned true true false w u = refl
tests_turned true false true w true = refl
tests_turned true false true w false = refl
tests_turned true false false w u = refl

module _ (p : Piece) where
  -- the live documents that pass
  abbrev live_passing : (Document → Bool) → List Bool
  live_passing test = passing_of test p.blocks p.live

  -- the filters of one facet come before the filters of those in it, and then its bucket
  one_inside : (m b t w u : Document → Bool) → passing_of u p.blocks (live_passing (λ d. m d && (b d && (t d && w d)))) ≡ live_passing (λ d. (m d && t d && u d) && (b d && w d))
  one_inside m b t w u =
      passing_of-passing_of u (λ d. m d && (b d && (t d && w d))) p.blocks p.live ∙ (λ i. live_passing (λ d. tests_turned (m d) (b d) (t d) (w d) (u d) i))

  inside_is : (b : Document → Bool) (o : Scope) (xs : List Enclosing)
      → selected_inside p.blocks xs (live_passing (λ d. o.meets d && (b d && list_all (λ q. matches q d) (filters_in xs)))) ≡ live_passing (λ d. (scope_from o xs).meets d && b d)
  inside_is b o [] = λ i. live_passing (λ d. o.meets d && and-true (b d) i)
  inside_is b o (x ∷ xs) =
      let f = facet_view x.node.now in
      let own : Document → Bool = λ d. in_bucket f.kind (key_view x.key.now) d in
      ap (selected_inside p.blocks xs)
      ((λ i. passing_of own p.blocks (live_passing (λ d. o.meets d && (b d && list_all-append (λ q. matches q d) f.change.filters (filters_in xs) i))))
      ∙ one_inside o.meets b (λ d. list_all (λ q. matches q d) f.change.filters) (λ d. list_all (λ q. matches q d) (filters_in xs)) own)
      ∙ inside_is b (scope_inside o x) xs

  -- what is kept by all their filters first, and then by their buckets
  pub rebuilt_is : (r : Request) (xs : List Enclosing) (tags : List Text) → selected_inside p.blocks xs (kept_base r (tags_in xs ++ tags) (filters_in xs) p) ≡ base_in (scope_over r xs) tags p
  rebuilt_is r xs tags =
      ap (selected_inside p.blocks xs) (passing_of-passing_of (λ d. list_all (λ q. matches q d) (filters_in xs)) (meets_base r (tags_in xs ++ tags)) p.blocks p.live)
      ∙ inside_is (meets_base r (tags_in xs ++ tags)) (scope_on r at_root) xs
      ∙ ap₂ (λ q ts. live_passing (λ d. (scope_over r xs).meets d && meets_base q (ts ++ tags) d)) (sym (request_from (scope_on r at_root) xs)) (sym (excluded_from (scope_on r at_root) xs))

-- the buckets that are left to take, from one facet on
pub inside_from : (blocks : List Block) (xs : List Enclosing) (i : ℕ) (x : Enclosing) (set : List Bool) → i < length xs → x ≡ get_or xs i x
    → selected_inside blocks (drop i xs) set ≡ selected_inside blocks (drop (i + 1) xs) (bucket_set (kind_view (kind_of x.node.now)) (key_view x.key.now) blocks set)
inside_from blocks xs i x set within is = ap (λ ys. selected_inside blocks ys set) (drop-cons xs i x within ∙ ap (λ y. y ∷ drop (suc i) xs) (sym is) ∙ ap (λ j. x ∷ drop j xs) (sym (add-one i)))
