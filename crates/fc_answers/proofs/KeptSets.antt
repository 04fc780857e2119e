-- The sets of a shard's answer, kept at the live positions of its segments, are those of their live blocks.
use Rattle.std.proofs.Common.{◌≡◌, ℕ, zero, suc, List, [], ◌∷◌, ◌++◌, map, length, replicate, Bool, true, false, ◌&&◌, refl, sym, ◌∙◌, ap, ap₂}
use Rattle.std.specs.List.{items_where_true}
use Rattle.std.proofs.lemmas.List.Elements.{All-head, All-tail}
use Rattle.fc_spec.specs.words.Lists.{joined}
use Rattle.fc_spec.specs.documents.Document.{Document}
use Rattle.fc_spec.specs.documents.Totals.{documents_in, document_total}
use Rattle.fc_spec.specs.documents.Sets.{zip_with, passing, passing_of, AreSets, each_two, each_set}
use Rattle.fc_spec.specs.documents.Live.{live_in}
use Rattle.fc_spec.specs.requests.Request.{Kind, Facet}
use Rattle.fc_spec.specs.requests.Base.{meets_base}
use Rattle.fc_spec.specs.requests.Buckets.{Key, in_bucket}
use Rattle.fc_spec.specs.requests.DomainSets.{changed_set, bucket_set}
use Rattle.fc_spec.proofs.documents.LiveBlocks.{live_documents}
use Rattle.fc_spec.proofs.documents.LiveSets.{passing_on_live, passing_of_on_live, changes_on_live}
use Rattle.fc_answers.specs.SetAnswer.{Piece, Pieces, live_world, AreWhole, Sets, Scope, base_in, domain_sets, bucket_sets, nowhere}
use Rattle.fc_answers.specs.LiveSets.{AreLive}
use Rattle.fc_answers.proofs.LiveSets.{IsWhole, base_in_live}
use Rattle.fc_answers.proofs.LivePlaces.{kept, length-kept}

kept_passed : (live passes : List Bool) → items_where_true live (zip_with ◌&&◌ live passes) ≡ items_where_true live passes
kept_passed [] passes = refl
kept_passed (here ∷ live) [] = refl
kept_passed (true ∷ live) (x ∷ passes) = ap (λ l. x ∷ l) (kept_passed live passes)
kept_passed (false ∷ live) (x ∷ passes) = kept_passed live passes

-- the live documents that pass
kept_passing : (t : Document → Bool) (p : Piece) → IsWhole p → items_where_true p.live (passing_of t p.blocks p.live) ≡ passing t (live_in p.blocks p.live)
kept_passing t p whole = kept_passed p.live (passing t p.blocks) ∙ passing_on_live t p.blocks p.live whole

pub kept_all_passing : (t : Document → Bool) (V : Pieces) → AreWhole V → kept V (map (λ p. passing_of t p.blocks p.live) V) ≡ map (passing t) (live_world V)
kept_all_passing t [] whole = refl
kept_all_passing t (p ∷ V) whole = ap₂ (λ k l. k ∷ l) (kept_passing t p (All-head IsWhole p V whole)) (kept_all_passing t V (All-tail IsWhole p V whole))

-- what a document of the base that is rebuilt in a bucket meets
abbrev pub meets_in : Scope → Facet → Document → Bool
meets_in o f d = o.meets d && meets_base o.request (o.excluded ++ f.change.exclude) d

pub kept_domains : (o : Scope) (V : Pieces) (f : Facet) (sets : Sets) → AreWhole V → AreLive V sets
    → kept V (domain_sets o V f sets) ≡ each_two (changed_set f.change) (live_world V) (map (passing (meets_in o f)) (live_world V)) (kept V sets)
kept_domains o [] f [] whole are = refl
kept_domains o [] f (set ∷ sets) whole are = absurd are
kept_domains o (p ∷ V) f [] whole are = absurd are
kept_domains o (p ∷ V) f (set ∷ sets) whole are =
    let first = All-head IsWhole p V whole in
    ap₂ (λ k l. k ∷ l)
    (changes_on_live f.change p.blocks p.live (base_in o f.change.exclude p) set first (base_in_live o f.change.exclude p first).count (are.0).count
    ∙ ap (λ base. changed_set f.change (live_in p.blocks p.live) base (items_where_true p.live set)) (kept_passing (meets_in o f) p first))
    (kept_domains o V f sets (All-tail IsWhole p V whole) are.1)

pub kept_buckets : (V : Pieces) (kind : Kind) (key : Key) (sets : Sets) → AreWhole V → AreLive V sets
    → kept V (bucket_sets V kind key sets) ≡ each_set (bucket_set kind key) (live_world V) (kept V sets)
kept_buckets [] kind key [] whole are = refl
kept_buckets [] kind key (set ∷ sets) whole are = absurd are
kept_buckets (p ∷ V) kind key [] whole are = absurd are
kept_buckets (p ∷ V) kind key (set ∷ sets) whole are =
    ap₂ (λ k l. k ∷ l) (passing_of_on_live (in_bucket kind key) p.blocks p.live set (All-head IsWhole p V whole) (are.0).count)
    (kept_buckets V kind key sets (All-tail IsWhole p V whole) are.1)

-- a set for each list of live blocks
pub kept_are_sets : (V : Pieces) (sets : Sets) → AreWhole V → AreLive V sets → AreSets (live_world V) (kept V sets)
kept_are_sets [] [] whole are = refl
kept_are_sets [] (set ∷ sets) whole are = absurd are
kept_are_sets (p ∷ V) [] whole are = absurd are
kept_are_sets (p ∷ V) (set ∷ sets) whole are =
    let size : length (items_where_true p.live set) ≡ document_total (live_in p.blocks p.live) =
    length-kept p.live set (documents_in p.blocks) (are.0).count ∙ ap length (sym (live_documents p.blocks p.live (All-head IsWhole p V whole))) in
    λ i. size i ∷ kept_are_sets V sets (All-tail IsWhole p V whole) are.1 i

-- ---- no position

none_kept : {X : Type 0} (live : List Bool) (n : ℕ) (others : List Bool) (xs : List X) → ((ys : List X) → items_where_true others ys ≡ [])
    → items_where_true (items_where_true live (replicate n false) ++ others) xs ≡ []
none_kept [] n others xs none = none xs
none_kept (here ∷ live) zero others xs none = none xs
none_kept (true ∷ live) (suc n) others [] none = refl
none_kept (true ∷ live) (suc n) others (x ∷ xs) none = none_kept live n others xs none
none_kept (false ∷ live) (suc n) others xs none = none_kept live n others xs none

pub nothing_there : {X : Type 0} (V : Pieces) (xs : List X) → items_where_true (joined (kept V (nowhere V).sets)) xs ≡ []
nothing_there [] xs = refl
nothing_there (p ∷ V) xs = none_kept p.live (document_total p.blocks) (joined (kept V (nowhere V).sets)) xs (nothing_there V)
