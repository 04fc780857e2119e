-- Wants of facets and values, one after another.
use Rattle.std.proofs.Common.{◌≡◌, ℕ, suc, ◌+◌, List, [], ◌∷◌, ◌++◌, map, ◌∙◌, ap, arith}
use Rattle.std.specs.Prelude.{is_none}
use Rattle.std.specs.List.{filter}
use Rattle.std.proofs.lemmas.List.{map-append}
use Rattle.std.proofs.lemmas.List.Elements.{filter-append}
use Rattle.fc_spec.specs.requests.Buckets.{value}
use Rattle.fc_exact.specs.ToldFacets.{ToldValue, ToldFacet, count_on, wants_in, wants_among}

pub wants_in-append : (i n : ℕ) (vs ws : List ToldValue) → wants_in i n (vs ++ ws) ≡ wants_in i n vs ++ wants_in i n ws
wants_in-append i n vs ws =
    ap (map (λ (t : ToldValue). record { path = []; node = n; key = value t.0 })) (filter-append (λ t. is_none (count_on i t.1)) vs ws)
    ∙ map-append (λ (t : ToldValue). record { path = []; node = n; key = value t.0 }) (filter (λ t. is_none (count_on i t.1)) vs) (filter (λ t. is_none (count_on i t.1)) ws)

pub wants_among-next : (i n : ℕ) (f : ToldFacet) (fs : List ToldFacet) → wants_among i n (f ∷ fs) ≡ wants_in i n f.1 ++ wants_among i (n + 1) fs
wants_among-next i n f fs = ap (λ k. wants_in i n f.1 ++ wants_among i k fs) (let e : suc n ≡ n + 1 = omega arith in e)
