-- What is made of what was told is made of it facet by facet and value by value.
use Rattle.std.proofs.Common.{◌≡◌, ℕ, suc, List, [], ◌∷◌, ◌++◌, map, length, Bool, true, false, cond, ◌&&◌, ◌==◌, Option, Some, refl, sym, ◌∙◌, ap}
use Rattle.std.specs.Prelude.{is_none, sum, unwrap_or}
use Rattle.std.specs.List.{filter}
use Rattle.fc_spec.specs.documents.Val.{Val, same_val}
use Rattle.fc_spec.specs.requests.Buckets.{value}
use Rattle.fc_spec.specs.requests.Least.{least_count}
use Rattle.fc_spec.specs.requests.Request.{Kind, terms, range, date_range, query, Nodes, no_nodes, statistic, facet}
use Rattle.fc_spec.specs.replies.Tops.{printed_values, top_bound}
use Rattle.fc_spec.specs.messages.Message.{Want}
use Rattle.fc_spec.specs.messages.TopRounds.{ToldCount, values_told, count_told, entry_told, entries_told, least_asked, leasts_from, wants_at, wants_from, tops_told_of, tops_told_from}
use Rattle.fc_exact.specs.ToldFacets.{Count, ToldValue, told_of_facet, counts_of, values_in, facets_in, count_on, total_entry, least_in, least_of, printed_in, printed_of, wants_in, wants_among}

-- ---- one value

abbrev counted : ToldCount → Count
counted a = (a.shard, a.count)

module _ (n : ℕ) (v : Val) (i : ℕ) (a : ToldCount) (A : List ToldCount) (later : count_on i (counts_of v (told_of_facet A n)) ≡ count_told A n v i) where
  abbrev rest : List ToldCount
  rest = told_of_facet A n

  abbrev found : Bool → Bool → Bool → Option ℕ
  found b c d = cond (b && c && d) (Some a.count) (count_told A n v i)

  passed : (c : Bool) → found true c false ≡ count_told A n v i
  passed false = refl
  passed true = refl

  on_shard : (c : Bool) → cond c (Some a.count) (count_on i (counts_of v rest)) ≡ found true c true
  on_shard false = later
  on_shard true = refl

  of_value : (d : Bool) → count_on i (map counted (cond d (a ∷ filter (λ b. same_val v b.val) rest) (filter (λ b. same_val v b.val) rest))) ≡ found true (a.shard == i) d
  of_value false = later ∙ sym (passed (a.shard == i))
  of_value true = on_shard (a.shard == i)

  of_facet : (b : Bool) → count_on i (counts_of v (cond b (a ∷ rest) rest)) ≡ found b (a.shard == i) (same_val v a.val)
  of_facet false = later
  of_facet true = of_value (same_val v a.val)

count_is : (A : List ToldCount) (n : ℕ) (v : Val) (i : ℕ) → count_on i (counts_of v (told_of_facet A n)) ≡ count_told A n v i
count_is [] n v i = refl
count_is (a ∷ A) n v i = of_facet n v i a A (count_is A n v i) (a.node == n)

abbrev told_value : List ToldCount → ℕ → Val → ToldValue
told_value A n v = (v, counts_of v (told_of_facet A n))

entry_is : (A : List ToldCount) (H : List ℕ) (n : ℕ) (v : Val) → total_entry H (told_value A n v) ≡ entry_told A H n v
entry_is A H n v j = record { val = v; stats = record { count = sum (map (λ i. unwrap_or (count_is A n v i j) 0) H); values = [] } }

-- ---- one facet

entries_map : (A : List ToldCount) (H : List ℕ) (n : ℕ) (vs : List Val) → map (total_entry H) (map (told_value A n) vs) ≡ map (entry_told A H n) vs
entries_map A H n [] = refl
entries_map A H n (v ∷ vs) = λ j. entry_is A H n v j ∷ entries_map A H n vs j

pub entries_are : (A : List ToldCount) (H : List ℕ) (n : ℕ) → map (total_entry H) (values_in (told_of_facet A n)) ≡ entries_told A H n
entries_are A H n = entries_map A H n (values_told A n)

least_is : (A : List ToldCount) (H : List ℕ) (n : ℕ) (k : Kind) → least_in H k (values_in (told_of_facet A n)) ≡ least_asked A H n k
least_is A H n (terms t) = ap (least_count (length H) (top_bound t)) (entries_are A H n)
least_is A H n (range g) = refl
least_is A H n (date_range g) = refl
least_is A H n (query q) = refl

printed_is : (A : List ToldCount) (H : List ℕ) (n : ℕ) (k : Kind) → printed_in H k (values_in (told_of_facet A n)) ≡ tops_told_of A H n k
printed_is A H n (terms t) = ap (printed_values t) (entries_are A H n)
printed_is A H n (range g) = refl
printed_is A H n (date_range g) = refl
printed_is A H n (query q) = refl

abbrev want_of : ℕ → Val → Want
want_of n v = record { path = []; node = n; key = value v }

-- those that a shard has not told
abbrev untold : ℕ → List ToldValue → List ToldValue
untold i vs = filter (λ t. is_none (count_on i t.1)) vs

abbrev untold_values : List ToldCount → ℕ → ℕ → List Val → List Val
untold_values A n i vs = filter (λ v. is_none (count_told A n v i)) vs

wants_map : (A : List ToldCount) (i n : ℕ) (vs : List Val) → wants_in i n (map (told_value A n) vs) ≡ map (want_of n) (untold_values A n i vs)
wants_map A i n [] = refl
wants_map A i n (v ∷ vs) =
    ap (λ o. map (λ (t : ToldValue). want_of n t.0) (cond (is_none o) (told_value A n v ∷ untold i (map (told_value A n) vs)) (untold i (map (told_value A n) vs)))) (count_is A n v i)
    ∙ chosen (is_none (count_told A n v i)) (wants_map A i n vs)
  where
    chosen : (b : Bool) → wants_in i n (map (told_value A n) vs) ≡ map (want_of n) (untold_values A n i vs)
        → map (λ (t : ToldValue). want_of n t.0) (cond b (told_value A n v ∷ untold i (map (told_value A n) vs)) (untold i (map (told_value A n) vs)))
        ≡ map (want_of n) (cond b (v ∷ untold_values A n i vs) (untold_values A n i vs))
    chosen true h = ap (λ ws. want_of n v ∷ ws) h
    chosen false h = h

wants_is : (A : List ToldCount) (i n : ℕ) → wants_in i n (values_in (told_of_facet A n)) ≡ wants_at A i n
wants_is A i n = wants_map A i n (values_told A n)

-- ---- all facets

pub leasts_are : (A : List ToldCount) (H : List ℕ) (nodes : Nodes) (n : ℕ) → map (least_of H) (facets_in A nodes n) ≡ leasts_from A H nodes n
leasts_are A H no_nodes n = refl
leasts_are A H (statistic name s more) n = leasts_are A H more n
leasts_are A H (facet f inner more) n = λ j. least_is A H n f.kind j ∷ leasts_are A H more (suc n) j

pub tops_are : (A : List ToldCount) (H : List ℕ) (nodes : Nodes) (n : ℕ) → map (printed_of H) (facets_in A nodes n) ≡ tops_told_from A H nodes n
tops_are A H no_nodes n = refl
tops_are A H (statistic name s more) n = tops_are A H more n
tops_are A H (facet f inner more) n = λ j. printed_is A H n f.kind j ∷ tops_are A H more (suc n) j

pub wants_are : (A : List ToldCount) (i : ℕ) (nodes : Nodes) (n : ℕ) → wants_among i n (facets_in A nodes n) ≡ wants_from A i nodes n
wants_are A i no_nodes n = refl
wants_are A i (statistic name s more) n = wants_are A i more n
wants_are A i (facet f inner more) n = λ j. wants_is A i n j ++ wants_are A i more (suc n) j
