-- The clauses of a query so far.
use Rattle.std.proofs.Common.{◌≡◌, ◌∙◌, ap, sym, refl, ℕ, List, [], ◌∷◌, ◌++◌, Option, None, Some, option_map}
use Rattle.fc_spec.specs.words.Options.{◌>>=◌}
use Rattle.fc_spec.specs.documents.Schema.{Schema}
use Rattle.fc_spec.specs.queries.Query.{Query, Clauses, no_clauses, clause}
use Rattle.fc_spec.specs.queries.QueryTrees.{Group}
use Rattle.fc_spec.specs.queries.QueryMeaning.{clauses_query, atom_query, need_of, next_operator}
use Rattle.fc_query.specs.TreeView as tree
use Rattle.fc_query.specs.QueryView.{Part, linked}

-- these clauses, and then others
abbrev pub onto : List Part → Clauses → Clauses
onto [] cs = cs
onto (p ∷ ps) cs = clause p.0 p.1 (onto ps cs)

onto_more : (before : List Part) (p : Part) (cs : Clauses) → onto before (clause p.0 p.1 cs) ≡ onto (before ++ p ∷ []) cs
onto_more [] p cs = refl
onto_more (b ∷ before) p cs = ap (clause b.0 b.1) (onto_more before p cs)

onto_end : (before : List Part) → onto before no_clauses ≡ linked before
onto_end [] = refl
onto_end (b ∷ before) = ap (clause b.0 b.1) (onto_end before)

-- those before, and those of what is left, are the whole
pub record AreSoFar (s : Schema) (around : Option ℕ) (before : List Part) (left : Group) (whole : Option Clauses) : Type 0 where
  pub same : option_map (onto before) (clauses_query s around left) ≡ whole

more_map : (before : List Part) (p : Part) (o : Option Clauses) → option_map (onto before) (o >>= λ cs. Some (clause p.0 p.1 cs)) ≡ option_map (onto (before ++ p ∷ [])) o
more_map before p None = refl
more_map before p (Some cs) = ap (λ x. Some x) (onto_more before p cs)

pub one_more : (s : Schema) (around : Option ℕ) (before : List Part) (c : tree.Part) (left : List tree.Part) (q : Query) (whole : Option Clauses) → atom_query s around c.2 ≡ Some q
    → AreSoFar s around before (tree.linked (c ∷ left)) whole → AreSoFar s around (before ++ (need_of c.1 c.0 (next_operator (tree.linked left)), q) ∷ []) (tree.linked left) whole
one_more s around before c left q whole e h =
    let need = need_of c.1 c.0 (next_operator (tree.linked left)) in
    record {
      same = sym (more_map before (need, q) (clauses_query s around (tree.linked left)))
          ∙ ap (λ o. option_map (onto before) (o >>= λ x. clauses_query s around (tree.linked left) >>= λ cs. Some (clause need x cs))) (sym e)
          ∙ h.same;
    }

pub all_read : (s : Schema) (around : Option ℕ) (before : List Part) (whole : Option Clauses) → AreSoFar s around before (tree.linked []) whole → whole ≡ Some (linked before)
all_read s around before whole h = sym h.same ∙ ap (λ x. Some x) (onto_end before)
