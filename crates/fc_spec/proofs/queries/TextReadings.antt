-- What a query text means is what its trees say.
use Rattle.std.proofs.Common.{◌≡◌, ◌∙◌, ap, refl, sym, inl, inr, List, Option, None, Some, Result, Err, ok_or}
use Rattle.std.specs.Option.{option_and_then}
use Rattle.fc_spec.specs.documents.Val.{Text}
use Rattle.fc_spec.specs.documents.Schema.{Schema}
use Rattle.fc_spec.specs.queries.Query.{Query}
use Rattle.fc_spec.specs.queries.QueryFault.{QueryFault, syntax}
use Rattle.fc_spec.specs.queries.QueryTokens.{Token}
use Rattle.fc_spec.specs.queries.QueryRow.{tokens_of}
use Rattle.fc_spec.specs.queries.QueryTrees.{Group, group_tokens}
use Rattle.fc_spec.specs.queries.QueryMeaning.{tree_query}
use Rattle.fc_spec.specs.queries.QueryTexts.{query_of, IsTreeOf, IsReadingOf}
use Rattle.fc_spec.specs.laws.QueryReadingLaw.{HasOneReading}
use Rattle.fc_spec.specs.queries.TreeReading.{tree_of}
use Rattle.fc_spec.specs.words.Walks.{◌>>=◌}
use Rattle.fc_spec.proofs.queries.TreesOfTokens.{tree_again, tree_spells, one_tree}

-- the trees of the text give r, and no other
abbrev OneReading : Schema → Text → Result Query QueryFault → Type 0
OneReading s t r = IsReadingOf s t r × ((q : Result Query QueryFault) → IsReadingOf s t q → q ≡ r)

-- the tree of a text whose tokens have one
pub tree_is : (t : Text) (ts : List Token) (g : Group) → tokens_of t ≡ Some ts → tree_of ts ≡ Some g → IsTreeOf t g
tree_is t ts g e h = let spelled = tree_spells ts g h in (spelled.0, e ∙ ap (λ x. Some x) spelled.1)

-- a text whose tokens have no tree has none
pub no_tree : (t : Text) (ts : List Token) → tokens_of t ≡ Some ts → tree_of ts ≡ None → (g : Group) → IsTreeOf t g → ⊥
no_tree t ts e h g tree =
    let same : Some ts ≡ Some (group_tokens g) = sym e ∙ tree.1 in
    let row : ts ≡ group_tokens g = cc in
    let found : None ≡ Some g = sym h ∙ ap tree_of row ∙ tree_again g tree.0 in
    cc

-- nor has a text without tokens
no_row : (t : Text) → tokens_of t ≡ None → (g : Group) → IsTreeOf t g → ⊥
no_row t e g tree = let none : None ≡ Some (group_tokens g) = sym e ∙ tree.1 in cc

same_tree : (t : Text) (g h : Group) → IsTreeOf t g → IsTreeOf t h → g ≡ h
same_tree t g h p q = let row : Some (group_tokens g) ≡ Some (group_tokens h) = sym p.1 ∙ q.1 in one_tree g h p.0 q.0 (cc)

with_tree : (s : Schema) (t : Text) (g : Group) → IsTreeOf t g → OneReading s t (tree_query s g)
with_tree s t g tree = (inl (g, tree, refl), λ q reading. other q reading)
  where
    other : (q : Result Query QueryFault) → IsReadingOf s t q → q ≡ tree_query s g
    other q (inl h) = h.2 ∙ ap (tree_query s) (same_tree t h.0 g h.1 tree)
    other q (inr h) = absurd (h.0 g tree)

without_tree : (s : Schema) (t : Text) → ((g : Group) → IsTreeOf t g → ⊥) → OneReading s t (Err syntax)
without_tree s t none = (inr (none, refl), λ q reading. other q reading)
  where
    other : (q : Result Query QueryFault) → IsReadingOf s t q → q ≡ Err syntax
    other q (inl h) = absurd (none h.0 h.1)
    other q (inr h) = h.1

-- what the tree means, if there is one
meant : Schema → Option Group → Result Query QueryFault
meant s o = ok_or o syntax >>= tree_query s

of_row : (s : Schema) (t : Text) (ts : List Token) (o : Option Group) → tokens_of t ≡ Some ts → tree_of ts ≡ o → OneReading s t (meant s o)
unfolding meant
of_row s t ts None e h = without_tree s t (no_tree t ts e h)
of_row s t ts (Some g) e h = with_tree s t g (tree_is t ts g e h)

of_text : (s : Schema) (t : Text) (o : Option (List Token)) → tokens_of t ≡ o → OneReading s t (meant s (option_and_then tree_of o))
unfolding meant
of_text s t None e = without_tree s t (no_row t e)
of_text s t (Some ts) e = of_row s t ts (tree_of ts) e refl

pub one_reading : HasOneReading
unfolding meant query_of
one_reading s t = of_text s t (tokens_of t) refl
