-- Which documents a query matches. Guide: Standard Query Parser, "Boolean Operators Supported by the Standard Query Parser".
use Rattle.std.specs.Prelude.{List, [], ◌∷◌, Bool, true, false, not, ◌&&◌, ◌||◌, if◌then◌else◌}
use Rattle.std.specs.List.{list_any, list_all}
use Rattle.std.specs.Ordering.{is_lt, is_le}
use Rattle.fc_spec.specs.documents.Val.{val_cmp, has_val, Val}
use Rattle.fc_spec.specs.documents.Document.{Document, values_of}
use Rattle.fc_spec.specs.words.Lists.{is_empty}
use Rattle.fc_spec.specs.queries.Query.{Bound, unbounded, including, excluding, Need, must, must_not, may, Query, all, has, is, between, group, Clauses, no_clauses, clause}

-- the value meets the lower bound
abbrev pub is_above : Bound → Val → Bool
is_above unbounded x = true
is_above (including v) x = is_le (val_cmp v x)
is_above (excluding v) x = is_lt (val_cmp v x)

-- the value meets the upper bound
abbrev pub is_below : Bound → Val → Bool
is_below unbounded x = true
is_below (including v) x = is_le (val_cmp x v)
is_below (excluding v) x = is_lt (val_cmp x v)

-- the two are one
abbrev pub same_need : Need → Need → Bool
same_need must must = true
same_need must_not must_not = true
same_need may may = true
same_need _ _ = false

-- every required clause matches, no forbidden one does, and where none is required and some is optional, an optional one does
abbrev pub group_matches : (required forbidden optional : List Bool) → Bool
group_matches required forbidden optional =
    list_all (λ b. b) required && not (list_any (λ b. b) forbidden) && (not (is_empty required) || is_empty optional || list_any (λ b. b) optional)

abbrev mutual
  -- the document matches the query
  pub matches : Query → Document → Bool
  matches all d = true
  matches (has f) d = not (is_empty (values_of d f))
  matches (is f v) d = has_val v (values_of d f)
  matches (between f low high) d = list_any (λ x. is_above low x && is_below high x) (values_of d f)
  matches (group cs) d = group_matches (answers cs must d) (answers cs must_not d) (answers cs may d)

  -- of each clause with this need, whether it matches
  pub answers : Clauses → Need → Document → List Bool
  answers no_clauses need d = []
  answers (clause n q cs) need d = if same_need n need then matches q d ∷ answers cs need d else answers cs need d
