-- A group in parentheses, by what is read behind the first of them.
use Rattle.std.proofs.Common.{◌≡◌, ◌∙◌, ap, Bool, Option, None, Some}
use Rattle.fc_spec.specs.documents.Val.{Text}
use Rattle.fc_spec.specs.words.Options.{◌>>=◌}
use Rattle.fc_spec.specs.queries.QueryTrees.{Atom, nested, Group}
use Rattle.fc_spec.specs.queries.TreeReading.{Row, Reader, past_closing, nested_at}
use Rattle.fc_base.specs.declared.error.Refusal.{Refusal}
use Rattle.fc_base.specs.declared.error.Refusal.TheVariants.{Memory, Fault}
use Rattle.fc_query.specs.declared.fault.QueryFault.TheVariants.{Syntax}
use Rattle.fc_query.specs.declared.fault.QueryFault.{QueryFault}
use Rattle.fc_query.specs.Takes.{Stops, StopsBy}

-- where there is none of one, there is none of another
pub stops_by : {V W : Type 0} (which : QueryFault) (stop : Refusal QueryFault) (d : Option V) (d' : Option W) → (d ≡ None → d' ≡ None) → StopsBy which stop d → StopsBy which stop d'
stops_by which Memory d d' f h = tt
stops_by which (Fault fault) d d' f h = (f h.0, h.1)

pub stops_on : {V W : Type 0} (stop : Refusal QueryFault) (d : Option V) (d' : Option W) → (d ≡ None → d' ≡ None) → Stops stop d → Stops stop d'
stops_on stop d d' f h = stops_by Syntax stop d d' f h

abbrev closed : Option Text → Option (Group × Row) → Option (Atom × Row)
closed name o = o >>= λ g. past_closing g.1 >>= λ left. Some (nested name g.0, left)

pub no_group : (deeper : Reader) (name : Option Text) (b : Bool) (ts : Row) → deeper b ts ≡ None → nested_at deeper name b ts ≡ None
unfolding nested_at
no_group deeper name b ts e = ap (closed name) e

pub not_closed : (deeper : Reader) (name : Option Text) (b : Bool) (ts : Row) (g : Group) (rest : Row) → deeper b ts ≡ Some (g, rest) → past_closing rest ≡ None → nested_at deeper name b ts ≡ None
unfolding nested_at
not_closed deeper name b ts g rest e h = ap (closed name) e ∙ ap (λ o. o >>= λ left. Some (nested name g, left)) h

pub is_closed : (deeper : Reader) (name : Option Text) (b : Bool) (ts : Row) (g : Group) (rest left : Row) → deeper b ts ≡ Some (g, rest) → past_closing rest ≡ Some left → nested_at deeper name b ts ≡ Some (nested name g, left)
unfolding nested_at
is_closed deeper name b ts g rest left e h = ap (closed name) e ∙ ap (λ o. o >>= λ left. Some (nested name g, left)) h
