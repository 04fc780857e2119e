-- Clauses that are taken one after another, at every document.
use Rattle.std.proofs.Common.{◌≡◌, Bool, true, false, cond, List, ◌∷◌, map, length, refl, sym, ap, ap₂, ◌∙◌}
use Rattle.fc_spec.specs.documents.Sets.{zip_with}
use Rattle.fc_spec.proofs.words.WhereTrue.{length-zip_with, zip_with-map}
use Rattle.fc_spec.specs.documents.Document.{Document}
use Rattle.fc_spec.specs.queries.Matching.{matches, answers, same_need}
use Rattle.fc_spec.specs.queries.Query.{Need, Query, Clauses, no_clauses, clause}
use Rattle.fc_spec.proofs.words.MappedLists.{map-same}
use Rattle.fc_domain.specs.Grouping.{taken, all_taken}

-- what stands now, with what is left, is what stood before, with the whole
pub record IsTakenTo (ds : List Document) (need : Need) (left whole : Clauses) (before : Document → Bool) (new : List Bool) : Type 0 where
  pub now : Document → Bool
  pub is : new ≡ map now ds
  pub same : (d : Document) → all_taken need (now d) (answers left need d) ≡ all_taken need (before d) (answers whole need d)

pub record AreTaken (ds : List Document) (need : Need) (left whole : Clauses) (old new : List Bool) : Type 0 where
  pub size : length new ≡ length old
  pub so_far : (before : Document → Bool) → old ≡ map before ds → IsTakenTo ds need left whole before new

pub none_taken : (ds : List Document) (need : Need) (whole : Clauses) (old : List Bool) → AreTaken ds need whole whole old old
none_taken ds need whole old = record {
  size = refl;
  so_far = λ before is. record { now = before; is = is; same = λ d. refl };
}

answer_first : (n need : Need) (q : Query) (left : Clauses) (d : Document) → same_need n need ≡ true → answers (clause n q left) need d ≡ matches q d ∷ answers left need d
answer_first n need q left d e = ap (λ b. cond b (matches q d ∷ answers left need d) (answers left need d)) e

no_answer : (n need : Need) (q : Query) (left : Clauses) (d : Document) → same_need n need ≡ false → answers (clause n q left) need d ≡ answers left need d
no_answer n need q left d e = ap (λ b. cond b (matches q d ∷ answers left need d) (answers left need d)) e

pub one_taken : (ds : List Document) (need n : Need) (q : Query) (left whole : Clauses) (old mid set new : List Bool) → AreTaken ds need (clause n q left) whole old mid
    → same_need n need ≡ true → set ≡ map (matches q) ds → new ≡ zip_with (taken need) mid set → length mid ≡ length set → AreTaken ds need left whole old new
one_taken ds need n q left whole old mid set new m e answered joined even = record {
  size = ap length joined ∙ length-zip_with (taken need) mid set even ∙ m.size;
  so_far = λ before is. let t = m.so_far before is in record {
    now = λ d. taken need (t.now d) (matches q d);
    is = joined ∙ ap₂ (zip_with (taken need)) t.is answered ∙ zip_with-map (taken need) t.now (matches q) ds;
    same = λ d. ap (all_taken need (t.now d)) (sym (answer_first n need q left d e)) ∙ t.same d;
  };
}

pub none_more_taken : (ds : List Document) (need n : Need) (q : Query) (left whole : Clauses) (old mid : List Bool) → AreTaken ds need (clause n q left) whole old mid
    → same_need n need ≡ false → AreTaken ds need left whole old mid
none_more_taken ds need n q left whole old mid m e = record {
  size = m.size;
  so_far = λ before is. let t = m.so_far before is in record {
    now = t.now;
    is = t.is;
    same = λ d. ap (all_taken need (t.now d)) (sym (no_answer n need q left d e)) ∙ t.same d;
  };
}

pub all_are_taken : (ds : List Document) (need : Need) (whole : Clauses) (old new : List Bool) → AreTaken ds need no_clauses whole old new
    → (before : Document → Bool) → old ≡ map before ds → new ≡ map (λ d. all_taken need (before d) (answers whole need d)) ds
all_are_taken ds need whole old new m before is =
    let t = m.so_far before is in
    t.is ∙ map-same t.now (λ d. all_taken need (before d) (answers whole need d)) ds t.same
