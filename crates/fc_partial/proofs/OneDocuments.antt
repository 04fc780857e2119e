-- Statistics over one place.
use Rattle.std.proofs.Common.{◌≡◌, ℕ, pos, [], ◌∷◌, ◌+◌, Bool, true, false, cond, refl, ap, ◌∙◌, length, append-nil}
use Rattle.std.proofs.lemmas.List.Sums.{sum_by-cons}
use Rattle.fc_spec.specs.documents.Columns.{longs_in}
use Rattle.fc_spec.specs.documents.Document.{values_of}
use Rattle.fc_spec.specs.documents.World.{Place}
use Rattle.fc_spec.specs.requests.Request.{StatKind, sum, min, max, countvals, missing}
use Rattle.fc_spec.specs.requests.Statistics.{number, extreme, total_of, least_of, greatest_of, statistic_in}
use Rattle.fc_spec.specs.words.Lists.{is_empty}
use Rattle.fc_partial.specs.OneDocument.{statistic_of}

-- they are from the values of its document
pub statistic_in-one : (k : StatKind) (field : ℕ) (p : Place) → statistic_in k field (p ∷ []) ≡ statistic_of k (values_of p.document field)
statistic_in-one sum field p = ap (λ vs. number (total_of (longs_in vs))) (append-nil (values_of p.document field))
statistic_in-one min field p = ap (λ vs. extreme (least_of (longs_in vs))) (append-nil (values_of p.document field))
statistic_in-one max field p = ap (λ vs. extreme (greatest_of (longs_in vs))) (append-nil (values_of p.document field))
statistic_in-one countvals field p = ap (λ vs. number (pos (length vs))) (append-nil (values_of p.document field))
statistic_in-one missing field p =
    ap (λ n. number (pos n)) (sum_by-cons (λ (q : Place). cond (is_empty (values_of q.document field)) 1 0) p [] ∙ plus (is_empty (values_of p.document field)))
  where
    plus : (b : Bool) → cond b 1 0 + 0 ≡ cond b 1 0
    plus true = refl
    plus false = refl
