-- The jobs of buckets that stand behind each other.
use Rattle.std.proofs.Common.{◌≡◌, ℕ, ◌<◌, List, [], ◌∷◌, ◌++◌, length, refl, sym, ◌∙◌, ap, arith}
use Rattle.std.proofs.lemmas.List.{append_assoc}
use Rattle.fc_spec.specs.messages.Message.{Partials, no_partials, partial, Rows}
use Rattle.fc_partial.specs.BucketView.{Part, linked}
use Rattle.fc_levels.specs.Jobs.{opened, opened_inside, opened_in_rows, openings}
use Rattle.fc_levels.specs.Levels.{put}
use Rattle.fc_units.specs.Asked.{followed}
use Rattle.fc_units.specs.Built.{zeroed}

pub openings-put : (bs : List Part) (ps : Partials) → openings (put bs ps) ≡ openings (linked bs) ++ openings ps
openings-put [] ps = refl
openings-put (b ∷ bs) ps = ap (λ l. (0 ∷ opened_in_rows b.rows) ++ l) (openings-put bs ps) ∙ sym (append_assoc (0 ∷ opened_in_rows b.rows) (openings (linked bs)) (openings ps))

pub openings-followed : (ps qs : Partials) → openings (followed ps qs) ≡ openings ps ++ openings qs
openings-followed no_partials qs = refl
openings-followed (partial k stats rows rest) qs = ap (λ l. (0 ∷ opened_in_rows rows) ++ l) (openings-followed rest qs) ∙ sym (append_assoc (0 ∷ opened_in_rows rows) (openings rest) (openings qs))

-- one bucket by itself
pub openings_of_one : (k : _) (stats : _) (rows : Rows) → openings (partial k stats rows no_partials) ≡ zeroed (opened (partial k stats rows no_partials) ∷ opened_inside (partial k stats rows no_partials))
openings_of_one k stats rows = refl

-- what comes first stays so without the first number
pub zeroed-append : (xs ys : List ℕ) → 0 < length xs → zeroed (xs ++ ys) ≡ zeroed xs ++ ys
zeroed-append [] ys h = absurd (omega (arith, h))
zeroed-append (x ∷ xs) ys h = refl
