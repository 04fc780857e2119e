-- The lines over the generations at the ends of phases are an output.
use Rattle.std.proofs.Common.{◌≡◌, ℕ, ◌<◌, ◌≤◌, List, [], ◌∷◌, ◌++◌, length, true, ◌&&◌, ◌==◌, nat_le, slice_index, Ok, Err, refl, arith}
use Rattle.std.specs.Prelude.{All}
use Rattle.std.specs.List.{filter, flat_map, list_all}
use Rattle.std.proofs.lemmas.Bool.{and_from, le-leb, eq-eqb}
use Rattle.std.proofs.lemmas.List.Elements.{All-nil, All-map, All-filter, All-push, All-weaker}
use Rattle.std.proofs.lemmas.List.Sums.{list_all-from_AllPass}
use Rattle.std.proofs.lemmas.List.FromFn.{length-map-range_with_len}
use Rattle.fc_spec.specs.documents.Val.{Text, same_text}
use Rattle.fc_spec.specs.words.Lists.{numbers_below}
use Rattle.fc_spec.specs.scripts.Script.{world, commits_up_to, commits_before}
use Rattle.fc_spec.specs.scripts.Phases.{Search, numbers_at_end, searches}
use Rattle.fc_spec.specs.scripts.AskedScripts.{Asked, AskedScript}
use Rattle.fc_spec.specs.scripts.Outputs.{legal_on, legal, Seen, shown_to, Replies, IsLineThen, AreLinesOf}
use Rattle.fc_spec.specs.scripts.PhaseEnds.{line_in, line_at_end}
use Rattle.fc_spec.specs.laws.ScriptLaws.{EndsAreOutputs}
use Rattle.fc_spec.proofs.words.NumbersBelow.{all_below, at_number}
use Rattle.fc_spec.proofs.scripts.CommitOrder.{commits_later, commits_before_end}
use Rattle.fc_spec.proofs.scripts.RisingPhases.{Climbs, searches_climb}

-- no number passes those at the end of the phase
abbrev IsUpTo : AskedScript → ℕ → List ℕ → Type 0
IsUpTo S p g = (s : ℕ) → s < S.schema.shards → slice_index g s ≤ commits_up_to S.lines s p

abbrev AreUpTo : AskedScript → ℕ → List Seen → Type 0
AreUpTo S p seen = All (λ x. IsUpTo S p x.1) seen

up_to_later : (S : AskedScript) (p q : ℕ) (seen : List Seen) → p ≤ q → AreUpTo S p seen → AreUpTo S q seen
up_to_later S p q seen le = All-weaker (λ x. IsUpTo S p x.1) (λ x. IsUpTo S q x.1) (λ x h s below. let here = h s below in let more = commits_later S s p q le in omega arith) seen

end_number : (S : AskedScript) (p s : ℕ) → s < S.schema.shards → slice_index (numbers_at_end S p) s ≡ commits_up_to S.lines s p
end_number S p s = at_number (λ t. commits_up_to S.lines t p) S.schema.shards s

up_to_end : (S : AskedScript) (p : ℕ) → IsUpTo S p (numbers_at_end S p)
up_to_end S p s below = let is = end_number S p s below in omega arith

shown_up_to : (S : AskedScript) (p : ℕ) (session : Text) (seen : List Seen) → AreUpTo S p seen → All (IsUpTo S p) (shown_to session seen)
shown_up_to S p session seen up =
    All-map (IsUpTo S p) (λ x. x.1) (filter (λ x. same_text session x.0) seen) (All-filter (λ x. same_text session x.0) (λ x. IsUpTo S p x.1) seen up)

legal_end_on : (S : AskedScript) (earlier : List (List ℕ)) (p s : ℕ) → All (IsUpTo S p) earlier → s < S.schema.shards → legal_on S earlier p (numbers_at_end S p) s ≡ true
legal_end_on S earlier p s up below =
    let n = slice_index (numbers_at_end S p) s in
    let is = end_number S p s below in
    let low = le-leb (commits_before S.lines s p) n (let before = commits_before_end S s p in omega arith) in
    let high = le-leb n (commits_up_to S.lines s p) (omega arith) in
    let behind = list_all-from_AllPass (λ e. nat_le (slice_index e s) n) earlier
    (All-weaker (IsUpTo S p) (λ e. nat_le (slice_index e s) n ≡ true) (λ e h. le-leb (slice_index e s) n (let here = h s below in omega arith)) earlier up) in
    and_from (nat_le (commits_before S.lines s p) n && nat_le n (commits_up_to S.lines s p)) (list_all (λ e. nat_le (slice_index e s) n) earlier)
    (and_from (nat_le (commits_before S.lines s p) n) (nat_le n (commits_up_to S.lines s p)) low high) behind

legal_end : (S : AskedScript) (earlier : List (List ℕ)) (p : ℕ) → All (IsUpTo S p) earlier → legal S earlier p (numbers_at_end S p) ≡ true
legal_end S earlier p up =
    let g = numbers_at_end S p in
    and_from (length g == S.schema.shards) (list_all (legal_on S earlier p g) (numbers_below S.schema.shards))
    (eq-eqb (length g) S.schema.shards (length-map-range_with_len (λ s. commits_up_to S.lines s p) 0 S.schema.shards))
    (list_all-from_AllPass (legal_on S earlier p g) (numbers_below S.schema.shards) (all_below (λ s. legal_on S earlier p g s ≡ true) S.schema.shards (λ s below. legal_end_on S earlier p s up below)))

-- ---- line by line

line_at : (reply : Replies) (S : AskedScript) (seen : List Seen) (p : ℕ) (session : Text) (a : Asked) (Rest : List Seen → Text → Type 0) (rest : Text) → AreUpTo S p seen
    → ((now : List Seen) → AreUpTo S p now → Rest now rest) → IsLineThen reply S seen p session a Rest (line_in reply (world S (numbers_at_end S p)) (numbers_at_end S p) session a ++ rest)
line_at reply S seen p session (Err f) Rest rest up next = (rest, refl, next seen up)
line_at reply S seen p session (Ok r) Rest rest up next =
    let g = numbers_at_end S p in
    (g, rest, legal_end S (shown_to session seen) p (shown_up_to S p session seen up), refl, next (seen ++ (session, g) ∷ []) (All-push (λ x. IsUpTo S p x.1) seen (session, g) up (up_to_end S p)))

lines_from : (reply : Replies) (S : AskedScript) (seen : List Seen) (low high : ℕ) (qs : List (Search Asked)) → Climbs low high qs → AreUpTo S low seen → AreLinesOf reply S seen qs (flat_map (line_at_end reply S) qs)
lines_from reply S seen low high [] c up = refl
lines_from reply S seen low high (q ∷ qs) c up =
    line_at reply S seen q.phase q.session q.request (λ now rest. AreLinesOf reply S now qs rest) (flat_map (line_at_end reply S) qs) (up_to_later S low q.phase seen c.0 up)
    (λ now more. lines_from reply S now q.phase high qs c.2 more)

pub ends_are_outputs : EndsAreOutputs
ends_are_outputs reply S = lines_from reply S [] 0 _ (searches S.lines) (searches_climb S.lines) (All-nil (λ x. IsUpTo S 0 x.1))
