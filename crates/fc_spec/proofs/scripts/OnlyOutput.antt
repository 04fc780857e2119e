-- Where no phase has both a commit and a search, outputs have the numbers at the ends of phases.
use Rattle.std.proofs.Common.{◌≡◌, ℕ, List, [], ◌∷◌, ◌++◌, length, ◌&&◌, ◌==◌, true, nat_le, slice_index, Ok, Err, sym, ◌∙◌, ap, arith}
use Rattle.std.specs.List.{flat_map, list_all, AllByRecursion}
use Rattle.std.proofs.lemmas.Bool.{and_parts, leb-true, eqb-true}
use Rattle.std.proofs.lemmas.List.Sums.{AllPass-from_list_all}
use Rattle.std.proofs.lemmas.List.FromFn.{fill_by_all}
use Rattle.fc_spec.specs.documents.Val.{Text}
use Rattle.fc_spec.specs.words.Lists.{numbers_below}
use Rattle.fc_spec.specs.scripts.Script.{world, commits_up_to, commits_before}
use Rattle.fc_spec.specs.scripts.Phases.{Search, numbers_at_end, searches}
use Rattle.fc_spec.specs.scripts.AskedScripts.{Asked, AskedScript}
use Rattle.fc_spec.specs.scripts.Outputs.{legal_on, legal, shown_to, Seen, Replies, IsLineThen, AreLinesOf, IsOutputBy}
use Rattle.fc_spec.specs.scripts.Lines.{reply_line, error_line}
use Rattle.fc_spec.specs.scripts.PhaseEnds.{line_in, line_at_end, text_at_ends}
use Rattle.fc_spec.specs.laws.ScriptLaws.{are_apart, IsOnlyOutput}
use Rattle.fc_spec.proofs.words.NumbersBelow.{below_all}
use Rattle.fc_spec.proofs.scripts.QuietPhases.{IsQuiet, quiet_phase, quiet_searches}

-- the phase begins with the commits that it ends with
abbrev IsStill : AskedScript → ℕ → Type 0
IsStill S p = (s : ℕ) → commits_up_to S.lines s p ≡ commits_before S.lines s p

only_on : (S : AskedScript) (earlier : List (List ℕ)) (p : ℕ) (g : List ℕ) (s : ℕ) → IsStill S p → legal_on S earlier p g s ≡ true → slice_index g s ≡ commits_up_to S.lines s p
only_on S earlier p g s still ok =
    let low = nat_le (commits_before S.lines s p) (slice_index g s) in
    let high = nat_le (slice_index g s) (commits_up_to S.lines s p) in
    let bounds = and_parts low high (and_parts (low && high) (list_all (λ e. nat_le (slice_index e s) (slice_index g s)) earlier) ok).0 in
    omega (arith, leb-true (commits_before S.lines s p) (slice_index g s) bounds.0, leb-true (slice_index g s) (commits_up_to S.lines s p) bounds.1, still s)

only_numbers : (S : AskedScript) (earlier : List (List ℕ)) (p : ℕ) (g : List ℕ) → IsStill S p → legal S earlier p g ≡ true → g ≡ numbers_at_end S p
only_numbers S earlier p g still ok =
    let parts = and_parts (length g == S.schema.shards) (list_all (legal_on S earlier p g) (numbers_below S.schema.shards)) ok in
    let all = AllPass-from_list_all (legal_on S earlier p g) (numbers_below S.schema.shards) parts.1 in
    fill_by_all (λ s. commits_up_to S.lines s p) g S.schema.shards 0 (eqb-true (length g) S.schema.shards parts.0)
    (λ s below. only_on S earlier p g s still (below_all (λ t. legal_on S earlier p g t ≡ true) S.schema.shards s all below))

-- ---- line by line

only_line : (reply : Replies) (S : AskedScript) (seen : List Seen) (p : ℕ) (session : Text) (a : Asked) (Rest : List Seen → Text → Type 0) (more t : Text) → IsStill S p
    → ((now : List Seen) (rest : Text) → Rest now rest → rest ≡ more) → IsLineThen reply S seen p session a Rest t → t ≡ line_in reply (world S (numbers_at_end S p)) (numbers_at_end S p) session a ++ more
only_line reply S seen p session (Err f) Rest more t still same (rest, is, then) = is ∙ ap (λ u. error_line f session ++ u) (same seen rest then)
only_line reply S seen p session (Ok r) Rest more t still same (g, rest, ok, is, then) =
    is ∙ (λ i. reply_line (reply r (world S (only_numbers S (shown_to session seen) p g still ok i))) (only_numbers S (shown_to session seen) p g still ok i) session
    ++ same (seen ++ (session, g) ∷ []) rest then i)

only_lines : (reply : Replies) (S : AskedScript) (seen : List Seen) (qs : List (Search Asked)) (t : Text) → AllByRecursion (IsQuiet S.lines) qs → AreLinesOf reply S seen qs t → t ≡ flat_map (line_at_end reply S) qs
only_lines reply S seen [] t quiet are = are
only_lines reply S seen (q ∷ qs) t quiet are =
    only_line reply S seen q.phase q.session q.request (λ now rest. AreLinesOf reply S now qs rest) (flat_map (line_at_end reply S) qs) t (λ s. quiet_phase S.lines s q.phase quiet.0)
    (λ now rest h. only_lines reply S now qs rest quiet.1 h) are

only_text : (reply : Replies) (S : AskedScript) (t : Text) → are_apart S ≡ true → IsOutputBy reply S t → t ≡ text_at_ends reply S
only_text reply S t apart out = only_lines reply S [] (searches S.lines) t (quiet_searches S apart) out

pub is_only_output : IsOnlyOutput
is_only_output reply S t u apart out other = only_text reply S t apart out ∙ sym (only_text reply S u apart other)
