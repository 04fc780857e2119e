-- The sessions of a script are few and differ.
use Rattle.std.proofs.Common.{◌≡◌, ◌≤◌, List, [], ◌∷◌, length, not, true, false, Bool, refl, subst, arith}
use Rattle.std.specs.Prelude.{All, AllPairs}
use Rattle.std.specs.List.{filter, filter_map}
use Rattle.std.proofs.lemmas.Bool.{leb-true}
use Rattle.std.proofs.lemmas.List.Elements.{All-cons, All-nil}
use Rattle.std.proofs.lemmas.List.Kept.{AllPairs-cons, AllPairs-filter}
use Rattle.fc_spec.specs.documents.Val.{Text, same_text}
use Rattle.fc_spec.specs.scripts.AskedScripts.{AskedScript}
use Rattle.fc_spec.specs.scripts.ScriptParts.{parts_of}
use Rattle.fc_spec.specs.scripts.ScriptTotals.{first_ones, script_limits, session_in, sessions}
use Rattle.fc_spec.specs.scripts.ValidScripts.{IsWithin}
use Rattle.fc_script.specs.PartsView.{parts_view}
use Rattle.fc_script.specs.declared.script.Script.{Script}

abbrev Differ : Text → Text → Type 0
Differ a b = same_text a b ≡ false

kept_differ : (t : Text) (us : List Text) → All (Differ t) (filter (λ u. not (same_text t u)) us)
kept_differ t [] = All-nil (Differ t)
kept_differ t (u ∷ us) = go (same_text t u) refl (kept_differ t us)
  where
    go : (b : Bool) → same_text t u ≡ b → All (Differ t) (filter (λ v. not (same_text t v)) us) → All (Differ t) (filter (λ v. not (same_text t v)) (u ∷ us))
    go true e rest = rw e rest
    go false e rest = rw e (All-cons (Differ t) u (filter (λ v. not (same_text t v)) us) e rest)

first_ones_differ : (ts : List Text) → AllPairs Differ (first_ones ts)
first_ones_differ [] = λ i j d less below. absurd (omega arith)
first_ones_differ (t ∷ ts) =
    AllPairs-cons Differ t (filter (λ u. not (same_text t u)) (first_ones ts)) (kept_differ t (first_ones ts)) (AllPairs-filter Differ (λ u. not (same_text t u)) (first_ones ts) (first_ones_differ ts))

pub sessions_differ : (S : AskedScript) (s : Script) → parts_of S ≡ parts_view s → AllPairs (λ a b. same_text a b ≡ false) s.sessions.items
sessions_differ S s is = subst (λ parts. AllPairs Differ parts.sessions) is (first_ones_differ (filter_map session_in S.lines))

pub sessions_few : (S : AskedScript) (s : Script) → parts_of S ≡ parts_view s → IsWithin script_limits S → length s.sessions.items ≤ 16
sessions_few S s is within = subst (λ parts. length parts.sessions ≤ 16) is (leb-true (length (sessions S.lines)) 16 within.sessions)
