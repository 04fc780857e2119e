use Rattle.std.proofs.Common.{◌≡◌, ℕ, suc, ◌+◌, ◌<◌, ◌≤◌, ◌==◌, [], map, length, get_or, true, refl, sym, ◌∙◌, ap, subst, arith}
use Rattle.std.specs.Prelude.{option_map}
use Rattle.std.proofs.lemmas.Bool.{eqb-true}
use Rattle.std.proofs.lemmas.List.{length-map, nil_from_length}
use Rattle.fc_spec.specs.words.Lists.{is_empty}
use Rattle.fc_spec.specs.messages.Lacks.{terms_depth}
use Rattle.fc_refine.specs.AskView.{ask_view}
use Rattle.fc_lacks.specs.LackView.{lack_view}
use Rattle.fc_coord.specs.State.{State, asks_for, begun}
use Rattle.fc_coord.specs.TreeReading.{lacking_in, IsFound}
use Rattle.fc_coord.specs.View.{asks_view, IsKeptAt}
use Rattle.fc_coord.specs.CoordView.{state_view}
use Rattle.fc_coord.proofs.AskLists.{member_at, positive}
use Rattle.fc_coord.proofs.Beginning.{length-asks_for}
use Rattle.fc_coord.proofs.Kept.{kept_somehow, lacks_there, round_counts, nothing_below, found_next, begins_for, ready_kept_at, round_kept_at}
use Rattle.fc_coord.proofs.StateAfter.{settled, round_kept}
use Rattle.fc_coord.proofs.coord.Coord.go_on.Goals as goal

pub next_lacks-requires-clause-below : goal.next_lacks-requires-clause-below
next_lacks-requires-clause-below c =
    let s = state_view c.args.self.now in
    let depth = c.args.self.now.next_depth in
    let shards : c.len-shards.result ≡ length s.asks = c.len-shards.ensures ∙ c.args.self.now.asks.ok.0 ∙ sym (length-map c.args.self.now.asks.items (option_map ask_view)) in
    subst (λ n. (d : ℕ) → d < depth → is_empty (lacking_in s.request n s.tree d) ≡ true) (sym shards) (nothing_below s depth c.lacking_is_untold.ensures (c.args.self.now.kept c.requires.not_spent) c.requires.heard)

pub invariant_of-self-then-is_empty-clause-kept : goal.invariant_of-self-then-is_empty-clause-kept
invariant_of-self-then-is_empty-clause-kept c =
    let s = state_view c.args.self.now in
    let depth = c.args.self.now.next_depth in
    let all = map lack_view c.in_ok-next.next.lacks.items in
    let shards : c.len-shards.result ≡ length s.asks = c.len-shards.ensures ∙ c.args.self.now.asks.ok.0 ∙ sym (length-map c.args.self.now.asks.items (option_map ask_view)) in
    let found = subst (λ n. IsFound (lacking_in s.request n s.tree) (terms_depth s.request.nodes) c.in_ok-next.next.depth all) shards c.in_ok-next.ensures in
    let nothing : all ≡ [] = nil_from_length all (length-map c.in_ok-next.next.lacks.items lack_view ∙ sym c.in_ok-next.next.lacks.ok.0 ∙ eqb-true c.in_ok-next.next.lacks.len 0 (sym c.is_empty.ensures ∙ c.if-is_empty.true)) in
    λ _. subst (λ (x : State). ∥ IsKeptAt (record x { ready = true }) depth ∥₁) (settled s c.requires.not_ready c.requires.not_spent)
    (ready_kept_at s depth c.in_ok-next.next.depth all c.lacking_is_untold.ensures (c.args.self.now.kept c.requires.not_spent) c.requires.heard found nothing)

pub invariant_of-self-then-is_empty-clause-done : goal.invariant_of-self-then-is_empty-clause-done
invariant_of-self-then-is_empty-clause-done c = λ _. c.requires.heard

pub returns-then-is_empty-clause-state : goal.returns-then-is_empty-clause-state
returns-then-is_empty-clause-state c = λ A k.
    let s = state_view c.args.self.now in
    let all = map lack_view c.in_ok-next.next.lacks.items in
    let shards : c.len-shards.result ≡ length s.asks = c.len-shards.ensures ∙ c.args.self.now.asks.ok.0 ∙ sym (length-map c.args.self.now.asks.items (option_map ask_view)) in
    let found = subst (λ n. IsFound (lacking_in s.request n s.tree) (terms_depth s.request.nodes) c.in_ok-next.next.depth all) shards c.in_ok-next.ensures in
    let nothing : all ≡ [] = nil_from_length all (length-map c.in_ok-next.next.lacks.items lack_view ∙ sym c.in_ok-next.next.lacks.ok.0 ∙ eqb-true c.in_ok-next.next.lacks.len 0 (sym c.is_empty.ensures ∙ c.if-is_empty.true)) in
    ap (λ (x : State). record x { ready = true }) (sym (settled s c.requires.not_ready c.requires.not_spent)) ∙ ap (begun s) (sym nothing ∙ found_next s c.in_ok-next.next.depth all c.lacking_is_untold.ensures found A k.tree)

pub asks_for-requires : goal.asks_for-requires
asks_for-requires c =
    let s = state_view c.args.self.now in
    let all = map lack_view c.in_ok-next.next.lacks.items in
    let shards : c.len-shards.result ≡ length s.asks = c.len-shards.ensures ∙ c.args.self.now.asks.ok.0 ∙ sym (length-map c.args.self.now.asks.items (option_map ask_view)) in
    let found = subst (λ n. IsFound (lacking_in s.request n s.tree) (terms_depth s.request.nodes) c.in_ok-next.next.depth all) shards c.in_ok-next.ensures in
    let next = found_next s c.in_ok-next.next.depth all c.lacking_is_untold.ensures found in
    let kept = kept_somehow s c.args.self.now.next_depth (c.args.self.now.kept c.requires.not_spent) in
    λ k d less.
    let there = lacks_there s all kept next (lack_view (get_or c.in_ok-next.next.lacks.items k d)) (member_at lack_view c.in_ok-next.next.lacks.items k d less) in
    subst (λ n. (get_or c.in_ok-next.next.lacks.items k d).shard < n) (sym shards) there

pub overflow_add-self-2 : goal.overflow_add-self-2
overflow_add-self-2 c =
    let s = state_view c.args.self.now in
    let all = map lack_view c.in_ok-next.next.lacks.items in
    let shards : c.len-shards.result ≡ length s.asks = c.len-shards.ensures ∙ c.args.self.now.asks.ok.0 ∙ sym (length-map c.args.self.now.asks.items (option_map ask_view)) in
    let found = subst (λ n. IsFound (lacking_in s.request n s.tree) (terms_depth s.request.nodes) c.in_ok-next.next.depth all) shards c.in_ok-next.ensures in
    let next = found_next s c.in_ok-next.next.depth all c.lacking_is_untold.ensures found in
    let kept = kept_somehow s c.args.self.now.next_depth (c.args.self.now.kept c.requires.not_spent) in
    let some : 0 < length all = positive (length all) (ap (λ n. n == 0) (length-map c.in_ok-next.next.lacks.items lack_view) ∙ ap (λ n. n == 0) (sym c.in_ok-next.next.lacks.ok.0) ∙ sym c.is_empty.ensures ∙ c.if-is_empty.false) in
    let counted : s.round ≤ terms_depth s.request.nodes = round_counts s all kept c.requires.heard next some in
    let bound = c.args.self.now.depth in
    omega arith

pub invariant_of-self-2-clause-kept : goal.invariant_of-self-2-clause-kept
invariant_of-self-2-clause-kept c =
    let s = state_view c.args.self.now in
    let f = c.in_ok-next.next.depth in
    let all = map lack_view c.in_ok-next.next.lacks.items in
    let shards : c.len-shards.result ≡ length s.asks = c.len-shards.ensures ∙ c.args.self.now.asks.ok.0 ∙ sym (length-map c.args.self.now.asks.items (option_map ask_view)) in
    let found = subst (λ n. IsFound (lacking_in s.request n s.tree) (terms_depth s.request.nodes) f all) shards c.in_ok-next.ensures in
    let some : 0 < length all = positive (length all) (ap (λ n. n == 0) (length-map c.in_ok-next.next.lacks.items lack_view) ∙ ap (λ n. n == 0) (sym c.in_ok-next.next.lacks.ok.0) ∙ sym c.is_empty.ensures ∙ c.if-is_empty.false) in
    let own = c.in_ok-self.ensures ∙ ap (λ n. asks_for n all) shards in
    let kept = round_kept_at s c.args.self.now.next_depth f all c.lacking_is_untold.ensures (c.args.self.now.kept c.requires.not_spent) c.requires.heard found some in
    let asks = asks_view c.in_ok-self.field-0.items in
    λ _. subst (λ (x : State). ∥ IsKeptAt (record x { asks = asks; round = s.round + 1 }) (f + 1) ∥₁) (settled s c.requires.not_ready c.requires.not_spent) (round_kept s all asks (s.round + 1) f (f + 1) kept own refl refl)

pub returns-clause-state : goal.returns-clause-state
returns-clause-state c = λ A k.
    let s = state_view c.args.self.now in
    let all = map lack_view c.in_ok-next.next.lacks.items in
    let shards : c.len-shards.result ≡ length s.asks = c.len-shards.ensures ∙ c.args.self.now.asks.ok.0 ∙ sym (length-map c.args.self.now.asks.items (option_map ask_view)) in
    let found = subst (λ n. IsFound (lacking_in s.request n s.tree) (terms_depth s.request.nodes) c.in_ok-next.next.depth all) shards c.in_ok-next.ensures in
    let some : 0 < length all = positive (length all) (ap (λ n. n == 0) (length-map c.in_ok-next.next.lacks.items lack_view) ∙ ap (λ n. n == 0) (sym c.in_ok-next.next.lacks.ok.0) ∙ sym c.is_empty.ensures ∙ c.if-is_empty.false) in
    let own = c.in_ok-self.ensures ∙ ap (λ n. asks_for n all) shards in
    let open_again = sym (settled s c.requires.not_ready c.requires.not_spent) in
    let counted : s.round + 1 ≡ suc s.round = omega arith in
    (λ j. record (open_again j) { asks = own j; round = counted j }) ∙ sym (begins_for s all some) ∙ ap (begun s) (found_next s c.in_ok-next.next.depth all c.lacking_is_untold.ensures found A k.tree)

pub invariant_of-self-2-clause-shards : goal.invariant_of-self-2-clause-shards
invariant_of-self-2-clause-shards c =
    let len : length c.in_ok-self.field-0.items ≡ length c.args.self.now.asks.items =
    sym (length-map c.in_ok-self.field-0.items (option_map ask_view)) ∙ ap length c.in_ok-self.ensures ∙ length-asks_for c.len-shards.result (map lack_view c.in_ok-next.next.lacks.items) ∙ c.len-shards.ensures ∙ c.args.self.now.asks.ok.0 in
    let few = c.args.self.now.shards in
    omega arith
