-- A bound that no rank reaches.
use Rattle.std.proofs.Common.{◌≡◌, ℕ, ◌≤◌, List, length, get_or, true, false, ◌∙◌, arith, lt-ltb}
use Rattle.std.specs.Prelude.{nat_lt, None, Some}
use Rattle.std.proofs.lemmas.Bool.{false_from_ne_true, both_ways}
use Rattle.fc_spec.specs.requests.Request.{Sort}
use Rattle.fc_spec.specs.requests.Ranks.{Entry, is_ahead, rank, below_rank}
use Rattle.fc_spec.proofs.requests.EntryOrder.{is_ahead_one_way}
use Rattle.fc_spec.proofs.words.Counting.{filter_agrees_within, filter-all}
use Rattle.fc_spec.proofs.words.Rests.{count_by-less}

not_ahead_of_itself : (s : Sort) (e : Entry) → is_ahead s e e ≡ false
not_ahead_of_itself s e = false_from_ne_true (is_ahead s e e) (λ h. both_ways (is_ahead s e e) (is_ahead_one_way s e e h) h)

pub unbounded : (s : Sort) (V : List Entry) → below_rank s None V ≡ V
unbounded s V = filter-all V

pub bounded_by_length : (s : Sort) (b : ℕ) (V : List Entry) → length V ≤ b → below_rank s (Some b) V ≡ V
bounded_by_length s b V few =
    filter_agrees_within (λ e. nat_lt (rank s V e) b) (λ e. true) V
    (λ k d l. let at = get_or V k d in
    let below = count_by-less (λ w. is_ahead s w at) V k d l (not_ahead_of_itself s at) in
    lt-ltb (rank s V at) b (omega (arith, below, few)))
    ∙ filter-all V
