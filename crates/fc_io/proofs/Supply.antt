-- What a source in memory has left.
use Rattle.std.proofs.Common.{◌≡◌, ◌<◌, ℕ, ◌+◌, ◌-◌, min, List, [], ◌++◌, length, take, drop, sym, ap, ◌∙◌, arith}
use Rattle.std.proofs.lemmas.List.{take-append-drop, drop-drop, nil_from_length}
use Rattle.fc_io.proofs.Known.{rest_behind}

-- a read gives the front of what is left
pub front_given : (bytes whole buf left : List ℕ) (at n : ℕ) → whole ≡ bytes → drop at bytes ≡ left
    → take n buf ≡ take n (take (length whole - at) (drop at whole)) → left ≡ take n buf ++ drop (at + n) bytes
front_given bytes whole buf left at n same is copied =
    let front : take n buf ≡ take n (drop at bytes) = copied ∙ ap (take n) (rest_behind whole at) ∙ ap (λ b. take n (drop at b)) same in
    sym is ∙ sym (take-append-drop n (drop at bytes)) ∙ ap (λ l. l ++ drop n (drop at bytes)) (sym front) ∙ ap (λ l. take n buf ++ l) (drop-drop n at bytes)

-- where there is room and a read gives nothing, nothing is left
pub none_left : (bytes whole left : List ℕ) (at piece room n : ℕ) → whole ≡ bytes → drop at bytes ≡ left → 0 < piece → 0 < room
    → n ≡ min piece (min room (length (take (length whole - at) (drop at whole)))) → n ≡ 0 → left ≡ []
none_left bytes whole left at piece room n same is some_piece some_room count none =
    let rest : take (length whole - at) (drop at whole) ≡ left = rest_behind whole at ∙ ap (drop at) same ∙ is in
    let size = ap length rest in
    nil_from_length left (omega (arith, size))
