-- Sets whose first positions are decided, one position after another.
use Rattle.std.proofs.Common.{◌≡◌, ℕ, suc, ◌+◌, ◌-◌, ◌<◌, ◌≤◌, List, [], ◌∷◌, ◌++◌, length, get_or, set, take, replicate, Bool, true, false, sym, ap, ap₂, ◌∙◌, arith, append_assoc, length-append}
use Rattle.std.proofs.lemmas.List.{append-nil, length-replicate, length_push, replicate-append-replicate, set_at, get_or-append_right, get_or-replicate, length-take}
use Rattle.std.proofs.Math.Seq.{take-append_seam}
use Rattle.fc_segment.specs.Begun.{begun}

pub length-begun : (len : ℕ) (marks : List Bool) → length marks ≤ len → length (begun len marks) ≡ len
length-begun len marks few =
    length-append marks (replicate (len - length marks) false) ∙ ap (λ n. length marks + n) (length-replicate (len - length marks) false) ∙ omega arith

pub take-begun : (len from : ℕ) (marks : List Bool) → from ≡ length marks → take from (begun len marks) ≡ marks
take-begun len from marks is = ap (λ n. take n (begun len marks)) is ∙ take-append_seam marks (replicate (len - length marks) false)

-- all positions are decided
pub begun-whole : (len : ℕ) (marks : List Bool) → len ≡ length marks → begun len marks ≡ marks
begun-whole len marks is =
    let none : len - length marks ≡ 0 = omega arith in
    ap (λ n. marks ++ replicate n false) none ∙ append-nil marks

-- a set that is begun says so itself
pub begun_itself : (marks all : List Bool) (len from : ℕ) → all ≡ begun len marks → from ≡ length marks → length marks ≤ len → all ≡ begun (length all) (take from all)
begun_itself marks all len from is first few =
    is ∙ ap₂ begun (sym (ap length is ∙ length-begun len marks few)) (sym (ap (take from) is ∙ take-begun len from marks first))

-- what is not decided is out
pub out_of_begun : (len at : ℕ) (marks : List Bool) → length marks ≤ at → at < len → get_or (begun len marks) at false ≡ false
out_of_begun len at marks behind within =
    get_or-append_right marks (replicate (len - length marks) false) (length marks) at false (let same : length marks ≡ length marks = omega arith in same) behind
    ∙ get_or-replicate (len - length marks) (at - length marks) false false (omega arith)

-- one more position
pub set-begun : (len at : ℕ) (marks : List Bool) (here : Bool) → at ≡ length marks → at < len → set (begun len marks) at here ≡ begun len (marks ++ here ∷ [])
set-begun len at marks here first within =
    let rest = replicate (len - length (marks ++ here ∷ [])) false in
    let more : len - length marks ≡ suc (len - length (marks ++ here ∷ [])) = omega (arith, length_push marks here) in
    ap (λ n. set (marks ++ replicate n false) at here) more
    ∙ set_at marks false rest here at (sym first)
    ∙ sym (append_assoc marks (here ∷ []) rest)

-- positions that stay out
pub skip-begun : (len count : ℕ) (marks : List Bool) → length marks + count ≤ len → begun len marks ≡ begun len (marks ++ replicate count false)
skip-begun len count marks few =
    let here = length-append marks (replicate count false) ∙ ap (λ n. length marks + n) (length-replicate count false) in
    let rest : len - length marks ≡ count + (len - length (marks ++ replicate count false)) = omega (arith, here) in
    ap (λ n. marks ++ replicate n false) rest
    ∙ ap (λ l. marks ++ l) (sym (replicate-append-replicate count (len - length (marks ++ replicate count false)) false))
    ∙ sym (append_assoc marks (replicate count false) (replicate (len - length (marks ++ replicate count false)) false))

-- the children of a block, and then its parent
pub block-begun : (len from children at : ℕ) (all : List Bool) → all ≡ begun len (take from all) → length all ≡ len → at ≡ from + children → at < len
    → set all at true ≡ begun len (take from all ++ (replicate children false ++ true ∷ []))
block-begun len from children at all is size place within =
    let marks = take from all in
    let first : length marks ≡ from = length-take from all ∙ omega arith in
    let here = length-append marks (replicate children false) ∙ ap (λ n. length marks + n) (length-replicate children false) in
    ap (λ l. set l at true) (is ∙ skip-begun len children marks (omega arith))
    ∙ set-begun len at (marks ++ replicate children false) true (omega (arith, here)) within
    ∙ ap (begun len) (append_assoc marks (replicate children false) (true ∷ []))
