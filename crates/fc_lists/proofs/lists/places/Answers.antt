use Rattle.std.proofs.Common.{◌+◌, ◌<◌, length, get_or, ap, ◌∙◌, arith}
use Rattle.std.proofs.lemmas.List.FromFn.{length-range_with_len, get_or-range_with_len}
use Rattle.fc_lists.specs.Starts.{starts_in}
use Rattle.fc_lists.proofs.lists.places.Goals as goal

pub returns-in-None-clause-start : goal.returns-in-None-clause-start
returns-in-None-clause-start c =
    let count = c.args.count in
    let at = c.args.at in
    let none = c.in-None.is in
    let size = ap (λ s. length (starts_in s count)) none ∙ length-range_with_len 0 (count + 1) in
    let within : at < count + 1 = omega (arith, size, c.requires.within) in
    let first = ap (λ s. get_or (starts_in s count) 0 0) none ∙ get_or-range_with_len 0 (count + 1) 0 0 (omega arith) in
    let here = ap (λ s. get_or (starts_in s count) at 0) none ∙ get_or-range_with_len 0 (count + 1) at 0 within in
    omega (arith, first, here)

pub returns-in-None-clause-end : goal.returns-in-None-clause-end
returns-in-None-clause-end c =
    let count = c.args.count in
    let at = c.args.at in
    let none = c.in-None.is in
    let size = ap (λ s. length (starts_in s count)) none ∙ length-range_with_len 0 (count + 1) in
    let within : at + 1 < count + 1 = omega (arith, size, c.requires.within) in
    let first = ap (λ s. get_or (starts_in s count) 0 0) none ∙ get_or-range_with_len 0 (count + 1) 0 0 (omega arith) in
    let next = ap (λ s. get_or (starts_in s count) (at + 1) 0) none ∙ get_or-range_with_len 0 (count + 1) (at + 1) 0 within in
    omega (arith, first, next)
