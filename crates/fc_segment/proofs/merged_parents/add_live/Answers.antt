use Rattle.std.proofs.Common.{◌≡◌, ◌≤◌, ◌<◌, ◌+◌, ◌++◌, ◌∷◌, [], ◌∙◌, ℕ, Bool, List, false, get_or, length, map, set, take, sym, ap, subst, arith, append_assoc, length-append}
use Rattle.std.proofs.lemmas.List.{append-nil, length-map, length-take, length_push, map-append}
use Rattle.fc_lists.proofs.KeptRows.{rows_picked, next_below}
use Rattle.fc_docset.specs.Positions.{positions}
use Rattle.fc_segment.specs.Begun.{begun}
use Rattle.fc_segment.proofs.Begun.{length-begun, out_of_begun, set-begun}
use Rattle.fc_segment.proofs.MergedMarks.{length-positions, one_of_live}
use Rattle.fc_segment.proofs.merged_parents.add_live.Goals as goal

-- what was there, and which of the positions so far are parents
made : List Bool → ℕ → List Bool → List ℕ → List Bool
made old from parents done = take from old ++ map (λ at. get_or parents at false) done

length-made : (old : List Bool) (from : ℕ) (parents : List Bool) (done : List ℕ) → from ≤ length old → length (made old from parents done) ≡ from + length done
unfolding made
length-made old from parents done few =
    omega (arith, length-append (take from old) (map (λ at. get_or parents at false) done), length-take from old, length-map done (λ at. get_or parents at false))

pub contains-requires : goal.contains-requires
contains-requires c =
    subst (λ n. c.in-Some.at < n) c.requires.even
    (next_below c.args.live.now c.loop-at.yielded c.in-Some.at c.next.new.self (rw c.in-Some.ensures.steps at c.loop-at.invariant.left))

pub put-requires-clause-within : goal.put-requires-clause-within
unfolding made
put-requires-clause-within c =
    let old = c.args.set.now in
    let few = one_of_live c.args.live.now c.loop-at.yielded c.next.new.self c.in-Some.at (rw c.in-Some.ensures.steps at c.loop-at.invariant.left) in
    let long = length-made old c.args.from c.args.parents.now c.loop-at.yielded (omega (arith, c.requires.room)) in
    omega (arith, ap length c.loop-at.invariant.set, length-begun (length old) (made old c.args.from c.args.parents.now c.loop-at.yielded) (omega (arith, long, few, c.requires.room)), c.loop-at.invariant.next, few, c.requires.room)

pub put-requires-clause-none : goal.put-requires-clause-none
unfolding made
put-requires-clause-none c =
    let old = c.args.set.now in
    let few = one_of_live c.args.live.now c.loop-at.yielded c.next.new.self c.in-Some.at (rw c.in-Some.ensures.steps at c.loop-at.invariant.left) in
    let long = length-made old c.args.from c.args.parents.now c.loop-at.yielded (omega (arith, c.requires.room)) in
    ap (λ l. get_or l c.loop-at.next false) c.loop-at.invariant.set
    ∙ out_of_begun (length old) c.loop-at.next (made old c.args.from c.args.parents.now c.loop-at.yielded) (omega (arith, long, c.loop-at.invariant.next)) (omega (arith, c.loop-at.invariant.next, few, c.requires.room))

pub overflow_add-next : goal.overflow_add-next
overflow_add-next c =
    let few = one_of_live c.args.live.now c.loop-at.yielded c.next.new.self c.in-Some.at (rw c.in-Some.ensures.steps at c.loop-at.invariant.left) in
    omega (arith, c.len-len.ensures, c.loop-at.invariant.next, few, c.requires.room)

pub loop-at-preserved : goal.loop-at-preserved
unfolding made
loop-at-preserved c =
    let old = c.args.set.now in
    let from = c.args.from in
    let parents = c.args.parents.now in
    let done = c.loop-at.yielded in
    let at = c.in-Some.at in
    let mark = λ (k : ℕ). get_or parents k false in
    let read : done ++ at ∷ c.next.new.self ≡ positions c.args.live.now = rw c.in-Some.ensures.steps at c.loop-at.invariant.left in
    let few = one_of_live c.args.live.now done c.next.new.self at read in
    let long = length-made old from parents done (omega (arith, c.requires.room)) in
    record {
      set = c.put.ensures ∙ ap (λ l. set l c.loop-at.next c.contains.result) c.loop-at.invariant.set
          ∙ set-begun (length old) c.loop-at.next (made old from parents done) c.contains.result (omega (arith, long, c.loop-at.invariant.next)) (omega (arith, c.loop-at.invariant.next, few, c.requires.room))
          ∙ ap (begun (length old)) (append_assoc (take from old) (map mark done) (c.contains.result ∷ [])
          ∙ ap (λ l. take from old ++ l) (ap (λ b. map mark done ++ b ∷ []) c.contains.ensures ∙ sym (map-append mark done (at ∷ []))));
      next = omega (arith, c.loop-at.invariant.next, length_push done at);
      left = append_assoc done (at ∷ []) c.next.new.self ∙ read;
    }

pub returns-clause-set : goal.returns-clause-set
returns-clause-set c =
    let parents = c.args.parents.now in
    let old = c.args.set.now in
    let all : c.loop-at.yielded ≡ positions c.args.live.now = sym (append-nil c.loop-at.yielded) ∙ (rw c.in-None.ensures.steps.0 at c.loop-at.invariant.left) in
    c.loop-at.invariant.set
    ∙ ap (λ l. begun (length old) (take c.args.from old ++ l)) (ap (map (λ at. get_or parents at false)) all ∙ rows_picked false parents c.args.live.now c.requires.even)

pub returns-clause-next : goal.returns-clause-next
returns-clause-next c =
    let all : c.loop-at.yielded ≡ positions c.args.live.now = sym (append-nil c.loop-at.yielded) ∙ (rw c.in-None.ensures.steps.0 at c.loop-at.invariant.left) in
    c.loop-at.invariant.next ∙ ap (λ n. c.args.from + n) (ap length all ∙ length-positions c.args.live.now)
