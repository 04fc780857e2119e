use Rattle.std.proofs.Common.{◌≡◌, suc, ◌-◌, ◌+◌, get_or, set, take, arith, sym, ◌∙◌, ap, ap₂}
use Rattle.fc_docs.specs.Runs.{one_more}
use Rattle.fc_docs.proofs.FewCounts.{more_in_last, more_behind_last, first_count}
use Rattle.fc_docs.proofs.OneMore.{Count}
use Rattle.fc_docs.proofs.document.few.Few.count.Goals as goal
use Rattle.fc_docs.proofs.document.few.Few.count.Goals.{then-len-gt0+else-eq, else-len-gt0}

none : Count
none = (record { 0 = 0 }, 0)

pub returns-then-eq : goal.returns-then-eq
unfolding none
returns-then-eq c =
    let cs = c.self.inside.counts in
    let place = c.self.inside.len - 1 in
    let field = c.args.field in
    let last : c.self.inside.len ≡ suc place = omega arith in
    let is = sym c.eq.ensures ∙ c.if-eq.true in
    ap (λ n. take n (set cs place ((get_or cs place none).0, (get_or cs place none).1 + 1))) last
    ∙ more_in_last cs place none field (omega arith) is
    ∙ ap (λ n. one_more (take n cs) field) (sym last)
    ∙ ap (λ fs. one_more fs field) c.self.view_is

pub returns : goal.returns
unfolding none
returns c =
    let cs = c.self.inside.counts in
    let len = c.self.inside.len in
    let field = c.args.field in
    let all : one_more (take len cs) field ≡ one_more c.args.self.now field = ap (λ fs. one_more fs field) c.self.view_is in
    elim c.if-len-gt0.branch [
      | then-len-gt0+else-eq w ↦ (
          let place = len - 1 in
          let last : len ≡ suc place = omega arith in
          let is = sym w.eq.ensures ∙ w.if-eq.false in
          let more : len + 1 ≡ suc (suc place) = omega arith in
          ap₂ (λ m n. take m (set cs n (field, 1))) more last
          ∙ more_behind_last cs place none field (omega arith) is
          ∙ ap (λ n. one_more (take n cs) field) (sym last) ∙ all)
      | else-len-gt0 w ↦ (
          let first : len ≡ 0 = omega arith in
          let more : len + 1 ≡ 1 = omega arith in
          ap₂ (λ m n. take m (set cs n (field, 1))) more first ∙ first_count cs field (omega arith) ∙ ap (λ n. one_more (take n cs) field) (sym first) ∙ all)
    ]
