use Rattle.std.proofs.Common.{◌≡◌, ◌+◌, ◌≤◌, ℕ, [], ◌∷◌, ◌++◌, get_or, length, true, false, sym, ◌∙◌, ap, subst, arith}
use Rattle.std.specs.Prelude.{nat_le, All}
use Rattle.std.specs.List.{list_all, range_with_len}
use Rattle.std.proofs.lemmas.List.{with_items_is}
use Rattle.fc_spec.specs.documents.Totals.{documents_in, documents_of}
use Rattle.fc_spec.specs.scripts.ScriptTotals.{absolute_total, total_limit, sums_fit}
use Rattle.fc_docs.specs.View.{block_view}
use Rattle.fc_script.specs.LimitsView.{limits_view}
use Rattle.fc_script.proofs.CountedDocuments.{fits_are, sums_with, too_much, too_many, all_fits}
use Rattle.fc_script.proofs.LimitsLeft.{limits_with-append}
use Rattle.fc_script.proofs.counts.documents.DocumentCounts.with.Goals as goal

pub returns-then-not-add_to_sums-clause-counted : goal.returns-then-not-add_to_sums-clause-counted
returns-then-not-add_to_sums-clause-counted c = λ limits blocks are.
    let test : sums_fit c.args.schema.now (documents_in (blocks ++ block_view c.args.block.now ∷ [])) ≡ false =
    sym (fits_are c.args.schema.now c.args.self.sums.items blocks (block_view c.args.block.now) are.count are.sums)
    ∙ ap (λ sums. list_all (λ field. nat_le (get_or sums field 0 + absolute_total (documents_of (block_view c.args.block.now)) field) total_limit) (range_with_len 0 (length sums))) (sym c.deref_mut.ensures.value)
    ∙ sym c.add_to_sums.ensures.fits ∙ c.if-not-add_to_sums.true in
    (sym (too_much limits c.args.schema.now (documents_in (blocks ++ block_view c.args.block.now ∷ [])) test), tt)

pub returns-in-Some-clause-counted : goal.returns-in-Some-clause-counted
returns-in-Some-clause-counted c = λ limits blocks are.
    let block = block_view c.args.block.now in
    let yes : c.add_to_sums.result ≡ true = c.if-not-add_to_sums.false in
    let test : sums_fit c.args.schema.now (documents_in (blocks ++ block ∷ [])) ≡ true =
    sym (fits_are c.args.schema.now c.args.self.sums.items blocks block are.count are.sums)
    ∙ ap (λ sums. list_all (λ field. nat_le (get_or sums field 0 + absolute_total (documents_of block) field) total_limit) (range_with_len 0 (length sums))) (sym c.deref_mut.ensures.value)
    ∙ sym c.add_to_sums.ensures.fits ∙ yes in
    let more : (field : ℕ) → get_or c.add_to_sums.new.sums field 0 ≡ get_or c.deref_mut.result.now field 0 + absolute_total (documents_of block) field = rw yes at c.add_to_sums.ensures.sums in
    let still : All (λ sum. sum ≤ total_limit) c.add_to_sums.new.sums = rw yes at c.add_to_sums.ensures.still in
    let kept = with_items_is c.args.self.sums c.add_to_sums.new.sums (omega arith) in (
      sym (all_fits limits (limits_view c.args.self.left) (limits_view c.in-Some.left) c.args.schema.now blocks block are.left test (sym c.in-Some.ensures)),
      record {
        count = ap length kept ∙ c.add_to_sums.auto.sums ∙ ap length c.deref_mut.ensures.value ∙ are.count;
        sums = λ field. ap (λ sums. get_or sums field 0) kept ∙ more field ∙ ap (λ sums. get_or sums field 0 + absolute_total (documents_of block) field) c.deref_mut.ensures.value ∙ sums_with c.args.self.sums.items blocks block field (are.sums field);
        within = subst (All (λ sum. sum ≤ total_limit)) (sym kept) still;
        left = are.left ∙ sym (limits_with-append (limits_view c.args.self.left) (limits_view c.in-Some.left) blocks block (sym c.in-Some.ensures));
      },
    )

pub returns-in-None-clause-counted : goal.returns-in-None-clause-counted
returns-in-None-clause-counted c = λ limits blocks are.
    let block = block_view c.args.block.now in
    let yes : c.add_to_sums.result ≡ true = c.if-not-add_to_sums.false in
    let test : sums_fit c.args.schema.now (documents_in (blocks ++ block ∷ [])) ≡ true =
    sym (fits_are c.args.schema.now c.args.self.sums.items blocks block are.count are.sums)
    ∙ ap (λ sums. list_all (λ field. nat_le (get_or sums field 0 + absolute_total (documents_of block) field) total_limit) (range_with_len 0 (length sums))) (sym c.deref_mut.ensures.value)
    ∙ sym c.add_to_sums.ensures.fits ∙ yes in
    (sym (too_many limits (limits_view c.args.self.left) c.args.schema.now blocks block are.left test (sym c.in-None.ensures)), tt)

pub returns-in-Some-clause-fields : goal.returns-in-Some-clause-fields
returns-in-Some-clause-fields c =
    let kept = with_items_is c.args.self.sums c.add_to_sums.new.sums (omega arith) in
    ap length kept ∙ c.add_to_sums.auto.sums ∙ ap length c.deref_mut.ensures.value ∙ c.requires.fields

pub returns-in-Some-clause-within : goal.returns-in-Some-clause-within
returns-in-Some-clause-within c =
    let yes : c.add_to_sums.result ≡ true = c.if-not-add_to_sums.false in
    let still : All (λ sum. sum ≤ total_limit) c.add_to_sums.new.sums = rw yes at c.add_to_sums.ensures.still in
    let kept = with_items_is c.args.self.sums c.add_to_sums.new.sums (omega arith) in
    subst (All (λ sum. sum ≤ total_limit)) (sym kept) still
