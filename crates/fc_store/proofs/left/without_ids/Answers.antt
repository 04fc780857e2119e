use Rattle.std.proofs.Common.{◌≡◌, ◌∙◌, ◌&&◌, ℕ, List, Bool, Bor, not, count_by, length, ap, sym, subst}
use Rattle.std.specs.Arc.{arc_value}
use Rattle.fc_spec.specs.documents.Live.{blocks_where, HasWholeBlocks}
use Rattle.fc_spec.specs.documents.Sets.{zip_with}
use Rattle.fc_spec.proofs.documents.LiveBlocks.{length-live, without_has}
use Rattle.fc_spec.proofs.words.WhereTrue.{length-zip_with}
use Rattle.fc_segment.specs.Segmented.{Segmented}
use Rattle.fc_store.specs.Named.{has_one_of, texts_of}
use Rattle.fc_store.proofs.NamedSets.{length-blocks_where, live_gone, none_gone}
use Rattle.fc_store.proofs.left.without_ids.Goals as goal

-- the positions of the blocks that have one of the ids, and those that are live
abbrev found_in : List (Bor (List ℕ)) → Segmented → List Bool
found_in ids g = blocks_where (has_one_of (texts_of ids)) g.blocks

abbrev gone_from : List (Bor (List ℕ)) → Segmented → List Bool
gone_from ids g = zip_with ◌&&◌ (found_in ids g) g.live

even_found : (ids : List (Bor (List ℕ))) (g : Segmented) → HasWholeBlocks g.blocks g.live → length (found_in ids g) ≡ length g.live
even_found ids g whole = length-blocks_where (has_one_of (texts_of ids)) g.blocks ∙ sym (length-live g.blocks g.live whole)

pub returns-then-count-eq0 : goal.returns-then-count-eq0
returns-then-count-eq0 c =
    let ids = c.args.ids.now in
    let g = arc_value c.args.segment.now in
    let whole : HasWholeBlocks g.blocks g.live = subst (λ (z : Segmented). HasWholeBlocks z.blocks z.live) c.deref.ensures c.live-live.ensures.whole in
    let gone : c.in_ok-gone.gone ≡ gone_from ids g = c.in_ok-gone.ensures ∙ ap (gone_from ids) c.deref-2.ensures in
    let none : count_by (λ here. here) (gone_from ids g) ≡ 0 = sym (ap (count_by (λ here. here)) gone) ∙ sym c.count.ensures ∙ c.if-count-eq0.true in
    c.in_ok-same.ensures ∙ ap (λ (live : List Bool). record g { live = live }) (sym (none_gone g.live (found_in ids g) (even_found ids g whole) none))

pub without-requires : goal.without-requires
without-requires c =
    let ids = c.args.ids.now in
    let g = arc_value c.args.segment.now in
    let whole : HasWholeBlocks g.blocks g.live = subst (λ (z : Segmented). HasWholeBlocks z.blocks z.live) c.deref.ensures c.live-live.ensures.whole in
    let gone : c.in_ok-gone.gone ≡ gone_from ids g = c.in_ok-gone.ensures ∙ ap (gone_from ids) c.deref-2.ensures in
    let live : c.in_ok-others.others ≡ g.live = c.in_ok-others.ensures ∙ c.live-live.ensures.live ∙ ap (λ (z : Segmented). z.live) c.deref.ensures in
    ap length live ∙ sym (ap length gone ∙ length-zip_with ◌&&◌ (found_in ids g) g.live (even_found ids g whole) ∙ even_found ids g whole)

pub with_live-requires : goal.with_live-requires
with_live-requires c =
    let ids = c.args.ids.now in
    let g = arc_value c.args.segment.now in
    let whole : HasWholeBlocks g.blocks g.live = subst (λ (z : Segmented). HasWholeBlocks z.blocks z.live) c.deref.ensures c.live-live.ensures.whole in
    let gone : c.in_ok-gone.gone ≡ gone_from ids g = c.in_ok-gone.ensures ∙ ap (gone_from ids) c.deref-2.ensures in
    let live : c.in_ok-others.others ≡ g.live = c.in_ok-others.ensures ∙ c.live-live.ensures.live ∙ ap (λ (z : Segmented). z.live) c.deref.ensures in
    let left = c.without.ensures ∙ (λ i. zip_with (λ here there. here && not there) (live i) (gone i)) ∙ live_gone g.live (found_in ids g) (even_found ids g whole) in
    record { whole = subst (λ (z : Segmented). HasWholeBlocks z.blocks c.without.new.self) (sym c.deref-3.ensures) (subst (HasWholeBlocks g.blocks) (sym left) (without_has (has_one_of (texts_of ids)) g.blocks g.live whole)) }

pub returns : goal.returns
returns c =
    let ids = c.args.ids.now in
    let g = arc_value c.args.segment.now in
    let whole : HasWholeBlocks g.blocks g.live = subst (λ (z : Segmented). HasWholeBlocks z.blocks z.live) c.deref.ensures c.live-live.ensures.whole in
    let gone : c.in_ok-gone.gone ≡ gone_from ids g = c.in_ok-gone.ensures ∙ ap (gone_from ids) c.deref-2.ensures in
    let live : c.in_ok-others.others ≡ g.live = c.in_ok-others.ensures ∙ c.live-live.ensures.live ∙ ap (λ (z : Segmented). z.live) c.deref.ensures in
    let left = c.without.ensures ∙ (λ i. zip_with (λ here there. here && not there) (live i) (gone i)) ∙ live_gone g.live (found_in ids g) (even_found ids g whole) in
    c.in_ok-new.ensures.ok ∙ c.in_ok-left.ensures ∙ (λ i. record (c.deref-3.ensures i) { live = left i })
