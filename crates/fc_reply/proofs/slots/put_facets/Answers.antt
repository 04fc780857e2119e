use Rattle.std.proofs.Common.{◌≡◌, ◌+◌, ◌<◌, List, ◌∷◌, drop, length, get_or, refl, sym, ap, ◌∙◌, subst}
use Rattle.std.proofs.lemmas.List.{drop_more}
use Rattle.std.proofs.lemmas.Option.{slice_get_read}
use Rattle.serde_json.specs.Data.{put}
use Rattle.fc_spec.specs.replies.Json.{put_facets}
use Rattle.fc_reply.specs.declared.reply.ReplyBucket.{out-ReplyBucket}
use Rattle.fc_reply.specs.declared.reply.ReplyFacet.{ReplyFacet}
use Rattle.fc_reply.specs.declared.slots.Slot.TheVariants.{Facet}
use Rattle.fc_reply.specs.ReplyView.{facets_view}
use Rattle.fc_reply.specs.Slots.{slot_data, slot_members}
use Rattle.fc_reply.proofs.Bodies.{slot_puts}
use Rattle.fc_reply.proofs.slots.put_facets.Goals as goal

pub loop-at-preserved : goal.loop-at-preserved
loop-at-preserved c =
    let b = c.args.bucket.now in
    let fs = (out-ReplyBucket b).facets.items in
    let at = c.loop-at.at in
    let f = c.facet-item.result in
    let rest = drop (at + 1) fs in
    let old = slot_members b c.loop-at.slots.entries in
    let within : at < length fs = subst (λ (xs : List ReplyFacet). at < length xs) c.deref-facet-items.ensures.value c.loop-at-test.true in
    let item : f ≡ get_or fs at f = subst (λ (xs : List ReplyFacet). f ≡ get_or xs at f) c.deref-facet-items.ensures.value c.facet-item.is in
    let here : drop at fs ≡ f ∷ rest = drop_more fs at f within ∙ ap (λ y. y ∷ rest) (sym item) in
    ap (put_facets (facets_view rest)) (c.in_ok-put.ensures b ∙ ap (λ name. put name (slot_data b (Facet at)) old) c.text.ensures)
    ∙ sym (slot_puts b at f rest old (slice_get_read fs (length fs) at f refl within item))
    ∙ ap (λ xs. put_facets (facets_view xs) old) (sym here) ∙ c.loop-at.invariant
