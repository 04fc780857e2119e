use Rattle.std.proofs.Common.{◌∙◌, ◌∷◌, [], Some, ap, map, option_map, sym}
use Rattle.std.proofs.lemmas.List.{map-append}
use Rattle.fc_spec.specs.replies.Reply.{listed, part}
use Rattle.fc_spec.specs.replies.Restored.{with_val}
use Rattle.fc_base.specs.View.{val_view}
use Rattle.fc_reply.specs.ReplyView.{bucket_view, part_over, parts_over}
use Rattle.fc_replaced.proofs.Rows.{parts_over-pushed}
use Rattle.fc_replaced.proofs.row.add_bucket.Goals as goal

pub returns-in_ok-push-in-Some : goal.returns-in_ok-push-in-Some
returns-in_ok-push-in-Some c = λ more.
    let old = c.args.list.now.items in
    let v = val_view c.args.val.now in
    let shown = c.with_val.result in
    ap (λ bs. parts_over listed (map bucket_view bs) more) c.in_ok-push-in-Some.ensures.items
    ∙ ap (λ bs. parts_over listed bs more) (map-append bucket_view old (shown ∷ []))
    ∙ parts_over-pushed (map bucket_view old) (bucket_view shown) more
    ∙ ap (λ b. parts_over listed (map bucket_view old) (part listed b more)) (c.with_val.ensures ∙ ap (λ u. with_val (Some (val_view u)) (bucket_view c.in-Some.bucket)) c.in_ok-val-in-Some.ensures)
    ∙ ap (λ o. parts_over listed (map bucket_view old) (part_over listed (option_map (with_val (Some v)) (option_map bucket_view o)) more)) (sym c.in-Some.is)

pub returns-in-None : goal.returns-in-None
returns-in-None c = λ more.
    let old = c.args.list.now.items in
    let v = val_view c.args.val.now in
    ap (λ o. parts_over listed (map bucket_view old) (part_over listed (option_map (with_val (Some v)) (option_map bucket_view o)) more)) (sym c.in-None.is)
