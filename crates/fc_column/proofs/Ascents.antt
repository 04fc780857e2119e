-- Ascending values are ascending texts, or ascending integers.
use Rattle.std.proofs.Common.{◌≡◌, ℕ, ◌<◌, List, length, get_or, map, All, refl, sym, ap, ap₂, ◌∙◌, arith}
use Rattle.std.proofs.lemmas.List.{get_or-map, length-map}
use Rattle.std.specs.Ordering.{int_cmp}
use Rattle.std.specs.declared.cmp.Ordering.{Ordering}
use Rattle.fc_spec.specs.documents.Val.{Val, text, long, val_cmp, text_cmp}
use Rattle.fc_spec.specs.documents.Columns.{IsText, IsLong, IsAscending, texts_in, longs_in}
use Rattle.fc_spec.proofs.documents.ValueKinds.{texts_whole, longs_whole}

-- what values are made of ascends as they do
made_ascend : {X : Type 0} (make : X → Val) (cmp : X → X → Ordering) → ((x y : X) → val_cmp (make x) (make y) ≡ cmp x y) → (xs : List X) (vs : List Val) → map make xs ≡ vs → IsAscending val_cmp vs → IsAscending cmp xs
made_ascend make cmp same xs vs whole ascending i j d before within =
    let size = sym (length-map xs make) ∙ ap length whole in
    let at = λ (k : ℕ) (below : k < length xs). ap (λ l. get_or l k (make d)) (sym whole) ∙ get_or-map make xs k d (make d) below in
    sym (same (get_or xs i d) (get_or xs j d)) ∙ sym (ap₂ val_cmp (at i (omega arith)) (at j within)) ∙ ascending i j (make d) before (omega (arith, size))

pub longs_ascend : (vs : List Val) → All IsLong vs → IsAscending val_cmp vs → IsAscending int_cmp (longs_in vs)
longs_ascend vs longs = made_ascend long int_cmp (λ x y. refl) (longs_in vs) vs (longs_whole vs longs)

pub texts_ascend : (vs : List Val) → All IsText vs → IsAscending val_cmp vs → IsAscending text_cmp (texts_in vs)
texts_ascend vs texts = made_ascend text text_cmp (λ x y. refl) (texts_in vs) vs (texts_whole vs texts)
