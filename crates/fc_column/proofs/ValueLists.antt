-- The texts and the integers among values, one value after another.
use Rattle.std.proofs.Common.{◌≡◌, ℕ, ◌+◌, ◌<◌, List, [], ◌∷◌, ◌++◌, length, get_or, take, map, All, ℤ, sym, ap, ◌∙◌, subst, arith}
use Rattle.std.proofs.lemmas.List.{take_more, map-append, get_or-map, length-map}
use Rattle.std.proofs.lemmas.List.Elements.{filter_map-append}
use Rattle.fc_base.specs.declared.value.Val.{Val}
use Rattle.fc_base.specs.declared.value.Val.TheVariants.{Text, Long}
use Rattle.fc_base.specs.View.{val_view}
use Rattle.fc_spec.specs.documents.Val as definition
use Rattle.fc_spec.specs.documents.Columns.{as_text, as_long, texts_in, longs_in}

-- one more value
values_more : (values : List Val) (i : ℕ) (v : Val) → i < length values → v ≡ get_or values i v
    → map val_view (take (i + 1) values) ≡ map val_view (take i values) ++ val_view v ∷ []
values_more values i v within is =
    ap (map val_view) (take_more values i v within) ∙ map-append val_view (take i values) (get_or values i v ∷ [])
    ∙ ap (λ w. map val_view (take i values) ++ val_view w ∷ []) (sym is)

pub longs_more : (values : List Val) (i : ℕ) (v : Val) (z : ℤ) → i < length values → v ≡ get_or values i v → v ≡ Long z
    → longs_in (map val_view (take (i + 1) values)) ≡ longs_in (map val_view (take i values)) ++ z ∷ []
longs_more values i v z within is kind =
    ap longs_in (values_more values i v within is) ∙ filter_map-append as_long (map val_view (take i values)) (val_view v ∷ [])
    ∙ ap (λ w. longs_in (map val_view (take i values)) ++ longs_in (val_view w ∷ [])) kind

pub texts_more : (values : List Val) (i : ℕ) (v : Val) (t : definition.Text) → i < length values → v ≡ get_or values i v → v ≡ Text t
    → texts_in (map val_view (take (i + 1) values)) ≡ texts_in (map val_view (take i values)) ++ t ∷ []
texts_more values i v t within is kind =
    ap texts_in (values_more values i v within is) ∙ filter_map-append as_text (map val_view (take i values)) (val_view v ∷ [])
    ∙ ap (λ w. texts_in (map val_view (take i values)) ++ texts_in (val_view w ∷ [])) kind

-- a value that the condition of its list speaks of
pub holds_of_value : (P : definition.Val → Type 0) (values : List Val) (i : ℕ) (v : Val) → i < length values → v ≡ get_or values i v
    → All P (map val_view values) → P (val_view v)
holds_of_value P values i v within is holds =
    subst P (get_or-map val_view values i v (val_view v) within ∙ ap val_view (sym is)) (holds i (val_view v) (omega (arith, length-map values val_view)))
