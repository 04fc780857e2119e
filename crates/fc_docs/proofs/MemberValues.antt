-- The values of a member, from its items.
use Rattle.std.proofs.Common.{◌≡◌, ◌≤◌, List, map, length, true, Ok, All, IsTrue, sym, ap}
use Rattle.std.proofs.lemmas.List.{length-map}
use Rattle.serde_json.specs.Data.{Data}
use Rattle.fc_spec.specs.documents.Val as definition
use Rattle.fc_spec.specs.documents.Val.{distinct}
use Rattle.fc_spec.specs.documents.Schema.{FieldType}
use Rattle.fc_spec.specs.words.Walks.{each}
use Rattle.fc_spec.specs.documents.BlockReading.{items_in, takes, value_of, values_for}
use Rattle.fc_spec.specs.documents.ValidBlocks.{AreValuesOf, is_value_of}
use Rattle.fc_base.specs.declared.value.Val.{Val}
use Rattle.fc_base.specs.View.{val_view}
use Rattle.fc_docs.proofs.DifferentValues.{AreSorted, ascend, still_all}
use Rattle.fc_docs.proofs.Takes.{takes_fewer}

pub values_are : (kind : FieldType) (d : Data) (vs ws : List definition.Val) → each (value_of kind) (items_in d) ≡ Ok vs → takes kind (length vs) ≡ true → ws ≡ distinct vs → values_for kind d ≡ Ok ws
values_are kind d vs ws items few same = rw (items, few) (ap Ok (sym same))

pub are_values : (kind : FieldType) (xs ys zs : List Val) → AreSorted xs ys zs → All (λ x. IsTrue (is_value_of kind (val_view x))) xs → takes kind (length xs) ≡ true → length zs ≤ length xs → AreValuesOf kind (map val_view zs)
are_values kind xs ys zs sorted all few fewer =
    record {
      of_type = still_all (λ v. IsTrue (is_value_of kind v)) xs ys zs sorted all;
      ascending = ascend xs ys zs sorted;
      few = takes_fewer kind (length (map val_view zs)) (length xs) (rw length-map fewer) few;
    }
