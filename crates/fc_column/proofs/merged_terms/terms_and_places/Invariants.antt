use Rattle.std.proofs.Common.{◌≡◌, ◌<◌, ◌^◌, ◌++◌, vec_len, All}
use Rattle.std.specs.Vec.Iter.{into_iter_items}
use Rattle.fc_spec.specs.documents.Columns.{IsAscending}
use Rattle.fc_spec.specs.documents.Val.{Text, text_cmp}
use Rattle.fc_column.specs.MergedTerms.{ArePlaced, IsNotBelow}
use Rattle.fc_column.specs.Numbering.{texts_numbered}
use Rattle.fc_column.specs.Terms.{has_text}
use Rattle.fc_column.proofs.merged_terms.terms_and_places.Given as goal

-- the terms and places of the texts that were read, none of which is above those that are left
abbrev pub invariant-loop-one : goal.invariant-loop-one
invariant-loop-one l = record {
  few : vec_len l.terms < 2 ^ 32;
  ascending : IsAscending text_cmp l.terms.items;
  above : All (λ one. IsNotBelow l.terms.items one.0) (into_iter_items l.one-iterator);
  len : vec_len l.places ≡ l.count;
  placed : ArePlaced l.terms.items l.places.items l.yielded;
  texts : (t : Text) → has_text t l.terms.items ≡ has_text t (texts_numbered l.yielded);
  left : l.yielded ++ into_iter_items l.one-iterator ≡ l.fn.texts.items;
}
