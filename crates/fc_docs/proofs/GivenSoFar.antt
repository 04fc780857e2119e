-- The values given are kept one by one.
use Rattle.std.proofs.Common.{◌≡◌, ℕ, List, [], ◌∷◌, ◌++◌, length, arith, refl, sym, subst, ◌∙◌, ap}
use Rattle.std.proofs.lemmas.List.{append-nil, append_assoc, length-append}
use Rattle.std.proofs.lemmas.List.Elements.{All-nil}
use Rattle.fc_base.specs.declared.field.FieldId.{FieldId}
use Rattle.fc_base.specs.declared.value.Val as code
use Rattle.fc_base.specs.View.{val_view}
use Rattle.fc_docs.specs.Direct.{Given, given_to}
use Rattle.fc_docs.specs.Fields.{Ascend, HaveValues, values_at}
use Rattle.fc_docs.specs.Kept.{parts, value_count}
use Rattle.fc_docs.specs.Runs.{AreGiven, Rise, one_more}
use Rattle.fc_docs.proofs.Entries.{Entry}
use Rattle.fc_docs.proofs.GivenValues.{given_to-append}
use Rattle.fc_docs.proofs.MoreValues.{Upto, parts-one_more, upto-more, upto-later, ascend-more, have_values-more, values_at-more}
use Rattle.fc_docs.proofs.OneMore.{Count, count-one_more}

-- of all that were given, the rest are not kept yet
pub record SoFar (all rest : Given) (cs : List Count) (vs : List code.Val) : Type 0 where
  pub last : ℕ
  pub rise : Rise last rest
  pub upto : Upto last (parts cs vs)
  pub ascending : Ascend 0 (parts cs vs)
  pub some : HaveValues (parts cs vs)
  pub whole : value_count cs ≡ length vs
  pub values : (n : ℕ) → values_at (parts cs vs) n ++ given_to n rest ≡ given_to n all

pub none_yet : (all : Given) → Rise 0 all → SoFar all all [] []
none_yet all rise = record {
  last = 0;
  rise = rise;
  upto = tt;
  ascending = tt;
  some = All-nil (λ (e : Entry). _);
  whole = refl;
  values = λ n. refl;
}

pub one_more_yet : (all rest : Given) (cs : List Count) (vs : List code.Val) (field : FieldId) (v : code.Val) → SoFar all ((field.0, val_view v) ∷ rest) cs vs → SoFar all rest (one_more cs field) (vs ++ v ∷ [])
one_more_yet all rest cs vs field v h =
    let es = parts cs vs in
    let is = parts-one_more cs vs field v h.whole in
    let below : Upto field.0 es = upto-later h.last field.0 es h.rise.0 h.upto in
    record {
      last = field.0;
      rise = h.rise.1;
      upto = subst (Upto field.0) (sym is) (upto-more es field.0 (val_view v) below);
      ascending = subst (Ascend 0) (sym is) (ascend-more 0 es field.0 (val_view v) (omega arith) h.ascending below);
      some = subst HaveValues (sym is) (have_values-more es field.0 (val_view v) h.some);
      whole = omega (arith, count-one_more cs field, length-append vs (v ∷ []), h.whole);
      values = λ n.
          ap (λ fs. values_at fs n ++ given_to n rest) is
          ∙ ap (λ ws. ws ++ given_to n rest) (values_at-more 0 es field.0 (val_view v) h.ascending below n)
          ∙ append_assoc (values_at es n) (given_to n ((field.0, val_view v) ∷ [])) (given_to n rest)
          ∙ ap (λ ws. values_at es n ++ ws) (sym (given_to-append n ((field.0, val_view v) ∷ []) rest))
          ∙ h.values n;
    }

pub all_are : (all : Given) (cs : List Count) (vs : List code.Val) → SoFar all [] cs vs → AreGiven all cs vs
all_are all cs vs h = record {
  ascending = h.ascending;
  some = h.some;
  whole = h.whole;
  values = λ n. sym (append-nil (values_at (parts cs vs) n)) ∙ h.values n;
}
