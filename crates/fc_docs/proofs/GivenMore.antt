-- Values that are given to a field, behind those that were given.
use Rattle.std.proofs.Common.{◌≡◌, ℕ, ◌+◌, List, ◌++◌, length, sym, ap, ◌∙◌, append_assoc, length-append}
use Rattle.std.proofs.lemmas.List.{length-map, map-append}
use Rattle.fc_spec.specs.documents.Val.{Val}
use Rattle.fc_base.specs.declared.field.FieldId.{FieldId}
use Rattle.fc_base.specs.declared.value.Val as code
use Rattle.fc_docs.specs.Direct.{Given, given_view, giving}

pub given_more : (before then after : Given) (n : ℕ) (vs ws : List Val) → then ≡ before ++ giving n vs → after ≡ then ++ giving n ws → after ≡ before ++ giving n (vs ++ ws)
given_more before then after n vs ws e f =
    f ∙ ap (λ ps. ps ++ giving n ws) e ∙ append_assoc before (giving n vs) (giving n ws) ∙ ap (λ ps. before ++ ps) (sym (map-append (λ v. (n, v)) vs ws))

pub so_many_given : (before after : List (FieldId × code.Val)) (n : ℕ) (vs : List Val) → given_view after ≡ given_view before ++ giving n vs → length after ≡ length before + length vs
so_many_given before after n vs e = sym (length-map after _) ∙ ap length e ∙ length-append (given_view before) (giving n vs) ∙ simp length-map
