use Rattle.std.proofs.Common.{◌≡◌, [], ◌∷◌, ◌++◌, ◌<◌, ◌^◌, length, ap, subst, sym, ◌∙◌, FitsSigned, to_z, of_z, rules}
use Rattle.std.specs.Int.{w64}
use Rattle.std.proofs.lemmas.Int.{to_z-of_z}
use Rattle.std.proofs.lemmas.Str.{is_utf8-from_IsUtf8}
use Rattle.fc_spec.specs.messages.MessageBytes.{integer_bytes, val_bytes}
use Rattle.fc_base.specs.View.{val_view}
use Rattle.fc_wire.proofs.Written.{two_alone}
use Rattle.fc_wire.proofs.writing.put_val.Goals as goal

pub returns-in_ok-extend_from_slice-in-Text-clause-fits : goal.returns-in_ok-extend_from_slice-in-Text-clause-fits
returns-in_ok-extend_from_slice-in-Text-clause-fits c =
    rw c.in-Text.is (subst (λ t. length t < 2 ^ 64) c.bytes-bytes.ensures.value c.in_ok-put_length-in-Text.ensures.fits, is_utf8-from_IsUtf8 c.in-Text.text c.bytes-bytes.ensures.utf8)

pub returns-in_ok-put_i64-in-Long-clause-bytes : goal.returns-in_ok-put_i64-in-Long-clause-bytes
returns-in_ok-put_i64-in-Long-clause-bytes c =
    let mark : c.push-in-Long.new.self.items ≡ c.args.out.now.items ++ 1 ∷ [] = c.in_ok-push-in-Long.ensures.items in
    let fits : FitsSigned w64 c.in-Long.number = search rules in
    let read : to_z w64 (of_z w64 c.in-Long.number) ≡ c.in-Long.number = to_z-of_z w64 c.in-Long.number fits in
    let number : c.put_i64.new.out.items ≡ c.push-in-Long.new.self.items ++ integer_bytes c.in-Long.number = c.in_ok-put_i64-in-Long.ensures.bytes ∙ ap (λ z. c.push-in-Long.new.self.items ++ integer_bytes z) read in
    two_alone c.args.out.now.items c.push-in-Long.new.self.items c.put_i64.new.out.items (1 ∷ []) (integer_bytes c.in-Long.number) mark number
    ∙ ap (λ v. c.args.out.now.items ++ val_bytes (val_view v)) (sym c.in-Long.is)
