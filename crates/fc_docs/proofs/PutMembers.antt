-- Members without a fault, with one more put among them.
use Rattle.std.proofs.Common.{◌≡◌, List, Result, Ok, Err, sym, ◌∙◌, ap, refl}
use Rattle.std.specs.Ordering.{match_ordering}
use Rattle.std.specs.declared.cmp.Ordering.{Ordering}
use Rattle.std.specs.declared.cmp.Ordering.TheVariants.{Less, Equal, Greater}
use Rattle.std.proofs.lemmas.Map.Lookups.{exact_bytes}
use Rattle.serde_json.specs.Data.{Data, Members, no_members, member, put}
use Rattle.fc_spec.specs.documents.Val.{Text, Val, text_cmp}
use Rattle.fc_spec.specs.documents.DocFault.{DocFault}
use Rattle.fc_spec.specs.documents.Schema.{Schema}
use Rattle.fc_spec.specs.words.Walks.{◌>>=◌}
use Rattle.fc_spec.specs.documents.BlockReading.{Role, check_members, member_values}

-- the members after one, with another put among all
abbrev placed : Ordering → Text → Data → Text → Data → Members → Members
placed o k d l e ms = match_ordering o (member k d (member l e ms)) (member l d ms) (member l e (put k d ms))

abbrev before : Result (List Val) DocFault → Result (Unit {0}) DocFault → Result (Unit {0}) DocFault
before first later = first >>= λ _. later

both_good : (first : Result (List Val) DocFault) (later : Result (Unit {0}) DocFault) → before first later ≡ Ok tt → later ≡ Ok tt
both_good (Ok vs) later good = good
both_good (Err e) later good = absurd (cc)

pub put_checked : (role : Role) (s : Schema) (k : Text) (d : Data) (vs : List Val) (ms : Members) → member_values role s k d ≡ Ok vs → check_members role s ms ≡ Ok tt → check_members role s (put k d ms) ≡ Ok tt
put_checked role s k d vs no_members good all = ap (λ r. before r (Ok tt)) good
put_checked role s k d vs (member l e ms) good all =
    let later : check_members role s ms ≡ Ok tt = both_good (member_values role s l e) (check_members role s ms) all in
    go (text_cmp k l) refl later (put_checked role s k d vs ms good later)
  where
    go : (o : Ordering) → text_cmp k l ≡ o → check_members role s ms ≡ Ok tt → check_members role s (put k d ms) ≡ Ok tt → check_members role s (placed o k d l e ms) ≡ Ok tt
    go Less is later put_later = ap (λ r. before r (check_members role s (member l e ms))) good ∙ all
    go Equal is later put_later = ap (λ key. before (member_values role s key d) (check_members role s ms)) (sym (exact_bytes k l is)) ∙ ap (λ r. before r (check_members role s ms)) good ∙ later
    go Greater is later put_later = ap (before (member_values role s l e)) (put_later ∙ sym later) ∙ all
