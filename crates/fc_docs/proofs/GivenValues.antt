-- Values that were given to fields, and the different ones of a field.
use Rattle.std.proofs.Common.{◌≡◌, ◌≢◌, ◌≤◌, ◌==◌, ℕ, suc, List, [], ◌∷◌, ◌++◌, length, Bool, true, false, if◌then◌else◌, All, IsTrue, arith, ap, ◌∙◌, refl}
use Rattle.std.specs.Ordering.{match_ordering}
use Rattle.std.specs.declared.cmp.Ordering.{Ordering}
use Rattle.std.specs.declared.cmp.Ordering.TheVariants.{Less, Equal, Greater}
use Rattle.std.proofs.lemmas.List.{append-nil}
use Rattle.std.proofs.lemmas.List.Elements.{All-nil, All-cons, All-head, All-tail}
use Rattle.std.proofs.lemmas.Map.Keys.{Less-from_sorted}
use Rattle.fc_spec.specs.documents.Val.{Val, val_cmp, distinct, insert_val}
use Rattle.fc_spec.specs.documents.Schema.{FieldType}
use Rattle.fc_spec.specs.documents.BlockReading.{takes}
use Rattle.fc_spec.specs.documents.ValidBlocks.{AreValuesOf, is_value_of}
use Rattle.fc_spec.proofs.documents.Ascending.{distinct_ascends}
use Rattle.fc_docs.specs.Direct.{Given, given_to, giving}
use Rattle.fc_docs.proofs.Entries.{other, same}
use Rattle.fc_docs.proofs.Takes.{takes_fewer, takes_none}

-- ---- those of one field
pub given_to-append : (n : ℕ) (ps qs : Given) → given_to n (ps ++ qs) ≡ given_to n ps ++ given_to n qs
given_to-append n [] qs = refl
given_to-append n (p ∷ ps) qs = go (n == p.0) (given_to-append n ps qs)
  where
    go : (b : Bool) → given_to n (ps ++ qs) ≡ given_to n ps ++ given_to n qs → (if b then p.1 ∷ given_to n (ps ++ qs) else given_to n (ps ++ qs)) ≡ (if b then p.1 ∷ given_to n ps else given_to n ps) ++ given_to n qs
    go true later = ap (λ vs. p.1 ∷ vs) later
    go false later = later

giving_here : (n : ℕ) (vs : List Val) → given_to n (giving n vs) ≡ vs
giving_here n [] = refl
giving_here n (v ∷ vs) = rw (same n) (ap (λ ws. v ∷ ws) (giving_here n vs))

giving_elsewhere : (m n : ℕ) (vs : List Val) → m ≢ n → given_to m (giving n vs) ≡ []
giving_elsewhere m n [] apart = refl
giving_elsewhere m n (v ∷ vs) apart = rw (other m n apart) (giving_elsewhere m n vs apart)

-- with more values of a field, which has none, or of another
pub given_here : (n : ℕ) (given : Given) (vs : List Val) → given_to n given ≡ [] → given_to n (given ++ giving n vs) ≡ vs
given_here n given vs none = given_to-append n given (giving n vs) ∙ ap (λ ws. ws ++ given_to n (giving n vs)) none ∙ giving_here n vs

pub given_elsewhere : (m n : ℕ) (given : Given) (vs : List Val) → m ≢ n → given_to m (given ++ giving n vs) ≡ given_to m given
given_elsewhere m n given vs apart = given_to-append m given (giving n vs) ∙ ap (λ ws. given_to m given ++ ws) (giving_elsewhere m n vs apart) ∙ append-nil (given_to m given)

-- ---- the different ones
All-insert_val : (P : Val → Type 0) (v : Val) (ws : List Val) → P v → All P ws → All P (insert_val v ws)
All-insert_val P v [] first all = All-cons P v [] first all
All-insert_val P v (w ∷ ws) first all = go (val_cmp v w) (All-insert_val P v ws first (All-tail P w ws all))
  where
    go : (o : Ordering) → All P (insert_val v ws) → All P (match_ordering o (v ∷ w ∷ ws) (w ∷ ws) (w ∷ insert_val v ws))
    go Less later = All-cons P v (w ∷ ws) first all
    go Equal later = all
    go Greater later = All-cons P w (insert_val v ws) (All-head P w ws all) later

All-distinct : (P : Val → Type 0) (vs : List Val) → All P vs → All P (distinct vs)
All-distinct P [] all = all
All-distinct P (v ∷ vs) all = All-insert_val P v (distinct vs) (All-head P v vs all) (All-distinct P vs (All-tail P v vs all))

length-insert_val : (v : Val) (ws : List Val) → length (insert_val v ws) ≤ suc (length ws)
length-insert_val v [] = omega arith
length-insert_val v (w ∷ ws) = go (val_cmp v w) (length-insert_val v ws)
  where
    go : (o : Ordering) → length (insert_val v ws) ≤ suc (length ws) → length (match_ordering o (v ∷ w ∷ ws) (w ∷ ws) (w ∷ insert_val v ws)) ≤ suc (suc (length ws))
    go Less later = omega arith
    go Equal later = omega arith
    go Greater later = omega arith

length-distinct : (vs : List Val) → length (distinct vs) ≤ length vs
length-distinct [] = omega arith
length-distinct (v ∷ vs) = omega (arith, length-insert_val v (distinct vs), length-distinct vs)

pub are_values : (kind : FieldType) (vs : List Val) → takes kind (length vs) ≡ true → All (λ v. IsTrue (is_value_of kind v)) vs → AreValuesOf kind (distinct vs)
are_values kind vs few valid =
    record {
      of_type = All-distinct (λ v. IsTrue (is_value_of kind v)) vs valid;
      ascending = λ i j d before within. Less-from_sorted val_cmp (distinct vs) i j d (distinct_ascends vs) before within;
      few = takes_fewer kind (length (distinct vs)) (length vs) (length-distinct vs) few;
    }

pub no_values : (kind : FieldType) → AreValuesOf kind []
no_values kind = are_values kind [] (takes_none kind) (All-nil (λ v. IsTrue (is_value_of kind v)))
