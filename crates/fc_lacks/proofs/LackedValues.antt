-- What lacks of chosen values.
use Rattle.std.proofs.Common.{◌≡◌, ℕ, List, [], ◌∷◌, ◌++◌, map, Bool, true, false, cond, refl, ap, ap₂, sym, ◌∙◌, append_assoc}
use Rattle.std.specs.Prelude.{All}
use Rattle.std.specs.List.{filter, flat_map}
use Rattle.std.proofs.lemmas.List.{map-append}
use Rattle.std.proofs.lemmas.List.Elements.{All-head, All-tail}
use Rattle.fc_spec.specs.documents.Val.{Val}
use Rattle.fc_spec.specs.requests.Request.{Terms, terms, Nodes}
use Rattle.fc_spec.specs.requests.Buckets.{value}
use Rattle.fc_spec.specs.replies.Chosen as chosen
use Rattle.fc_spec.specs.replies.Reading.{Reading}
use Rattle.fc_spec.specs.messages.Lacks as definition
use Rattle.fc_spec.specs.messages.Lacks.{each_of, want_of}
use Rattle.fc_spec.specs.messages.Message.{Way, Want}
use Rattle.fc_base.specs.View.{val_view}
use Rattle.fc_reading.specs.declared.candidate.Candidate.{Candidate}
use Rattle.fc_lacks.specs.declared.lacks.Lack.{Lack}
use Rattle.fc_lacks.specs.Lacking.{lacked_by, lacking_values}
use Rattle.fc_lacks.specs.LackView.{lack_view}
use Rattle.fc_reading.specs.Terms.{candidate_vals, IsOn}

-- what is made of the first of those that are left is put behind
pub next_made : {X Y : Type 0} (F : X → List Y) (done now : List Y) (one : X) (rest left : List X) (whole : List Y) → left ≡ one ∷ rest → now ≡ done ++ F one
    → done ++ flat_map F left ≡ whole → now ++ flat_map F rest ≡ whole
next_made F done now one rest left whole first made so_far =
    ap (λ l. l ++ flat_map F rest) made ∙ append_assoc done (F one) (flat_map F rest) ∙ ap (λ xs. done ++ flat_map F xs) (sym first) ∙ so_far

module _ (p : ℕ → Bool) (w : Want) (done : List Lack) (i : ℕ) (rest : List ℕ) (whole : List definition.Lack) (so_far : map lack_view done ++ each_of (filter p (i ∷ rest)) w ≡ whole) where
  -- the shard is to be asked
  pub one_lacks : (now : List Lack) (l : Lack) → p i ≡ true → now ≡ done ++ l ∷ [] → lack_view l ≡ record { shard = i; want = w } → map lack_view now ++ each_of (filter p rest) w ≡ whole
  one_lacks now l lacks pushed is =
      let left : List definition.Lack = each_of (filter p rest) w in
      ap (λ ls. map lack_view ls ++ left) pushed ∙ ap (λ ls. ls ++ left) (map-append lack_view done (l ∷ [])) ∙ append_assoc (map lack_view done) (lack_view l ∷ []) left
      ∙ ap (λ (x : definition.Lack). map lack_view done ++ (x ∷ left)) is
      ∙ ap (λ b. map lack_view done ++ each_of (cond b (i ∷ filter p rest) (filter p rest)) w) (sym lacks) ∙ so_far

  -- it has told
  pub none_lacks : p i ≡ false → map lack_view done ++ each_of (filter p rest) w ≡ whole
  none_lacks has = ap (λ b. map lack_view done ++ each_of (cond b (i ∷ filter p rest) (filter p rest)) w) (sym has) ∙ so_far

module _ {B H D : Type 0} (R : Reading H D) (has : H → ℕ → Bool) (t : Terms) (inner : Nodes) (K : List ℕ) (Y : D) (held : B → H) (n : ℕ) (way : Way) where
  -- of the values of candidates
  lacking_of : (counted : Val → List ℕ) (cs : List (Candidate B)) → All (IsOn R t inner K Y held counted) cs
      → flat_map (λ (c : Candidate B). lacked_by has K (held c.bucket) (want_of way n (value (val_view c.val)))) cs
      ≡ flat_map (λ v. lacked_by has K (R.bucket_at (terms t) Y (value v)) (want_of way n (value v))) (candidate_vals cs)
  lacking_of counted [] on = refl
  lacking_of counted (c ∷ cs) on =
      ap₂ (λ a b. a ++ b)
      (ap (λ b. lacked_by has K b (want_of way n (value (val_view c.val)))) ((All-head (IsOn R t inner K Y held counted) c cs on).bucket))
      (lacking_of counted cs (All-tail (IsOn R t inner K Y held counted) c cs on))

  -- of the chosen ones
  pub values_lack : (counted : Val → List ℕ) (cs : List (Candidate B)) → All (IsOn R t inner K Y held counted) cs → candidate_vals cs ≡ chosen.chosen R t inner K Y
      → flat_map (λ (c : Candidate B). lacked_by has K (held c.bucket) (want_of way n (value (val_view c.val)))) cs ≡ lacking_values R has t inner n K Y way
  values_lack counted cs on vals =
      lacking_of counted cs on ∙ ap (λ vs. flat_map (λ v. lacked_by has K (R.bucket_at (terms t) Y (value v)) (want_of way n (value v))) vs) vals
