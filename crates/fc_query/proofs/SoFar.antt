-- The tokens of a text so far.
use Rattle.std.proofs.Common.{◌≡◌, ◌∙◌, ap, sym, refl, subst, ℕ, zero, suc, ◌<◌, ◌≤◌, List, [], ◌∷◌, ◌++◌, length, drop, Bool, true, false, Option, None, Some, option_map, IfSome, arith, append_assoc, append-nil}
use Rattle.std.specs.Prelude.{slice_get}
use Rattle.fc_spec.specs.words.Options.{◌>>=◌}
use Rattle.fc_spec.specs.queries.QueryTokens.{Token}
use Rattle.fc_spec.specs.queries.QueryCharacters.{Character, is_blank}
use Rattle.fc_spec.specs.queries.QueryRow.{is_colon, token_at, tokens_within}
use Rattle.fc_query.proofs.Fronts.{first_and_rest, none_first}
use Rattle.fc_query.proofs.Shorter.{token_shorter}

-- those before, and those of what is left
pub record IsSoFar (before : List Token) (behind_colon : Bool) (left : List Character) (whole : Option (List Token)) : Type 0 where
  pub most : ℕ
  pub room : length left ≤ most
  pub same : option_map (λ ts. before ++ ts) (tokens_within most behind_colon left) ≡ whole

past_blank : (n : ℕ) (b : Bool) (c : Character) (cs : List Character) → is_blank c ≡ true → tokens_within (suc n) b (c ∷ cs) ≡ tokens_within n false cs
unfolding tokens_within
past_blank n b c cs h = rw (h, tokens_within) refl

past_token : (n : ℕ) (b : Bool) (c : Character) (cs : List Character) → is_blank c ≡ false
    → tokens_within (suc n) b (c ∷ cs) ≡ (token_at b (c ∷ cs) >>= λ first. tokens_within n (is_colon first.0) first.1 >>= λ others. Some (first.0 ∷ others))
unfolding tokens_within
past_token n b c cs h = rw (h, tokens_within) refl

none_within : (n : ℕ) (b : Bool) → tokens_within n b [] ≡ Some []
unfolding tokens_within
none_within zero b = refl
none_within (suc n) b = refl

regroup : (before : List Token) (t : Token) (o : Option (List Token))
    → option_map (λ ts. before ++ ts) (o >>= λ others. Some (t ∷ others)) ≡ option_map (λ ts. (before ++ t ∷ []) ++ ts) o
regroup before t None = refl
regroup before t (Some ts) = ap (λ x. Some x) (sym (append_assoc before (t ∷ []) ts))

blank_on : (n : ℕ) (before : List Token) (b : Bool) (c : Character) (cs : List Character) (whole : Option (List Token)) → is_blank c ≡ true → suc (length cs) ≤ n
    → option_map (λ ts. before ++ ts) (tokens_within n b (c ∷ cs)) ≡ whole → IsSoFar before false cs whole
blank_on zero before b c cs whole h room same = absurd (omega arith)
blank_on (suc n) before b c cs whole h room same = record { most = n; room = omega arith; same = ap (option_map (λ ts. before ++ ts)) (sym (past_blank n b c cs h)) ∙ same }

token_on : (n : ℕ) (before : List Token) (b : Bool) (c : Character) (cs left : List Character) (t : Token) (whole : Option (List Token)) → is_blank c ≡ false → suc (length cs) ≤ n
    → token_at b (c ∷ cs) ≡ Some (t, left)
    → option_map (λ ts. before ++ ts) (tokens_within n b (c ∷ cs)) ≡ whole → IsSoFar (before ++ t ∷ []) (is_colon t) left whole
token_on zero before b c cs left t whole h room e same = absurd (omega arith)
token_on (suc n) before b c cs left t whole h room e same =
    let next = λ (first : Token × List Character). tokens_within n (is_colon first.0) first.1 >>= λ others. Some (first.0 ∷ others) in
    let shorter : length left ≤ length cs = subst (λ (o : Option (Token × List Character)). IfSome o (λ x. length x.1 ≤ length cs)) e (token_shorter b c cs) in
    record {
      most = n;
      room = omega arith;
      same = sym (regroup before t (tokens_within n (is_colon t) left))
          ∙ ap (λ o. option_map (λ ts. before ++ ts) (o >>= next)) (sym e)
          ∙ ap (option_map (λ ts. before ++ ts)) (sym (past_token n b c cs h)) ∙ same;
    }

none_on : (n : ℕ) (before : List Token) (b : Bool) (c : Character) (cs : List Character) (whole : Option (List Token)) → is_blank c ≡ false → suc (length cs) ≤ n
    → token_at b (c ∷ cs) ≡ None
    → option_map (λ ts. before ++ ts) (tokens_within n b (c ∷ cs)) ≡ whole → whole ≡ None
none_on zero before b c cs whole h room e same = absurd (omega arith)
none_on (suc n) before b c cs whole h room e same =
    let next = λ (first : Token × List Character). tokens_within n (is_colon first.0) first.1 >>= λ others. Some (first.0 ∷ others) in
    sym same ∙ ap (option_map (λ ts. before ++ ts)) (past_token n b c cs h ∙ ap (λ o. o >>= next) e)

-- white space is left
pub blank_goes_on : (before : List Token) (b : Bool) (c : Character) (cs left : List Character) (whole : Option (List Token)) → slice_get cs 0 ≡ Some c → is_blank c ≡ true → left ≡ drop 1 cs
    → IsSoFar before b cs whole → IsSoFar before false left whole
blank_goes_on before b c cs left whole e h l s =
    let s' = subst (λ (x : List Character). IsSoFar before b x whole) (first_and_rest c cs e) s in
    subst (λ (x : List Character). IsSoFar before false x whole) (sym l) (blank_on s'.most before b c (drop 1 cs) whole h s'.room s'.same)

-- a token is taken
pub token_goes_on : (before : List Token) (b : Bool) (c : Character) (cs left : List Character) (t : Token) (whole : Option (List Token)) → slice_get cs 0 ≡ Some c → is_blank c ≡ false → token_at b cs ≡ Some (t, left)
    → IsSoFar before b cs whole → IsSoFar (before ++ t ∷ []) (is_colon t) left whole
token_goes_on before b c cs left t whole e h k s =
    let s' = subst (λ (x : List Character). IsSoFar before b x whole) (first_and_rest c cs e) s in
    token_on s'.most before b c (drop 1 cs) left t whole h s'.room (ap (token_at b) (sym (first_and_rest c cs e)) ∙ k) s'.same

pub token_is_shorter : (b : Bool) (c : Character) (cs left : List Character) (t : Token) → slice_get cs 0 ≡ Some c → token_at b cs ≡ Some (t, left) → length left < length cs
token_is_shorter b c cs left t e k =
    let k' = ap (token_at b) (sym (first_and_rest c cs e)) ∙ k in
    let shorter : length left ≤ length (drop 1 cs) = subst (λ (o : Option (Token × List Character)). IfSome o (λ x. length x.1 ≤ length (drop 1 cs))) k' (token_shorter b c (drop 1 cs)) in
    let size = ap length (first_and_rest c cs e) in
    omega arith

-- there is no token
pub none_goes_on : (before : List Token) (b : Bool) (c : Character) (cs : List Character) (whole : Option (List Token)) → slice_get cs 0 ≡ Some c → is_blank c ≡ false → token_at b cs ≡ None
    → IsSoFar before b cs whole → whole ≡ None
none_goes_on before b c cs whole e h k s =
    let s' = subst (λ (x : List Character). IsSoFar before b x whole) (first_and_rest c cs e) s in
    none_on s'.most before b c (drop 1 cs) whole h s'.room (ap (token_at b) (sym (first_and_rest c cs e)) ∙ k) s'.same

-- nothing is left
pub ended : (before : List Token) (b : Bool) (cs : List Character) (whole : Option (List Token)) → slice_get cs 0 ≡ None → IsSoFar before b cs whole → whole ≡ Some before
ended before b cs whole e s =
    sym s.same ∙ ap (λ x. option_map (λ ts. before ++ ts) (tokens_within s.most b x)) (none_first cs e) ∙ ap (option_map (λ ts. before ++ ts)) (none_within s.most b) ∙ ap (λ x. Some x) (append-nil before)
