-- What is behind the front of a text.
use Rattle.std.proofs.Common.{◌≡◌, ◌∙◌, ap, sym, refl, subst, ℕ, List, drop, true, false, Option, None, Some, option_map, eqb, Bor}
use Rattle.std.specs.Option.{MatchOption}
use Rattle.std.specs.List.{starts_with}
use Rattle.std.specs.Str.{IsCharBoundary}
use Rattle.std.specs.Str.Pattern.{FindsTextPrefix, StripsPrefix}
use Rattle.std.proofs.lemmas.Str.Pattern.{starts_text}
use Rattle.fc_spec.specs.documents.Val.{Text}
use Rattle.fc_spec.specs.queries.FilterReading.{past_front}

pub stripped : (front t : Text) (r : Option (Bor (List ℕ))) → MatchOption r (FindsTextPrefix front t None) (λ x. StripsPrefix (FindsTextPrefix front) t x.now) → option_map (λ x. x.now) r ≡ past_front front t
stripped front t None h = let starts : false ≡ starts_with eqb t front = starts_text false front t h in rw (← starts) refl
stripped front t (Some x) h =
    let k = h.0 in
    let finds = h.1 in
    let at : IsCharBoundary t k = subst (λ (n : ℕ). IsCharBoundary t n) (sym finds.0) finds.2 in
    let starts : true ≡ starts_with eqb t front = starts_text true front t (k, finds, at) in
    rw (← starts) (ap (λ y. Some y) (h.2 ∙ ap (λ n. drop n t) finds.0))
