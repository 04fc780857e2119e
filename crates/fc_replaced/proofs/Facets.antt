-- The facets of a reply, the first and those behind it.
use Rattle.std.proofs.Common.{◌≡◌, ℕ, ℤ, ◌<◌, ◌≤◌, List, [], ◌∷◌, ◌++◌, drop, get_or, length, Option, None, Some, option_map, refl, ap, sym, subst, ◌∙◌, arith}
use Rattle.std.specs.Option.{option_to_list}
use Rattle.fc_spec.specs.documents.Val.{Text, same_text}
use Rattle.fc_spec.specs.replies.Reply as definition
use Rattle.fc_spec.specs.replies.Reply.{Facets, no_facets}
use Rattle.fc_spec.specs.replies.Restored.{after_first, with_first, is_number_of}
use Rattle.fc_reply.specs.declared.reply.ReplyBody.{ReplyBody, Number, One, out-ReplyBody}
use Rattle.fc_reply.specs.declared.reply.ReplyBody.TheFolds.{fold_out-ReplyBody, map-ReplyBody}
use Rattle.fc_reply.specs.declared.reply.ReplyBody.TheOpen.{ReplyBody-F}
use Rattle.fc_reply.specs.declared.reply.ReplyBody.TheOpen as opened
use Rattle.fc_reply.specs.declared.reply.ReplyBucket.{ReplyBucket}
use Rattle.fc_reply.specs.declared.reply.ReplyBuckets.{ReplyBuckets, out-ReplyBuckets}
use Rattle.fc_reply.specs.declared.reply.ReplyFacet.{ReplyFacet, out-ReplyFacet}
use Rattle.fc_reply.specs.ReplyView.{PutBody, PutFacet, body_step, bucket_step, buckets_step, facet_step, bucket_view, facet_view, facets_view, body_view, buckets_view, row_body, row_view}
use Rattle.fc_reply.proofs.ReplyViews.{view_of_buckets, view_of_facet, view_of_number, view_of_one}
use Rattle.fc_replaced.specs.Fronts.{facet_over, first_bucket}

-- ---- one facet before others

abbrev Open : Type 0
Open = ReplyBody-F ReplyBody ReplyBucket ReplyBuckets ReplyFacet

abbrev seen : Open → PutBody
seen x = body_step (map-ReplyBody ReplyBody ReplyBucket ReplyBuckets ReplyFacet PutBody definition.Bucket PutBody PutFacet body_view bucket_view buckets_view facet_view x)

-- it is the first, and those behind it are behind the first
abbrev IsFirst : PutBody → Type 0
IsFirst put = (name : Text) (rest more : Facets) → (after_first (put name more) ≡ more) × (with_first (put name rest) more ≡ put name more)

row_first : (n : Option ℕ) (row : definition.Row) → IsFirst (row_body n row)
row_first None row = λ name rest more. (refl, refl)
row_first (Some n) row = λ name rest more. (refl, refl)

seen_first : (x : Open) → IsFirst (seen x)
seen_first (opened.Number n) = λ name rest more. (refl, refl)
seen_first (opened.Many bs) = subst IsFirst (sym (view_of_buckets bs)) (row_first (out-ReplyBuckets bs).number (row_view bs))
seen_first (opened.One b) = λ name rest more. (refl, refl)

body_first : (body : ReplyBody) → IsFirst (body_view body)
body_first body = subst IsFirst (sym (fold_out-ReplyBody PutBody definition.Bucket PutBody PutFacet body_step bucket_step buckets_step facet_step body)) (seen_first (out-ReplyBody body))

pub after_facet : (f : ReplyFacet) (more : Facets) → after_first (facet_view f more) ≡ more
after_facet f more = ap after_first (view_of_facet f more) ∙ (body_first (out-ReplyFacet f).body (out-ReplyFacet f).name more more).0

pub with_facet : (f : ReplyFacet) (rest more : Facets) → with_first (facet_view f rest) more ≡ facet_view f more
with_facet f rest more =
    ap (λ F. with_first F more) (view_of_facet f rest) ∙ (body_first (out-ReplyFacet f).body (out-ReplyFacet f).name rest more).1 ∙ sym (view_of_facet f more)

-- ---- what is taken from the front of a list

pub one_less : (fs : List ReplyFacet) → facets_view (drop 1 fs) ≡ after_first (facets_view fs)
one_less [] = refl
one_less (f ∷ fs) = sym (after_facet f (facets_view fs))

abbrev pub Taken : Option ReplyFacet → List ReplyFacet → List ReplyFacet → Type 0
Taken o old new = (old ≡ option_to_list o ++ new) × (new ≡ drop 1 old)

is_empty_by : (fs : List ReplyFacet) → fs ≡ drop 1 fs → fs ≡ []
is_empty_by [] h = refl
is_empty_by (f ∷ fs) h = let e : length (f ∷ fs) ≡ length fs = ap length h in absurd (omega arith)

pub none_left : (old new : List ReplyFacet) → Taken None old new → facets_view old ≡ no_facets
none_left old new h = ap facets_view (is_empty_by old (h.0 ∙ h.1))

pub first_taken : (o : Option ReplyFacet) (old new : List ReplyFacet) (more : Facets) → Taken o old new → facet_over (option_map facet_view o) more ≡ with_first (facets_view old) more
first_taken None old new more h = sym (ap (λ F. with_first F more) (none_left old new h))
first_taken (Some f) old new more h = sym (ap (λ fs. with_first (facets_view fs) more) h.0 ∙ with_facet f (facets_view new) more)

pub rest_taken : (old new : List ReplyFacet) → new ≡ drop 1 old → facets_view new ≡ after_first (facets_view old)
rest_taken old new h = ap facets_view h ∙ one_less old

pub front_is : (fs : List ReplyFacet) (f : ReplyFacet) → 0 < length fs → f ≡ get_or fs 0 f → facets_view fs ≡ facet_view f (facets_view (drop 1 fs))
front_is [] f h is = absurd (omega arith)
front_is (g ∷ fs) f h is = ap (λ x. facet_view x (facets_view fs)) (sym is)

pub none_first : (fs : List ReplyFacet) → length fs ≤ 0 → facets_view fs ≡ no_facets
none_first [] h = refl
none_first (f ∷ fs) h = absurd (omega arith)

-- ---- what a facet is by its body

pub one_bucket : (f : ReplyFacet) (b : ReplyBucket) (more : Facets) → (out-ReplyFacet f).body ≡ One b → first_bucket (facet_view f more) ≡ Some (bucket_view b)
one_bucket f b more h =
    ap first_bucket (view_of_facet f more) ∙ ap (λ (body : ReplyBody). first_bucket (body_view body (out-ReplyFacet f).name more)) h ∙ ap first_bucket (view_of_one b (out-ReplyFacet f).name more)

pub is_number : (f : ReplyFacet) (n : ℤ) (wanted : Text) (more : Facets) → (out-ReplyFacet f).body ≡ Number n → is_number_of wanted (facet_view f more) ≡ same_text wanted (out-ReplyFacet f).name
is_number f n wanted more h =
    ap (is_number_of wanted) (view_of_facet f more) ∙ ap (λ (body : ReplyBody). is_number_of wanted (body_view body (out-ReplyFacet f).name more)) h
    ∙ ap (is_number_of wanted) (view_of_number n (out-ReplyFacet f).name more)
