-- The row of an exact facet, one key after another.
use Rattle.std.proofs.Common.{◌≡◌, List, [], ◌∷◌, ◌++◌, Bool, true, false, Option, None, option_map, is_some, if◌then◌else◌, refl, ap, sym, ◌∙◌}
use Rattle.fc_spec.specs.requests.Request.{Terms, terms}
use Rattle.fc_spec.specs.requests.Buckets.{Key, missing}
use Rattle.fc_spec.specs.replies.Reply.{Bucket, Facets, no_facets, number, one, many, counted, Row, no_parts, part, spot_of, val_of, listed, as_missing}
use Rattle.fc_spec.specs.replies.Restored.{after_first, after_keys, row_from, with_val}
use Rattle.fc_reply.specs.ReplyView.{parts_over, part_over}
use Rattle.fc_replaced.specs.Fronts.{first_bucket, row_if}

-- the bucket of a key before the row of those behind it, where it is there
abbrev pub one_before : Terms → Key → Option Bucket → Row → Row
one_before t k o more = part_over (spot_of k) (option_map (with_val (val_of (terms t) k)) o) more

row_from-key : (t : Terms) (k : Key) (ks : List Key) (F : Facets)
    → row_from t (k ∷ ks) F ≡ one_before t k (first_bucket F) (row_if (is_some (first_bucket F)) t ks (after_first F))
row_from-key t k ks no_facets = refl
row_from-key t k ks (number name n more) = refl
row_from-key t k ks (one name b more) = refl
row_from-key t k ks (many name row more) = refl
row_from-key t k ks (counted name n row more) = refl

abbrev chosen_if : Bool → Option Bucket → Option Bucket
chosen_if whole o = if whole then o else None

by_whole : (whole : Bool) (t : Terms) (k : Key) (ks : List Key) (F : Facets)
    → row_if whole t (k ∷ ks) F ≡ one_before t k (chosen_if whole (first_bucket F)) (row_if (is_some (chosen_if whole (first_bucket F))) t ks (after_first F))
by_whole true t k ks F = row_from-key t k ks F
by_whole false t k ks F = refl

pub row_if-key : (whole : Bool) (t : Terms) (k : Key) (ks : List Key) (F : Facets) (o : Option Bucket) → o ≡ (if whole then first_bucket F else None)
    → row_if whole t (k ∷ ks) F ≡ one_before t k o (row_if (is_some o) t ks (after_first F))
row_if-key whole t k ks F o is = by_whole whole t k ks F ∙ ap (λ o. one_before t k o (row_if (is_some o) t ks (after_first F))) (sym is)

pub after_keys-append : (ks ls : List Key) (F : Facets) → after_keys (ks ++ ls) F ≡ after_keys ls (after_keys ks F)
after_keys-append [] ls F = refl
after_keys-append (k ∷ ks) ls F = after_keys-append ks ls (after_first F)

-- one more bucket at the end
pub parts_over-pushed : (done : List Bucket) (b : Bucket) (more : Row) → parts_over listed (done ++ b ∷ []) more ≡ parts_over listed done (part listed b more)
parts_over-pushed [] b more = refl
parts_over-pushed (d ∷ ds) b more = ap (part listed d) (parts_over-pushed ds b more)

-- ---- what a step takes

pub bucket_step : (whole behind : Bool) (t : Terms) (k : Key) (ks : List Key) (F G : Facets) (o : Option Bucket)
    → o ≡ (if whole then first_bucket F else None) → behind ≡ is_some o → G ≡ after_first F → one_before t k o (row_if behind t ks G) ≡ row_if whole t (k ∷ ks) F
bucket_step whole behind t k ks F G o taken is left =
    ap (λ b. one_before t k o (row_if b t ks G)) is ∙ ap (λ H. one_before t k o (row_if (is_some o) t ks H)) left ∙ sym (row_if-key whole t k ks F o taken)

pub row_if-end : (whole : Bool) (t : Terms) (F : Facets) → row_if whole t [] F ≡ no_parts
row_if-end true t F = refl
row_if-end false t F = refl

pub missing_step : (whole : Bool) (t : Terms) (F : Facets) (o shown : Option Bucket) → o ≡ (if whole then first_bucket F else None) → shown ≡ option_map (with_val None) o
    → part_over as_missing shown no_parts ≡ row_if whole t (missing ∷ []) F
missing_step whole t F o shown taken is =
    ap (λ r. part_over as_missing r no_parts) is ∙ ap (one_before t missing o) (sym (row_if-end (is_some o) t (after_first F))) ∙ sym (row_if-key whole t missing [] F o taken)
