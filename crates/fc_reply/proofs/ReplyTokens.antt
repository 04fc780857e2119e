-- The tokens of the objects of a reply, member by member.
use Rattle.std.proofs.Common.{◌≡◌, ℕ, List, [], ◌∷◌, ◌++◌, Option, None, Some, option_map, codes, refl, ap, ◌∙◌}
use Rattle.json.specs.Token.{Token, begin_object, end_object, key}
use Rattle.json.specs.Tree.{members_tokens}
use Rattle.json.specs.Print.{print}
use Rattle.json.specs.Written.{Written}
use Rattle.serde_json.specs.Data.{Data, string, array, object, Items, Members, no_members, member, put}
use Rattle.serde_json.specs.Written.{compact_text, members_outline}
use Rattle.serde_json.proofs.Texts.{print-outline}
use Rattle.fc_spec.specs.documents.Val.{Text}
use Rattle.fc_spec.specs.replies.Reply.{Bucket}
use Rattle.fc_spec.specs.replies.Json.{natural_data, bucket_data}
use Rattle.fc_spec.specs.scripts.Lines.{numbers_data}
use Rattle.fc_reply.specs.Tokens.{tokens_of, member_tokens, WritesTokens}
use Rattle.fc_reply.proofs.PutMembers.{put_bucket, put_number}

-- what a reply line says
abbrev pub line_data : Data → List ℕ → Text → Data
line_data facets generations session = object (put (codes "facets") facets (put (codes "generations") (array (numbers_data generations)) (put (codes "session") (string session) no_members)))

-- a bucket by its name, where it is there
abbrev pub beside_tokens : Text → Option Bucket → List Token
beside_tokens name b = member_tokens name (option_map bucket_data b)

-- the number of buckets, where it is there
abbrev pub number_tokens : Option ℕ → List Token
number_tokens n = member_tokens (codes "numBuckets") (option_map natural_data n)

-- a member before others, where it is there
abbrev member_before : Text → Option Data → Members → Members
member_before name None ms = ms
member_before name (Some d) ms = member name d ms

member_tokens-before : (name : Text) (d : Option Data) (ms : Members) → members_tokens (members_outline (member_before name d ms)) ≡ member_tokens name d ++ members_tokens (members_outline ms)
member_tokens-before name None ms = refl
member_tokens-before name (Some d) ms = refl

-- behind the list
abbrev behind : (missing : Option Bucket) → (number : Option ℕ) → Members
behind missing number = member_before (codes "missing") (option_map bucket_data missing) (member_before (codes "numBuckets") (option_map natural_data number) no_members)

put_behind : (missing : Option Bucket) (number : Option ℕ) (d : Data) → put_bucket (codes "missing") missing (put_number number (put (codes "buckets") d no_members)) ≡ member (codes "buckets") d (behind missing number)
put_behind None None d = refl
put_behind None (Some n) d = refl
put_behind (Some m) None d = refl
put_behind (Some m) (Some n) d = refl

-- and before it
abbrev in_front : (before between after : Option Bucket) → Members → Members
in_front before between after ms =
    member_before (codes "after") (option_map bucket_data after) (member_before (codes "before") (option_map bucket_data before) (member_before (codes "between") (option_map bucket_data between) ms))

put_in_front : (before between after : Option Bucket) (d : Data) (ms : Members)
    → put_bucket (codes "after") after (put_bucket (codes "between") between (put_bucket (codes "before") before (member (codes "buckets") d ms))) ≡ in_front before between after (member (codes "buckets") d ms)
put_in_front None None None d ms = refl
put_in_front None None (Some a) d ms = refl
put_in_front None (Some t) None d ms = refl
put_in_front None (Some t) (Some a) d ms = refl
put_in_front (Some b) None None d ms = refl
put_in_front (Some b) None (Some a) d ms = refl
put_in_front (Some b) (Some t) None d ms = refl
put_in_front (Some b) (Some t) (Some a) d ms = refl

-- the members of a facet's buckets in the order of their names
pub row_tokens : (missing before between after : Option Bucket) (number : Option ℕ) (ds : Items)
    → tokens_of (object (put_bucket (codes "after") after (put_bucket (codes "between") between (put_bucket (codes "before") before (put_bucket (codes "missing") missing (put_number number (put (codes "buckets") (array ds) no_members)))))))
    ≡ begin_object ∷ (beside_tokens (codes "after") after ++ (beside_tokens (codes "before") before ++ (beside_tokens (codes "between") between
    ++ key (codes "buckets") ∷ (tokens_of (array ds) ++ (beside_tokens (codes "missing") missing ++ (number_tokens number ++ end_object ∷ []))))))
row_tokens m b t a n ds =
    let list = member (codes "buckets") (array ds) (behind m n) in
    ap (λ ms. tokens_of (object (put_bucket (codes "after") a (put_bucket (codes "between") t (put_bucket (codes "before") b ms))))) (put_behind m n (array ds))
    ∙ ap (λ ms. tokens_of (object ms)) (put_in_front b t a (array ds) (behind m n))
    ∙ ap (λ ts. begin_object ∷ ts)
    (member_tokens-before (codes "after") (option_map bucket_data a) _
    ∙ ap (λ ts. beside_tokens (codes "after") a ++ ts) (member_tokens-before (codes "before") (option_map bucket_data b) _
    ∙ ap (λ ts. beside_tokens (codes "before") b ++ ts) (member_tokens-before (codes "between") (option_map bucket_data t) list
    ∙ ap (λ ts. beside_tokens (codes "between") t ++ key (codes "buckets") ∷ (tokens_of (array ds) ++ ts)) (member_tokens-before (codes "missing") (option_map bucket_data m) _
    ∙ ap (λ ts. beside_tokens (codes "missing") m ++ ts) (member_tokens-before (codes "numBuckets") (option_map natural_data n) no_members)))))

-- what a writer that began with nothing gives for data
pub printed : (a b : Written) (d : Data) → a.before ≡ [] → a.tokens ≡ [] → WritesTokens a b (tokens_of d) → b.before ++ print b.tokens ≡ compact_text d
printed a b d none empty h = ap (λ s. s ++ print b.tokens) (h.0 ∙ none) ∙ ap print (h.1 ∙ ap (λ ts. ts ++ tokens_of d) empty) ∙ print-outline d
