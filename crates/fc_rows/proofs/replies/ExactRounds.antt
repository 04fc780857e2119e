-- Who is asked what for exact facets: the share of a count, rounds without a third, no values at all, documents without a value, no limit.
use Rattle.std.specs.Prelude.{◌≡◌, [], ◌∷◌, true, refl, codes}
use Rattle.fc_spec.specs.documents.World.{World}
use Rattle.fc_spec.specs.requests.Request.{Terms, terms, no_nodes, facet, Request}
use Rattle.fc_spec.specs.requests.Buckets.{whole, missing}
use Rattle.fc_spec.specs.replies.WithTops.{with_tops}
use Rattle.fc_spec.specs.replies.Tops.{only_exact}
use Rattle.fc_spec.specs.replies.Json.{facets_text}
use Rattle.fc_spec.specs.messages.Message.{no_partials}
use Rattle.fc_spec.specs.messages.TopRounds.{exact_first, exact_least, exact_more, exact_answer, exact_rounds}
use Rattle.fc_spec.specs.messages.Trace.{trace}
use Rattle.fc_spec.specs.messages.WholeTrace.{whole_trace}
use Rattle.fc_rows.proofs.Words.{written, said, alone, labelled, limited_on, unlimited_on, named, asking}
use Rattle.fc_rows.proofs.messages.MessageWords.{heard, key_of, leaf, around, want}
use Rattle.fc_rows.proofs.replies.ExactExclusion as exclusion
use Rattle.fc_rows.proofs.replies.ExactWords.{asked, asked_in, heard_whole}
use Rattle.fc_rows.proofs.replies.NestedExclusion.{products}
use Rattle.fc_rows.proofs.replies.SecondEverywhere as second

abbrev pub exactly : Terms → Request
exactly t = asking (facet (named "c" (terms (record t { refine = true; exact = true }))) no_nodes no_nodes)

-- ---- a share of the greatest count

-- four of a: shards list from half of it on, and a quarter would be one
abbrev pub halves : World
halves =
    (labelled "1" "a" ∷ labelled "2" "a" ∷ labelled "3" "a" ∷ labelled "4" "b" ∷ [])
    ∷ (labelled "5" "a" ∷ labelled "6" "b" ∷ [])
    ∷ []

abbrev pub first_of_halves : Request
first_of_halves = exactly (record (limited_on 1 1) { overrequest = 1 })

pub half_is_asked : asked_in (exact_rounds (only_exact first_of_halves) halves) ≡ asked 1 0 exact_first ∷ asked 1 1 exact_first ∷ asked 2 0 (exact_least (2 ∷ [])) ∷ asked 2 1 (exact_least (2 ∷ [])) ∷ []
half_is_asked = refl

-- each shard told of both values, so no third round is held
pub no_third_round : heard_whole first_of_halves halves ≡ heard 1 0 ∷ heard 1 1 ∷ heard 2 0 ∷ heard 2 1 ∷ heard 3 0 ∷ heard 3 1 ∷ []
no_third_round = refl

-- ---- a shard that lacks a value

-- only the second shard has told nothing of the brand
pub one_lacks_it : asked_in (exact_rounds (only_exact exclusion.request) products)
    ≡ asked 1 0 exact_first ∷ asked 1 1 exact_first ∷ asked 2 0 (exact_least (1 ∷ [])) ∷ asked 2 1 (exact_least (1 ∷ [])) ∷ asked 3 1 (exact_more (want [] 0 (key_of "acme") ∷ [])) ∷ []
one_lacks_it = refl

-- ---- one shard

abbrev pub alone_there : World
alone_there = (labelled "1" "a" ∷ labelled "2" "a" ∷ labelled "3" "b" ∷ []) ∷ []

pub three_rounds : heard_whole (exactly (limited_on 1 1)) alone_there ≡ heard 1 0 ∷ heard 2 0 ∷ heard 3 0 ∷ []
three_rounds = refl

-- ---- no values

abbrev pub none_of_them : Request
none_of_them = exactly (record (limited_on 1 0) { overrequest = 0 })

pub nothing_is_listed : asked_in (exact_rounds (only_exact none_of_them) second.documents)
    ≡ asked 1 0 exact_first ∷ asked 1 1 exact_first ∷ asked 2 0 (exact_least (18446744073709551615 ∷ [])) ∷ asked 2 1 (exact_least (18446744073709551615 ∷ [])) ∷ []
nothing_is_listed = refl

pub no_bucket : facets_text (with_tops none_of_them second.documents) ≡ codes "{\"c\":{\"buckets\":[]},\"count\":10}"
unfolding written
no_bucket = refl

-- ---- documents without a value

abbrev pub with_missing : World
with_missing = (labelled "1" "a" ∷ alone (said "2" ∷ [] ∷ []) ∷ []) ∷ []

abbrev pub first_and_missing : Request
first_and_missing = exactly (record (limited_on 1 1) { missing = true })

pub missing_is_listed : exact_answer (only_exact first_and_missing) with_missing 0 (exact_least (1 ∷ [])) ≡ around whole 2 (leaf (key_of "a") 1 (leaf missing 1 no_partials))
missing_is_listed = refl

pub missing_is_printed : facets_text (with_tops first_and_missing with_missing) ≡ codes "{\"c\":{\"buckets\":[{\"count\":1,\"val\":\"a\"}],\"missing\":{\"count\":1}},\"count\":2}"
unfolding written
missing_is_printed = refl

-- ---- no limit

-- it is asked for as any facet without a limit is
pub unlimited_as_ever : whole_trace (exactly (unlimited_on 1)) second.documents ≡ trace (exactly (unlimited_on 1)) second.documents
unlimited_as_ever = refl
