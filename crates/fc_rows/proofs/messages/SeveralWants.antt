-- A shard that lacks several chosen values is asked for each once, printed or not; what stands inside is asked for under printed buckets only.
use Rattle.std.specs.Prelude.{◌≡◌, ℕ, List, [], ◌∷◌, true, None, refl, codes}
use Prim.Native.String.{String}
use Rattle.fc_spec.specs.documents.Document.{Block}
use Rattle.fc_spec.specs.documents.World.{World}
use Rattle.fc_spec.specs.requests.Request.{Terms, terms, no_nodes, facet, Request}
use Rattle.fc_spec.specs.messages.Message.{Way}
use Rattle.fc_spec.specs.messages.Lacks.{Lack, lacks}
use Rattle.fc_spec.specs.messages.Rounds.{told_in, wants_of, search_rounds}
use Rattle.fc_rows.proofs.Words.{written, said, alone, limited_on, named, asking}
use Rattle.fc_rows.proofs.messages.MessageWords.{next_lacks_of, key_of, want, heard, heard_in, up_to_round, merged_text}

-- fields: id, cat, size; every size is s
abbrev pub sized : String → String → Block
sized id cat = alone (said id ∷ said cat ∷ said "s" ∷ [])

abbrev pub documents : World
documents =
    (sized "1" "a" ∷ sized "2" "a" ∷ sized "3" "a" ∷ sized "4" "b" ∷ sized "5" "b" ∷ [])
    ∷ (sized "6" "c" ∷ sized "7" "c" ∷ sized "8" "c" ∷ sized "9" "c" ∷ [])
    ∷ []

-- two buckets, of three chosen; with one size in each
abbrev pub two_of_three : Terms
two_of_three = record (limited_on 1 2) { refine = true; overrequest = 0; overrefine = 1 }

abbrev pub asking_for : Terms → Request
asking_for t = asking (facet (named "cats" (terms t)) (facet (named "sizes" (terms (record (limited_on 2 1) { refine = true; overrequest = 0; overrefine = 0 }))) no_nodes no_nodes) no_nodes)

abbrev pub request : Request
request = asking_for two_of_three

-- what lacks after a round
abbrev pub lacking_after : ℕ → List Lack
lacking_after round = next_lacks_of 2 request (told_in request.nodes (up_to_round round request documents)) 2 0

pub three_rounds : heard_in (search_rounds request documents) ≡ heard 1 0 ∷ heard 1 1 ∷ heard 2 0 ∷ heard 2 1 ∷ heard 3 0 ∷ heard 3 1 ∷ []
three_rounds = refl

pub first_shard_wants : wants_of 0 (lacking_after 1) ≡ want [] 0 (key_of "c") ∷ []
first_shard_wants = refl

pub second_shard_wants : wants_of 1 (lacking_after 1) ≡ want [] 0 (key_of "a") ∷ want [] 0 (key_of "b") ∷ []
second_shard_wants = refl

-- under c and under a, which are printed, and not under b
abbrev pub under : String → Way
under cat = record { node = 0; key = key_of cat } ∷ []

pub first_shard_wants_inside : wants_of 0 (lacking_after 2) ≡ want (under "c") 0 (key_of "s") ∷ []
first_shard_wants_inside = refl

pub second_shard_wants_inside : wants_of 1 (lacking_after 2) ≡ want (under "a") 0 (key_of "s") ∷ []
second_shard_wants_inside = refl

pub merged_reply : merged_text request (search_rounds request documents)
    ≡ codes "{\"cats\":{\"buckets\":[{\"count\":4,\"sizes\":{\"buckets\":[{\"count\":4,\"val\":\"s\"}]},\"val\":\"c\"},{\"count\":3,\"sizes\":{\"buckets\":[{\"count\":3,\"val\":\"s\"}]},\"val\":\"a\"}]},\"count\":9}"
unfolding written
merged_reply = refl

-- with a mincount above all counts the chosen are asked for, nothing is printed, and nothing is asked for inside
abbrev pub none_printed : Request
none_printed = asking_for (record two_of_three { mincount = 9 })

pub none_printed_rounds : heard_in (search_rounds none_printed documents) ≡ heard 1 0 ∷ heard 1 1 ∷ heard 2 0 ∷ heard 2 1 ∷ []
none_printed_rounds = refl

pub none_printed_reply : merged_text none_printed (search_rounds none_printed documents) ≡ codes "{\"cats\":{\"buckets\":[]},\"count\":9}"
unfolding written
none_printed_reply = refl

-- without a limit the categories are not asked for again: the second round asks inside, under all three
abbrev pub all_printed : Request
all_printed = asking_for (record two_of_three { limit = None; overrefine = 0 })

pub all_printed_rounds : heard_in (search_rounds all_printed documents) ≡ heard 1 0 ∷ heard 1 1 ∷ heard 2 0 ∷ heard 2 1 ∷ []
all_printed_rounds = refl

pub nothing_at_the_first_depth : lacks all_printed 2 (told_in all_printed.nodes (up_to_round 1 all_printed documents)) 0 ≡ []
nothing_at_the_first_depth = refl

pub second_shard_wants_both : wants_of 1 (lacks all_printed 2 (told_in all_printed.nodes (up_to_round 1 all_printed documents)) 1)
    ≡ want (under "a") 0 (key_of "s") ∷ want (under "b") 0 (key_of "s") ∷ []
second_shard_wants_both = refl
