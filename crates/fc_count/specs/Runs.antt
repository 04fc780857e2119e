-- Positions with the numbers that count them.
use Rattle.std.specs.Prelude.{◌≡◌, ℕ, ℤ, List, map, false, true, Some}
use Rattle.std.specs.List.{filter}
use Rattle.std.specs.Option.{ForSome}
use Rattle.std.specs.Ordering.{int_eq}
use Rattle.fc_spec.specs.documents.Document.{Block}
use Rattle.fc_spec.specs.documents.World.{Place}
use Rattle.fc_spec.specs.messages.KeyOrder.{same_key}
use Rattle.fc_spec.specs.requests.Buckets.{Key}
use Rattle.fc_spec.specs.requests.Request.{Stat}
use Rattle.fc_spec.specs.requests.Statistics.{stats_over}
use Rattle.fc_spec.specs.words.Lists.{is_empty}
use Rattle.fc_partial.specs.Adding.{AddUp}
use Rattle.fc_partial.specs.Fitting.{StatisticsFit}
use Rattle.fc_partial.specs.Tallied.{Entry, Tallied}
use Rattle.fc_partial.specs.Tallying.{entry_at, with_more}
use Rattle.fc_kind.specs.PlaceAt.{place_at}
use Rattle.fc_count.specs.Counting.{Counting}

-- those of a number, in the order in which they stand
abbrev pub of_number : ℤ → List Counting → List Counting
of_number n cs = filter (λ c. int_eq c.number n) cs

-- the positions that a number counts
abbrev pub positions_of : List Counting → ℤ → List ℕ
positions_of cs n = map (λ c. c.at) (of_number n cs)

-- the places that a number counts
abbrev pub places_of : List Block → List Counting → ℤ → List Place
places_of blocks cs n = map (place_at blocks) (positions_of cs n)

-- numbers with one key are one
abbrev pub NumbersApart : (ℤ → Type 0) → (ℤ → Key) → Type 0
NumbersApart has_key key = (m n : ℤ) → has_key m → has_key n → same_key (key m) (key n) ≡ true → m ≡ n

-- the statistics of the places of each number fit, and add up with those of its key
abbrev pub NumbersFit : List Block → List Counting → Type 0
NumbersFit blocks cs = (n : ℤ) → is_empty (places_of blocks cs n) ≡ false → StatisticsFit (places_of blocks cs n)

abbrev pub NumbersAddUp : List Block → List Stat → (ℤ → Key) → List Counting → List Entry → Type 0
NumbersAddUp blocks ss key cs es =
    (n : ℤ) → is_empty (places_of blocks cs n) ≡ false → ForSome (entry_at es (key n)) (λ there. AddUp there (stats_over ss (places_of blocks cs n)))

-- the key of each number that counts a place has the statistics of its places too, and nothing else changes
pub record AddsRuns (blocks : List Block) (ss : List Stat) (key : ℤ → Key) (cs : List Counting) (old new : Tallied) : Type 0 where
  pub stats : new.stats ≡ old.stats
  pub grown : (n : ℤ) → is_empty (places_of blocks cs n) ≡ false
      → entry_at new.entries (key n) ≡ Some (with_more ss (entry_at old.entries (key n)) (stats_over ss (places_of blocks cs n)))
  pub others : (k : Key) → ((n : ℤ) → is_empty (places_of blocks cs n) ≡ false → same_key k (key n) ≡ false) → entry_at new.entries k ≡ entry_at old.entries k
