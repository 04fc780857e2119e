-- Sums of some buckets.
use Rattle.std.specs.Prelude.{◌≡◌, Bool, true, List}
use Rattle.std.specs.Option.{ForSome}
use Rattle.fc_spec.specs.documents.World.{Place}
use Rattle.fc_spec.specs.requests.Buckets.{Key, bucket_places}
use Rattle.fc_spec.specs.requests.Request.{Kind, Stat}
use Rattle.fc_spec.specs.requests.Statistics.{stats_over}
use Rattle.fc_partial.specs.Adding.{AddUp}
use Rattle.fc_partial.specs.Tallied.{Entry}
use Rattle.fc_partial.specs.Tallying.{entry_at}

-- what each bucket among these keys has adds up with the statistics of the places
abbrev pub AddUpAmong : (Key → Bool) → Kind → List Stat → List Place → List Entry → Type 0
AddUpAmong keys kind ss Y es = (k : Key) → keys k ≡ true → ForSome (entry_at es k) (λ there. AddUp there (stats_over ss (bucket_places kind k Y)))
