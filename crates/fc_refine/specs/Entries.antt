-- Lists of what is ranked.
use Rattle.std.specs.Prelude.{List, map, ◌++◌, IsPermutation}
use Rattle.std.specs.List.Sorted.{IsStrictlySortedBy}
use Rattle.fc_spec.specs.documents.Val.{val_cmp}
use Rattle.fc_spec.specs.requests.Ranks.{Entry}

-- the values ascend in index order, so that none stands twice
abbrev pub HaveAscendingValues : List Entry → Type 0
HaveAscendingValues es = IsStrictlySortedBy val_cmp (map (λ e. e.val) es)

-- some of a list are all of it but for others
abbrev pub AreAmong : {T : Type 0} → (some all : List T) → Type 0
AreAmong {T} some all = (others : List T) × IsPermutation all (some ++ others)
