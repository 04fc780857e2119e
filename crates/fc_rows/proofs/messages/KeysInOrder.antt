-- The order of keys.
use Rattle.std.specs.Prelude.{◌≡◌, pos, negsuc, true, false, refl}
use Rattle.std.specs.declared.cmp.Ordering.TheVariants.{Less, Equal, Greater}
use Rattle.fc_spec.specs.documents.Val.{long}
use Rattle.fc_spec.specs.requests.Buckets.{value, missing, gap, before, between, after, whole}
use Rattle.fc_spec.specs.messages.KeyOrder.{key_cmp, same_key}
use Rattle.fc_rows.proofs.messages.MessageWords.{key_of}

-- values in index order: integers by their number, texts by their bytes
pub integers : key_cmp (value (long (negsuc 0))) (value (long (pos 0))) ≡ Less
integers = refl

pub integer_before_text : key_cmp (value (long (pos 9))) (key_of "") ≡ Less
integer_before_text = refl

pub texts : key_cmp (key_of "Z") (key_of "a") ≡ Less
texts = refl

pub longer_text : key_cmp (key_of "a") (key_of "ab") ≡ Less
longer_text = refl

-- then missing, the gaps by number, before, between, after and the whole
pub value_before_missing : key_cmp (key_of "zz") missing ≡ Less
value_before_missing = refl

pub missing_before_gap : key_cmp missing (gap 0) ≡ Less
missing_before_gap = refl

pub gaps : key_cmp (gap 9) (gap 10) ≡ Less
gaps = refl

pub gap_before_before : key_cmp (gap 10) before ≡ Less
gap_before_before = refl

pub before_before_between : key_cmp before between ≡ Less
before_before_between = refl

pub between_before_after : key_cmp between after ≡ Less
between_before_after = refl

pub after_before_whole : key_cmp after whole ≡ Less
after_before_whole = refl

-- the other way round, and each with itself
pub between_behind_before : key_cmp between before ≡ Greater
between_behind_before = refl

pub missing_behind_value : key_cmp missing (key_of "a") ≡ Greater
missing_behind_value = refl

pub same_value : same_key (key_of "a") (key_of "a") ≡ true
same_value = refl

pub same_gap : key_cmp (gap 3) (gap 3) ≡ Equal
same_gap = refl

pub other_gap : same_key (gap 3) (gap 4) ≡ false
other_gap = refl

pub same_whole : same_key whole whole ≡ true
same_whole = refl
