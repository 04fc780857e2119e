-- The text that a canonical text of a date is.
use Rattle.fc_spec.specs.documents.Val.{Text}
use Rattle.fc_dates.specs.declared.date_text.DateText.{DateText}

abbrev pub date_view : DateText → Text
date_view d = d.bytes
