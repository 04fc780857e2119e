-- The line on standard error for each status.
use Rattle.std.specs.Prelude.{codes, Option, None, Some}
use Rattle.fc_spec.specs.documents.Val.{Text}
use Rattle.fc_run.specs.declared.status.Status.{Status}
use Rattle.fc_run.specs.declared.status.Status.TheVariants.{Done, Usage, Script, Read, Memory, Write}

-- none for Done
abbrev pub complaint_of : Status → Option Text
complaint_of Done = None
complaint_of Usage = Some (codes "usage: facets [--workers N] [--demo N]")
complaint_of Script = Some (codes "facets: the script has a fault")
complaint_of Read = Some (codes "facets: reading failed")
complaint_of Memory = Some (codes "facets: no memory")
complaint_of Write = Some (codes "facets: writing failed")
