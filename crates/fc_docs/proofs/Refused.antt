-- A refusal of a part is a refusal of the whole.
use Rattle.std.proofs.Common.{◌≡◌, Result, Err}
use Rattle.fc_spec.specs.documents.DocFault as fault
use Rattle.fc_base.specs.Answers.{Answers}
use Rattle.fc_base.specs.declared.error.Refusal.{Refusal}
use Rattle.fc_base.specs.declared.error.Refusal.TheVariants.{Memory, Fault}
use Rattle.fc_docs.specs.declared.fault.DocFault.{DocFault}
use Rattle.fc_docs.specs.View.{fault_view}

-- what a refusal says of a definition
abbrev pub Refuses : {V : Type 0} → Refusal DocFault → Result V fault.DocFault → Type 0
Refuses {V} r defined = Answers (λ (v : V). v) fault_view (Err r) defined

-- where the part's fault is the whole's
pub refused : {V W : Type 0} (r : Refusal DocFault) (part : Result V fault.DocFault) (all : Result W fault.DocFault) → ((e : fault.DocFault) → part ≡ Err e → all ≡ Err e) → Refuses r part → Refuses r all
refused Memory part all passes answer = tt
refused (Fault f) part all passes answer = passes (fault_view f) answer
