use Rattle.std.proofs.Common.{inl, inr, refl}
use Rattle.serde_json.specs.Data.{boolean, null, string}
use Rattle.fc_docs.proofs.SingleTokens.{number_single}
use Rattle.fc_docs.proofs.direct.fields.is_single.Goals as goal

pub returns-in-String : goal.returns-in-String
returns-in-String c = elim c.in-String.is [ inl text ↦ rw text.1 (string text.0.now, refl) | inr other ↦ elim other [ inl truth ↦ rw truth.1 (boolean truth.0, refl) | inr none ↦ rw none (null, refl) ] ]

pub returns-in-Number : goal.returns-in-Number
returns-in-Number c = rw c.in-Number.is (number_single c.in-Number.digits.now c.integer_of.result c.integer_of.ensures c.is_some.result c.is_some.ensures)
