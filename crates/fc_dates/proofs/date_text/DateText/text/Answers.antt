use Rattle.fc_dates.proofs.AsciiTexts.{canonical_utf8}
use Rattle.fc_dates.proofs.date_text.DateText.text.Goals as goal

pub returns-in-Err : goal.returns-in-Err
returns-in-Err c = absurd (c.in-Err.ensures.cases.0 (canonical_utf8 c.args.self.now.bytes c.args.self.now.canonical))
