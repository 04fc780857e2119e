-- What the crate's own types stand for.
use Rattle.fc_words.specs.Words.{Asked}
use Rattle.fc_words.specs.declared.options.Options.{Options}

abbrev pub asked_of : Options → Asked
asked_of o = record { workers = o.workers; demo = o.demo }
