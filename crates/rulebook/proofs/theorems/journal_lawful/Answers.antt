use Rattle.rulebook.proofs.Whole.{journal_lawful}
use Rattle.rulebook.proofs.theorems.journal_lawful.Goals as goal

pub returns : goal.returns
returns c = journal_lawful
