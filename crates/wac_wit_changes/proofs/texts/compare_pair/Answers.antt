use Rattle.wac_wit_changes.proofs.TextLemmas.{texts_compared}
use Rattle.wac_wit_changes.proofs.texts.compare_pair.Goals as goal

pub returns-in-Ok-clause-compared : goal.returns-in-Ok-clause-compared
returns-in-Ok-clause-compared c = λ features olds news. texts_compared c.args.old.now c.args.new.now features c.args.types _ olds news c.compare.ensures.grows c.in-Ok.ensures.reports
