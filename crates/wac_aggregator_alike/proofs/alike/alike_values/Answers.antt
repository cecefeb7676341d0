use Rattle.wac_aggregator_alike.proofs.Fitting.{values_fit}
use Rattle.wac_aggregator_alike.proofs.alike.alike_values.Goals as goal

pub fits-requires-clause-truly : goal.fits-requires-clause-truly
fits-requires-clause-truly c = c.new.ensures c.args.own.now c.args.types.now

pub returns-then-not-branch : goal.returns-then-not-branch
returns-then-not-branch c = λ h. let fit = c.in_ok-fits.ensures.answer.1 (values_fit c.args.own.now c.args.types.now c.args.a c.args.b h.same) in absurd (cc)
