use Rattle.std.proofs.Common.{◌∙◌, sym}
use Rattle.std.proofs.lemmas.Slice.Eq.{bytes_eq-Decides}
use Rattle.wac_wit_refusals_types.specs.TypeSteps.{type_gives, use_gives}
use Rattle.wac_wit_refusals_sites.proofs.TypeFacts.{among_read}
use Rattle.wac_wit_refusals_types.proofs.type_names.is_given.Goals as goal

pub returns-then-eq : goal.returns-then-eq
returns-then-eq c is = type_gives c.defined-item.result (among_read c.args.types.now c.loop-defined.defined-index c.defined-item.result c.loop-defined-test.true c.defined-item.is) ((bytes_eq-Decides _ _).0 (sym c.eq.ensures ∙ c.if-eq.true))

pub returns-then-gives : goal.returns-then-gives
returns-then-gives c is = use_gives c.using-item.result (among_read c.args.uses.now c.loop-using.using-index c.using-item.result c.loop-using-test.true c.using-item.is) (c.gives.ensures.0 c.if-gives.true)
