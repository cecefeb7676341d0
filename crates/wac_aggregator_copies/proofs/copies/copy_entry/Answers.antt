use Rattle.std.proofs.Common.{[], ◌∷◌, sym, ◌∙◌}
use Rattle.wac_component.specs.Naming.{key_of}
use Rattle.wac_aggregator_copies.proofs.CopyLemmas.{HasCopies-had}
use Rattle.wac_aggregator_copies.proofs.copies.copy_entry.Goals as goal

pub returns-then-has : goal.returns-then-has
returns-then-has c = HasCopies-had c.args.types.now c.args.own.now c.args.copies.now (key_of c.args.id ∷ []) (sym c.has.ensures ∙ c.if-has.true, tt)
