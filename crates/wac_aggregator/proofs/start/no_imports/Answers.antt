use Rattle.std.proofs.Common.{ap, ◌∙◌}
use Rattle.wac_aggregator_memo.specs.Memo.{Remembered}
use Rattle.wac_aggregator.proofs.Beginning.{starts}
use Rattle.wac_aggregator.proofs.start.no_imports.Goals as goal

pub returns : goal.returns
returns c = starts _ c.args.number c.sound.ensures c.new-types.ensures (c.make_room-made.ensures.imports ∙ c.new-imports.ensures) c.filed.ensures (c.make_room-made.ensures.shared ∙ c.new-shared.ensures.empty)
    (λ k. ap (λ (m : Remembered). m k) c.make_room-made.ensures.taken ∙ c.new-taken.ensures k) c.new.ensures
