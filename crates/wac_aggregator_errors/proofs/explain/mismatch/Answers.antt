use Rattle.std.proofs.lemmas.Result.{IfOk-weaker}
use Rattle.wac_aggregator_errors.proofs.Ways.{said_from}
use Rattle.wac_aggregator_errors.proofs.explain.mismatch.Goals as goal

pub follow-requires-clause-known : goal.follow-requires-clause-known
follow-requires-clause-known c = c.new-meets.ensures c.args.own.now

pub returns-in-Ok-clause-mismatch : goal.returns-in-Ok-clause-mismatch
returns-in-Ok-clause-mismatch c =
    IfOk-weaker c.innermost.result _ _ (said_from c.args.own.now c.follow.new.own (c.args.existing, c.args.new) (c.in-Ok.field-0.existing, c.in-Ok.field-0.new) c.args.frames.items c.follow.new.frames.items c.args.check c.in-Ok.ensures.way) c.innermost.ensures
