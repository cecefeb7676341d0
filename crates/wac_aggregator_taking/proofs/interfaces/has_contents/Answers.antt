use Rattle.std.proofs.Common.{arith}
use Rattle.wac_aggregator_memo.specs.Memo.{memo_of}
use Rattle.wac_aggregator_taking.proofs.ReadyLemmas.{each_noted}
use Rattle.wac_aggregator_taking.proofs.interfaces.has_contents.Goals as goal

pub returns-then-next-eq0-clause-exports : goal.returns-then-next-eq0-clause-exports
returns-then-next-eq0-clause-exports c = λ yes. each_noted (memo_of c.args.taken.now) c.args.exports.now.entries (λ i k below at. c.requires.noted i k (omega arith) below at)
