use Rattle.std.proofs.Common.{sym, append-nil}
use Rattle.wac_core_merge.proofs.names.insert_if_any.Goals as goal

pub returns-in-None : goal.returns-in-None
returns-in-None g c = rw c.in-None.is (sym (append-nil c.args.map.now.entries))
