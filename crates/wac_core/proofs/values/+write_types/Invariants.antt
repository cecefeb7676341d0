use Rattle.std.proofs.Common.{length}
use Rattle.wac_core.proofs.values.+write_types.Given as goal

abbrev pub decreases-write_types : goal.decreases-write_types
decreases-write_types g l = length l.types.now
