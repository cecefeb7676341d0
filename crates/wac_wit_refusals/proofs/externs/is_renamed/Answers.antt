use Rattle.std.proofs.Common.{refl}
use Rattle.wac_wit_refusals.proofs.externs.is_renamed.Goals as goal

pub returns-then-is_there : goal.returns-then-is_there
returns-then-is_there c is of knows = record { there = (c.if-is_there.ensures of knows).0 refl; name = c.in-Named.field-0; path = c.in-Named.path; renames = c.in-Named.is; stands = c.is_at.ensures is }
