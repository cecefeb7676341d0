use Rattle.wac_checker.proofs.WalkLemmas.{listed_apart, listed_modules, listed_part_apart, listed_whole}
use Rattle.wac_checker.proofs.walk.list_pair.Goals as goal

pub returns-in-Ok-clause-listed : goal.returns-in-Ok-clause-listed
returns-in-Ok-clause-listed c = listed_whole c.args.sides.now.left.now c.args.sides.now.right.now c.args.pair.now c.list_parts.new.parts.items c.in-Ok.ensures.listed

pub returns-in-Err-Apart-clause-listed : goal.returns-in-Err-Apart-clause-listed
returns-in-Err-Apart-clause-listed c = listed_apart c.args.sides.now.left.now c.args.sides.now.right.now c.args.pair.now c.list_parts.new.parts.items _ (rw c.in-Err-Apart.field-0-is at c.in-Err-Apart.ensures.listed)

pub returns-in-Err-PartApart-clause-listed : goal.returns-in-Err-PartApart-clause-listed
returns-in-Err-PartApart-clause-listed c = listed_part_apart c.args.sides.now.left.now c.args.sides.now.right.now c.args.pair.now c.list_parts.new.parts.items _ _ _ (rw c.in-Err-PartApart.field-0-is at c.in-Err-PartApart.ensures.listed)

pub returns-in-Err-Modules-clause-listed : goal.returns-in-Err-Modules-clause-listed
returns-in-Err-Modules-clause-listed c = listed_modules c.args.sides.now.left.now c.args.sides.now.right.now c.args.pair.now c.list_parts.new.parts.items (rw c.in-Err-Modules.field-0-is at c.in-Err-Modules.ensures.listed)

pub returns-in-Err-Apart-clause-halt : goal.returns-in-Err-Apart-clause-halt
returns-in-Err-Apart-clause-halt c = (c.list_parts.new.parts.items, rw c.in-Err-Apart.field-0-is at c.in-Err-Apart.ensures.listed)

pub returns-in-Err-PartApart-clause-halt : goal.returns-in-Err-PartApart-clause-halt
returns-in-Err-PartApart-clause-halt c = (c.list_parts.new.parts.items, rw c.in-Err-PartApart.field-0-is at c.in-Err-PartApart.ensures.listed)

pub returns-in-Err-Modules-clause-halt : goal.returns-in-Err-Modules-clause-halt
returns-in-Err-Modules-clause-halt c = (c.list_parts.new.parts.items, rw c.in-Err-Modules.field-0-is at c.in-Err-Modules.ensures.listed)
