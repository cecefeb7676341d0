use Rattle.wac_wit.proofs.Listing.{knowing_kept, knowing_then}
use Rattle.wac_wit.proofs.packages.are_added.Goals as goal

pub loop-index-init : goal.loop-index-init
loop-index-init c = knowing_kept c.args.validator.now

pub loop-index-preserved : goal.loop-index-preserved
loop-index-preserved c = knowing_then c.args.validator.now c.loop-index.validator c.is_added.new.validator c.loop-index.invariant c.is_added.ensures

pub returns-in_err-is_added : goal.returns-in_err-is_added
returns-in_err-is_added c = knowing_then c.args.validator.now c.loop-index.validator c.is_added.new.validator c.loop-index.invariant c.is_added.ensures

pub returns-then-not-branch : goal.returns-then-not-branch
returns-then-not-branch c = knowing_then c.args.validator.now c.loop-index.validator c.is_added.new.validator c.loop-index.invariant c.is_added.ensures

pub returns : goal.returns
returns c = c.loop-index.invariant
