use Rattle.std.proofs.Common.{sym}
use Rattle.wac_wit_refusals.proofs.given_twice.has_member_in.Goals as goal

pub returns-then-is_member : goal.returns-then-is_member
returns-then-is_member c is = record { item = c.item-item.result; among = (c.loop-item.item-index, c.loop-item-test.true, sym c.item-item.is); is = c.if-is_member.ensures is }
