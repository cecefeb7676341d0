use Rattle.std.proofs.Common.{Contains, sym, subst}
use Rattle.wac_wit_refusals.proofs.given_twice.is_taken_in.Goals as goal

pub returns-then-is_taken : goal.returns-then-is_taken
returns-then-is_taken c is of knows = record {
  used = c.in-Use.used;
  among = subst (Contains c.args.scope.now.items.now) c.in-Use.is (c.loop-item.item-index, c.loop-item-test.true, sym c.item-item.is);
  stands = c.if-is_taken.ensures.stands is;
  other = c.if-is_taken.ensures.other is;
  taken = c.if-is_taken.ensures.taken is of knows;
}
