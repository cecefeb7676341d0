use Rattle.std.proofs.Common.{List, Contains, refl, sym, subst}
use Rattle.wac_wit_refusals_worlds.specs.SaidTwice.{IsSaidTwiceBy}
use Rattle.wac_wit_scopes.specs.Scopes.{scope_syntax}
use Rattle.wac_wit_syntax.specs.declared.tree.WorldItem.{WorldItem}
use Rattle.wac_wit_refusals_worlds.proofs.said_twice.is_said_twice_in.Goals as goal

pub returns-then-branch : goal.returns-then-branch
returns-then-branch c is of knows = record {
  decl = c.in-World.decl;
  among = subst (Contains c.args.scope.now.items.now) c.in-World.is (c.loop-item.item-index, c.loop-item-test.true, sym c.item-item.is);
  there = (c.if-is_there.ensures of knows).0 refl;
  twice = subst (λ (is : List WorldItem). IsSaidTwiceBy of (scope_syntax c.args.scope.now) is c.args.span) c.deref.ensures.value (c.in_ok-is_said_twice_by.ensures c.if-branch.true of knows);
}
