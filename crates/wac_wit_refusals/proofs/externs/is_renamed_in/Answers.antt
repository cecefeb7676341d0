use Rattle.std.proofs.Common.{List, Contains, refl, sym, subst}
use Rattle.wac_wit_refusals.specs.Externs.{IsRenamedBy}
use Rattle.wac_wit_syntax.specs.declared.tree.WorldItem.{WorldItem}
use Rattle.wac_wit_refusals.proofs.externs.is_renamed_in.Goals as goal

pub returns-then-is_renamed_by : goal.returns-then-is_renamed_by
returns-then-is_renamed_by c is of knows = record {
  decl = c.in-World.decl;
  among = subst (Contains c.args.items.now) c.in-World.is (c.loop-item.item-index, c.loop-item-test.true, sym c.item-item.is);
  there = (c.if-is_there.ensures of knows).0 refl;
  by_item = subst (λ (is : List WorldItem). IsRenamedBy of is c.args.span) c.deref.ensures.value (c.if-is_renamed_by.ensures is of knows);
}
