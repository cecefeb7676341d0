use Rattle.std.proofs.Common.{◌≡◌, true, List, Contains, sym, subst}
use Rattle.wac_wit_refusals.specs.Attributes.{HasTypeThere}
use Rattle.wac_wit_syntax.specs.declared.tree.InterfaceItem.{InterfaceItem}
use Rattle.wac_wit_refusals.proofs.hidden.has_type_of_hidden.Goals as goal

pub returns-then-has_type_there : goal.returns-then-has_type_there
returns-then-has_type_there c is of knows = record {
  decl = c.in-Interface.decl;
  among = subst (Contains c.args.items.now) c.in-Interface.is (c.loop-item.item-index, c.loop-item-test.true, sym c.item-item.is);
  hidden = λ on. let there : c.is_there.result ≡ true = (c.is_there.ensures of knows).1 on in absurd (cc);
  there = subst (λ (is : List InterfaceItem). HasTypeThere of is c.args.span) c.deref.ensures.value (c.if-has_type_there.ensures is of knows);
}
