use Rattle.std.proofs.Common.{IsTrue, subst, sym}
use Rattle.std.specs.Prelude.{◌↔◌}
use Rattle.wac_wit_syntax.specs.declared.tree.TopItem.{TopItem}
use Rattle.wac_wit_refusals_sites.specs.Paths.{IsItemEnabled}
use Rattle.wac_wit_refusals_sites.proofs.judge.Judge.is_item_there.Goals as goal

pub returns-in-Interface : goal.returns-in-Interface
returns-in-Interface c = λ of judges. subst (λ (t : TopItem). IsTrue c.is_there.result ↔ IsItemEnabled of t) (sym c.in-Interface.is) (c.is_there.ensures of judges)

pub returns-in-World : goal.returns-in-World
returns-in-World c = λ of judges. subst (λ (t : TopItem). IsTrue c.is_there-in-World.result ↔ IsItemEnabled of t) (sym c.in-World.is) (c.is_there-in-World.ensures of judges)
