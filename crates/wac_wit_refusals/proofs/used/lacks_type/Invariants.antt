use Rattle.std.proofs.Common.{take}
use Rattle.std.specs.Prelude.{All}
use Rattle.wac_wit_scopes.specs.WitSources.{ident_text}
use Rattle.wac_wit_syntax.specs.declared.tree.InterfaceItem.{InterfaceItem}
use Rattle.wac_wit_refusals.specs.UsedReasons.{GivesTypeName}
use Rattle.wac_wit_refusals.proofs.used.lacks_type.Given as goal

abbrev pub invariant-loop-item : goal.invariant-loop-item
invariant-loop-item l = All (λ (t : InterfaceItem). GivesTypeName t (ident_text l.name) → ⊥) (take l.item-index l.items)
