use Rattle.std.proofs.Common.{take}
use Rattle.std.specs.Prelude.{All}
use Rattle.wac_wit_scopes.specs.WitSources.{WitSources, ident_text}
use Rattle.wac_wit_syntax.specs.declared.tree.InterfaceItem.{InterfaceItem}
use Rattle.wac_wit_refusals_sites.specs.Judging.{Judges}
use Rattle.wac_wit_refusals.specs.UsedReasons.{GivesTypeName, IsInsideEnabled}
use Rattle.wac_wit_refusals.proofs.used.lacks_type_there.Given as goal

abbrev pub invariant-loop-item : goal.invariant-loop-item
invariant-loop-item l = (of : WitSources) → Judges of l.judge → All (λ (t : InterfaceItem). GivesTypeName t (ident_text l.name) → IsInsideEnabled of t → ⊥) (take l.item-index l.items)
