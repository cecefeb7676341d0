use Rattle.std.proofs.Common.{take}
use Rattle.std.specs.Prelude.{All}
use Rattle.wac_wit_refusals_sites.specs.TypeLists.{GivesLocalName}
use Rattle.wac_wit_refusals_sites.specs.declared.type_items.PlacedUse.{PlacedUse}
use Rattle.wac_wit_scopes.specs.WitSources.{ident_text}
use Rattle.wac_wit_refusals_types.proofs.type_names.no_use_gives.Given as goal

abbrev pub invariant-loop-placed : goal.invariant-loop-placed
invariant-loop-placed l = All (λ (p : PlacedUse). GivesLocalName p.used.now (ident_text l.name) → ⊥) (take l.placed-index l.uses)
