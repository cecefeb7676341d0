use Rattle.std.proofs.Common.{◌≡◌, take}
use Rattle.std.specs.Prelude.{All}
use Rattle.wac_wit_refusals_sites.specs.Judging.{Judges}
use Rattle.wac_wit_refusals_sites.specs.declared.type_items.PlacedType.{PlacedType}
use Rattle.wac_wit_scopes.specs.WitSources.{IsEnabled, WitSources, ident_text}
use Rattle.wac_wit_refusals_types.proofs.type_names.no_type_there.Given as goal

abbrev pub invariant-loop-placed : goal.invariant-loop-placed
invariant-loop-placed l = (of : WitSources) → Judges of l.judge → All (λ (p : PlacedType). ident_text p.ty.now.name ≡ ident_text l.name → IsEnabled of p.ty.now.gates → ⊥) (take l.placed-index l.types)
