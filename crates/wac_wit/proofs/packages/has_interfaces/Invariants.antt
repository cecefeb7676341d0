use Rattle.std.proofs.Common.{String, string_bytes}
use Rattle.std.specs.Option.{option_map}
use Rattle.std.specs.declared.alloc.Global.{Global}
use Rattle.wac_component.specs.Id.{Id}
use Rattle.wac_wit.proofs.Listing.{AllBefore}
use Rattle.wac_wit.proofs.packages.has_interfaces.Given as goal
use Rattle.wac_wit_validation.specs.WorldChecking.{KnowsWorlds}
use Rattle.wac_wit_scopes.specs.WitSources.{WitSources}
use Rattle.wac_wit_validation.specs.Validated.{IsInterfaceOf}

abbrev pub invariant-loop-index : goal.invariant-loop-index
invariant-loop-index l = (of : WitSources) → KnowsWorlds of l.validator
    → AllBefore (λ (e : String Global × Id). IsInterfaceOf of l.validator.types.now (string_bytes l.«package».name) (option_map string_bytes l.«package».version) (string_bytes e.0) e.1) l.«package».interfaces.entries l.index
