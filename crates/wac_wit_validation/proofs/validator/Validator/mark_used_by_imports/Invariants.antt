use Rattle.wac_component.specs.Content.{named}
use Rattle.wac_component.specs.declared.worlds.ExternKind.TheVariants.{Import}
use Rattle.wac_wit_scopes.specs.WitSources.{WitSources}
use Rattle.wac_wit_validation_types.specs.Placed.{PlacedWorld}
use Rattle.wac_wit_validation.specs.WorldChecking.{KeepsExterns, KnowsWorlds}
use Rattle.wac_wit_validation.proofs.validator.Validator.mark_used_by_imports.Given as goal

abbrev pub invariant-loop-index : goal.invariant-loop-index
invariant-loop-index l = (of : WitSources) (w : PlacedWorld) → KnowsWorlds of l.self → KeepsExterns of l.self w Import (named (λ k. k) l.imports.entries) l.initial.marks l.marks
