use Rattle.std.proofs.Common.{◌≡◌, take}
use Rattle.std.specs.Prelude.{All}
use Rattle.wac_wit_scopes.specs.WitSources.{ident_text}
use Rattle.wac_wit_syntax.specs.declared.tree.Rename.{Rename}
use Rattle.wac_wit_refusals_worlds.proofs.sought_names.is_renamed.Given as goal

abbrev pub invariant-loop-rename : goal.invariant-loop-rename
invariant-loop-rename l = All (λ (r : Rename). ident_text r.name ≡ ident_text l.name → ⊥) (take l.rename-index l.renames)
