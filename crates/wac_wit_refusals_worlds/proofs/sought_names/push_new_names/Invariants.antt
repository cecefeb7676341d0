use Rattle.std.proofs.Common.{take}
use Rattle.std.specs.Prelude.{All}
use Rattle.wac_wit_scopes.specs.WitSources.{WitSources, ident_text}
use Rattle.wac_wit_refusals_worlds.specs.IncludeSteps.{LacksWith, NewNameLacks}
use Rattle.wac_wit_refusals_worlds.proofs.sought_names.push_new_names.Given as goal

abbrev pub invariant-loop-rename : goal.invariant-loop-rename
invariant-loop-rename l = (of : WitSources) → LacksWith of l.initial.all.items l.all.items (All (NewNameLacks of l.world (ident_text l.name)) (take l.rename-index l.renames))
