use Rattle.std.proofs.Common.{take}
use Rattle.std.specs.Prelude.{All}
use Rattle.wac_wit_scopes.specs.Scopes.{scope_syntax}
use Rattle.wac_wit_scopes.specs.WitSources.{WitSources, ident_text}
use Rattle.wac_wit_refusals_worlds.specs.IncludeSteps.{ItemLacks, LacksWith}
use Rattle.wac_wit_refusals_sites.specs.Judging.{Judges}
use Rattle.wac_wit_refusals_worlds.proofs.sought_names.seek_included.Given as goal

abbrev pub invariant-loop-item : goal.invariant-loop-item
invariant-loop-item l = (of : WitSources) → Judges of l.judge → LacksWith of l.initial.all.items l.all.items (All (ItemLacks of (scope_syntax l.from.world.scope) (ident_text l.from.name.now)) (take l.item-index l.item-items))
