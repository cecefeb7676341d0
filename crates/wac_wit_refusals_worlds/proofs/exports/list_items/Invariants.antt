use Rattle.indexmap.specs.IndexMap.{get_by_text}
use Rattle.wac_wit_scopes.specs.Scopes.{scope_syntax}
use Rattle.wac_wit_refusals_worlds.proofs.NeededFacts.{ListsFirst}
use Rattle.wac_wit_refusals_worlds.proofs.exports.list_items.Given as goal

abbrev pub invariant-loop-item : goal.invariant-loop-item
invariant-loop-item l = ListsFirst l.judge (scope_syntax l.scope) l.items l.item-index (get_by_text l.initial.listed) (get_by_text l.listed)
