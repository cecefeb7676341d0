use Rattle.std.proofs.Common.{nat_eq}
use Rattle.indexmap.specs.IndexMap.{get}
use Rattle.wac_wit_names.specs.declared.features.Features.{Features}
use Rattle.wac_wit_scopes.specs.Naming.{AreGroups}
use Rattle.wac_wit_scopes.specs.WitSources.{sources_of}
use Rattle.wac_wit_scopes.proofs.AllScopes.{HasGroupsBelow}
use Rattle.wac_wit_scopes.proofs.packages.groups_of.Given as goal

abbrev pub invariant-loop-index : goal.invariant-loop-index
invariant-loop-index l = record {
  named : (features : Features) → AreGroups (sources_of l.files l.documents features) (get nat_eq l.groups);
  all : HasGroupsBelow l.files l.documents (get nat_eq l.groups) l.index;
}
