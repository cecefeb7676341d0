use Rattle.std.proofs.Common.{nat_eq}
use Rattle.indexmap.specs.IndexMap.{get, get_by_text}
use Rattle.wac_wit_names.specs.declared.features.Features.{Features}
use Rattle.wac_wit_scopes.specs.Naming.{AreScopes}
use Rattle.wac_wit_scopes.specs.WitSources.{sources_of}
use Rattle.wac_wit_scopes.proofs.AllScopes.{HasScopesBelow}
use Rattle.wac_wit_scopes.proofs.scopes.scopes_in.Given as goal

abbrev pub invariant-loop-index : goal.invariant-loop-index
invariant-loop-index l = record {
  known : (features : Features) → AreScopes (sources_of l.files l.documents features) (get nat_eq l.groups) (get_by_text l.versions) l.scopes.items;
  all : HasScopesBelow l.files l.documents (get nat_eq l.groups) l.scopes.items l.index;
}
