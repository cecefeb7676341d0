-- Entries that name no interface but owners.
use Rattle.std.specs.Prelude.{◌≡◌, Some, slice_get}
use Rattle.wac_model.specs.CoreTree.{ModuleTree}
use Rattle.wac_component.specs.Id.{Id}
use Rattle.wac_component.specs.Collection.{Collection, DefinedContent, ResourceContent, FuncContent}
use Rattle.wac_component.specs.Key.{Key, Entry, defined_entry, resource_entry, func_entry, module_entry, defined_key, resource_key, func_key, module_key}
use Rattle.wac_aggregator_narrowing.specs.Values.{SameValue, AreFuncs, AreDefined, AreSameResources}

-- the entry says what the foreign one does, of parts of the same trees
pub data SaysSame (f c : Collection) : Key → Entry → Type 0 where
  same_func : {p : Id} {x z : FuncContent} → slice_get f.funcs p.index ≡ Some x → AreFuncs (SameValue f c) x z → SaysSame f c (func_key p) (func_entry z)
  same_defined : {p : Id} {x z : DefinedContent} → slice_get f.defined p.index ≡ Some x → AreDefined (SameValue f c) x z → SaysSame f c (defined_key p) (defined_entry z)
  same_resource : {p : Id} {x z : ResourceContent} → slice_get f.resources p.index ≡ Some x → AreSameResources f c x z → SaysSame f c (resource_key p) (resource_entry z)
  same_module : {p : Id} {x : ModuleTree} → slice_get f.modules p.index ≡ Some x → SaysSame f c (module_key p) (module_entry x)
