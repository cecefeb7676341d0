-- The ids of any sort, as code lists them.
use Rattle.std.specs.Prelude.{List, ◌⊎◌}
use Rattle.wac_component.specs.Growth.{BeginsWith}
use Rattle.wac_component.specs.Reach.{IsAmong}
use Rattle.wac_component.specs.Key.{Key, defined_key, resource_key, func_key, interface_key, world_key, module_key}
use Rattle.wac_component.specs.declared.collection.naming.EntryId.{EntryId}
use Rattle.wac_component.specs.declared.collection.naming.EntryId.TheVariants.{Defined, Resource, Func, Interface, World, Module}

-- the id with its sort
abbrev pub key_of : EntryId → Key
key_of (Defined p) = defined_key p
key_of (Resource p) = resource_key p
key_of (Func p) = func_key p
key_of (Interface p) = interface_key p
key_of (World p) = world_key p
key_of (Module p) = module_key p

-- those of these ids went last that weren't there
pub record Puts (ks before now : List Key) : Type 0 where
  pub begins : BeginsWith now before
  pub has : (k : Key) → IsAmong k ks → IsAmong k now
  pub only : (k : Key) → IsAmong k now → IsAmong k before ⊎ IsAmong k ks
