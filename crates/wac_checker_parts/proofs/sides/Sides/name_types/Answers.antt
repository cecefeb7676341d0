use Rattle.std.proofs.Common.{Ok, refl, sym, subst₂}
use Rattle.wac_component.specs.Key.{func_key, interface_key, world_key, module_key}
use Rattle.wac_component.specs.Id.{Id}
use Rattle.wac_component.specs.Tree.{root_name}
use Rattle.wac_component.specs.declared.items.ItemKind.TheVariants.{«Type» as OfType}
use Rattle.wac_component.specs.declared.items.Type.{«Type» as ItemType}
use Rattle.wac_component.specs.declared.items.Type.TheVariants.{Resource, Func, Value, Interface, World, Module}
use Rattle.wac_model.specs.ItemTree.{type_item}
use Rattle.wac_checker_parts.specs.Listing.{AreItemsNamed}
use Rattle.wac_checker_parts.specs.declared.parts.PairSort.TheVariants as sort
use Rattle.wac_checker_parts.proofs.ExternListing.{ids_named, items_of_resources, items_of_values}
use Rattle.wac_checker_parts.proofs.ItemPartLemmas.{types_of_funcs, types_of_interfaces, types_of_worlds, types_of_modules}
use Rattle.wac_checker_parts.proofs.sides.Sides.name_types.Goals as goal

pub returns-in-Resource-Resource-clause-listed : goal.returns-in-Resource-Resource-clause-listed
returns-in-Resource-Resource-clause-listed c = subst₂ (λ (s t : ItemType). AreItemsNamed c.args.self.now.left.now c.args.self.now.right.now c.args.self.now.swapped c.args.index (OfType s) (OfType t) c.args.parts.now.items c.args.parts.now.items (Ok c.are_one_resource.result)) (sym c.in-Resource-Resource.is-0) (sym c.in-Resource-Resource.is-1) (items_of_resources c.args.self.now.left.now c.args.self.now.right.now c.args.self.now.swapped c.args.index (OfType (Resource c.in-Resource-Resource.x)) (OfType (Resource c.in-Resource-Resource.y)) c.args.parts.now.items c.args.parts.now.items type_item (root_name c.args.self.now.left.now c.in-Resource-Resource.x) (root_name c.args.self.now.right.now c.in-Resource-Resource.y) c.are_one_resource.result refl refl refl c.are_one_resource.ensures)

pub returns-in-Func-Func-clause-listed : goal.returns-in-Func-Func-clause-listed
returns-in-Func-Func-clause-listed c =
    let left = rw c.in-Func-Func.is-0 at c.requires.left in
    let right = rw c.in-Func-Func.is-1 at c.requires.right in
    rw (c.in-Func-Func.is-0, c.in-Func-Func.is-1) (ids_named c.args.self.now.left.now c.args.self.now.right.now c.args.self.now.swapped c.args.index c.in-Func-Func.x c.in-Func-Func.y (λ (i : Id). OfType (Func i)) func_key sort.Func c.args.parts.now.items c.name_entries.new.parts.items c.name_entries.result left.0 right.0 (λ j. refl) (types_of_funcs c.args.self.now.left.now c.args.self.now.right.now c.in-Func-Func.x c.in-Func-Func.y left.0 right.0) c.args.self.now.one (rw (c.index.ensures, c.index-in-Func-Func.ensures) at c.name_entries.ensures.named))

pub returns-in-Interface-Interface-clause-listed : goal.returns-in-Interface-Interface-clause-listed
returns-in-Interface-Interface-clause-listed c =
    let left = rw c.in-Interface-Interface.is-0 at c.requires.left in
    let right = rw c.in-Interface-Interface.is-1 at c.requires.right in
    rw (c.in-Interface-Interface.is-0, c.in-Interface-Interface.is-1) (ids_named c.args.self.now.left.now c.args.self.now.right.now c.args.self.now.swapped c.args.index c.in-Interface-Interface.x c.in-Interface-Interface.y (λ (i : Id). OfType (Interface i)) interface_key sort.Interface c.args.parts.now.items c.name_entries-in-Interface-Interface.new.parts.items c.name_entries-in-Interface-Interface.result left.0 right.0 (λ j. refl) (types_of_interfaces c.args.self.now.left.now c.args.self.now.right.now c.in-Interface-Interface.x c.in-Interface-Interface.y left.0 right.0) c.args.self.now.one (rw (c.index-in-Interface-Interface.ensures, c.index-in-Interface-Interface-2.ensures) at c.name_entries-in-Interface-Interface.ensures.named))

pub returns-in-World-World-clause-listed : goal.returns-in-World-World-clause-listed
returns-in-World-World-clause-listed c =
    let left = rw c.in-World-World.is-0 at c.requires.left in
    let right = rw c.in-World-World.is-1 at c.requires.right in
    rw (c.in-World-World.is-0, c.in-World-World.is-1) (ids_named c.args.self.now.left.now c.args.self.now.right.now c.args.self.now.swapped c.args.index c.in-World-World.x c.in-World-World.y (λ (i : Id). OfType (World i)) world_key sort.World c.args.parts.now.items c.name_entries-in-World-World.new.parts.items c.name_entries-in-World-World.result left.0 right.0 (λ j. refl) (types_of_worlds c.args.self.now.left.now c.args.self.now.right.now c.in-World-World.x c.in-World-World.y left.0 right.0) c.args.self.now.one (rw (c.index-in-World-World.ensures, c.index-in-World-World-2.ensures) at c.name_entries-in-World-World.ensures.named))

pub returns-in-Module-Module-clause-listed : goal.returns-in-Module-Module-clause-listed
returns-in-Module-Module-clause-listed c =
    let left = rw c.in-Module-Module.is-0 at c.requires.left in
    let right = rw c.in-Module-Module.is-1 at c.requires.right in
    rw (c.in-Module-Module.is-0, c.in-Module-Module.is-1) (ids_named c.args.self.now.left.now c.args.self.now.right.now c.args.self.now.swapped c.args.index c.in-Module-Module.x c.in-Module-Module.y (λ (i : Id). OfType (Module i)) module_key sort.Module c.args.parts.now.items c.name_entries-in-Module-Module.new.parts.items c.name_entries-in-Module-Module.result left.0 right.0 (λ j. refl) (types_of_modules c.args.self.now.left.now c.args.self.now.right.now c.in-Module-Module.x c.in-Module-Module.y left.0 right.0) c.args.self.now.one (rw (c.index-in-Module-Module.ensures, c.index-in-Module-Module-2.ensures) at c.name_entries-in-Module-Module.ensures.named))

pub returns-in-Value-Value-clause-listed : goal.returns-in-Value-Value-clause-listed
returns-in-Value-Value-clause-listed c = rw (c.in-Value-Value.is-0, c.in-Value-Value.is-1) (items_of_values c.args.self.now.left.now c.args.self.now.right.now c.args.self.now.swapped c.args.index (OfType (Value c.in-Value-Value.x)) (OfType (Value c.in-Value-Value.y)) c.args.parts.now.items c.name_values.new.parts.items type_item c.in-Value-Value.x c.in-Value-Value.y refl refl refl refl c.name_values.result c.name_values.ensures.listed)
