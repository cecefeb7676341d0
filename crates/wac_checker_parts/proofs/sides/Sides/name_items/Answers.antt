use Rattle.std.proofs.Common.{refl}
use Rattle.wac_component.specs.Key.{func_key, interface_key, world_key, module_key}
use Rattle.wac_component.specs.declared.items.ItemKind.TheVariants.{Func, Instance, Component, Module, Value}
use Rattle.wac_model.specs.ItemTree.{item}
use Rattle.wac_checker_parts.specs.declared.parts.PairSort.TheVariants as sort
use Rattle.wac_checker_parts.proofs.ExternListing.{ids_named, items_of_values}
use Rattle.wac_checker_parts.proofs.ItemPartLemmas.{of_funcs, of_interfaces, of_worlds, of_modules}
use Rattle.wac_checker_parts.proofs.sides.Sides.name_items.Goals as goal

pub returns-in-Func-Func-clause-listed : goal.returns-in-Func-Func-clause-listed
returns-in-Func-Func-clause-listed c =
    let left = rw c.in-Func-Func.is-0 at c.requires.left in
    let right = rw c.in-Func-Func.is-1 at c.requires.right in
    rw (c.in-Func-Func.is-0, c.in-Func-Func.is-1) (ids_named c.args.self.now.left.now c.args.self.now.right.now c.args.self.now.swapped c.args.index c.in-Func-Func.x c.in-Func-Func.y Func func_key sort.Func c.args.parts.now.items c.name_entries.new.parts.items c.name_entries.result left.0 right.0 (λ j. refl) (of_funcs c.args.self.now.left.now c.args.self.now.right.now c.in-Func-Func.x c.in-Func-Func.y left.0 right.0) c.args.self.now.one (rw (c.index.ensures, c.index-in-Func-Func.ensures) at c.name_entries.ensures.named))

pub returns-in-Instance-Instance-clause-listed : goal.returns-in-Instance-Instance-clause-listed
returns-in-Instance-Instance-clause-listed c =
    let left = rw c.in-Instance-Instance.is-0 at c.requires.left in
    let right = rw c.in-Instance-Instance.is-1 at c.requires.right in
    rw (c.in-Instance-Instance.is-0, c.in-Instance-Instance.is-1) (ids_named c.args.self.now.left.now c.args.self.now.right.now c.args.self.now.swapped c.args.index c.in-Instance-Instance.x c.in-Instance-Instance.y Instance interface_key sort.Interface c.args.parts.now.items c.name_entries-in-Instance-Instance.new.parts.items c.name_entries-in-Instance-Instance.result left.0 right.0 (λ j. refl) (of_interfaces c.args.self.now.left.now c.args.self.now.right.now c.in-Instance-Instance.x c.in-Instance-Instance.y left.0 right.0) c.args.self.now.one (rw (c.index-in-Instance-Instance.ensures, c.index-in-Instance-Instance-2.ensures) at c.name_entries-in-Instance-Instance.ensures.named))

pub returns-in-Component-Component-clause-listed : goal.returns-in-Component-Component-clause-listed
returns-in-Component-Component-clause-listed c =
    let left = rw c.in-Component-Component.is-0 at c.requires.left in
    let right = rw c.in-Component-Component.is-1 at c.requires.right in
    rw (c.in-Component-Component.is-0, c.in-Component-Component.is-1) (ids_named c.args.self.now.left.now c.args.self.now.right.now c.args.self.now.swapped c.args.index c.in-Component-Component.x c.in-Component-Component.y Component world_key sort.World c.args.parts.now.items c.name_entries-in-Component-Component.new.parts.items c.name_entries-in-Component-Component.result left.0 right.0 (λ j. refl) (of_worlds c.args.self.now.left.now c.args.self.now.right.now c.in-Component-Component.x c.in-Component-Component.y left.0 right.0) c.args.self.now.one (rw (c.index-in-Component-Component.ensures, c.index-in-Component-Component-2.ensures) at c.name_entries-in-Component-Component.ensures.named))

pub returns-in-Module-Module-clause-listed : goal.returns-in-Module-Module-clause-listed
returns-in-Module-Module-clause-listed c =
    let left = rw c.in-Module-Module.is-0 at c.requires.left in
    let right = rw c.in-Module-Module.is-1 at c.requires.right in
    rw (c.in-Module-Module.is-0, c.in-Module-Module.is-1) (ids_named c.args.self.now.left.now c.args.self.now.right.now c.args.self.now.swapped c.args.index c.in-Module-Module.x c.in-Module-Module.y Module module_key sort.Module c.args.parts.now.items c.name_entries-in-Module-Module.new.parts.items c.name_entries-in-Module-Module.result left.0 right.0 (λ j. refl) (of_modules c.args.self.now.left.now c.args.self.now.right.now c.in-Module-Module.x c.in-Module-Module.y left.0 right.0) c.args.self.now.one (rw (c.index-in-Module-Module.ensures, c.index-in-Module-Module-2.ensures) at c.name_entries-in-Module-Module.ensures.named))

pub returns-in-Value-Value-clause-listed : goal.returns-in-Value-Value-clause-listed
returns-in-Value-Value-clause-listed c = rw (c.in-Value-Value.is-0, c.in-Value-Value.is-1) (items_of_values c.args.self.now.left.now c.args.self.now.right.now c.args.self.now.swapped c.args.index (Value c.in-Value-Value.x) (Value c.in-Value-Value.y) c.args.parts.now.items c.name_values.new.parts.items item c.in-Value-Value.x c.in-Value-Value.y refl refl refl refl c.name_values.result c.name_values.ensures.listed)
