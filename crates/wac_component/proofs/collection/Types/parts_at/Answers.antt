use Rattle.std.proofs.Common.{◌∙◌, refl}
use Rattle.wac_component.specs.Content.{defined_content, resource_content, func_content, interface_content, world_content}
use Rattle.wac_component.specs.Key.{defined_key, resource_key, func_key, interface_key, world_key, defined_entry, resource_entry, func_entry, interface_entry, world_entry}
use Rattle.wac_component.specs.Parts.{places}
use Rattle.wac_component.proofs.PartLemmas.{defined_places, alone_keys}
use Rattle.wac_component.proofs.Reading.{defined_at, resource_at, func_at, interface_at, world_at}
use Rattle.wac_component.proofs.Search.{next_at, module_next}
use Rattle.wac_component.proofs.collection.Types.parts_at.Goals as goal

pub returns-in-Defined : goal.returns-in-Defined
returns-in-Defined c =
    let named = next_at c.args.self.now (defined_key c.in-Defined.id) (defined_entry (defined_content c.index.result.now)) (defined_at c.args.self.now c.in-Defined.id (defined_content c.index.result.now) c.index.ensures.entry) in
    rw (c.in-Defined.is, named) (alone_keys (places c.parts.result) ∙ defined_places (places c.parts.result) (defined_content c.index.result.now) c.parts.ensures)

pub returns-in-Resource : goal.returns-in-Resource
returns-in-Resource c =
    let named = next_at c.args.self.now (resource_key c.in-Resource.id) (resource_entry (resource_content c.index-in-Resource.result.now)) (resource_at c.args.self.now c.in-Resource.id (resource_content c.index-in-Resource.result.now) c.index-in-Resource.ensures.entry) in
    rw (c.in-Resource.is, named) (alone_keys (places c.parts-in-Resource.result) ∙ c.parts-in-Resource.ensures)

pub returns-in-Func : goal.returns-in-Func
returns-in-Func c =
    let named = next_at c.args.self.now (func_key c.in-Func.id) (func_entry (func_content c.index-in-Func.result.now)) (func_at c.args.self.now c.in-Func.id (func_content c.index-in-Func.result.now) c.index-in-Func.ensures.entry) in
    rw (c.in-Func.is, named) c.parts-in-Func.ensures

pub returns-in-Interface : goal.returns-in-Interface
returns-in-Interface c =
    let named = next_at c.args.self.now (interface_key c.in-Interface.id) (interface_entry (interface_content c.index-in-Interface.result.now)) (interface_at c.args.self.now c.in-Interface.id (interface_content c.index-in-Interface.result.now) c.index-in-Interface.ensures.entry) in
    rw (c.in-Interface.is, named) c.parts-in-Interface.ensures

pub returns-in-World : goal.returns-in-World
returns-in-World c =
    let named = next_at c.args.self.now (world_key c.in-World.id) (world_entry (world_content c.index-in-World.result.now)) (world_at c.args.self.now c.in-World.id (world_content c.index-in-World.result.now) c.index-in-World.ensures.entry) in
    rw (c.in-World.is, named) c.parts-in-World.ensures

pub returns-in-Module : goal.returns-in-Module
returns-in-Module c = rw (c.in-Module.is, module_next) refl
