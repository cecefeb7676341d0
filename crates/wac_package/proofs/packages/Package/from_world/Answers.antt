use Rattle.std.proofs.Common.{sym, subst}
use Rattle.wac_component.specs.Collection.{InterfaceContent}
use Rattle.wac_component.specs.Content.{world_content}
use Rattle.wac_component.specs.Key.{AllStand, interface_keys}
use Rattle.wac_component.proofs.Members.{world_exports_stand}
use Rattle.wac_package.proofs.packages.Package.from_world.Goals as goal

pub find_definitions-requires : goal.find_definitions-requires
find_definitions-requires c = world_exports_stand c.args.types.now (world_content c.index.result.now) c.index.ensures.standing

pub add_interface-requires : goal.add_interface-requires
add_interface-requires c =
    subst (λ (e : InterfaceContent). AllStand c.args.types.now (interface_keys e)) (sym c.in_ok-interface.ensures) (world_exports_stand c.args.types.now (world_content c.index-2.result.now) c.index-2.ensures.standing)
