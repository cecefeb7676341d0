use Rattle.std.proofs.Common.{◌≡◌, rules, Err, ap}
use Rattle.wac_component.specs.Content.{world_content}
use Rattle.wac_component.specs.Implicit.{instances}
use Rattle.wac_component.proofs.Members.{world_uses_stand, world_imports_stand}
use Rattle.wac_component.proofs.ImplicitLemmas.{uses-refused, imports-refused, all-told, all-identified}
use Rattle.wac_component.proofs.worlds.World.implicit_imported_interfaces.Goals as goal

pub add_used-requires-clause-standing : goal.add_used-requires-clause-standing
add_used-requires-clause-standing c = world_uses_stand c.args.types.now (world_content c.args.self.now) c.requires.standing

pub returns-in_err-add_used-clause-err : goal.returns-in_err-add_used-clause-err
returns-in_err-add_used-clause-err c =
    let answer : c.from_residual.result ≡ Err c.in_err-add_used.field-0.0 = search rules in
    rw answer (uses-refused c.args.types.now c.args.self.now (instances c.new-interfaces.result.entries) (instances c.add_used.new.interfaces.entries) c.in_err-add_used.field-0.0 c.in_err-add_used.ensures.adds)

pub add_used_by_imports-requires-clause-standing : goal.add_used_by_imports-requires-clause-standing
add_used_by_imports-requires-clause-standing c = world_imports_stand c.args.types.now (world_content c.args.self.now) c.requires.standing

pub returns-in_err-add_used_by_imports-clause-err : goal.returns-in_err-add_used_by_imports-clause-err
returns-in_err-add_used_by_imports-clause-err c =
    let answer : c.from_residual-in_err-add_used_by_imports.result ≡ Err c.in_err-add_used_by_imports.field-0.0 = search rules in
    rw answer (imports-refused c.args.types.now c.args.self.now (instances c.new-interfaces.result.entries) (instances c.add_used.new.interfaces.entries) (instances c.add_used_by_imports.new.found.entries) c.in_err-add_used_by_imports.field-0.0 c.in_ok-add_used.ensures.adds c.in_err-add_used_by_imports.ensures.adds)

pub returns-clause-imports : goal.returns-clause-imports
returns-clause-imports c = all-told c.args.types.now c.args.self.now (instances c.new-interfaces.result.entries) (instances c.add_used.new.interfaces.entries) (instances c.add_used_by_imports.new.found.entries) (ap instances c.new-interfaces.ensures.empty) c.in_ok-add_used.ensures.adds c.in_ok-add_used_by_imports.ensures.adds

pub returns-clause-identified : goal.returns-clause-identified
returns-clause-identified c = all-identified c.args.types.now c.args.self.now (instances c.new-interfaces.result.entries) (instances c.add_used.new.interfaces.entries) (instances c.add_used_by_imports.new.found.entries) c.in_ok-add_used.ensures.adds c.in_ok-add_used_by_imports.ensures.adds
