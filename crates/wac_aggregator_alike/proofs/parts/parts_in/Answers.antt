use Rattle.std.proofs.Common.{◌≡◌, map, refl, subst}
use Rattle.std.specs.Result.{IfOk}
use Rattle.wac_component.specs.Naming.{key_of}
use Rattle.wac_aggregator_alike.proofs.MadeOf.{made_of_defined, made_of_func, made_of_interface, made_of_world, made_of_module}
use Rattle.wac_aggregator_alike.proofs.parts.parts_in.Goals as goal

pub returns-in-Defined : goal.returns-in-Defined
returns-in-Defined c = rw c.in-Defined.is (subst (λ ks. IfOk c.ids_in.result (λ ids. map key_of ids.items ≡ ks)) (made_of_defined c.args.types.now c.in-Defined.id) c.ids_in.ensures)

pub returns-in-Func : goal.returns-in-Func
returns-in-Func c = rw (c.in-Func.is, made_of_func c.args.types.now c.in-Func.field-0, c.new.ensures.items) refl

pub returns-in-Interface : goal.returns-in-Interface
returns-in-Interface c = rw (c.in-Interface.is, made_of_interface c.args.types.now c.in-Interface.field-0, c.new-in-Interface.ensures.items) refl

pub returns-in-World : goal.returns-in-World
returns-in-World c = rw (c.in-World.is, made_of_world c.args.types.now c.in-World.field-0, c.new-in-World.ensures.items) refl

pub returns-in-Module : goal.returns-in-Module
returns-in-Module c = rw (c.in-Module.is, made_of_module c.args.types.now c.in-Module.field-0, c.new-in-Module.ensures.items) refl
