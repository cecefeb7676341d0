use Rattle.std.proofs.Common.{inl, inr, refl, ap, ◌∷◌, []}
use Rattle.wac_component.specs.Key.{Key}
use Rattle.wac_aggregator_taking.proofs.ReadyLemmas.{typed_step}
use Rattle.wac_aggregator_taking.proofs.steps.item_step.Goals as goal

pub returns-in-Resource : goal.returns-in-Resource
returns-in-Resource c = typed_step c.args.kind.now _ c.args.near.now _ c.in-Resource.ensures refl (inl refl)

pub returns-in-Func : goal.returns-in-Func
returns-in-Func c = typed_step c.args.kind.now _ c.args.near.now _ c.in-Func.ensures refl (inl refl)

pub returns-in-World : goal.returns-in-World
returns-in-World c = typed_step c.args.kind.now _ c.args.near.now _ c.in-World.ensures refl (inl refl)

pub returns-in-Module : goal.returns-in-Module
returns-in-Module c = typed_step c.args.kind.now _ c.args.near.now _ c.in-Module.ensures refl (inl refl)

pub returns-in-Interface : goal.returns-in-Interface
returns-in-Interface c = typed_step c.args.kind.now _ c.args.near.now c.uses_step.result c.in-Interface.ensures (ap (λ (k : Key). k ∷ []) c.uses_step.ensures.key) (inr c.uses_step.ensures.near)
