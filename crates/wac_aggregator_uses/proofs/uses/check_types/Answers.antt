use Rattle.std.proofs.Common.{◌≡◌, sym, ◌∙◌}
use Rattle.wac_component.specs.Key.{interface_key, world_key, item_keys}
use Rattle.wac_component.specs.declared.items.ItemKind.TheVariants.{«Type» as OfType}
use Rattle.wac_component.specs.declared.items.Type.TheVariants.{Interface as TypeInterface, World as TypeWorld}
use Rattle.wac_aggregator_uses.specs.Uses.{users}
use Rattle.wac_aggregator_uses.proofs.Users.{told_of_items, types_apart}
use Rattle.wac_aggregator_uses.proofs.uses.check_types.Goals.{in_default-via-in-Interface+in_default, in_default-via-in-World+in_default, in_default-via-in_default}
use Rattle.wac_aggregator_uses.proofs.uses.check_types.Goals as goal

pub returns-in-Interface-Interface : goal.returns-in-Interface-Interface
returns-in-Interface-Interface c =
    let s = c.in-Interface-Interface in
    told_of_items c.args.types.now c.check_interfaces.result (OfType c.args.existing) (OfType c.args.new) (interface_key s.a) (interface_key s.b)
    (λ i. users (OfType (s.is-0 i)) (OfType (s.is-1 i))) (λ i. item_keys (OfType (s.is-0 i))) (λ i. item_keys (OfType (s.is-1 i))) c.check_interfaces.ensures

pub returns-in-World-World : goal.returns-in-World-World
returns-in-World-World c =
    let s = c.in-World-World in
    told_of_items c.args.types.now c.check_worlds.result (OfType c.args.existing) (OfType c.args.new) (world_key s.a) (world_key s.b)
    (λ i. users (OfType (s.is-0 i)) (OfType (s.is-1 i))) (λ i. item_keys (OfType (s.is-0 i))) (λ i. item_keys (OfType (s.is-1 i))) c.check_worlds.ensures

pub returns-in_default : goal.returns-in_default
returns-in_default c k j is = elim c.in_default.branch [
  | in_default-via-in-Interface+in_default w ↦ absurd (types_apart c.args.existing c.args.new (k, j) (λ a b x y. w.in_default.not-Interface-1 b y) (λ a b x y. let no : TypeInterface _ ≡ TypeWorld a = sym w.in_default.is-0 ∙ x in cc) is)
  | in_default-via-in-World+in_default w ↦ absurd (types_apart c.args.existing c.args.new (k, j) (λ a b x y. let no : TypeWorld _ ≡ TypeInterface a = sym w.in_default.is-0 ∙ x in cc) (λ a b x y. w.in_default.not-World-1 b y) is)
  | in_default-via-in_default w ↦ absurd (types_apart c.args.existing c.args.new (k, j) (λ a b x y. w.in_default.not-Interface-0 a x) (λ a b x y. w.in_default.not-World-0 a x) is)
]
