use Rattle.std.proofs.Common.{◌≡◌, sym, subst, ◌∙◌}
use Rattle.std.specs.Result.{MatchResult}
use Rattle.wac_component.specs.Key.{interface_key, world_key, item_keys}
use Rattle.wac_component.specs.declared.items.ItemKind.TheVariants.{«Type» as OfType, Instance, Component}
use Rattle.wac_aggregator_uses.specs.Differ.{IsUsesRefusal}
use Rattle.wac_aggregator_uses.specs.Uses.{users, ItemsAgree}
use Rattle.wac_aggregator_uses.proofs.Users.{told_of_items, items_apart}
use Rattle.wac_aggregator_uses.proofs.uses.check_uses_of.Goals.{in_default-via-in-Instance+in_default, in_default-via-in-Component+in_default, in_default-via-in-Type+in_default, in_default-via-in_default}
use Rattle.wac_aggregator_uses.proofs.uses.check_uses_of.Goals as goal

pub returns-in-Instance-Instance : goal.returns-in-Instance-Instance
returns-in-Instance-Instance c =
    let s = c.in-Instance-Instance in
    told_of_items c.args.types.now c.check_interfaces.result c.args.existing c.args.new (interface_key s.a) (interface_key s.b)
    (λ i. users (s.is-0 i) (s.is-1 i)) (λ i. item_keys (s.is-0 i)) (λ i. item_keys (s.is-1 i)) c.check_interfaces.ensures

pub returns-in-Component-Component : goal.returns-in-Component-Component
returns-in-Component-Component c =
    let s = c.in-Component-Component in
    told_of_items c.args.types.now c.check_worlds.result c.args.existing c.args.new (world_key s.a) (world_key s.b)
    (λ i. users (s.is-0 i) (s.is-1 i)) (λ i. item_keys (s.is-0 i)) (λ i. item_keys (s.is-1 i)) c.check_worlds.ensures

pub returns-in-Type-Type : goal.returns-in-Type-Type
returns-in-Type-Type c =
    let s = c.in-Type-Type in
    let r = c.check_types.result in
    let types = c.args.types.now in
    subst (λ x. MatchResult r (λ u. ItemsAgree types x c.args.new) (IsUsesRefusal types (item_keys x) (item_keys c.args.new))) (sym s.is-0)
    (subst (λ y. MatchResult r (λ u. ItemsAgree types (OfType s.a) y) (IsUsesRefusal types (item_keys (OfType s.a)) (item_keys y))) (sym s.is-1) c.check_types.ensures)

pub returns-in_default : goal.returns-in_default
returns-in_default c k j is = elim c.in_default.branch [
  | in_default-via-in-Instance+in_default w ↦
      absurd (items_apart c.args.existing c.args.new (k, j) (λ a b x y. w.in_default.not-Instance-1 b y) (λ a b x y. let no : Instance _ ≡ Component a = sym w.in_default.is-0 ∙ x in cc) (λ a b x y. let no : Instance _ ≡ OfType a = sym w.in_default.is-0 ∙ x in cc) is)
  | in_default-via-in-Component+in_default w ↦
      absurd (items_apart c.args.existing c.args.new (k, j) (λ a b x y. let no : Component _ ≡ Instance a = sym w.in_default.is-0 ∙ x in cc) (λ a b x y. w.in_default.not-Component-1 b y) (λ a b x y. let no : Component _ ≡ OfType a = sym w.in_default.is-0 ∙ x in cc) is)
  | in_default-via-in-Type+in_default w ↦
      absurd (items_apart c.args.existing c.args.new (k, j) (λ a b x y. let no : OfType _ ≡ Instance a = sym w.in_default.is-0 ∙ x in cc) (λ a b x y. let no : OfType _ ≡ Component a = sym w.in_default.is-0 ∙ x in cc) (λ a b x y. w.in_default.not-Type-1 b y) is)
  | in_default-via-in_default w ↦ absurd (items_apart c.args.existing c.args.new (k, j) (λ a b x y. w.in_default.not-Instance-0 a x) (λ a b x y. w.in_default.not-Component-0 a x) (λ a b x y. w.in_default.not-Type-0 a x) is)
]
