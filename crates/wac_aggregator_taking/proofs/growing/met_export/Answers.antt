use Rattle.std.proofs.Common.{◌≡◌, Some, None, string_bytes, refl, ap, sym, ◌∙◌}
use Rattle.std.specs.Str.{bytes_eq}
use Rattle.wac_model.specs.Text.{lookup}
use Rattle.wac_model.proofs.ItemOrder.{Fits-refl}
use Rattle.wac_component.specs.Content.{interface_content}
use Rattle.wac_component.specs.Key.{Stands, interface_key, named_keys, use_keys}
use Rattle.wac_component.specs.Tree.{item_tree}
use Rattle.wac_component.proofs.Among.{each_found}
use Rattle.wac_component.proofs.Keys.{Each-right}
use Rattle.wac_merge.specs.Items.{ExternKinds, extern_keys}
use Rattle.wac_merge.specs.Reads.{exports_at}
use Rattle.wac_merge.proofs.ReadLemmas.{interface_at, interface_exports_are}
use Rattle.wac_aggregator_reasons.proofs.Accounts.{accounted_none, none_roots}
use Rattle.wac_aggregator_taking.specs.Growing.{with_own}
use Rattle.wac_aggregator_taking.proofs.GrowLemmas.{StepsOn-refl, met_put}
use Rattle.wac_aggregator_taking.proofs.MetThere.{met_there}
use Rattle.wac_aggregator_taking.proofs.growing.met_export.Goals as goal

pub meet_items-requires-clause-existing : goal.meet_items-requires-clause-existing
meet_items-requires-clause-existing c =
    let e = interface_content c.index.result.now in
    each_found (Stands c.args.types.now) e.exports (string_bytes c.args.name.now) c.in-Some.existing (sym c.in-Some.ensures) (Each-right (Stands c.args.types.now) (named_keys use_keys e.uses) (extern_keys e.exports) c.index.ensures.standing)

pub returns-in_default : goal.returns-in_default
returns-in_default c = λ es stand same.
    let e = interface_content c.index.result.now in
    let there : exports_at c.args.types.now (interface_key c.args.own) ≡ e.exports = interface_exports_are c.args.types.now c.args.own e (interface_at c.args.types.now c.args.own e c.index.ensures.entry) in
    let none : lookup bytes_eq es (string_bytes c.args.name.now) ≡ None = same ∙ ap (λ (l : ExternKinds). lookup bytes_eq l (string_bytes c.args.name.now)) there ∙ sym c.in_default.ensures in
    met_put c.args.types.now c.args.types.now es _ (string_bytes c.args.name.now) c.args.kind c.args.kind (StepsOn-refl c.args.types.now) stand c.requires.new (Fits-refl (item_tree c.args.types.now c.args.kind))
    (λ b is. let both : None ≡ Some b = sym none ∙ is in absurd (cc)) (λ t before this. this) (λ ss good h k. k)
    (λ at s kept all hx new. (record { stays = accounted_none at (with_own s c.args.types.now) all; roots = none_roots at (with_own s c.args.types.now) all }, new)) (λ ss rs from good h k. k) refl

pub returns : goal.returns
returns c =
    let e = interface_content c.index.result.now in
    let there : exports_at c.args.types.now (interface_key c.args.own) ≡ e.exports = interface_exports_are c.args.types.now c.args.own e (interface_at c.args.types.now c.args.own e c.index.ensures.entry) in
    met_there c.args.types.now c.args.own (string_bytes c.args.name.now) c.in-Some.existing c.args.kind (ap (λ (l : ExternKinds). lookup bytes_eq l (string_bytes c.args.name.now)) there ∙ sym c.in-Some.ensures) c.requires.new
    c.meet_items.new.types c.meet_items.result c.meet_items.ensures
