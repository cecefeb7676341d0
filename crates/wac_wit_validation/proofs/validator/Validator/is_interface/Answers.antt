use Rattle.std.proofs.Common.{◌≡◌, Some, ap, sym, ◌∙◌}
use Rattle.wac_wit_syntax.specs.declared.tree.InterfaceItem.{InterfaceItem}
use Rattle.wac_wit_validation_types.specs.Exports.{IsRepresented, Offers, named_items}
use Rattle.wac_wit_validation.specs.Checking.{IsSettingAt}
use Rattle.wac_wit_scopes.specs.Scopes.{scope_syntax}
use Rattle.wac_wit_validation_types.specs.Denoted.{interface_setting}
use Rattle.wac_wit_scopes.specs.declared.scopes.ScopeItems.{ScopeItems}
use Rattle.wac_wit_validation_types.proofs.ItemFacts.{all_exported, items_offered, offered_items}
use Rattle.wac_wit_validation_types.proofs.MarkFacts.{AllBelow-contains, AllBelow-more, AllBelow-none, among_at, marks_none, marks_then}
use Rattle.wac_wit_validation_types.proofs.NameFacts.{Renames-none}
use Rattle.wac_wit_validation.proofs.validator.Validator.is_interface.Goals as goal

same_some : (x y : ScopeItems) → Some x ≡ Some y → x ≡ y
same_some x y e = cc

pub loop-item-init : goal.loop-item-init
loop-item-init c = record {
  marks = λ one s at renames offers. marks_none s c.names_of-names.result c.in_ok-progress.progress;
  covers = λ s knows renames. AllBelow-none (IsRepresented s (named_items c.names_of-names.result)) c.args.items.now;
}

pub loop-item-preserved : goal.loop-item-preserved
loop-item-preserved c = record {
  marks = λ one s at renames offers.
      let among = among_at c.args.items.now c.loop-item.item-index c.item-item.result c.loop-item-test.true c.item-item.is in
      marks_then s c.names_of-names.result c.in_ok-progress.progress c.loop-item.progress c.is_item.new.progress (c.loop-item.invariant.marks one s at renames offers) (c.in_ok-is_item.ensures.marks c.if-not-branch.false one s at renames (offers c.item-item.result among));
  covers = λ s knows renames.
      AllBelow-more (IsRepresented s (named_items c.names_of-names.result)) c.args.items.now c.loop-item.item-index c.item-item.result c.loop-item-test.true c.item-item.is (c.loop-item.invariant.covers s knows renames) (c.in_ok-is_item.ensures.covers c.if-not-branch.false s knows renames);
}

pub returns : goal.returns
returns c = λ done of knows w at.
    let names = c.names_of-names.result in
    let items = c.args.items.now in
    let s = interface_setting of (scope_syntax w) items in
    let setting : IsSettingAt c.args.self.now c.args.scope s = record { knows = knows; at = λ x h. ap scope_syntax (same_some w x (sym at ∙ h)) } in
    let renames = Renames-none names c.names_of-names.ensures.new_names in
    let marks = c.loop-item.invariant.marks c.names_of-names.ensures.types s setting renames (items_offered of (scope_syntax w) items) in
    let covers : (x : InterfaceItem) → Offers s x → IsRepresented s (named_items names) x = λ x offered. AllBelow-contains (IsRepresented s (named_items names)) items c.loop-item.item-index x c.loop-item-test.false (c.loop-item.invariant.covers s knows renames) (offered_items of (scope_syntax w) items x offered) in
    rw (← c.names_of-names.ensures.types, ← c.names_of-names.ensures.items) (all_exported s names c.in_ok-progress.progress c.loop-item.progress c.in_ok-progress.ensures.even c.in_ok-progress.ensures.none marks (c.is_done.ensures done) covers)
