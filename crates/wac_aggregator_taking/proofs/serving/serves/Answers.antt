use Rattle.std.proofs.Common.{sym, subst}
use Rattle.wac_component.specs.Content.{interface_content}
use Rattle.wac_component.specs.Key.{Stands, AllStand, named_keys, use_keys}
use Rattle.wac_component.proofs.Keys.{Each-left, Each-right}
use Rattle.wac_merge.specs.Items.{ExternKinds, AreUnhidden, extern_keys}
use Rattle.wac_aggregator_uses.specs.Uses.{UsesAgree}
use Rattle.wac_aggregator_taking.specs.Growing.{AreMetWith}
use Rattle.wac_aggregator_taking.specs.Serving.{AreUsesKept}
use Rattle.wac_aggregator_taking.proofs.Served.{own_exports-at, own_uses-at}
use Rattle.wac_aggregator_taking.proofs.serving.serves.Goals as goal

pub own_uses_serve-requires-clause-existing : goal.own_uses_serve-requires-clause-existing
own_uses_serve-requires-clause-existing c =
    let entry = interface_content c.index-entry.result.now in
    Each-left (Stands c.args.state.now.types) (named_keys use_keys entry.uses) (extern_keys entry.exports) c.index-entry.ensures.standing

pub own_uses_serve-requires-clause-new : goal.own_uses_serve-requires-clause-new
own_uses_serve-requires-clause-new c = subst (λ us. AllStand c.args.state.now.types (named_keys use_keys us)) (own_uses-at c.args.types.now c.args.state.now c.args.id (interface_content c.index-interface.result.now) c.index-interface.ensures.entry) c.requires.uses

pub exports_serve-requires-clause-existing : goal.exports_serve-requires-clause-existing
exports_serve-requires-clause-existing c =
    let entry = interface_content c.index-entry.result.now in
    Each-right (Stands c.args.state.now.types) (named_keys use_keys entry.uses) (extern_keys entry.exports) c.index-entry.ensures.standing

pub exports_serve-requires-clause-new : goal.exports_serve-requires-clause-new
exports_serve-requires-clause-new c = subst (λ es. AllStand c.args.state.now.types (extern_keys es)) (own_exports-at c.args.types.now c.args.state.now c.args.id (interface_content c.index-interface.result.now) c.index-interface.ensures.entry) c.requires.exports

pub returns-then-own_uses_serve : goal.returns-then-own_uses_serve
returns-then-own_uses_serve c = λ said.
    let types = c.args.state.now.types in
    let entry = interface_content c.index-entry.result.now in
    let interface = interface_content c.index-interface.result.now in
    let uses = own_uses-at c.args.types.now c.args.state.now c.args.id interface c.index-interface.ensures.entry in
    let exports = own_exports-at c.args.types.now c.args.state.now c.args.id interface c.index-interface.ensures.entry in
    record {
      entry = entry;
      at = c.index-entry.ensures.entry;
      stands = c.index-entry.ensures.standing;
      sound = c.sound-2.ensures;
      distinct = c.names_in_an_interface_are_distinct.ensures;
      uses = subst (AreUsesKept entry.uses) (sym uses) (c.own_uses_serve.ensures.kept c.if-own_uses_serve.true);
      agree = subst (UsesAgree types entry.uses) (sym uses) (c.own_uses_serve.ensures.agree c.if-own_uses_serve.true);
      exports = subst (λ (es : ExternKinds). AreMetWith types types entry.exports es entry.exports) (sym exports) (c.exports_serve.ensures.met said);
      found = subst AreUnhidden (sym exports) c.exports_serve.ensures.found;
    }
