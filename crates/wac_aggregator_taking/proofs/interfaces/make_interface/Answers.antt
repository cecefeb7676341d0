use Rattle.std.proofs.Common.{◌≡◌, List, Option, None, Some, ap, sym, refl, ◌∙◌}
use Rattle.std.specs.Option.{option_and_then, option_map}
use Rattle.wac_component.specs.Collection.{InterfaceContent}
use Rattle.wac_component.specs.Content.{interface_content}
use Rattle.wac_component.specs.Id.{Id}
use Rattle.wac_component.specs.Key.{interface_key}
use Rattle.wac_component.proofs.Members.{uses_stand, exports_stand}
use Rattle.wac_names.specs.Class.{Class, class_of}
use Rattle.wac_aggregator_taking.specs.Takes.{shared_in, state_of}
use Rattle.wac_aggregator_taking.proofs.Made.{may_put}
use Rattle.wac_aggregator_taking.proofs.Served.{own_exports_stand, own_uses_stand, takes_served, members_served}
use Rattle.wac_aggregator_taking.proofs.TakeLemmas.{content_identifier, lookup-shared, shared_stands}
use Rattle.wac_aggregator_taking.proofs.interfaces.make_interface.Goals as goal

-- the shared entry that is found is that of a class
shared_on : (ss : List (Class × Id)) (class : Option Class) (own : Id) → option_and_then (shared_in ss) class ≡ Some own → (q : Class) × (class ≡ Some q) × (shared_in ss q ≡ Some own)
shared_on ss None own is = absurd (cc)
shared_on ss (Some q) own is = (q, refl, is)

pub serving_entry-requires-clause-own : goal.serving_entry-requires-clause-own
serving_entry-requires-clause-own c = λ i at.
    let on = shared_on c.args.state.now.shared.entries c.in_ok-class.class i (sym c.shared_entry-shared.ensures ∙ at) in
    shared_stands (state_of c.args.state.now) c.requires.state.kept (interface_key i) (lookup-shared on.0 c.args.state.now.shared.entries i on.2)

pub serving_entry-requires-clause-uses : goal.serving_entry-requires-clause-uses
serving_entry-requires-clause-uses c = own_uses_stand c.args.types.now c.args.state.now c.sound.ensures c.requires.state c.args.id (interface_content c.index.result.now) c.requires.source c.index.ensures.entry c.index.ensures.standing c.requires.has c.requires.new

pub serving_entry-requires-clause-exports : goal.serving_entry-requires-clause-exports
serving_entry-requires-clause-exports c = own_exports_stand c.args.types.now c.args.state.now c.sound.ensures c.requires.state c.args.id (interface_content c.index.result.now) c.requires.source c.index.ensures.entry c.index.ensures.standing c.requires.has c.requires.new

pub returns-in-Some-clause-taken : goal.returns-in-Some-clause-taken
returns-in-Some-clause-taken c =
    let class_is = c.in_ok-class.ensures ∙ ap (option_map class_of) (sym (content_identifier c.args.types.now c.args.id (interface_content c.index.result.now) c.index.ensures.entry)) in
    let on = shared_on c.args.state.now.shared.entries c.in_ok-class.class c.in-Some.own (sym c.shared_entry-shared.ensures ∙ c.in-Some.ensures.own) in
    takes_served c.args.types.now c.args.state.now c.sound.ensures c.requires.state c.args.id (interface_content c.index.result.now) c.requires.source c.index.ensures.entry c.index.ensures.standing c.requires.has c.requires.new
    c.in-Some.own on.0 (sym on.1 ∙ class_is) on.2 c.in-Some.ensures.serves c.put_interface.new.self (c.in_ok-put_interface.ensures c.requires.new)

pub returns-in-Some-clause-members : goal.returns-in-Some-clause-members
returns-in-Some-clause-members c = λ taken wit has all.
    let class_is = c.in_ok-class.ensures ∙ ap (option_map class_of) (sym (content_identifier c.args.types.now c.args.id (interface_content c.index.result.now) c.index.ensures.entry)) in
    let on = shared_on c.args.state.now.shared.entries c.in_ok-class.class c.in-Some.own (sym c.shared_entry-shared.ensures ∙ c.in-Some.ensures.own) in
    members_served c.args.types.now c.args.state.now c.sound.ensures c.requires.state c.args.id (interface_content c.index.result.now) c.requires.source c.index.ensures.entry c.index.ensures.standing c.requires.has c.requires.new
    c.in-Some.own on.0 (sym on.1 ∙ class_is) on.2 c.in-Some.ensures.serves c.put_interface.new.self (c.in_ok-put_interface.ensures c.requires.new) taken wit has all

pub put_interface-requires-2-clause-named : goal.put_interface-requires-2-clause-named
put_interface-requires-2-clause-named c =
    ap (λ (x : InterfaceContent). x.id) c.in_ok-interface.ensures ∙ sym (content_identifier c.args.types.now c.args.id (interface_content c.index-2.result.now) c.index-2.ensures.entry)

pub put_interface-requires-2-clause-class : goal.put_interface-requires-2-clause-class
put_interface-requires-2-clause-class c = c.in_ok-class.ensures ∙ ap (option_map class_of) (sym (content_identifier c.args.types.now c.args.id (interface_content c.index.result.now) c.index.ensures.entry))

pub put_interface-requires-2-clause-taken : goal.put_interface-requires-2-clause-taken
put_interface-requires-2-clause-taken c =
    let x = interface_content c.index-2.result.now in
    may_put c.args.types.now c.args.state.now c.sound.ensures c.requires.state c.args.id x _ _ c.requires.source c.index-2.ensures.entry (uses_stand c.args.types.now x c.index-2.ensures.standing) (exports_stand c.args.types.now x c.index-2.ensures.standing)
    c.requires.has (ap (λ (y : InterfaceContent). y.uses) c.in_ok-interface.ensures) (ap (λ (y : InterfaceContent). y.exports) c.in_ok-interface.ensures) c.requires.new
