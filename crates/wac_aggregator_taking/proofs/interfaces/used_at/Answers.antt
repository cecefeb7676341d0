use Rattle.std.proofs.Common.{◌≡◌, Some, None, ap, sym, subst, ◌∙◌}
use Rattle.std.specs.Option.{option_and_then}
use Rattle.wac_component.specs.Collection.{InterfaceContent}
use Rattle.wac_component.specs.Content.{named, use_content}
use Rattle.wac_component.specs.Implicit.{identifier}
use Rattle.wac_aggregator_promises.specs.Reason.{no_identifier}
use Rattle.wac_aggregator_taking.specs.Refused.{IsOfUnidentified}
use Rattle.wac_aggregator_taking.proofs.PartHeights.{used_stands}
use Rattle.wac_aggregator_taking.proofs.Plain.{used_named}
use Rattle.wac_aggregator_taking.proofs.Refusals.{refused_use}
use Rattle.wac_aggregator_taking.proofs.TakeLemmas.{no_name}
use Rattle.wac_aggregator_taking.proofs.interfaces.used_at.Goals as goal

pub index-requires : goal.index-requires
index-requires c = used_stands c.args.types.now c.args.uses.now.entries c.args.index c.interface_at-interface.result c.interface_at-interface.ensures c.requires.source

pub returns-then-is_none-clause-refused : goal.returns-then-is_none-clause-refused
returns-then-is_none-clause-refused c = λ a.
    let f = c.args.types.now in
    let w = used_named c.args.uses.now.entries c.args.index c.interface_at-interface.result c.interface_at-interface.ensures in
    let unidentified = ap (option_and_then (λ (x : InterfaceContent). x.id)) c.index.ensures.entry ∙ no_name c.index.result.now.id c.if-is_none.ensures in
    refused_use f a (named use_content c.args.uses.now.entries) c.args.index w.0 w.1 c.in_ok-no_identifier.field-0 w.2 (subst (λ q. identifier f q ≡ None) (sym w.3) unidentified) (c.in_ok-no_identifier.ensures w.0 w.1 w.2)

pub returns-then-is_none-clause-unidentified : goal.returns-then-is_none-clause-unidentified
returns-then-is_none-clause-unidentified c = λ r is.
    let w = used_named c.args.uses.now.entries c.args.index c.interface_at-interface.result c.interface_at-interface.ensures in
    let says = c.in_ok-no_identifier.ensures w.0 w.1 w.2 in
    let same : Some (no_identifier w.0) ≡ Some r = sym says ∙ is in
    let reason : no_identifier w.0 ≡ r = cc in
    subst IsOfUnidentified reason tt
