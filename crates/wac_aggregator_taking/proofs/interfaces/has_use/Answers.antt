use Rattle.std.proofs.Common.{ap, sym, subst, ◌∙◌, refl}
use Rattle.std.specs.Option.{option_and_then}
use Rattle.wac_component.specs.Collection.{InterfaceContent}
use Rattle.wac_aggregator_memo.specs.EntryOrder.{HasOwn}
use Rattle.wac_component.specs.Id.{Id}
use Rattle.wac_component.specs.Implicit.{HasIdentifier}
use Rattle.wac_component.specs.Key.{interface_key}
use Rattle.wac_aggregator_memo.specs.Memo.{memo_of}
use Rattle.wac_aggregator_taking.proofs.PartHeights.{used_stands}
use Rattle.wac_aggregator_taking.proofs.StepAnswers.{noted_by, use_is}
use Rattle.wac_aggregator_taking.proofs.TakeLemmas.{some_name}
use Rattle.wac_aggregator_taking.proofs.interfaces.has_use.Goals as goal

pub index-requires : goal.index-requires
index-requires c = used_stands c.args.types.now c.args.uses.now.entries c.args.index c.interface_at-interface.result c.interface_at-interface.ensures c.requires.source

pub returns : goal.returns
returns c = λ yes name u at.
    let f = c.args.types.now in
    let p = c.interface_at-interface.result in
    let named = some_name c.index.result.now.id c.if-is_none.ensures in
    let identified : HasIdentifier f p = rw (ap (option_and_then (λ (x : InterfaceContent). x.id)) c.index.ensures.entry ∙ named.1) refl in
    let own : HasOwn (memo_of c.args.taken.now) (interface_key p) = noted_by interface_key c.interface.result (memo_of c.args.taken.now (interface_key p)) c.interface.ensures (sym c.is_some.ensures ∙ yes) in
    let same = use_is c.args.uses.now.entries c.args.index p name u c.interface_at-interface.ensures at in
    (subst (λ (q : Id). HasIdentifier f q) same identified, subst (λ (q : Id). HasOwn (memo_of c.args.taken.now) (interface_key q)) same own)
