use Rattle.std.proofs.Common.{◌≡◌, ◌∙◌, Some, IsSome, sym, subst}
use Rattle.std.specs.Option.{option_map}
use Rattle.std.proofs.lemmas.Result.{MatchResult-weaker}
use Rattle.wac_component.specs.Height.{keys_height}
use Rattle.wac_component.specs.Key.{item_keys}
use Rattle.wac_aggregator_promises.specs.Call.{Call}
use Rattle.wac_aggregator_imports.specs.Import.{ImportContent, import_of}
use Rattle.wac_names.specs.Class.{class_of}
use Rattle.wac_aggregator_narrowing.specs.Taking.{IsTakenItem}
use Rattle.wac_aggregator_taking.specs.Takes.{Takes}
use Rattle.wac_aggregator.proofs.Calls.{near_import, existing_stands, some_still, merged_advances}
use Rattle.wac_aggregator.proofs.Refusing.{item_refused, not_merged}
use Rattle.wac_aggregator.proofs.Trying.{taken_near, refused_by_near}
use Rattle.wac_component.specs.Id.{Id}
use Rattle.wac_aggregator_promises.specs.Entries.{ReachesByUses}
use Rattle.wac_aggregator_errors.specs.declared.error.AggregateError.TheVariants.{Memory}
use Rattle.wac_aggregator.proofs.Members.{match_with, members_onward, member_memory, the_instance, import_is_own}
use Rattle.wac_aggregator.specs.HandedIn.{called}
use Rattle.wac_aggregator.proofs.importing.merge_taken.Goals as goal

pub take_item-requires-clause-near : goal.take_item-requires-clause-near
take_item-requires-clause-near c =
    let found = subst (λ q. option_map (λ (i : ImportContent). i.1) (import_of c.args.state.now.imports q) ≡ Some c.args.existing) c.requires.of c.requires.found in
    near_import c.args.state.now c.args.call.now.name.now c.args.existing c.requires.state.kept found c.as_interface-near.result c.as_interface-near.ensures

pub returns-in-Ok-clause-advances : goal.returns-in-Ok-clause-advances
returns-in-Ok-clause-advances c =
    let call : Call = called c.args.call.now in
    let found = subst (λ q. option_map (λ (i : ImportContent). i.1) (import_of c.args.state.now.imports q) ≡ Some c.args.existing) c.requires.of c.requires.found in
    let takes : Takes call.types c.args.state.now c.take_item.new.state (keys_height call.types (item_keys call.kind)) (item_keys call.kind) (λ t. IsTakenItem class_of call.types t call.kind c.in-Ok.own)
    = taken_near call c.args.state.now c.requires.state c.args.existing found c.as_interface-near.result c.as_interface-near.ensures c.take_item.new.state _ _ _ c.in-Ok.ensures.taken in
    MatchResult-weaker c.note_import.result c.note_import.ensures.merged (λ u h. merged_advances call c.args.state.now c.take_item.new.state c.in-Ok.own c.requires.state takes c.args.existing found c.note_import.new.state h)
    (λ e h. not_merged call c.args.state.now c.take_item.new.state c.in-Ok.own c.requires.state takes c.args.existing found e h)

pub returns-in-Err-clause-advances : goal.returns-in-Err-clause-advances
returns-in-Err-clause-advances c =
    let call : Call = called c.args.call.now in
    let found = subst (λ q. option_map (λ (i : ImportContent). i.1) (import_of c.args.state.now.imports q) ≡ Some c.args.existing) c.requires.of c.requires.found in
    item_refused call c.args.state.now c.in-Err.error c.requires.state (refused_by_near call c.args.state.now c.requires.state c.args.existing found c.as_interface-near.result c.as_interface-near.ensures (item_keys c.args.call.now.kind) c.in-Err.error c.in-Err.ensures.taken)

pub note_import-requires-clause-existing : goal.note_import-requires-clause-existing
note_import-requires-clause-existing c =
    let call : Call = called c.args.call.now in
    let found = subst (λ q. option_map (λ (i : ImportContent). i.1) (import_of c.args.state.now.imports q) ≡ Some c.args.existing) c.requires.of c.requires.found in
    existing_stands call c.args.state.now c.take_item.new.state c.in-Ok.own c.requires.state (taken_near call c.args.state.now c.requires.state c.args.existing found c.as_interface-near.result c.as_interface-near.ensures c.take_item.new.state _ _ _ c.in-Ok.ensures.taken) c.args.existing found

pub note_import-requires-clause-found : goal.note_import-requires-clause-found
note_import-requires-clause-found c =
    let call : Call = called c.args.call.now in
    let found = subst (λ q. option_map (λ (i : ImportContent). i.1) (import_of c.args.state.now.imports q) ≡ Some c.args.existing) c.requires.of c.requires.found in
    subst (λ q. IsSome (import_of c.take_item.new.state.imports q)) (sym c.requires.of)
    (some_still call c.args.state.now c.take_item.new.state c.in-Ok.own c.requires.state (taken_near call c.args.state.now c.requires.state c.args.existing found c.as_interface-near.result c.as_interface-near.ensures c.take_item.new.state _ _ _ c.in-Ok.ensures.taken) c.args.existing found)

pub returns-in-Ok-clause-members : goal.returns-in-Ok-clause-members
returns-in-Ok-clause-members c = λ i hand taken wit has all.
    let call : Call = called c.args.call.now in
    let found = subst (λ q. option_map (λ (i : ImportContent). i.1) (import_of c.args.state.now.imports q) ≡ Some c.args.existing) c.requires.of c.requires.found in
    let a = c.args.state.now in
    let mid = c.take_item.new.state in
    let b = c.note_import.new.state in
    let P : Id → Type 0 = ReachesByUses call.types i in
    let takes : Takes call.types a mid (keys_height call.types (item_keys call.kind)) (item_keys call.kind) (λ t. IsTakenItem class_of call.types t call.kind c.in-Ok.own)
    = taken_near call a c.requires.state c.args.existing found c.as_interface-near.result c.as_interface-near.ensures mid _ _ _ c.in-Ok.ensures.taken in
    let g = c.in-Ok.ensures.members i hand.named.instance taken wit has all in
    let one = the_instance call a mid c.in-Ok.own c.requires.state takes i hand g.more g.has in
    match_with c.note_import.result _ _ _ (λ e. e ≡ Memory) _ c.note_import.ensures.merged (c.note_import.ensures.itself one.0 (import_is_own call a mid c.in-Ok.own c.requires.state takes i hand g.more g.has c.args.existing found ∙ one.1) one.1)
    (λ u h. members_onward call.types a mid b P taken (takes.run.kept c.requires.state.kept) h.met.on h.same g)
    (λ e h memory. member_memory call.types P taken e memory)

pub returns-in-Err-clause-members : goal.returns-in-Err-clause-members
returns-in-Err-clause-members c = λ i hand taken wit has all. c.in-Err.ensures.members i hand.named.instance taken wit has all
