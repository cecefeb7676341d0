use Rattle.std.proofs.Common.{◌≡◌, None, refl, sym, subst, inl, inr}
use Rattle.std.proofs.lemmas.Result.{MatchResult-weaker}
use Rattle.wac_aggregator_imports.specs.Import.{import_of}
use Rattle.wac_aggregator_taking.proofs.Alike.{IsNear-none}
use Rattle.wac_aggregator.proofs.Calls.{added_advances}
use Rattle.wac_aggregator.proofs.Refusing.{item_refused, not_added}
use Rattle.wac_component.specs.Id.{Id}
use Rattle.wac_aggregator_promises.specs.Entries.{ReachesByUses}
use Rattle.wac_aggregator_promises.specs.Reason.{taken as is_taken}
use Rattle.wac_aggregator_taking.specs.Members.{TakesMembers}
use Rattle.wac_aggregator_taking.specs.declared.state.Merging.{Merging}
use Rattle.wac_aggregator_taking.proofs.GrowLemmas.{StepsOn-refl}
use Rattle.wac_aggregator.proofs.Members.{members_onward, member_apart, member_memory}
use Rattle.wac_aggregator.specs.HandedIn.{called}
use Rattle.wac_aggregator.proofs.importing.add_import.Goals as goal

pub take_item-requires-clause-near : goal.take_item-requires-clause-near
take_item-requires-clause-near c = IsNear-none c.args.state.now

pub returns-in-Ok-clause-advances : goal.returns-in-Ok-clause-advances
returns-in-Ok-clause-advances c =
    MatchResult-weaker c.put_import.result c.put_import.ensures (λ u h.
    added_advances (called c.args.call.now) c.args.state.now c.take_item.new.state c.in-Ok.own c.requires.state c.in-Ok.ensures.taken c.put_import.new.state h
    (subst (λ q. import_of c.args.state.now.imports q ≡ None) c.requires.of c.requires.new))
    (λ e h. not_added (called c.args.call.now) c.args.state.now c.take_item.new.state c.in-Ok.own c.requires.state c.in-Ok.ensures.taken e (subst (λ q. import_of c.args.state.now.imports q ≡ None) c.requires.of c.requires.new) h)

pub returns-in-Err-clause-advances : goal.returns-in-Err-clause-advances
returns-in-Err-clause-advances c = item_refused (called c.args.call.now) c.args.state.now c.in-Err.error c.requires.state c.in-Err.ensures.taken

pub returns-in-Ok-clause-members : goal.returns-in-Ok-clause-members
returns-in-Ok-clause-members c = λ i hand taken wit has all.
    let f = c.args.call.now.types.now in
    let a = c.args.state.now in
    let mid = c.take_item.new.state in
    let P : Id → Type 0 = ReachesByUses f i in
    let g = c.in-Ok.ensures.members i hand.named.instance taken wit has all in
    MatchResult-weaker c.put_import.result c.put_import.ensures
    (λ u h. subst (λ (m : Merging). TakesMembers f a m P taken) (sym h.same) (members_onward f a mid (record mid { imports = c.put_import.new.state.imports }) P taken (c.in-Ok.ensures.taken.run.kept c.requires.state.kept) (StepsOn-refl mid.types) refl g))
    (λ e h. elim h [
      | inl memory ↦ member_memory f P taken e memory
      | inr came ↦ member_apart f P taken e (is_taken c.args.call.now.name.now) came.1 (λ merging. merging)
    ])

pub returns-in-Err-clause-members : goal.returns-in-Err-clause-members
returns-in-Err-clause-members c = λ i hand taken wit has all. c.in-Err.ensures.members i hand.named.instance taken wit has all
