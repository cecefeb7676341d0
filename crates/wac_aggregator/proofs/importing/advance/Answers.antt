use Rattle.std.proofs.Common.{sym, subst}
use Rattle.std.proofs.lemmas.Result.{MatchResult-weaker}
use Rattle.wac_aggregator_promises.specs.Call.{Call}
use Rattle.wac_aggregator_taking.specs.Takes.{MayTake}
use Rattle.wac_aggregator_taking.specs.declared.state.Merging.{Merging}
use Rattle.wac_aggregator.specs.HandedIn.{called}
use Rattle.wac_aggregator.specs.Advances.{Advances, IsRefusedCall}
use Rattle.wac_aggregator.proofs.Calls.{told_may, told_advances}
use Rattle.wac_aggregator.proofs.Refusing.{told_refused}
use Rattle.wac_component.specs.Id.{Id}
use Rattle.wac_aggregator_promises.specs.Entries.{ReachesByUses}
use Rattle.wac_aggregator_taking.specs.Members.{AnswersMembers}
use Rattle.wac_aggregator.specs.Wit.{MayHandIn}
use Rattle.wac_aggregator.proofs.Members.{told_hand, told_members}
use Rattle.wac_aggregator.proofs.importing.advance.Goals as goal

pub import-requires-clause-state : goal.import-requires-clause-state
import-requires-clause-state c =
    subst (λ (m : Merging). MayTake c.args.call.now.types.now m) (sym c.note_handed_in.ensures) (told_may c.args.state.now c.note_handed_in.new.state.handed_in c.args.call.now.types.now c.requires.state)

pub returns-clause-advances : goal.returns-clause-advances
returns-clause-advances c =
    let call : Call = called c.args.call.now in
    MatchResult-weaker c.import.result c.import.ensures.advances
    (λ u h. told_advances c.args.state.now c.note_handed_in.new.state.handed_in call c.import.new.state (subst (λ (m : Merging). Advances call m c.import.new.state) c.note_handed_in.ensures h))
    (λ e h. told_refused c.args.state.now c.note_handed_in.new.state.handed_in call e (subst (λ (m : Merging). IsRefusedCall call m e) c.note_handed_in.ensures h))

pub returns-clause-members : goal.returns-clause-members
returns-clause-members c = λ i hand.
    let call : Call = called c.args.call.now in
    let a = c.args.state.now in
    let told = c.note_handed_in.new.state.handed_in in
    let h : (j : Id) → MayHandIn call (record a { handed_in = told }) j → AnswersMembers c.import.result call.types (record a { handed_in = told }) c.import.new.state (ReachesByUses call.types j)
    = subst (λ (m : Merging). (j : Id) → MayHandIn call m j → AnswersMembers c.import.result call.types m c.import.new.state (ReachesByUses call.types j)) c.note_handed_in.ensures c.import.ensures.members in
    told_members call.types a c.import.new.state told c.import.result (ReachesByUses call.types i) (h i (told_hand call.types a c.import.new.state told call i hand))
