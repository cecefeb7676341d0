use Rattle.std.proofs.Common.{[], ◌∷◌, Some, map, refl, sym, subst, ◌∙◌, arith}
use Rattle.wac_aggregator_alike.specs.Alike.{IsAlikeAnswer}
use Rattle.wac_component.specs.Height.{keys_height}
use Rattle.wac_component.specs.Key.{resource_key, defined_key}
use Rattle.wac_aggregator_taking.specs.Takes.{owners_keys, AreOwnersTaken}
use Rattle.wac_aggregator_taking.proofs.Alike.{same_defined_type, owned_stand, owned_within_type, absent_of, Takes-alike}
use Rattle.wac_aggregator_taking.proofs.Plain.{OnlyGrows-refl}
use Rattle.wac_aggregator_taking.proofs.Refusals.{refused_within, refused_apart}
use Rattle.wac_aggregator_taking.proofs.StepAnswers.{absent_still, noted_grows, owed_takes}
use Rattle.wac_aggregator_taking.proofs.StepLemmas.{imports_grow}
use Rattle.wac_aggregator_taking.proofs.TakeLemmas.{Takes-none, Takes-more}
use Rattle.wac_aggregator_taking.proofs.Within.{within_all}
use Rattle.wac_aggregator_taking.proofs.noting.note_defined.Goals as goal

pub returns-then-is_some-clause-taken : goal.returns-then-is_some-clause-taken
returns-then-is_some-clause-taken c = Takes-none c.args.types.now c.args.state.now _ _ (λ s. Unit {0}) c.requires.state tt

pub returns-then-is_some-clause-grows : goal.returns-then-is_some-clause-grows
returns-then-is_some-clause-grows c = OnlyGrows-refl c.args.types.now c.args.state.now

pub returns-then-is_some-clause-owed : goal.returns-then-is_some-clause-owed
returns-then-is_some-clause-owed c = λ k m. elim m [ ]

pub returns-in_default-clause-taken : goal.returns-in_default-clause-taken
returns-in_default-clause-taken c = Takes-none c.args.types.now c.args.state.now _ _ (λ s. Unit {0}) c.requires.state tt

pub returns-in_default-clause-grows : goal.returns-in_default-clause-grows
returns-in_default-clause-grows c = OnlyGrows-refl c.args.types.now c.args.state.now

pub returns-in_default-clause-owed : goal.returns-in_default-clause-owed
returns-in_default-clause-owed c = λ k m. elim m [ ]

pub import_owners-requires-clause-source : goal.import_owners-requires-clause-source
import_owners-requires-clause-source c =
    let f = c.args.types.now in
    let answer : IsAlikeAnswer c.args.state.now.types f (defined_key c.args.own) (defined_key c.args.id) (Some c.in-Some.owned) = subst (IsAlikeAnswer c.args.state.now.types f (defined_key c.args.own) (defined_key c.args.id)) c.in-Some.is c.in_ok-owned.ensures in
    owned_stand f c.sound.ensures (defined_key c.args.id) c.in-Some.owned.items c.requires.source (λ r m. (answer.1.each r m).0)

pub returns-in-Err-clause-taken : goal.returns-in-Err-clause-taken
returns-in-Err-clause-taken c =
    let f = c.args.types.now in
    let answer : IsAlikeAnswer c.args.state.now.types f (defined_key c.args.own) (defined_key c.args.id) (Some c.in-Some.owned) = subst (IsAlikeAnswer c.args.state.now.types f (defined_key c.args.own) (defined_key c.args.id)) c.in-Some.is c.in_ok-owned.ensures in
    refused_within f c.args.state.now (map resource_key c.in-Some.owned.items) (defined_key c.args.id ∷ []) c.in-Err.refusal (owned_within_type f c.sound.ensures (defined_key c.args.id) c.in-Some.owned.items (λ r m. (answer.1.each r m).0)) (refused_apart f c.args.state.now (map resource_key c.in-Some.owned.items) c.in-Err.refusal c.in-Err.ensures.taken)

pub returns-then-not-all-clause-taken : goal.returns-then-not-all-clause-taken
returns-then-not-all-clause-taken c =
    let f = c.args.types.now in
    let answer : IsAlikeAnswer c.args.state.now.types f (defined_key c.args.own) (defined_key c.args.id) (Some c.in-Some.owned) = subst (IsAlikeAnswer c.args.state.now.types f (defined_key c.args.own) (defined_key c.args.id)) c.in-Some.is c.in_ok-owned.ensures in
    owed_takes f c.args.state.now c.import_owners.new.state (defined_key c.args.id) (map resource_key c.in-Some.owned.items) _ (owned_within_type f c.sound.ensures (defined_key c.args.id) c.in-Some.owned.items (λ r m. (answer.1.each r m).0)) c.requires.state c.in-Ok.ensures.taken

pub returns-then-not-all-clause-grows : goal.returns-then-not-all-clause-grows
returns-then-not-all-clause-grows c = imports_grow c.args.types.now c.args.state.now c.import_owners.new.state c.in-Ok.ensures.others

pub returns-then-not-all-clause-owed : goal.returns-then-not-all-clause-owed
returns-then-not-all-clause-owed c =
    let f = c.args.types.now in
    let answer : IsAlikeAnswer c.args.state.now.types f (defined_key c.args.own) (defined_key c.args.id) (Some c.in-Some.owned) = subst (IsAlikeAnswer c.args.state.now.types f (defined_key c.args.own) (defined_key c.args.id)) c.in-Some.is c.in_ok-owned.ensures in
    owned_within_type f c.sound.ensures (defined_key c.args.id) c.in-Some.owned.items (λ r m. (answer.1.each r m).0)

pub returns-clause-taken : goal.returns-clause-taken
returns-clause-taken c =
    let f = c.args.types.now in
    let a = c.args.state.now in
    let b = c.import_owners.new.state in
    let rs = c.in-Some.owned.items in
    let theirs = defined_key c.args.id in
    let ours = defined_key c.args.own in
    let answer : IsAlikeAnswer a.types f ours theirs (Some c.in-Some.owned) = subst (IsAlikeAnswer a.types f ours theirs) c.in-Some.is c.in_ok-owned.ensures in
    let alike = answer.0 in
    let same = same_defined_type a.types f c.args.own c.args.id alike.same in
    let taken = Takes-more f a b 0 (keys_height f (owners_keys f rs)) (map resource_key rs) (map resource_key rs) _ (AreOwnersTaken f rs) (omega arith) (within_all f (map resource_key rs)) c.requires.state (λ t kept q. q c.if-not-all.false) c.in-Ok.ensures.taken in
    let none = sym c.defined.ensures ∙ absent_of defined_key c.defined.result (sym c.is_some.ensures ∙ c.if-is_some.false) in
    let absent = absent_still a b theirs c.in-Ok.ensures.others none in
    Takes-alike f c.sound.ensures a b c.put_defined.new.self theirs ours rs c.requires.source tt tt refl c.requires.state c.requires.own same alike answer.1 taken (c.in_ok-put_defined.ensures absent) absent

pub returns-clause-grows : goal.returns-clause-grows
returns-clause-grows c =
    let a = c.args.state.now in
    let b = c.import_owners.new.state in
    let theirs = defined_key c.args.id in
    let none = sym c.defined.ensures ∙ absent_of defined_key c.defined.result (sym c.is_some.ensures ∙ c.if-is_some.false) in
    noted_grows c.args.types.now a b c.put_defined.new.self theirs (defined_key c.args.own) c.requires.source tt c.in-Ok.ensures.others (c.in_ok-put_defined.ensures (absent_still a b theirs c.in-Ok.ensures.others none))

pub returns-clause-owed : goal.returns-clause-owed
returns-clause-owed c = λ k m. elim m [ ]
