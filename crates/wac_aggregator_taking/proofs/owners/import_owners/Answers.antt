use Rattle.std.proofs.Common.{◌+◌, [], ◌∷◌, map, refl, sym, subst, ◌∙◌, arith}
use Rattle.wac_component.specs.Entries.{owner_at}
use Rattle.wac_component.specs.Key.{Stands, resource_key}
use Rattle.wac_aggregator_narrowing.specs.State.{State}
use Rattle.wac_aggregator_taking.specs.Steps.{IsOwnerTold}
use Rattle.wac_aggregator_taking.proofs.Alike.{AreFirstTaken, first_still, first_next, first_whole, resource_at, within_resources}
use Rattle.wac_aggregator_taking.proofs.Refusals.{refused_later}
use Rattle.wac_aggregator_taking.proofs.StepAnswers.{imports_then, none_told}
use Rattle.wac_aggregator_taking.proofs.TakeLemmas.{MayTake-Takes, Takes-none, Takes-more, Takes-then}
use Rattle.wac_aggregator_taking.proofs.Within.{within_all}
use Rattle.wac_aggregator_taking.proofs.owners.import_owners.Goals as goal

pub loop-i-init : goal.loop-i-init
loop-i-init c = record { takes = Takes-none c.args.types.now c.args.state.now _ _ (AreFirstTaken c.args.types.now 0 c.args.resources.now.items) c.requires.state (λ j r low at. absurd (omega (arith, low))); others = refl }

pub import_owner_of-requires-clause-source : goal.import_owner_of-requires-clause-source
import_owner_of-requires-clause-source c = resource_at (Stands c.args.types.now) c.args.resources.now.items c.loop-i.i c.resource_at-id.result c.resource_at-id.ensures c.requires.source

pub import_owner_of-requires-clause-state : goal.import_owner_of-requires-clause-state
import_owner_of-requires-clause-state c = MayTake-Takes c.args.types.now c.args.state.now c.loop-i.state _ _ _ c.requires.state c.loop-i.invariant.takes

pub loop-i-preserved : goal.loop-i-preserved
loop-i-preserved c =
    let f = c.args.types.now in
    let a = c.args.state.now in
    let b = c.loop-i.state in
    let n = c.import_owner_of.new.state in
    let rs = c.args.resources.now.items in
    let i = c.loop-i.i in
    let r = c.resource_at-id.result in
    let at = c.resource_at-id.ensures in
    let told : State → Type 0 = IsOwnerTold f (owner_at f r) c.in-Ok.told in
    let none = none_told c.in-Ok.told (sym c.is_some.ensures ∙ c.if-is_some.false) in
    record {
      takes = Takes-more f a n 0 0 (map resource_key rs) (map resource_key rs) (λ s. AreFirstTaken f i rs s × told s) (AreFirstTaken f (i + 1) rs) (omega arith) (within_all f (map resource_key rs)) c.requires.state
          (λ s kept h. let own = subst (λ o. IsOwnerTold f (owner_at f r) o s) none h.1 in first_next f s i rs r own.0 at h.0 own.1)
          (Takes-then f a b n 0 0 0 (map resource_key rs) (resource_key r ∷ []) (map resource_key rs) (AreFirstTaken f i rs) told (omega arith) (omega arith) (within_all f (map resource_key rs)) (within_resources f rs i r at) c.requires.state
          (λ s u kept run h. first_still f s u i rs kept run h) c.loop-i.invariant.takes c.in-Ok.ensures.taken);
      others = imports_then a b n c.loop-i.invariant.others c.in-Ok.ensures.others;
    }

pub returns-then-is_some-clause-taken : goal.returns-then-is_some-clause-taken
returns-then-is_some-clause-taken c =
    let f = c.args.types.now in
    let rs = c.args.resources.now.items in
    Takes-more f c.args.state.now c.import_owner_of.new.state 0 0 (map resource_key rs) (map resource_key rs) (λ s. AreFirstTaken f c.loop-i.i rs s × IsOwnerTold f (owner_at f c.resource_at-id.result) c.in-Ok.told s) _ (omega arith) (within_all f (map resource_key rs)) c.requires.state
    (λ s kept h yes. absurd (cc))
    (Takes-then f c.args.state.now c.loop-i.state c.import_owner_of.new.state 0 0 0 (map resource_key rs) (resource_key c.resource_at-id.result ∷ []) (map resource_key rs) (AreFirstTaken f c.loop-i.i rs) (IsOwnerTold f (owner_at f c.resource_at-id.result) c.in-Ok.told) (omega arith) (omega arith) (within_all f (map resource_key rs)) (within_resources f rs c.loop-i.i c.resource_at-id.result c.resource_at-id.ensures) c.requires.state
    (λ s u kept run h. first_still f s u c.loop-i.i rs kept run h) c.loop-i.invariant.takes c.in-Ok.ensures.taken)

pub returns-then-is_some-clause-others : goal.returns-then-is_some-clause-others
returns-then-is_some-clause-others c = imports_then c.args.state.now c.loop-i.state c.import_owner_of.new.state c.loop-i.invariant.others c.in-Ok.ensures.others

pub returns-in-Err-clause-taken : goal.returns-in-Err-clause-taken
returns-in-Err-clause-taken c =
    let f = c.args.types.now in
    let rs = c.args.resources.now.items in
    refused_later f c.args.state.now c.loop-i.state 0 (map resource_key rs) (resource_key c.resource_at-id.result ∷ []) (map resource_key rs) (AreFirstTaken f c.loop-i.i rs) c.in-Err.refusal (within_all f (map resource_key rs)) (within_resources f rs c.loop-i.i c.resource_at-id.result c.resource_at-id.ensures) c.requires.state c.loop-i.invariant.takes c.in-Err.ensures.taken

pub returns-in-Err-clause-others : goal.returns-in-Err-clause-others
returns-in-Err-clause-others c = imports_then c.args.state.now c.loop-i.state c.import_owner_of.new.state c.loop-i.invariant.others c.import_owner_of.ensures.others

pub returns-clause-taken : goal.returns-clause-taken
returns-clause-taken c =
    let f = c.args.types.now in
    let rs = c.args.resources.now.items in
    Takes-more f c.args.state.now c.loop-i.state 0 0 (map resource_key rs) (map resource_key rs) (AreFirstTaken f c.loop-i.i rs) _ (omega arith) (within_all f (map resource_key rs)) c.requires.state
    (λ s kept q yes. first_whole f s c.loop-i.i rs (omega (arith, c.loop-i-test.false, c.len-i-end.ensures)) q) c.loop-i.invariant.takes
