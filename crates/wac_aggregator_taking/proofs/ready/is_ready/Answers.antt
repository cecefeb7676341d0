use Rattle.std.proofs.Common.{[], ◌∷◌, arith}
use Rattle.std.proofs.lemmas.Result.{IfOk-weaker}
use Rattle.wac_component.specs.Height.{height, keys_height}
use Rattle.wac_component.specs.Key.{func_key}
use Rattle.wac_aggregator_taking.proofs.Plain.{OnlyGrows-refl}
use Rattle.wac_aggregator_taking.proofs.StepLemmas.{ok_then}
use Rattle.wac_aggregator_taking.proofs.TakeLemmas.{Takes-more, Takes-none}
use Rattle.wac_aggregator_taking.proofs.Within.{within_all}
use Rattle.wac_aggregator_taking.proofs.ready.is_ready.Goals as goal

pub returns-in-Func-clause-taken : goal.returns-in-Func-clause-taken
returns-in-Func-clause-taken c =
    let f = c.args.types.now in
    let ks = func_key c.in-Func.id ∷ [] in
    rw c.in-Func.is (ok_then c.is_func_ready.result c.is_func_ready.ensures.taken (Takes-more f c.args.state.now c.is_func_ready.new.state (height f (func_key c.in-Func.id)) (keys_height f ks) ks ks (λ t. Unit {0}) (λ t. Unit {0}) (omega arith) (within_all f ks) c.requires.state (λ t kept q. tt)))

pub returns-in_default : goal.returns-in_default
returns-in_default c = record { taken = Takes-none c.args.types.now c.args.state.now _ _ (λ t. Unit {0}) c.requires.state tt; grows = OnlyGrows-refl c.args.types.now c.args.state.now; noted = λ yes. c.has_item.ensures yes }

pub returns-in-Func-clause-noted : goal.returns-in-Func-clause-noted
returns-in-Func-clause-noted c = rw c.in-Func.is (IfOk-weaker c.is_func_ready.result _ _ (λ ready h yes. (h yes, tt)) c.is_func_ready.ensures.noted)
