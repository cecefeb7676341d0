use Rattle.std.proofs.Common.{◌∷◌, []}
use Rattle.wac_merge.specs.Memo.{first_key, second_key}
use Rattle.wac_merge.proofs.StepLemmas.{underway_run, lacking_stands}
use Rattle.wac_merge.proofs.steps.take.Goals as goal

pub returns-in_err-push_step-in-Err : goal.returns-in_err-push_step-in-Err
returns-in_err-push_step-in-Err c =
    record {
      goes_on = λ d sound stand way steps. (
        underway_run d c.args.types.now c.take_step.new.types c.args.memo.now c.take_step.new.memo (first_key c.args.step.asked.pair) (second_key c.args.step.asked.pair) sound stand c.in-Err.ensures.grows c.in-Err.ensures.built way,
        c.push_step.ensures d (rw c.in-Err.ensures.asked stand) steps,
      );
      extends = c.in-Err.ensures.grows.extends;
    }

pub returns-in_ok-push_step-in-Err : goal.returns-in_ok-push_step-in-Err
returns-in_ok-push_step-in-Err c =
    record {
      goes_on = λ d sound stand way steps. (
        underway_run d c.args.types.now c.take_step.new.types c.args.memo.now c.take_step.new.memo (first_key c.args.step.asked.pair) (second_key c.args.step.asked.pair) sound stand c.in-Err.ensures.grows c.in-Err.ensures.built way,
        c.push_lacking.ensures d (lacking_stands d c.args.types.now (first_key c.args.step.asked.pair ∷ second_key c.args.step.asked.pair ∷ []) c.in-Err.untold sound way.ran.only.extends stand c.in-Err.ensures.lacks)
            (c.push_step.ensures d (rw c.in-Err.ensures.asked stand) steps),
      );
      extends = c.in-Err.ensures.grows.extends;
    }
