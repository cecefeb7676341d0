use Rattle.std.proofs.Common.{subst}
use Rattle.wac_types.specs.Report.{IsAnswer, world_content_of}
use Rattle.wac_wit_changes.proofs.Running.{runs_by_yes, problems_of_no}
use Rattle.wac_wit_changes.proofs.comparing.ComparedPair.world_problems.Goals as goal

pub returns-in-Ok : goal.returns-in-Ok
returns-in-Ok c =
    let answer = subst (IsAnswer c.args.self.now.types.now (world_content_of c.args.self.now.types.now c.args.worlds.now.after) (world_content_of c.args.self.now.types.now c.args.worlds.now.component)) c.in-Ok.is c.in_ok-fits_target.ensures in
    ((λ none. runs_by_yes _ _ _ answer), (λ runs. c.new.ensures.items))

pub returns-in-Err : goal.returns-in-Err
returns-in-Err c =
    let answer = subst (IsAnswer c.args.self.now.types.now (world_content_of c.args.self.now.types.now c.args.worlds.now.after) (world_content_of c.args.self.now.types.now c.args.worlds.now.component)) c.in-Err.is c.in_ok-fits_target.ensures in
    problems_of_no _ _ _ c.in-Err.report c.report_problems.result answer c.report_problems.ensures
