use Rattle.std.proofs.Common.{subst, ap, ◌∙◌, IfOk}
use Rattle.std.specs.List.{AllZip}
use Rattle.wac_wit_changes.specs.Comparing.{IsReportOn}
use Rattle.wac_wit_changes.specs.Sides.{olds_of}
use Rattle.wac_wit_changes.proofs.packages.compare.Goals as goal

pub returns-clause-reports : goal.returns-clause-reports
returns-clause-reports c =
    subst (λ ps. IfOk c.compared.result (λ rs. AllZip (IsReportOn c.moves_of.new.types c.args.new.wit.now.packages.items) ps rs.items)) (ap olds_of c.deref.ensures.value ∙ c.in_ok-moves.ensures.olds) c.compared.ensures
