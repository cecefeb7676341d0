use Rattle.std.proofs.Common.{◌∙◌, subst}
use Rattle.wac_wit_changes.specs.Sides.{FindsCounterpart}
use Rattle.wac_wit_changes.proofs.Reports.{report_beside}
use Rattle.wac_wit_changes.proofs.packages.package_report.Goals as goal

pub report_of_both-requires : goal.report_of_both-requires
report_of_both-requires c =
    let found = subst (FindsCounterpart c.args.new.now.packages.items c.args.of.now.old.now) c.in-Some.is c.requires.found in
    let beside = found c.in_ok-new.new.now c.in_ok-new.ensures.0 (c.in_ok-new.ensures.1 ∙ c.deref.ensures) in
    record {
      promise = c.promise_of.ensures.promise c.args.of.now.old.now c.in_ok-new.new.now beside.on_track;
      own = λ same. c.requires.own c.in-Some.found c.in-Some.is (c.promise_of.ensures.own same);
    }

pub returns-in_default : goal.returns-in_default
returns-in_default c =
    let news = c.args.new.now.packages.items in
    c.in_ok-lost_report.ensures c.args.pair.now.types.now news (subst (FindsCounterpart news c.args.of.now.old.now) c.in_default.is c.requires.found)

pub returns : goal.returns
returns c =
    let old = c.args.of.now.old.now in
    let news = c.args.new.now.packages.items in
    let found = subst (FindsCounterpart news old) c.in-Some.is c.requires.found in
    let beside = found c.in_ok-new.new.now c.in_ok-new.ensures.0 (c.in_ok-new.ensures.1 ∙ c.deref.ensures) in
    report_beside c.args.pair.now.types.now news old c.in_ok-new.new.now c.report_of_both.result beside.compared c.report_of_both.ensures
