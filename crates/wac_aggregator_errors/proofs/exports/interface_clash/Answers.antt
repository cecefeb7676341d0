use Rattle.std.proofs.lemmas.Result.{IfOk-weaker}
use Rattle.wac_component.specs.Key.{interface_key}
use Rattle.wac_merge.specs.Items.{extern_list}
use Rattle.wac_aggregator_errors.proofs.Reading.{exports_known, exports_go_on, found_with, interfaces_searched}
use Rattle.wac_aggregator_errors.proofs.exports.interface_clash.Goals as goal

pub returns-clause-clash : goal.returns-clause-clash
returns-clause-clash c =
    IfOk-weaker c.first_clash.result _ _
    (interfaces_searched c.args.own.now (extern_list c.in_ok-first.first) (extern_list c.in_ok-second.second) c.args.existing c.args.new c.in_ok-first.ensures c.in_ok-second.ensures)
    c.first_clash.ensures.clash

pub first_clash-requires-clause-known : goal.first_clash-requires-clause-known
first_clash-requires-clause-known c = exports_known c.args.own.now c.args.meets.now (interface_key c.args.existing) (interface_key c.args.new) (extern_list c.in_ok-first.first) (extern_list c.in_ok-second.second) c.in_ok-first.ensures c.in_ok-second.ensures c.requires.known

pub returns-clause-known : goal.returns-clause-known
returns-clause-known c = exports_go_on c.args.own.now c.first_clash.new.own c.args.meets.now c.first_clash.new.meets (interface_key c.args.existing) (interface_key c.args.new) (extern_list c.in_ok-first.first) (extern_list c.in_ok-second.second) c.in_ok-first.ensures c.in_ok-second.ensures c.first_clash.ensures.known

pub returns-clause-stood : goal.returns-clause-stood
returns-clause-stood c =
    IfOk-weaker c.first_clash.result _ _
    (found_with c.args.own.now (interface_key c.args.existing) (interface_key c.args.new) (extern_list c.in_ok-first.first) (extern_list c.in_ok-second.second) c.in_ok-first.ensures c.in_ok-second.ensures)
    c.first_clash.ensures.stood
