use Rattle.std.proofs.lemmas.Result.{on_ok_weaker}
use Rattle.wac_wit_refusals_sites.specs.Paths.{in_hidden, inside}
use Rattle.wac_wit_refusals_sites.proofs.Walks.{not_so}
use Rattle.wac_wit_refusals_sites.proofs.judge.Judge.push_path.Goals as goal

pub returns-then-is_there : goal.returns-then-is_there
returns-then-is_there c = on_ok_weaker c.push.result (λ pushes of judges b has t holds. pushes of t (inside t b c.args.gates.now c.args.path.now c.args.seeks holds has ((c.is_there.ensures of judges).0 c.if-is_there.true))) c.push.ensures

pub returns-else-is_there : goal.returns-else-is_there
returns-else-is_there c = on_ok_weaker c.push-else-is_there.result (λ pushes of judges b has t holds. pushes of t (in_hidden t b c.args.gates.now c.args.path.now c.args.seeks holds has (not_so _ c.is_there.result c.if-is_there.false (c.is_there.ensures of judges)))) c.push-else-is_there.ensures
