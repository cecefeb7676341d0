use Rattle.std.proofs.Common.{◌∷◌, [], ◌++◌}
use Rattle.std.specs.Option.{option_copied}
use Rattle.wac_core_merge.proofs.ModuleLemmas.{join_turn}
use Rattle.wac_core_merge.proofs.modules.join_each.Goals as goal

pub loop-name-preserved : goal.loop-name-preserved
loop-name-preserved g c =
    let i = c.loop-name.invariant in
    let t = join_turn g.met.K.Eq.laws c.args.first.entries i.0 c.loop-name.name-iterator c.next.new.self c.args.second.now.entries c.in-Some.name c.in-Some.of c.into_iter-name-iterator.ensures.into_iter_gives.4 i.1 c.in-Some.ensures.steps
    (option_copied c.get.result) c.get.ensures.value c.in_ok-kept.kept c.in_ok-kept.ensures c.loop-name.joined.entries c.insert_if_any.new.map.entries i.2 c.in_ok-insert_if_any.ensures in
    (i.0 ++ (c.in-Some.name, c.in-Some.of) ∷ [], t.0, t.1)
