use Rattle.std.proofs.Common.{sym, ◌∙◌, ap, [], ◌∷◌, ◌++◌, append-nil}
use Rattle.wac_core_merge.specs.Names.{with_new}
use Rattle.wac_core_merge.proofs.NameLemmas.{with_new-turn}
use Rattle.wac_core_merge.proofs.names.add_new.Goals as goal

pub loop-name-init : goal.loop-name-init
loop-name-init g c = ([], sym c.into_iter-name-iterator.ensures.into_iter_gives.0, sym (append-nil c.args.first.now.entries))

pub loop-name-preserved : goal.loop-name-preserved
loop-name-preserved g c =
    let i = c.loop-name.invariant in
    let t = with_new-turn g.met.K.Eq.laws c.args.second.entries i.0 c.loop-name.name-iterator c.next.new.self c.args.first.now.entries c.loop-name.first.entries c.insert_new.new.map.entries (c.in-Some.name, c.in-Some.value)
    c.into_iter-name-iterator.ensures.into_iter_gives.4 i.1 c.in-Some.ensures.steps i.2 c.in_ok-insert_new.ensures in
    (i.0 ++ (c.in-Some.name, c.in-Some.value) ∷ [], t.0, t.1)

pub returns-clause-entries : goal.returns-clause-entries
returns-clause-entries g c =
    let i = c.loop-name.invariant in
    i.2 ∙ ap (with_new g.K.PartialEq.eq c.args.first.now.entries) (sym (i.1 ∙ ap (λ l. i.0 ++ l) c.in-None.ensures.steps.0 ∙ append-nil i.0))
