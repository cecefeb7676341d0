use Rattle.std.proofs.Common.{All, arith, subst}
use Rattle.std.proofs.lemmas.Map.Iter.{iter_end}
use Rattle.std.specs.Map.Iter.{deref_pair}
use Rattle.wac_targets.proofs.Distinct.{distinct-named}
use Rattle.wac_wit_changes.proofs.Names.{HasName, all_names, found_name, names_more}
use Rattle.wac_wit_changes.proofs.checking.has_each.Goals as goal

pub loop-name-init : goal.loop-name-init
loop-name-init c = λ i d below. absurd (omega (arith, below))

pub loop-name-preserved : goal.loop-name-preserved
loop-name-preserved c =
    names_more c.args.items.now.entries c.loop-name.yielded c.in-Some.name c.in-Some.field-0-1 c.loop-name.invariant
    (found_name c.args.items.now.entries c.in-Some.name.now c.in-Some.field-0-1.now c.get.result c.in-Some-get.field-0 c.get.ensures.value c.in-Some-get.is)

pub returns-clause-each : goal.returns-clause-each
returns-clause-each c = λ yes name asked.
    let all = iter_end deref_pair c.args.names.now.entries c.loop-name.yielded _ _ _ _ c.into_iter-name-iterator.ensures.into_iter_gives.0 c.loop-name.yielded_by c.in-None.is c.next.ensures.steps in
    all_names c.args.items.now.entries c.args.names.now.entries (subst (λ es. All (HasName c.args.items.now.entries) es) all.0 c.loop-name.invariant) name asked

pub returns-clause-distinct : goal.returns-clause-distinct
returns-clause-distinct c = distinct-named c.args.items.now.entries c.len.ensures.unique

pub returns-in_default-clause-distinct : goal.returns-in_default-clause-distinct
returns-in_default-clause-distinct c = distinct-named c.args.items.now.entries c.len.ensures.unique
