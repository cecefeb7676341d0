use Rattle.std.proofs.Common.{◌≡◌, map, None, string_bytes, rules, subst}
use Rattle.std.specs.Map.Iter.{deref_pair}
use Rattle.std.proofs.lemmas.Map.Iter.{iter_end}
use Rattle.wac_core.specs.Content.{core_tree}
use Rattle.wac_component.specs.Content.{named}
use Rattle.wac_aggregator_errors.specs.Clashes.{AreCoresApart}
use Rattle.wac_aggregator_errors.specs.Found.{HasNone}
use Rattle.wac_aggregator_errors.proofs.Cores.{entry_valid, cores_found, none_beside}
use Rattle.wac_aggregator_errors.proofs.Turns.{name_has, done_more, none_more}
use Rattle.wac_aggregator_errors.proofs.modules.first_core_clash.Goals as goal

pub core_clash-requires : goal.core_clash-requires
core_clash-requires c = record {
  valid =
      entry_valid c.args.first.now.entries (string_bytes c.in-Some.name.now) c.in-Some.existing.now c.requires.valid
      (name_has deref_pair c.args.first.now.entries c.loop-name.yielded _ _ _ _ (c.in-Some.name, c.in-Some.existing) c.into_iter-name-iterator.ensures.into_iter_gives.0 c.loop-name.yielded_by c.in-Some.is c.next.ensures.steps c.into_iter-name-iterator.ensures.into_iter_gives.4);
}

pub returns-in-Some-2 : goal.returns-in-Some-2
returns-in-Some-2 c =
    let there = name_has deref_pair c.args.first.now.entries c.loop-name.yielded _ _ _ _ (c.in-Some.name, c.in-Some.existing) c.into_iter-name-iterator.ensures.into_iter_gives.0 c.loop-name.yielded_by c.in-Some.is c.next.ensures.steps c.into_iter-name-iterator.ensures.into_iter_gives.4 in
    cores_found c.args.first.now.entries c.args.second.now.entries c.in-Some.name.now c.in-Some.existing.now c.get.result c.in_ok-error.field-0 c.in_ok-clone.field-0 c.in-Some-2.error
    there c.get.ensures.value c.in-Some-2.is c.in_ok-error.ensures c.in_ok-clone.ensures.cases

pub loop-name-preserved : goal.loop-name-preserved
loop-name-preserved c =
    let more = done_more deref_pair core_tree c.loop-name.yielded (c.in-Some.name, c.in-Some.existing) in
    let none : c.in_ok-error.field-0 ≡ None = search rules in
    rw more
    (none_more AreCoresApart (named core_tree (map deref_pair c.loop-name.yielded)) (named core_tree c.args.second.now.entries) (string_bytes c.in-Some.name.now) (core_tree c.in-Some.existing.now) c.loop-name.invariant
    (none_beside c.args.second.now.entries (string_bytes c.in-Some.name.now) (core_tree c.in-Some.existing.now) c.get.result c.in_ok-error.field-0 c.get.ensures.value none c.in_ok-error.ensures))

pub returns : goal.returns
returns c =
    let all = iter_end deref_pair c.args.first.now.entries c.loop-name.yielded _ _ _ _ c.into_iter-name-iterator.ensures.into_iter_gives.0 c.loop-name.yielded_by c.in-None.is c.next.ensures.steps in
    subst (λ l. HasNone AreCoresApart (named core_tree l) (named core_tree c.args.second.now.entries)) all.0 c.loop-name.invariant
