use Rattle.std.proofs.Common.{[], ◌∷◌, map, string_bytes, sym, subst}
use Rattle.std.proofs.lemmas.Map.Iter.{iter_end}
use Rattle.wac_aggregator_uses.specs.Uses.{AreOfOne, UsesAgree}
use Rattle.std.specs.Map.Iter.{deref_pair}
use Rattle.wac_component.specs.Content.{named, use_content}
use Rattle.wac_component.specs.Key.{Stands}
use Rattle.wac_aggregator_uses.proofs.UseLists.{each_looked, each_yielded, looked_use, yielded_use, one_in}
use Rattle.wac_aggregator_errors.proofs.Passing.{passed_on}
use Rattle.wac_aggregator_uses.proofs.UseLemmas.{agree_none, agree_then, is_found, not_found, done_uses, lists_refused}
use Rattle.wac_aggregator_uses.proofs.uses.check_uses.Goals as goal

pub check_use-requires-clause-existing : goal.check_use-requires-clause-existing
check_use-requires-clause-existing c = each_looked (Stands c.args.types.now) _ c.args.existing.now.entries c.in-Some-get.other.now (sym (rw c.in-Some-get.is at c.get.ensures.value)) c.requires.existing

pub check_use-requires-clause-new : goal.check_use-requires-clause-new
check_use-requires-clause-new c =
    each_yielded (Stands c.args.types.now) deref_pair c.args.new.now.entries c.loop-name.yielded _ _ _ _ (c.in-Some.name, c.in-Some.used) c.into_iter-name-iterator.ensures.into_iter_gives.0 c.loop-name.yielded_by c.in-Some.is c.next.ensures.steps c.requires.new

pub returns-in_err-check_use : goal.returns-in_err-check_use
returns-in_err-check_use c =
    let us = named use_content c.args.existing.now.entries in
    let vs = named use_content c.args.new.now.entries in
    let name = string_bytes c.in-Some.name.now in
    passed_on c.from_residual.result _ _ c.in_err-check_use.field-0.0 c.from_residual.ensures
    (lists_refused c.args.types.now us vs ((name, use_content c.in-Some-get.other.now) ∷ []) ((name, use_content c.in-Some.used.now) ∷ []) c.in_err-check_use.field-0.0
    (one_in _ us (looked_use name c.args.existing.now.entries c.in-Some-get.other.now (sym (rw c.in-Some-get.is at c.get.ensures.value))))
    (one_in _ vs (yielded_use deref_pair c.args.new.now.entries c.loop-name.yielded _ _ _ _ (c.in-Some.name, c.in-Some.used) c.into_iter-name-iterator.ensures.into_iter_gives.0 c.loop-name.yielded_by c.in-Some.is c.next.ensures.steps)) c.in_err-check_use.ensures)

pub loop-name-init : goal.loop-name-init
loop-name-init c = record { agree = agree_none c.args.types.now (named use_content c.args.existing.now.entries) }

pub loop-name-preserved : goal.loop-name-preserved
loop-name-preserved c =
    let us = c.args.existing.now.entries in
    let name = string_bytes c.in-Some.name.now in
    record {
      agree = subst (UsesAgree c.args.types.now (named use_content us)) (sym (done_uses deref_pair c.loop-name.yielded (c.in-Some.name, c.in-Some.used)))
          (agree_then c.args.types.now (named use_content us) (named use_content (map deref_pair c.loop-name.yielded)) name (use_content c.in-Some.used.now) c.loop-name.invariant.agree
          (λ u is. absurd (not_found us name u (sym (rw c.in_default.is at c.get.ensures.value)) is)));
    }

pub loop-name-preserved-in-Continue-1 : goal.loop-name-preserved-in-Continue-1
loop-name-preserved-in-Continue-1 c =
    let us = c.args.existing.now.entries in
    let name = string_bytes c.in-Some.name.now in
    record {
      agree = subst (UsesAgree c.args.types.now (named use_content us)) (sym (done_uses deref_pair c.loop-name.yielded (c.in-Some.name, c.in-Some.used)))
          (agree_then c.args.types.now (named use_content us) (named use_content (map deref_pair c.loop-name.yielded)) name (use_content c.in-Some.used.now) c.loop-name.invariant.agree
          (λ u is. subst (λ v. AreOfOne c.args.types.now v (use_content c.in-Some.used.now)) (is_found us name c.in-Some-get.other.now u (sym (rw c.in-Some-get.is at c.get.ensures.value)) is) c.in_ok-check_use.ensures));
    }

pub returns : goal.returns
returns c =
    let all = iter_end deref_pair c.args.new.now.entries c.loop-name.yielded _ _ _ _ c.into_iter-name-iterator.ensures.into_iter_gives.0 c.loop-name.yielded_by c.in-None.is c.next.ensures.steps in
    subst (λ l. UsesAgree c.args.types.now (named use_content c.args.existing.now.entries) (named use_content l)) all.0 c.loop-name.invariant.agree
