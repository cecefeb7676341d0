use Rattle.std.proofs.Common.{◌∙◌, ◌++◌, sym, subst, map, Some, None, IfSome, string_bytes, rules}
use Rattle.std.specs.Map.Iter.{deref_pair}
use Rattle.wac_component.specs.Content.{named}
use Rattle.wac_component.specs.Key.{AllStand, item_keys, optional_keys}
use Rattle.wac_checker_parts.proofs.ExternLemmas.{named_stands}
use Rattle.wac_merge.specs.Bounded.{IsJoinedWith, AreJoined}
use Rattle.wac_merge.specs.Built.{IsBuiltWith}
use Rattle.wac_merge.specs.Items.{extern_list}
use Rattle.wac_merge.specs.Memo.{Made}
use Rattle.wac_merge.specs.Runs.{FromBuilt}
use Rattle.wac_merge.specs.Told.{IsBoundWith}
use Rattle.wac_merge.proofs.ExternLemmas.{found_stands, clash_at}
use Rattle.wac_merge.proofs.LoopLemmas.{name_not_done, name_has, done_more, bound_turn, dropped_turn, names_turn, names_dropped, standing_turn, built_turn, lacks_under}
use Rattle.wac_merge.proofs.externs.bound_first.Goals as goal

pub bound_with-requires-clause-left : goal.bound_with-requires-clause-left
bound_with-requires-clause-left c =
    let there = name_has deref_pair c.args.first.now.entries c.loop-name.yielded _ _ _ _ (c.in-Some.name, c.in-Some.a) c.into_iter-name-iterator.ensures.into_iter_gives.0 c.loop-name.yielded_by c.in-Some.is c.next.ensures.steps c.into_iter-name-iterator.ensures.into_iter_gives.4 in
    named_stands c.args.types.now (extern_list c.args.first.now) (string_bytes c.in-Some.name.now) c.in-Some.a.now there c.requires.left

pub bound_with-requires-clause-right : goal.bound_with-requires-clause-right
bound_with-requires-clause-right c =
    subst (λ o. AllStand c.args.types.now (optional_keys item_keys o)) (sym c.extern_named-b.ensures) (found_stands c.args.types.now (extern_list c.args.second.now) (string_bytes c.in-Some.name.now) c.requires.right)

pub returns-in_err-kind-clause-lacks : goal.returns-in_err-kind-clause-lacks
returns-in_err-kind-clause-lacks c =
    let there = name_has deref_pair c.args.first.now.entries c.loop-name.yielded _ _ _ _ (c.in-Some.name, c.in-Some.a) c.into_iter-name-iterator.ensures.into_iter_gives.0 c.loop-name.yielded_by c.in-Some.is c.next.ensures.steps c.into_iter-name-iterator.ensures.into_iter_gives.4 in
    let lacks = lacks_under c.args.types.now (extern_list c.args.first.now) (extern_list c.args.second.now) (string_bytes c.in-Some.name.now) c.in-Some.a.now c.extern_named-b.result there c.extern_named-b.ensures c.in_err-kind.field-0.0 c.in_err-kind.ensures.lacks in
    search rules

pub returns-in-Meet-clause-bound : goal.returns-in-Meet-clause-bound
returns-in-Meet-clause-bound c =
    let there = name_has deref_pair c.args.first.now.entries c.loop-name.yielded _ _ _ _ (c.in-Some.name, c.in-Some.a) c.into_iter-name-iterator.ensures.into_iter_gives.0 c.loop-name.yielded_by c.in-Some.is c.next.ensures.steps c.into_iter-name-iterator.ensures.into_iter_gives.4 in
    rw c.in-Meet.is (clash_at c.args.types.now c.args.types.now (extern_list c.args.first.now) (extern_list c.args.second.now) (string_bytes c.in-Some.name.now) c.in-Some.a.now c.extern_named-b.result there (sym c.extern_named-b.ensures) (rw (c.in-None-2.is, c.in-Meet.is) at c.in_ok-kind.ensures.bound))

pub loop-name-preserved-in-Continue-branch-3 : goal.loop-name-preserved-in-Continue-branch-3
loop-name-preserved-in-Continue-branch-3 c =
    let absent = name_not_done deref_pair c.args.first.now.entries c.loop-name.yielded _ _ _ _ (c.in-Some.name, c.in-Some.a) c.into_iter-name-iterator.ensures.into_iter_gives.0 c.loop-name.yielded_by c.in-Some.is c.next.ensures.steps c.into_iter-name-iterator.ensures.into_iter_gives.4 in
    let there = name_has deref_pair c.args.first.now.entries c.loop-name.yielded _ _ _ _ (c.in-Some.name, c.in-Some.a) c.into_iter-name-iterator.ensures.into_iter_gives.0 c.loop-name.yielded_by c.in-Some.is c.next.ensures.steps c.into_iter-name-iterator.ensures.into_iter_gives.4 in
    let more = done_more deref_pair c.args.first.now.entries c.loop-name.yielded _ _ _ _ (c.in-Some.name, c.in-Some.a) c.into_iter-name-iterator.ensures.into_iter_gives.0 c.loop-name.yielded_by c.in-Some.is c.next.ensures.steps c.into_iter-name-iterator.ensures.into_iter_gives.4 in
    let here : IsBoundWith c.args.bound c.args.types.now c.args.types.now c.in-Some.a.now c.extern_named-b.result (Some c.in-Some-2.kind) = rw c.in-Some-2.is at c.in_ok-kind.ensures.bound in
    record {
      memo = c.in_ok-kind.ensures.memo;
      made = c.in_ok-kind.ensures.made ∙ c.loop-name.invariant.made;
      bound = rw more (bound_turn c.args.types.now (extern_list c.args.first.now) (extern_list c.args.second.now) (named (λ k. k) (map deref_pair c.loop-name.yielded)) (string_bytes c.in-Some.name.now) c.in-Some.a.now c.extern_named-b.result absent c.extern_named-b.ensures (extern_list c.loop-name.parts) c.args.bound c.in-Some-2.kind (extern_list c.put_extern.new.externs) c.loop-name.invariant.bound here c.in_ok-put_extern-in-Some-2.ensures);
      names = rw more (names_turn c.args.types.now (extern_list c.args.first.now) (extern_list c.args.second.now) (named (λ k. k) (map deref_pair c.loop-name.yielded)) (string_bytes c.in-Some.name.now) c.in-Some.a.now c.extern_named-b.result absent c.extern_named-b.ensures (extern_list c.loop-name.parts) c.args.bound c.loop-name.invariant.bound c.in-Some-2.kind (extern_list c.put_extern.new.externs) c.in_ok-put_extern-in-Some-2.ensures c.loop-name.invariant.names);
      standing = standing_turn c.args.types.now (extern_list c.loop-name.parts) (extern_list c.put_extern.new.externs) (string_bytes c.in-Some.name.now) c.in-Some-2.kind c.loop-name.invariant.standing (rw c.in-Some-2.is at c.in_ok-kind.ensures.standing) c.in_ok-put_extern-in-Some-2.ensures;
      built = built_turn c.args.types.now (extern_list c.args.first.now) (extern_list c.args.second.now) (string_bytes c.in-Some.name.now) c.in-Some.a.now c.extern_named-b.result there c.extern_named-b.ensures (extern_list c.loop-name.parts) (extern_list c.put_extern.new.externs) c.in-Some-2.kind c.in_ok-put_extern-in-Some-2.ensures c.loop-name.invariant.built
          (rw c.in-Some-2.is at (subst (λ (l : Made). FromBuilt (item_keys c.in-Some.a.now ++ optional_keys item_keys c.extern_named-b.result) c.args.types.now l (λ b o. IfSome c.in_ok-kind.field-0 (IsBuiltWith b c.args.types.now o c.in-Some.a.now c.extern_named-b.result))) c.loop-name.invariant.made c.in_ok-kind.ensures.built));
    }

pub loop-name-preserved : goal.loop-name-preserved
loop-name-preserved c =
    let absent = name_not_done deref_pair c.args.first.now.entries c.loop-name.yielded _ _ _ _ (c.in-Some.name, c.in-Some.a) c.into_iter-name-iterator.ensures.into_iter_gives.0 c.loop-name.yielded_by c.in-Some.is c.next.ensures.steps c.into_iter-name-iterator.ensures.into_iter_gives.4 in
    let there = name_has deref_pair c.args.first.now.entries c.loop-name.yielded _ _ _ _ (c.in-Some.name, c.in-Some.a) c.into_iter-name-iterator.ensures.into_iter_gives.0 c.loop-name.yielded_by c.in-Some.is c.next.ensures.steps c.into_iter-name-iterator.ensures.into_iter_gives.4 in
    let more = done_more deref_pair c.args.first.now.entries c.loop-name.yielded _ _ _ _ (c.in-Some.name, c.in-Some.a) c.into_iter-name-iterator.ensures.into_iter_gives.0 c.loop-name.yielded_by c.in-Some.is c.next.ensures.steps c.into_iter-name-iterator.ensures.into_iter_gives.4 in
    let here : IsJoinedWith c.args.types.now c.args.types.now c.in-Some.a.now c.extern_named-b.result None = rw (c.in-None-2.is, c.in-Join.is) at c.in_ok-kind.ensures.bound in
    let before : AreJoined c.args.types.now c.args.types.now (named (λ k. k) (map deref_pair c.loop-name.yielded)) (extern_list c.args.second.now) (extern_list c.loop-name.parts) = rw c.in-Join.is at c.loop-name.invariant.bound in
    record {
      memo = c.in_ok-kind.ensures.memo;
      made = c.in_ok-kind.ensures.made ∙ c.loop-name.invariant.made;
      bound = rw (c.in-Join.is, more) (dropped_turn c.args.types.now (extern_list c.args.first.now) (extern_list c.args.second.now) (named (λ k. k) (map deref_pair c.loop-name.yielded)) (string_bytes c.in-Some.name.now) c.in-Some.a.now c.extern_named-b.result absent c.extern_named-b.ensures (extern_list c.loop-name.parts) before here);
      names = rw (c.in-Join.is, more) (names_dropped c.args.types.now (extern_list c.args.first.now) (extern_list c.args.second.now) (named (λ k. k) (map deref_pair c.loop-name.yielded)) (string_bytes c.in-Some.name.now) c.in-Some.a.now c.extern_named-b.result absent c.extern_named-b.ensures (extern_list c.loop-name.parts) before (rw c.in-Join.is at c.loop-name.invariant.names));
      standing = c.loop-name.invariant.standing;
      built = c.loop-name.invariant.built;
    }
