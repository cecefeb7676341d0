use Rattle.std.proofs.Common.{◌≡◌, ◌∙◌, ap, map, None, string_bytes, rules, subst}
use Rattle.std.specs.Str.{bytes_eq}
use Rattle.std.specs.Map.Iter.{deref_pair}
use Rattle.wac_model.specs.Text.{lookup}
use Rattle.std.proofs.lemmas.Map.Iter.{iter_end}
use Rattle.wac_component.specs.Content.{named}
use Rattle.wac_component.proofs.Extended.{Extends-trans}
use Rattle.wac_checker_parts.proofs.ExternLemmas.{named_stands}
use Rattle.wac_merge.specs.Items.{extern_list}
use Rattle.wac_aggregator_errors.specs.Clashes.{AreApart}
use Rattle.wac_aggregator_errors.specs.Found.{HasNone, AreItemsApart}
use Rattle.wac_aggregator_errors.proofs.Apart.{trees_before, not_apart_from}
use Rattle.wac_aggregator_errors.proofs.Reading.{named_both, pair_known, pair_goes_on}
use Rattle.wac_aggregator_errors.proofs.Turns.{name_has, found_at, not_found_at, done_more, none_more}
use Rattle.wac_aggregator_errors.proofs.exports.first_clash.Goals as goal

pub are_apart-requires : goal.are_apart-requires
are_apart-requires c =
    let of_first = name_has deref_pair c.args.first.now.entries c.loop-name.yielded _ _ _ _ (c.in-Some.name, c.in-Some.existing) c.into_iter-name-iterator.ensures.into_iter_gives.0 c.loop-name.yielded_by c.in-Some.is c.next.ensures.steps c.into_iter-name-iterator.ensures.into_iter_gives.4 in
    let of_second = found_at c.args.second.now.entries (string_bytes c.in-Some.name.now) c.get.result c.in-Some-get.new c.get.ensures.value c.in-Some-get.is in
    record { known = pair_known (extern_list c.args.first.now) (extern_list c.args.second.now) (string_bytes c.in-Some.name.now) c.in-Some.existing.now c.in-Some-get.new.now of_first of_second c.args.own.now c.loop-name.own c.args.meets.now c.loop-name.meets c.requires.known c.loop-name.invariant.known }

pub returns-in_err-are_apart-clause-known : goal.returns-in_err-are_apart-clause-known
returns-in_err-are_apart-clause-known c =
    let of_first = name_has deref_pair c.args.first.now.entries c.loop-name.yielded _ _ _ _ (c.in-Some.name, c.in-Some.existing) c.into_iter-name-iterator.ensures.into_iter_gives.0 c.loop-name.yielded_by c.in-Some.is c.next.ensures.steps c.into_iter-name-iterator.ensures.into_iter_gives.4 in
    let of_second = found_at c.args.second.now.entries (string_bytes c.in-Some.name.now) c.get.result c.in-Some-get.new c.get.ensures.value c.in-Some-get.is in
    pair_goes_on (extern_list c.args.first.now) (extern_list c.args.second.now) (string_bytes c.in-Some.name.now) c.in-Some.existing.now c.in-Some-get.new.now of_first of_second c.args.own.now c.loop-name.own c.are_apart.new.own c.args.meets.now c.loop-name.meets c.are_apart.new.meets c.loop-name.invariant.known c.are_apart.ensures.known

pub returns-in_err-clone-clause-known : goal.returns-in_err-clone-clause-known
returns-in_err-clone-clause-known c =
    let of_first = name_has deref_pair c.args.first.now.entries c.loop-name.yielded _ _ _ _ (c.in-Some.name, c.in-Some.existing) c.into_iter-name-iterator.ensures.into_iter_gives.0 c.loop-name.yielded_by c.in-Some.is c.next.ensures.steps c.into_iter-name-iterator.ensures.into_iter_gives.4 in
    let of_second = found_at c.args.second.now.entries (string_bytes c.in-Some.name.now) c.get.result c.in-Some-get.new c.get.ensures.value c.in-Some-get.is in
    pair_goes_on (extern_list c.args.first.now) (extern_list c.args.second.now) (string_bytes c.in-Some.name.now) c.in-Some.existing.now c.in-Some-get.new.now of_first of_second c.args.own.now c.loop-name.own c.are_apart.new.own c.args.meets.now c.loop-name.meets c.are_apart.new.meets c.loop-name.invariant.known c.are_apart.ensures.known

pub returns-then-branch-clause-known : goal.returns-then-branch-clause-known
returns-then-branch-clause-known c =
    let of_first = name_has deref_pair c.args.first.now.entries c.loop-name.yielded _ _ _ _ (c.in-Some.name, c.in-Some.existing) c.into_iter-name-iterator.ensures.into_iter_gives.0 c.loop-name.yielded_by c.in-Some.is c.next.ensures.steps c.into_iter-name-iterator.ensures.into_iter_gives.4 in
    let of_second = found_at c.args.second.now.entries (string_bytes c.in-Some.name.now) c.get.result c.in-Some-get.new c.get.ensures.value c.in-Some-get.is in
    pair_goes_on (extern_list c.args.first.now) (extern_list c.args.second.now) (string_bytes c.in-Some.name.now) c.in-Some.existing.now c.in-Some-get.new.now of_first of_second c.args.own.now c.loop-name.own c.are_apart.new.own c.args.meets.now c.loop-name.meets c.are_apart.new.meets c.loop-name.invariant.known c.are_apart.ensures.known

pub returns-then-branch-clause-stood : goal.returns-then-branch-clause-stood
returns-then-branch-clause-stood c = λ d sound grown st.
    let of_first = name_has deref_pair c.args.first.now.entries c.loop-name.yielded _ _ _ _ (c.in-Some.name, c.in-Some.existing) c.into_iter-name-iterator.ensures.into_iter_gives.0 c.loop-name.yielded_by c.in-Some.is c.next.ensures.steps c.into_iter-name-iterator.ensures.into_iter_gives.4 in
    let of_second = found_at c.args.second.now.entries (string_bytes c.in-Some.name.now) c.get.result c.in-Some-get.new c.get.ensures.value c.in-Some-get.is in
    named_both (extern_list c.args.first.now) (extern_list c.args.second.now) (string_bytes c.in-Some.name.now) c.in-Some.existing.now c.in-Some-get.new.now of_first of_second d st

pub returns-in_err-are_apart-clause-grows : goal.returns-in_err-are_apart-clause-grows
returns-in_err-are_apart-clause-grows c = Extends-trans c.args.own.now c.loop-name.own c.are_apart.new.own c.loop-name.invariant.grows c.are_apart.ensures.grows

pub returns-in_err-clone-clause-grows : goal.returns-in_err-clone-clause-grows
returns-in_err-clone-clause-grows c = Extends-trans c.args.own.now c.loop-name.own c.are_apart.new.own c.loop-name.invariant.grows c.are_apart.ensures.grows

pub returns-then-branch-clause-grows : goal.returns-then-branch-clause-grows
returns-then-branch-clause-grows c = Extends-trans c.args.own.now c.loop-name.own c.are_apart.new.own c.loop-name.invariant.grows c.are_apart.ensures.grows

pub returns-then-branch-clause-clash : goal.returns-then-branch-clause-clash
returns-then-branch-clause-clash c =
    let of_first = name_has deref_pair c.args.first.now.entries c.loop-name.yielded _ _ _ _ (c.in-Some.name, c.in-Some.existing) c.into_iter-name-iterator.ensures.into_iter_gives.0 c.loop-name.yielded_by c.in-Some.is c.next.ensures.steps c.into_iter-name-iterator.ensures.into_iter_gives.4 in
    let of_second = found_at c.args.second.now.entries (string_bytes c.in-Some.name.now) c.get.result c.in-Some-get.new c.get.ensures.value c.in-Some-get.is in
    record {
      of_first = ap (lookup bytes_eq (extern_list c.args.first.now)) c.in_ok-clone.ensures.cases ∙ of_first;
      of_second = ap (lookup bytes_eq (extern_list c.args.second.now)) c.in_ok-clone.ensures.cases ∙ of_second;
      apart = trees_before AreApart c.args.own.now c.loop-name.own c.loop-name.invariant.grows c.in-Some.existing.now c.in-Some-get.new.now
          (named_stands c.args.own.now (extern_list c.args.first.now) (string_bytes c.in-Some.name.now) c.in-Some.existing.now of_first c.requires.first)
          (named_stands c.args.own.now (extern_list c.args.second.now) (string_bytes c.in-Some.name.now) c.in-Some-get.new.now of_second c.requires.second)
          (c.in_ok-are_apart.ensures.apart.0 c.if-branch.true);
    }

pub loop-name-preserved-else-branch : goal.loop-name-preserved-else-branch
loop-name-preserved-else-branch c =
    let more = done_more deref_pair (λ k. k) c.loop-name.yielded (c.in-Some.name, c.in-Some.existing) in
    let of_first = name_has deref_pair c.args.first.now.entries c.loop-name.yielded _ _ _ _ (c.in-Some.name, c.in-Some.existing) c.into_iter-name-iterator.ensures.into_iter_gives.0 c.loop-name.yielded_by c.in-Some.is c.next.ensures.steps c.into_iter-name-iterator.ensures.into_iter_gives.4 in
    let of_second = found_at c.args.second.now.entries (string_bytes c.in-Some.name.now) c.get.result c.in-Some-get.new c.get.ensures.value c.in-Some-get.is in
    record {
      grows = Extends-trans c.args.own.now c.loop-name.own c.are_apart.new.own c.loop-name.invariant.grows c.are_apart.ensures.grows;
      known = pair_goes_on (extern_list c.args.first.now) (extern_list c.args.second.now) (string_bytes c.in-Some.name.now) c.in-Some.existing.now c.in-Some-get.new.now of_first of_second c.args.own.now c.loop-name.own c.are_apart.new.own c.args.meets.now c.loop-name.meets c.are_apart.new.meets c.loop-name.invariant.known c.are_apart.ensures.known;
      none = rw more (none_more (AreItemsApart c.args.own.now) (named (λ k. k) (map deref_pair c.loop-name.yielded)) (extern_list c.args.second.now) (string_bytes c.in-Some.name.now) c.in-Some.existing.now c.loop-name.invariant.none
          (not_apart_from c.args.own.now c.loop-name.own c.loop-name.invariant.grows c.in-Some.existing.now c.in-Some-get.new.now
          (named_stands c.args.own.now (extern_list c.args.first.now) (string_bytes c.in-Some.name.now) c.in-Some.existing.now of_first c.requires.first)
          (named_stands c.args.own.now (extern_list c.args.second.now) (string_bytes c.in-Some.name.now) c.in-Some-get.new.now of_second c.requires.second)
          c.in_ok-are_apart.field-0 c.if-branch.false c.in_ok-are_apart.ensures.apart (lookup bytes_eq (extern_list c.args.second.now) (string_bytes c.in-Some.name.now)) of_second));
    }

pub loop-name-preserved : goal.loop-name-preserved
loop-name-preserved c =
    let more = done_more deref_pair (λ k. k) c.loop-name.yielded (c.in-Some.name, c.in-Some.existing) in
    let nothing : c.get.result ≡ None = search rules in
    let absent = not_found_at c.args.second.now.entries (string_bytes c.in-Some.name.now) c.get.result c.get.ensures.value nothing in
    record {
      grows = c.loop-name.invariant.grows;
      known = c.loop-name.invariant.known;
      none = rw more (none_more (AreItemsApart c.args.own.now) (named (λ k. k) (map deref_pair c.loop-name.yielded)) (extern_list c.args.second.now) (string_bytes c.in-Some.name.now) c.in-Some.existing.now c.loop-name.invariant.none
          (λ y there. absurd (cc)));
    }

pub returns-clause-clash : goal.returns-clause-clash
returns-clause-clash c =
    let all = iter_end deref_pair c.args.first.now.entries c.loop-name.yielded _ _ _ _ c.into_iter-name-iterator.ensures.into_iter_gives.0 c.loop-name.yielded_by c.in-None.is c.next.ensures.steps in
    subst (λ l. HasNone (AreItemsApart c.args.own.now) (named (λ k. k) l) (extern_list c.args.second.now)) all.0 c.loop-name.invariant.none
