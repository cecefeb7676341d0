use Rattle.std.proofs.Common.{◌≡◌, ◌++◌, [], ◌∷◌, map, string_bytes, subst, ap, sym, ◌∙◌}
use Rattle.std.proofs.lemmas.Map.Iter.{iter_end}
use Rattle.std.specs.Map.Iter.{deref_pair}
use Rattle.std.specs.Option.{option_map}
use Rattle.wac_component.specs.Content.{named}
use Rattle.wac_component.specs.Key.{AllStand, item_keys}
use Rattle.wac_aggregator_memo.specs.Memo.{memo_of}
use Rattle.wac_aggregator_memo.specs.Renamed.{renamed_item, with_values}
use Rattle.wac_checker_parts.proofs.ExternLemmas.{named_stands}
use Rattle.wac_merge.specs.Items.{ExternKinds, extern_list}
use Rattle.wac_merge.proofs.LoopLemmas.{name_has, name_not_done, done_more}
use Rattle.wac_aggregator_taking.specs.Growing.{AreMetWith}
use Rattle.wac_aggregator_taking.proofs.GrowLemmas.{met_none, met_then, found_by}
use Rattle.wac_aggregator_taking.proofs.Served.{lookup-with, with_more, unhidden-with}
use Rattle.wac_aggregator_taking.proofs.ServingLemmas.{met_kept}
use Rattle.wac_aggregator_taking.proofs.serving.exports_serve.Goals as goal

pub loop-name-init : goal.loop-name-init
loop-name-init c = record { truly = c.new-compared.ensures c.args.state.now.types c.args.state.now.types; met = met_none c.args.state.now.types (extern_list c.args.existing.now) c.requires.existing }

pub export_serves-requires-clause-new : goal.export_serves-requires-clause-new
export_serves-requires-clause-new c =
    let h = renamed_item (memo_of c.args.state.now.taken) in
    let name = string_bytes c.in-Some.name.now in
    let there = name_has deref_pair c.args.exports.now.entries c.loop-name.yielded _ _ _ _ (c.in-Some.name, c.in-Some.kind) c.into_iter-name-iterator.ensures.into_iter_gives.0 c.loop-name.yielded_by c.in-Some.is c.next.ensures.steps c.into_iter-name-iterator.ensures.into_iter_gives.4 in
    subst (λ k. AllStand c.args.state.now.types (item_keys k)) (sym c.renamed_item-new.ensures)
    (named_stands c.args.state.now.types (with_values h (extern_list c.args.exports.now)) name (h c.in-Some.kind.now) (lookup-with h (extern_list c.args.exports.now) name ∙ ap (option_map h) there) c.requires.new)

pub loop-name-preserved : goal.loop-name-preserved
loop-name-preserved c =
    let h = renamed_item (memo_of c.args.state.now.taken) in
    let types = c.args.state.now.types in
    let own = extern_list c.args.existing.now in
    let done : ExternKinds = named (λ k. k) (map deref_pair c.loop-name.yielded) in
    let name = string_bytes c.in-Some.name.now in
    let new = c.renamed_item-new.result in
    let there = name_has deref_pair c.args.exports.now.entries c.loop-name.yielded _ _ _ _ (c.in-Some.name, c.in-Some.kind) c.into_iter-name-iterator.ensures.into_iter_gives.0 c.loop-name.yielded_by c.in-Some.is c.next.ensures.steps c.into_iter-name-iterator.ensures.into_iter_gives.4 in
    let absent = name_not_done deref_pair c.args.exports.now.entries c.loop-name.yielded _ _ _ _ (c.in-Some.name, c.in-Some.kind) c.into_iter-name-iterator.ensures.into_iter_gives.0 c.loop-name.yielded_by c.in-Some.is c.next.ensures.steps c.into_iter-name-iterator.ensures.into_iter_gives.4 in
    let more = done_more deref_pair c.args.exports.now.entries c.loop-name.yielded _ _ _ _ (c.in-Some.name, c.in-Some.kind) c.into_iter-name-iterator.ensures.into_iter_gives.0 c.loop-name.yielded_by c.in-Some.is c.next.ensures.steps c.into_iter-name-iterator.ensures.into_iter_gives.4 in
    let now : with_values h (named (λ k. k) (map deref_pair (c.loop-name.yielded ++ (c.in-Some.name, c.in-Some.kind) ∷ []))) ≡ with_values h done ++ (name, new) ∷ [] =
    ap (with_values h) more ∙ with_more h done name c.in-Some.kind.now ∙ ap (λ k. with_values h done ++ (name, k) ∷ []) (sym c.renamed_item-new.ensures) in
    let stands : AllStand types (item_keys new) = subst (λ k. AllStand types (item_keys k)) (sym c.renamed_item-new.ensures)
    (named_stands types (with_values h (extern_list c.args.exports.now)) name (h c.in-Some.kind.now) (lookup-with h (extern_list c.args.exports.now) name ∙ ap (option_map h) there) c.requires.new) in
    let served = c.export_serves.ensures.served c.if-not-export_serves.false in
    record {
      truly = c.export_serves.ensures.truly;
      met = rw now
          (met_then types types types own (with_values h done) own own name new (lookup-with h done name ∙ ap (option_map h) absent) c.requires.existing stands c.loop-name.invariant.met
          (met_kept types own name new served.0 c.requires.existing served.1 served.2));
    }

pub returns-clause-met : goal.returns-clause-met
returns-clause-met c = λ yes.
    let types = c.args.state.now.types in
    let h = renamed_item (memo_of c.args.state.now.taken) in
    let all = iter_end deref_pair c.args.exports.now.entries c.loop-name.yielded _ _ _ _ c.into_iter-name-iterator.ensures.into_iter_gives.0 c.loop-name.yielded_by c.in-None.is c.next.ensures.steps in
    subst (λ l. AreMetWith types types (extern_list c.args.existing.now) (with_values h (named (λ k. k) l)) (extern_list c.args.existing.now)) all.0 c.loop-name.invariant.met

pub returns-clause-found : goal.returns-clause-found
returns-clause-found c = unhidden-with (renamed_item (memo_of c.args.state.now.taken)) (extern_list c.args.exports.now) (found_by c.args.exports.now.entries c.into_iter-name-iterator.ensures.into_iter_gives.4)

pub returns-then-not-export_serves-clause-found : goal.returns-then-not-export_serves-clause-found
returns-then-not-export_serves-clause-found c = unhidden-with (renamed_item (memo_of c.args.state.now.taken)) (extern_list c.args.exports.now) (found_by c.args.exports.now.entries c.into_iter-name-iterator.ensures.into_iter_gives.4)
