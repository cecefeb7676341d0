use Rattle.std.proofs.Common.{◌≡◌, ◌++◌, ◌∷◌, [], map, string_bytes, ap, sym, subst, ◌∙◌}
use Rattle.std.proofs.lemmas.List.Elements.{All-contains, All-nil}
use Rattle.std.proofs.lemmas.Map.Iter.{iter_end}
use Rattle.std.specs.Map.Iter.{deref_pair}
use Rattle.std.specs.Str.{bytes_eq}
use Rattle.indexmap.specs.IndexMap.{insert_entry}
use Rattle.wac_component.specs.Content.{named}
use Rattle.wac_component.specs.Key.{interface_key, item_keys}
use Rattle.wac_component.proofs.Extended.{AllStand-Extends}
use Rattle.wac_checker_parts.proofs.ExternLemmas.{named_stands}
use Rattle.wac_merge.specs.Items.{ExternKinds, extern_list}
use Rattle.wac_merge.specs.Reads.{exports_at}
use Rattle.wac_merge.proofs.LoopLemmas.{name_has, name_not_done, done_more}
use Rattle.wac_merge.proofs.ReadLemmas.{exports_at_stand, exports_stay}
use Rattle.wac_aggregator_taking.specs.Growing.{AreAllPut, AreMetWith, with_put, with_own}
use Rattle.wac_aggregator_errors.proofs.Passing.{passed_on}
use Rattle.wac_aggregator_taking.proofs.MergeReasons.{leaves_apart_on}
use Rattle.wac_aggregator_promises.specs.WitList.{IsLeafItem}
use Rattle.wac_model.specs.Text.{Text, lookup}
use Rattle.wac_component.specs.declared.items.ItemKind.{ItemKind}
use Rattle.wac_aggregator_taking.proofs.GrowLemmas.{met_none, met_then, done_inside, item_on, kept_on, one_open, one_all, found_by}
use Rattle.wac_aggregator_taking.proofs.PutLemmas.{with_put-put, with_put-absent, names_put, all_put}
use Rattle.wac_aggregator_taking.proofs.growing.met_exports.Goals as goal

pub loop-name-init : goal.loop-name-init
loop-name-init c = record {
  met = rw c.new-met.ensures.empty (met_none c.args.types.now (exports_at c.args.types.now (interface_key c.args.own)) (exports_at_stand c.args.types.now (interface_key c.args.own) c.sound.ensures c.requires.own));
  names = rw c.new-met.ensures.empty (λ q none. none);
  put = rw c.new-met.ensures.empty (All-nil _);
}

pub met_export-requires : goal.met_export-requires
met_export-requires c =
    let there = name_has deref_pair c.args.exports.now.entries c.loop-name.yielded _ _ _ _ (c.in-Some.name, c.in-Some.kind) c.into_iter-name-iterator.ensures.into_iter_gives.0 c.loop-name.yielded_by c.in-Some.is c.next.ensures.steps c.into_iter-name-iterator.ensures.into_iter_gives.4 in
    record {
      own = c.loop-name.invariant.met.on.grows.standing (interface_key c.args.own) c.requires.own;
      new = AllStand-Extends c.args.types.now c.loop-name.types c.loop-name.invariant.met.on.grows (item_keys c.in-Some.kind.now) (named_stands c.args.types.now (extern_list c.args.exports.now) (string_bytes c.in-Some.name.now) c.in-Some.kind.now there c.requires.new);
    }

pub loop-name-preserved : goal.loop-name-preserved
loop-name-preserved c =
    let there = name_has deref_pair c.args.exports.now.entries c.loop-name.yielded _ _ _ _ (c.in-Some.name, c.in-Some.kind) c.into_iter-name-iterator.ensures.into_iter_gives.0 c.loop-name.yielded_by c.in-Some.is c.next.ensures.steps c.into_iter-name-iterator.ensures.into_iter_gives.4 in
    let absent = name_not_done deref_pair c.args.exports.now.entries c.loop-name.yielded _ _ _ _ (c.in-Some.name, c.in-Some.kind) c.into_iter-name-iterator.ensures.into_iter_gives.0 c.loop-name.yielded_by c.in-Some.is c.next.ensures.steps c.into_iter-name-iterator.ensures.into_iter_gives.4 in
    let more = done_more deref_pair c.args.exports.now.entries c.loop-name.yielded _ _ _ _ (c.in-Some.name, c.in-Some.kind) c.into_iter-name-iterator.ensures.into_iter_gives.0 c.loop-name.yielded_by c.in-Some.is c.next.ensures.steps c.into_iter-name-iterator.ensures.into_iter_gives.4 in
    let c0 = c.args.types.now in
    let own = interface_key c.args.own in
    let es = exports_at c0 own in
    let n = string_bytes c.in-Some.name.now in
    let done = named (λ k. k) (map deref_pair c.loop-name.yielded) in
    let ms = extern_list c.loop-name.met in
    let new = c.loop-name.invariant.names n absent in
    let put : with_put es (extern_list c.put_extern.new.externs) ≡ insert_entry bytes_eq (with_put es ms) n c.in_ok-item.item = ap (λ (l : ExternKinds). with_put es l) c.in_ok-put_extern.ensures ∙ with_put-put es ms n c.in_ok-item.item new in
    let one = c.in_ok-item.ensures (with_put es ms) c.loop-name.invariant.met.stand (with_put-absent es ms n new ∙ ap (λ (l : ExternKinds). lookup bytes_eq l n) (sym (exports_stay c0 c.loop-name.types c.loop-name.invariant.met.on.grows own c.requires.own))) in
    record {
      met = rw more
          (subst (λ (l : ExternKinds). AreMetWith c0 c.met_export.new.types es (done ++ (n, c.in-Some.kind.now) ∷ []) l) (sym put)
          (met_then c0 c.loop-name.types c.met_export.new.types es done (with_put es ms) (insert_entry bytes_eq (with_put es ms) n c.in_ok-item.item) n c.in-Some.kind.now absent (exports_at_stand c0 own c.sound.ensures c.requires.own)
          (named_stands c0 (extern_list c.args.exports.now) n c.in-Some.kind.now there c.requires.new) c.loop-name.invariant.met one));
      names = rw more (λ q none. ap (λ (l : ExternKinds). lookup bytes_eq l q) c.in_ok-put_extern.ensures ∙ names_put done ms n c.in-Some.kind.now c.in_ok-item.item c.loop-name.invariant.names q none);
      put = subst (λ (l : ExternKinds). AreAllPut es l) (sym c.in_ok-put_extern.ensures) (all_put es ms n c.in_ok-item.item new c.loop-name.invariant.put);
    }

pub returns-clause-met : goal.returns-clause-met
returns-clause-met c =
    let all = iter_end deref_pair c.args.exports.now.entries c.loop-name.yielded _ _ _ _ c.into_iter-name-iterator.ensures.into_iter_gives.0 c.loop-name.yielded_by c.in-None.is c.next.ensures.steps in
    let es = exports_at c.args.types.now (interface_key c.args.own) in
    subst (λ l. AreMetWith c.args.types.now c.loop-name.types es (named (λ k. k) l) (with_put es (extern_list c.loop-name.met))) all.0 c.loop-name.invariant.met

pub returns-clause-put : goal.returns-clause-put
returns-clause-put c = c.loop-name.invariant.put

pub returns-clause-found : goal.returns-clause-found
returns-clause-found c = found_by c.args.exports.now.entries c.into_iter-name-iterator.ensures.into_iter_gives.4

pub returns-in_err-item-clause-found : goal.returns-in_err-item-clause-found
returns-in_err-item-clause-found c = found_by c.args.exports.now.entries c.into_iter-name-iterator.ensures.into_iter_gives.4

pub returns-in_err-put_extern-clause-found : goal.returns-in_err-put_extern-clause-found
returns-in_err-put_extern-clause-found c = found_by c.args.exports.now.entries c.into_iter-name-iterator.ensures.into_iter_gives.4

pub returns-in_err-item-clause-met : goal.returns-in_err-item-clause-met
returns-in_err-item-clause-met c =
    let there = name_has deref_pair c.args.exports.now.entries c.loop-name.yielded _ _ _ _ (c.in-Some.name, c.in-Some.kind) c.into_iter-name-iterator.ensures.into_iter_gives.0 c.loop-name.yielded_by c.in-Some.is c.next.ensures.steps c.into_iter-name-iterator.ensures.into_iter_gives.4 in
    let c0 = c.args.types.now in
    let d0 = c.loop-name.types in
    let own = interface_key c.args.own in
    let es = exports_at c0 own in
    let ms = with_put es (extern_list c.loop-name.met) in
    let met = c.loop-name.invariant.met in
    let n = string_bytes c.in-Some.name.now in
    let done = named (λ k. k) (map deref_pair c.loop-name.yielded) in
    let inside = done_inside deref_pair c.args.exports.now.entries c.loop-name.yielded _ _ _ _ (c.in-Some.name, c.in-Some.kind) c.into_iter-name-iterator.ensures.into_iter_gives.0 c.loop-name.yielded_by c.in-Some.is c.next.ensures.steps in
    let absent = name_not_done deref_pair c.args.exports.now.entries c.loop-name.yielded _ _ _ _ (c.in-Some.name, c.in-Some.kind) c.into_iter-name-iterator.ensures.into_iter_gives.0 c.loop-name.yielded_by c.in-Some.is c.next.ensures.steps c.into_iter-name-iterator.ensures.into_iter_gives.4 in
    let stands = named_stands c0 (extern_list c.args.exports.now) n c.in-Some.kind.now there c.requires.new in
    let refused = c.in_err-item.ensures ms met.stand (with_put-absent es (extern_list c.loop-name.met) n (c.loop-name.invariant.names n absent) ∙ ap (λ (l : ExternKinds). lookup bytes_eq l n) (sym (exports_stay c0 d0 met.on.grows own c.requires.own))) in
    passed_on c.from_residual.result _ _ c.in_err-item.field-0.0 c.from_residual.ensures
    (λ ne. record {
      reason = λ at s kept all hx hy touches.
          let first = met.accounts at s kept all hx (λ q x m. hy q x (inside.0 (q, x) m)) in
          let one = item_on c0 d0 met.on at s kept first.0.stays n c.in-Some.kind.now (hy n c.in-Some.kind.now inside.1) in
          (refused ne).reason at s (kept_on c0 d0 met.on s kept) first.0.stays.now first.1 (one_open at (with_own s d0) n c.in-Some.kind.now one) touches;
      leaves = λ all.
          leaves_apart_on c0 d0 es ms done (extern_list c.args.exports.now) n c.in-Some.kind.now met absent (exports_at_stand c0 own c.sound.ensures c.requires.own) stands inside.1
          ((refused ne).leaves (one_all n c.in-Some.kind.now (All-contains (λ (t : Text × ItemKind). IsLeafItem t.1) (extern_list c.args.exports.now) (n, c.in-Some.kind.now) all inside.1)));
    })
