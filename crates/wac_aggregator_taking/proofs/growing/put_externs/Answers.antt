use Rattle.std.proofs.Common.{◌≡◌, map, string_bytes, refl, ap, sym, subst, ◌∙◌}
use Rattle.std.proofs.lemmas.Map.Iter.{iter_end}
use Rattle.std.specs.Map.Iter.{deref_pair}
use Rattle.std.specs.Str.{bytes_eq}
use Rattle.indexmap.specs.IndexMap.{insert_entry}
use Rattle.wac_component.specs.Content.{named}
use Rattle.wac_merge.specs.Items.{ExternKinds, extern_list}
use Rattle.wac_merge.proofs.LoopLemmas.{done_more}
use Rattle.wac_aggregator_taking.specs.Growing.{with_put}
use Rattle.wac_aggregator_taking.proofs.PutLemmas.{with_put-more}
use Rattle.wac_aggregator_taking.proofs.growing.put_externs.Goals as goal

pub loop-name-init : goal.loop-name-init
loop-name-init c = refl

pub loop-name-preserved : goal.loop-name-preserved
loop-name-preserved c =
    let more = done_more deref_pair c.args.more.now.entries c.loop-name.yielded _ _ _ _ (c.in-Some.name, c.in-Some.kind) c.into_iter-name-iterator.ensures.into_iter_gives.0 c.loop-name.yielded_by c.in-Some.is c.next.ensures.steps c.into_iter-name-iterator.ensures.into_iter_gives.4 in
    let done = named (λ k. k) (map deref_pair c.loop-name.yielded) in
    c.in_ok-put_extern.ensures
    ∙ ap (λ (l : ExternKinds). insert_entry bytes_eq l (string_bytes c.in-Some.name.now) c.in-Some.kind.now) c.loop-name.invariant
    ∙ sym (with_put-more (extern_list c.args.externs.now) done (string_bytes c.in-Some.name.now) c.in-Some.kind.now)
    ∙ ap (λ (l : ExternKinds). with_put (extern_list c.args.externs.now) l) (sym more)

pub returns : goal.returns
returns c =
    let all = iter_end deref_pair c.args.more.now.entries c.loop-name.yielded _ _ _ _ c.into_iter-name-iterator.ensures.into_iter_gives.0 c.loop-name.yielded_by c.in-None.is c.next.ensures.steps in
    subst (λ l. extern_list c.loop-name.externs ≡ with_put (extern_list c.args.externs.now) (named (λ k. k) l)) all.0 c.loop-name.invariant
