use Rattle.std.proofs.Common.{◌≡◌, ◌∷◌, [], map, refl, ap, sym, ◌∙◌, subst}
use Rattle.std.proofs.lemmas.List.{map-append}
use Rattle.std.proofs.lemmas.Map.Iter.{iter_end}
use Rattle.std.specs.Map.Iter.{deref_pair}
use Rattle.wac_aggregator_taking.proofs.ServingLemmas.{new_uses, new_uses-has, with_new-none}
use Rattle.wac_aggregator_taking.proofs.serving.has_names.Goals as goal

pub loop-name-init : goal.loop-name-init
loop-name-init c = refl

pub loop-name-preserved : goal.loop-name-preserved
loop-name-preserved c =
    let us = c.args.existing.now.entries in
    ap (new_uses us) (map-append deref_pair c.loop-name.yielded ((c.in-Some.name, c.in-Some.field-0-1) ∷ []))
    ∙ new_uses-has us (map deref_pair c.loop-name.yielded) (deref_pair (c.in-Some.name, c.in-Some.field-0-1)) c.loop-name.invariant (sym c.contains_key.ensures ∙ c.if-not-contains_key.false)

pub returns : goal.returns
returns c = λ yes.
    let all = iter_end deref_pair c.args.new.now.entries c.loop-name.yielded _ _ _ _ c.into_iter-name-iterator.ensures.into_iter_gives.0 c.loop-name.yielded_by c.in-None.is c.next.ensures.steps in
    with_new-none c.args.existing.now.entries c.args.new.now.entries (subst (λ l. new_uses c.args.existing.now.entries l ≡ []) all.0 c.loop-name.invariant)
