use Rattle.std.proofs.Common.{◌≡◌, ◌∙◌, inl, inr, subst, sym}
use Rattle.wac_component.specs.Key.{interface_key}
use Rattle.wac_aggregator_taking.specs.Takes.{IsOwnEntry, shared_keys, state_of}
use Rattle.wac_component.specs.Reach.{IsAmong}
use Rattle.wac_aggregator_taking.proofs.TakeLemmas.{lookup-shared, shared_stands, shared_covered}
use Rattle.wac_aggregator_taking.proofs.near.nearest.Goals as goal

pub returns-in-Some-copied-clause-nearest : goal.returns-in-Some-copied-clause-nearest
returns-in-Some-copied-clause-nearest c i is =
    let same : c.in-Some-copied.own ≡ i = cc in
    inr (subst (λ x. IsAmong (interface_key x) (shared_keys c.args.state.now.shared.entries)) same (lookup-shared c.in-Some.class c.args.state.now.shared.entries c.in-Some-copied.own (sym c.get.ensures.value ∙ sym c.copied.ensures ∙ c.in-Some-copied.is)))

pub returns-in-None-clause-nearest : goal.returns-in-None-clause-nearest
returns-in-None-clause-nearest c i is = inl is

pub returns-in_default-clause-nearest : goal.returns-in_default-clause-nearest
returns-in_default-clause-nearest c i is = inl is

pub returns-in-Some-copied-clause-stands : goal.returns-in-Some-copied-clause-stands
returns-in-Some-copied-clause-stands c i is =
    let same : c.in-Some-copied.own ≡ i = cc in
    let s = state_of c.args.state.now in
    let among = lookup-shared c.in-Some.class c.args.state.now.shared.entries c.in-Some-copied.own (sym c.get.ensures.value ∙ sym c.copied.ensures ∙ c.in-Some-copied.is) in
    subst (λ x. IsOwnEntry c.args.state.now (interface_key x)) same (shared_stands s c.requires.state (interface_key c.in-Some-copied.own) among, shared_covered s c.requires.state (interface_key c.in-Some-copied.own) among)
