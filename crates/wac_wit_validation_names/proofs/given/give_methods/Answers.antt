use Rattle.std.proofs.Common.{subst}
use Rattle.indexmap.specs.IndexMap.{get_by_text}
use Rattle.wac_wit_scopes.specs.WitSources.{ident_text}
use Rattle.wac_wit_validation_names.specs.GivenNames.{GivesMethod, GivesMethodAt}
use Rattle.wac_wit_validation_names.specs.declared.given.NamePlace.{NamePlace}
use Rattle.wac_wit_validation_names.proofs.AmbiguityFacts.{EachBelow-end, EachBelow-more, EachBelow-none, KeepsNoted-none, KeepsNoted-then}
use Rattle.wac_wit_validation_names.proofs.GivenFacts.{GivesMethod-kept}
use Rattle.wac_wit_validation_names.proofs.given.give_methods.Goals as goal

pub loop-index-init : goal.loop-index-init
loop-index-init c = record {
  grows = KeepsNoted-none (get_by_text c.args.given.now);
  gives = λ of on. EachBelow-none c.args.methods.now (GivesMethod of (get_by_text c.args.given.now) (ident_text c.args.resource.now) c.args.place);
}

pub loop-index-preserved : goal.loop-index-preserved
loop-index-preserved c =
    let first = get_by_text c.args.given.now in
    let before = get_by_text c.loop-index.given in
    let after = get_by_text c.give_method.new.given in
    let r = ident_text c.args.resource.now in
    let p = c.args.place in
    let m = c.index-methods-index.result in
    let keeps = c.in_ok-give_method.ensures.grows c.if-not-branch.false in
    record {
      grows = KeepsNoted-then first before after c.loop-index.invariant.grows keeps;
      gives = λ of on. EachBelow-more c.args.methods.now (GivesMethod of before r p) (GivesMethod of after r p) c.loop-index.index m c.loop-index-test.true c.index-methods-index.is (GivesMethod-kept before after keeps of r p)
          (subst (λ (q : NamePlace). GivesMethodAt of after r q m) c.at.ensures (c.in_ok-give_method.ensures.gives c.if-not-branch.false of on)) (c.loop-index.invariant.gives of on);
    }

pub returns-clause-grows : goal.returns-clause-grows
returns-clause-grows c = λ is. c.loop-index.invariant.grows

pub returns-clause-gives : goal.returns-clause-gives
returns-clause-gives c = λ is of on. EachBelow-end c.args.methods.now (GivesMethod of (get_by_text c.loop-index.given) (ident_text c.args.resource.now) c.args.place) c.loop-index.index c.loop-index-test.false (c.loop-index.invariant.gives of on)
