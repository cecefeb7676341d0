use Rattle.std.proofs.Common.{subst}
use Rattle.indexmap.specs.IndexMap.{get_by_text}
use Rattle.wac_model.specs.Text.{Text}
use Rattle.wac_wit_validation_names.specs.GivenNames.{GivesNewName, GivesRename}
use Rattle.wac_wit_validation_types.specs.Reading.{name_by}
use Rattle.wac_wit_validation_names.specs.declared.given.NamePlace.{NamePlace}
use Rattle.wac_wit_validation_names.proofs.AmbiguityFacts.{EachBelow-end, EachBelow-more, EachBelow-none, KeepsNoted-none, KeepsNoted-then}
use Rattle.wac_wit_validation_names.proofs.GivenFacts.{GivesRename-kept}
use Rattle.wac_wit_validation_names.proofs.given.give_renames.Goals as goal

pub loop-index-init : goal.loop-index-init
loop-index-init c = record {
  grows = KeepsNoted-none (get_by_text c.args.given.now);
  gives = EachBelow-none c.args.renames.now (GivesRename (get_by_text c.args.given.now) (name_by c.args.names) c.args.place);
}

pub loop-index-preserved : goal.loop-index-preserved
loop-index-preserved c =
    let first = get_by_text c.args.given.now in
    let before = get_by_text c.loop-index.given in
    let after = get_by_text c.give_name.new.given in
    let new = name_by c.args.names in
    let keeps = c.in_ok-give_name.ensures.grows c.if-not-branch.false in
    record {
      grows = KeepsNoted-then first before after c.loop-index.invariant.grows keeps;
      gives = EachBelow-more c.args.renames.now (GivesRename before new c.args.place) (GivesRename after new c.args.place) c.loop-index.index c.index-renames-index.result c.loop-index-test.true c.index-renames-index.is (GivesRename-kept before after keeps new c.args.place)
          (subst (λ (p : NamePlace × Text). GivesNewName after new p.1 p.0) (λ i. (c.at.ensures i, c.local_name.ensures i)) (c.in_ok-give_name.ensures.gives c.if-not-branch.false)) c.loop-index.invariant.gives;
    }

pub returns-clause-grows : goal.returns-clause-grows
returns-clause-grows c = λ is. c.loop-index.invariant.grows

pub returns-clause-gives : goal.returns-clause-gives
returns-clause-gives c = λ is. EachBelow-end c.args.renames.now (GivesRename (get_by_text c.loop-index.given) (name_by c.args.names) c.args.place) c.loop-index.index c.loop-index-test.false c.loop-index.invariant.gives
