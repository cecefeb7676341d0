use Rattle.std.proofs.lemmas.Result.{IfOk-weaker}
use Rattle.indexmap.specs.IndexMap.{get_by_text}
use Rattle.wac_wit_scopes.specs.WitSources.{ident_text}
use Rattle.wac_wit_validation_types.specs.Reading.{name_by}
use Rattle.wac_wit_validation_names.proofs.AmbiguityFacts.{KeepsNoted-then}
use Rattle.wac_wit_validation_names.proofs.GivenFacts.{GivesNewName-kept}
use Rattle.wac_wit_validation_names.proofs.OnceFacts.{IfOk-both}
use Rattle.wac_wit_validation_names.proofs.given.give_type.Goals as goal

pub returns-then-not-is_enabled-clause-gives : goal.returns-then-not-is_enabled-clause-gives
returns-then-not-is_enabled-clause-gives c = λ is of on there. let no = (c.is_enabled.ensures of on).1 there in absurd (cc)

pub returns-clause-grows : goal.returns-clause-grows
returns-clause-grows c = IfOk-weaker c.give_functions.result _ _ (λ b h is. KeepsNoted-then (get_by_text c.args.given.now) (get_by_text c.give_name.new.given) (get_by_text c.give_functions.new.given) (c.in_ok-give_name.ensures.grows c.if-not-branch.false) (h is)) c.give_functions.ensures.grows

pub returns-clause-gives : goal.returns-clause-gives
returns-clause-gives c = IfOk-both c.give_functions.result _ _ _ (λ b grows gives is of on there. record {
  own = GivesNewName-kept (get_by_text c.give_name.new.given) (get_by_text c.give_functions.new.given) (grows is) (name_by c.args.names) (ident_text c.args.item.now.name) c.args.place (c.in_ok-give_name.ensures.gives c.if-not-branch.false);
  funcs = gives is of on;
}) c.give_functions.ensures.grows c.give_functions.ensures.gives
