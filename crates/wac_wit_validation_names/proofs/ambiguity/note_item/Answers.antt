use Rattle.std.proofs.Common.{ap, sym, ◌∙◌}
use Rattle.indexmap.specs.IndexMap.{get_by_text}
use Rattle.wac_wit_validation_names.specs.Ambiguity.{item_identifier}
use Rattle.wac_wit_scopes.specs.WitSources.{package_id}
use Rattle.wac_wit_validation_names.proofs.AmbiguityFacts.{noted_under}
use Rattle.wac_wit_validation_names.proofs.ambiguity.note_item.Goals as goal

pub returns-in-Interface-clause-notes : goal.returns-in-Interface-clause-notes
returns-in-Interface-clause-notes c = noted_under c.note_name.result (get_by_text c.note_name.new.noted) c.args.place _ _ (ap (item_identifier (package_id c.args.package.now)) c.in-Interface.is) c.note_name.ensures.notes

pub returns-in-World-clause-notes : goal.returns-in-World-clause-notes
returns-in-World-clause-notes c = noted_under c.note_name-in-World.result (get_by_text c.note_name-in-World.new.noted) c.args.place _ _ (ap (item_identifier (package_id c.args.package.now)) c.in-World.is) c.note_name-in-World.ensures.notes

pub returns-in-Use-clause-notes : goal.returns-in-Use-clause-notes
returns-in-Use-clause-notes c = λ is k at. let no = ap (item_identifier (package_id c.args.package.now)) (sym c.in-Use.is) ∙ at in absurd (cc)
