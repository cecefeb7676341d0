use Rattle.std.proofs.Common.{refl}
use Rattle.wac_wit_scopes.specs.WitSources.{ident_text}
use Rattle.wac_wit_scopes.proofs.ScopeFacts.{on_ok_both}
use Rattle.wac_wit_validation_types.proofs.NewNameFacts.{AreNamesBy-put}
use Rattle.wac_wit_validation_types.proofs.new_names.NewNames.note.Goals as goal

pub returns : goal.returns
returns c = on_ok_both c.put.result c.put.ensures.same c.put.ensures.others (λ same others. AreNamesBy-put c.args.self.now c.put.new.self (ident_text c.args.name.now) (ident_text c.args.name.now) same others refl)
