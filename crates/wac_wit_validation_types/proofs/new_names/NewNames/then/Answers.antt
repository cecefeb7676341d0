use Rattle.std.proofs.Common.{◌≡◌, Some, string_bytes}
use Rattle.wac_wit_validation_types.specs.Reading.{new_name}
use Rattle.wac_wit_scopes.specs.WitSources.{ident_text}
use Rattle.wac_wit_validation_types.proofs.NewNameFacts.{Thens-put}
use Rattle.wac_wit_validation_types.proofs.new_names.NewNames.then.Goals as goal

pub loop-name-preserved-in-Continue-1 : goal.loop-name-preserved-in-Continue-1
loop-name-preserved-in-Continue-1 c =
    let key = string_bytes c.in-Some.name.now in
    let middle = ident_text c.in-Some-get.new.now in
    let at : new_name c.args.self.now key ≡ Some middle = cc (c.deref.ensures, c.in-Some-get.ensures) in
    Thens-put c.loop-name.names c.put.new.self key (ident_text c.renamed.result.now) c.in_ok-put.ensures.same c.in_ok-put.ensures.others c.args.self.now c.args.by.now middle at c.renamed.ensures c.loop-name.invariant
