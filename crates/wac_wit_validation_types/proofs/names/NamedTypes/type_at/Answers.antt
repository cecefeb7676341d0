use Rattle.std.proofs.Common.{◌≡◌}
use Rattle.std.specs.Prelude.{string_bytes}
use Rattle.wac_wit_scopes.specs.WitSources.{ident_text}
use Rattle.wac_wit_validation_types.proofs.NameFacts.{key_found, key_of_full, named_at}
use Rattle.wac_wit_validation_types.proofs.names.NamedTypes.type_at.Goals as goal

pub returns-then-has_meaning-clause-at : goal.returns-then-has_meaning-clause-at
returns-then-has_meaning-clause-at c =
    let n = ident_text c.args.name.now in
    let es = c.args.self.now.items.now.entries in
    let key : string_bytes c.in_ok-index.field-0-1.now ≡ n = key_found n c.as_str.result.now es c.in_ok-index.field-0-1.now c.as_str.ensures.value (key_of_full c.get_full.result c.in_ok-index.index c.in_ok-index.field-0-1 c.in_ok-index.item _ c.get_full.ensures.key c.in_ok-index.was) in
    let at = named_at es c.in_ok-index.index c.in_ok-index.field-0-1.now c.in_ok-index.item.now c.in_ok-index.ensures.entry in
    let is = c.in-Type.is in
    cc
