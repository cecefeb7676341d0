use Rattle.std.proofs.Common.{refl}
use Rattle.wac_wit_scopes.specs.Scopes.{scope_syntax}
use Rattle.wac_wit_validation_types.specs.Placed.{PlacedWorld}
use Rattle.wac_wit_validation.proofs.validator.Validator.text_of.Goals as goal

pub returns-clause-text : goal.returns-clause-text
returns-clause-text c = λ of knows.
    let w : PlacedWorld = record { scope = scope_syntax c.in_ok-decl.field-0-0.now; decl = c.in_ok-decl.decl.now } in (
      w,
      record {
        at = record { knows = knows; items = c.in_ok-decl.field-0-0.now; at = c.in_ok-decl.ensures.scope; is = refl };
        written = record { scope = c.in_ok-decl.field-0-0.now; at_scope = c.in_ok-decl.ensures.scope; at_item = c.in_ok-decl.ensures.item; is = refl; there = (c.if-not-is_there.ensures of knows.interfaces).0 refl };
        decl = refl;
      },
    )
