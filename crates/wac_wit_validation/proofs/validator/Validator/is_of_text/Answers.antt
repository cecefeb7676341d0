use Rattle.wac_wit_scopes.specs.Scopes.{scope_syntax}
use Rattle.wac_wit_scopes.proofs.PathFacts.{read_from}
use Rattle.wac_wit_validation.proofs.validator.Validator.is_of_text.Goals as goal

pub returns-in-Some-get : goal.returns-in-Some-get
returns-in-Some-get c = λ is s knows.
    let scope = c.in-Some-get.scope.now in
    let known = knows.scopes c.in-Some.index.now scope (read_from c.args.self.now.scopes.items c.deref.result.now c.in-Some.index.now scope c.deref.ensures.value c.in-Some-get.ensures.lookup.0 c.in-Some-get.ensures.lookup.1) in
    record { scope = scope_syntax scope; is_scope = known.is_scope; listing = c.is_listing_of.ensures is s known }
