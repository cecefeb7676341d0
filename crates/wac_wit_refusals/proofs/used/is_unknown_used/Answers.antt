use Rattle.std.proofs.Common.{Contains, List, subst, sym}
use Rattle.std.proofs.lemmas.Option.{MatchOption-at_some}
use Rattle.wac_wit_scopes.specs.WitSources.{ident_text}
use Rattle.wac_wit_syntax.specs.declared.tree.InterfaceItem.{InterfaceItem}
use Rattle.wac_wit_refusals.proofs.used.is_unknown_used.Goals as goal

pub returns-in-Some : goal.returns-in-Some
returns-in-Some c = λ is of judges.
    let used = c.in-Some.used in
    let found = MatchOption-at_some _ _ used c.in-Some.is c.in_ok-used.ensures of judges in
    record {
      from = used.from.now;
      name = ident_text used.name.now;
      used = found;
      none = λ t among. c.lacks_type.ensures is t (subst (λ (l : List InterfaceItem). Contains l t) (sym c.deref.ensures.value) among);
    }
