use Rattle.std.proofs.Common.{◌≡◌, ◌∙◌, true, false, sym}
use Rattle.wac_wit_scopes.proofs.PathFacts.{IsNamed-alone, IsNamed-same}
use Rattle.wac_wit_refusals_sites.proofs.naming.is_named.Goals as goal
use Rattle.wac_wit_refusals_sites.proofs.naming.is_named.Goals.{then-is_none, else-is_none}

pub returns-then-is_same_package : goal.returns-then-is_same_package
returns-then-is_same_package c = λ is of known. IsNamed-same of c.args.named.now _ (c.is_same_package.ensures.0 is)

pub returns-then-to : goal.returns-then-to
returns-then-to c = λ is of known.
    let all : c.if-is_none.value ≡ true = c.if-to.true in
    elim c.if-is_none.branch [
      | then-is_none w ↦ IsNamed-alone of c.args.named.now _ w.if-is_none.ensures (c.have_one_name.ensures.0 is) (known.alone (sym w.value-is ∙ all))
      | else-is_none w ↦ let none : c.if-is_none.value ≡ false = w.value-is ∙ w.if-is_none.false in absurd (cc)
    ]
