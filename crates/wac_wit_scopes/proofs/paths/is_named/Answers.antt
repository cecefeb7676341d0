use Rattle.std.proofs.Common.{◌≡◌, ◌∙◌, true, sym}
use Rattle.wac_wit_scopes.proofs.PathFacts.{no_value}
use Rattle.wac_wit_scopes.specs.Scopes.{IsNamedAs, as_alone, as_it_is}
use Rattle.wac_wit_scopes.proofs.paths.is_named.Goals as goal
use Rattle.wac_wit_scopes.proofs.paths.is_named.Goals.{then-is_none, else-is_none}

pub returns-then-is_same_package : goal.returns-then-is_same_package
returns-then-is_same_package c = (λ is. as_it_is (c.is_same_package.ensures.0 is), λ h. c.if-is_same_package.true)

pub returns-then-to : goal.returns-then-to
returns-then-to c = (named, told)
  where
    named : c.have_one_name.result ≡ true → IsNamedAs c.args.named.now c.args.to.now
    named is = elim c.if-is_none.branch [
      | then-is_none w ↦ as_alone (no_value c.args.named.now.version w.if-is_none.ensures) (sym w.value-is ∙ c.if-to.true) (c.have_one_name.ensures.0 is)
      | else-is_none w ↦ let none = sym w.if-is_none.false ∙ sym w.value-is ∙ c.if-to.true in absurd (cc)
    ]

    told : IsNamedAs c.args.named.now c.args.to.now → c.have_one_name.result ≡ true
    told (as_it_is same) = let no = sym c.if-is_same_package.false ∙ c.is_same_package.ensures.1 same in absurd (cc)
    told (as_alone none is same) = c.have_one_name.ensures.1 same
