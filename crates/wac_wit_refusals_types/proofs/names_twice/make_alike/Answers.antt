use Rattle.std.proofs.Common.{◌≡◌, Bool, false, subst, true}
use Rattle.std.specs.Prelude.{not}
use Rattle.wac_wit_refusals_types.proofs.names_twice.make_alike.Goals as goal

pub returns-then-is_constructor : goal.returns-then-is_constructor
returns-then-is_constructor c is = record { constructs = λ h. c.is_constructor-then-is_constructor.ensures.0 is; other_constructs = λ h. c.is_constructor.ensures.0 c.if-is_constructor.true }

pub returns : goal.returns
returns c is = record {
  constructs = λ h. let yes : c.is_constructor.result ≡ true = c.is_constructor.ensures.1 h in let no : c.is_constructor.result ≡ false = c.if-is_constructor.false in absurd (cc);
  other_constructs = λ h. let yes : c.is_constructor-2.result ≡ true = c.is_constructor-2.ensures.1 h in let no : false ≡ true = subst (λ (v : Bool). not v ≡ true) yes is in absurd (cc);
}
