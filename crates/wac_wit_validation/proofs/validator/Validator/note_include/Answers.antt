use Rattle.std.proofs.Common.{inl, refl}
use Rattle.wac_wit_validation.proofs.WorldFacts.{StaysAs-kept}
use Rattle.wac_wit_validation.proofs.validator.Validator.note_include.Goals as goal

pub returns-in_err-insert : goal.returns-in_err-insert
returns-in_err-insert c = StaysAs-kept c.args.self.now _ refl refl refl refl (λ of f knows among. inl among) (λ f among. among)

pub returns-in_ok-insert : goal.returns-in_ok-insert
returns-in_ok-insert c = StaysAs-kept c.args.self.now _ refl refl refl refl (λ of f knows among. inl among) (λ f among. among)
