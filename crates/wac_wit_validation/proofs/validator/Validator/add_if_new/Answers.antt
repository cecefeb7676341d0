use Rattle.std.proofs.Common.{inl, refl}
use Rattle.wac_wit_validation.proofs.WorldFacts.{StaysAs-kept, StaysAs-trans}
use Rattle.wac_wit_validation.proofs.validator.Validator.add_if_new.Goals as goal

pub returns-in_err-insert-in-Some-2 : goal.returns-in_err-insert-in-Some-2
returns-in_err-insert-in-Some-2 c = StaysAs-trans c.args.self.now c.take_in.new.self _ c.take_in.ensures.stays (StaysAs-kept c.take_in.new.self _ refl refl refl refl (λ of f knows among. inl among) (λ f among. among))

pub returns-in_ok-insert-in-Some-2 : goal.returns-in_ok-insert-in-Some-2
returns-in_ok-insert-in-Some-2 c = StaysAs-trans c.args.self.now c.take_in.new.self _ c.take_in.ensures.stays (StaysAs-kept c.take_in.new.self _ refl refl refl refl (λ of f knows among. inl among) (λ f among. among))
