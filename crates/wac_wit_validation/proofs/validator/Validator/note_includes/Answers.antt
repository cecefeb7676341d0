use Rattle.std.proofs.Common.{inl, refl}
use Rattle.wac_wit_validation.proofs.WorldFacts.{StaysAs-kept, StaysAs-trans}
use Rattle.wac_wit_validation.proofs.validator.Validator.note_includes.Goals as goal

pub returns-in_default : goal.returns-in_default
returns-in_default c = StaysAs-kept c.args.self.now _ refl refl refl refl (λ of f knows among. inl among) (λ f among. among)

pub returns-in-World : goal.returns-in-World
returns-in-World c = StaysAs-trans c.args.self.now (record c.args.self.now { include_places = c.new.result }) c.note_items.new.self (StaysAs-kept c.args.self.now _ refl refl refl refl (λ of f knows among. inl among) (λ f among. among)) c.note_items.ensures

pub returns-in-Interface : goal.returns-in-Interface
returns-in-Interface c = StaysAs-kept c.args.self.now _ refl refl refl refl (λ of f knows among. inl among) (λ f among. among)
