use Rattle.std.proofs.Common.{inl, refl}
use Rattle.wac_wit_validation.specs.declared.validator.Validator.{Validator}
use Rattle.wac_wit_validation.proofs.WorldFacts.{StaysAs-kept, StaysAs-trans}
use Rattle.wac_wit_validation.proofs.validator.Validator.world_marks.Goals as goal

pub returns-in_err-add_exported-clause-stays : goal.returns-in_err-add_exported-clause-stays
returns-in_err-add_exported-clause-stays c =
    let before = c.args.self.now in
    let cleared : Validator = record before { exported = c.new.result } in
    StaysAs-trans before cleared c.add_exported.new.self (StaysAs-kept before cleared refl refl refl refl (λ of f knows among. inl among) (λ f among. among)) c.add_exported.ensures

pub returns-clause-stays : goal.returns-clause-stays
returns-clause-stays c =
    let before = c.args.self.now in
    let cleared : Validator = record before { exported = c.new.result } in
    StaysAs-trans before cleared c.add_exported.new.self (StaysAs-kept before cleared refl refl refl refl (λ of f knows among. inl among) (λ f among. among)) c.add_exported.ensures

pub returns-clause-sides : goal.returns-clause-sides
returns-clause-sides c = c.marks_of.ensures
