use Rattle.std.proofs.Common.{ℕ, inl, refl}
use Rattle.wac_wit_validation.specs.Validated.{HasFoundInterface}
use Rattle.wac_wit_validation_types.proofs.NameFacts.{some_told}
use Rattle.wac_wit_validation.proofs.WorldFacts.{KnowsWorlds-kept}
use Rattle.wac_wit_validation.proofs.validator.Validator.add_interface.Goals as goal

pub returns-in_err-insert-in-Some-clause-knows : goal.returns-in_err-insert-in-Some-clause-knows
returns-in_err-insert-in-Some-clause-knows c = λ of knows. KnowsWorlds-kept of c.take_in.new.self _ refl refl refl refl (c.take_in.ensures.stays.knows of knows) (λ f among. inl among)

pub returns-in_ok-insert-in-Some-clause-knows : goal.returns-in_ok-insert-in-Some-clause-knows
returns-in_ok-insert-in-Some-clause-knows c = λ of knows. KnowsWorlds-kept of c.take_in.new.self _ refl refl refl refl (c.take_in.ensures.stays.knows of knows) (λ f among. inl among)

pub returns-in_err-insert-in-Some-clause-keeps : goal.returns-in_err-insert-in-Some-clause-keeps
returns-in_err-insert-in-Some-clause-keeps c = record { interfaces = c.take_in.ensures.stays.found.interfaces; worlds = c.take_in.ensures.stays.found.worlds }

pub returns-in_ok-insert-in-Some-clause-keeps : goal.returns-in_ok-insert-in-Some-clause-keeps
returns-in_ok-insert-in-Some-clause-keeps c = record { interfaces = c.take_in.ensures.stays.found.interfaces; worlds = c.take_in.ensures.stays.found.worlds }

pub returns-in_ok-insert-in-Some-clause-took : goal.returns-in_ok-insert-in-Some-clause-took
returns-in_ok-insert-in-Some-clause-took c = λ is.
    let took = some_told c.in_ok-position.field-0 c.in-Some.position (λ (i : ℕ). HasFoundInterface c.take_in.new.self c.args.id) c.in-Some.is c.in_ok-position.ensures.took in
    record { found = took.found; among = took.among; is = took.is }
