use Rattle.std.proofs.Common.{refl, sym, subst, ◌∙◌}
use Rattle.std.specs.Option.{option_map}
use Rattle.std.specs.Prelude.{string_bytes}
use Rattle.wac_component.specs.Id.{Id}
use Rattle.wac_wit_validation.specs.Validated.{IsInterfaceOf}
use Rattle.wac_wit_validation.proofs.FoundFacts.{interface_of_found}
use Rattle.wac_wit_validation.proofs.validator.Validator.is_interface_of.Goals as goal

pub returns-then-is_package_text : goal.returns-then-is_package_text
returns-then-is_package_text c = λ same of knows.
    let v = c.args.self.now in
    let f = c.in-Some.found.now in
    let p = c.args.«package».now in
    let version = option_map string_bytes c.args.version.now in
    let n = c.args.name.now in
    subst (λ (k : Id). IsInterfaceOf of v.types.now p version n k) c.in-Some.ensures.id
    (interface_of_found of v f knows.interfaces (knows.interfaces.found f c.in-Some.ensures.among) c.in-Some-interface_at.scope.now c.in-Some-interface_at.decl.now p n version c.in-Some-interface_at.ensures.scope c.in-Some-interface_at.ensures.item
    (c.if-is_package_text.ensures refl) (c.is_version_text.ensures same) (sym c.deref.ensures ∙ c.if-not-is_word.ensures refl))
