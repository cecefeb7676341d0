use Rattle.std.proofs.Common.{◌≡◌, ◌∙◌, Some, ap, refl, slice_get, sym, subst}
use Rattle.std.proofs.lemmas.Option.{same_Some}
use Rattle.std.specs.Option.{option_map}
use Rattle.std.specs.Prelude.{string_bytes}
use Rattle.wac_component.specs.Collection.{WorldContent}
use Rattle.wac_component.specs.Content.{world_content}
use Rattle.wac_component.specs.Id.{Id}
use Rattle.wac_wit_validation_types.specs.Placed.{PlacedWorld}
use Rattle.wac_wit_validation.specs.Validated.{IsWorldOf}
use Rattle.wac_wit_scopes.specs.WitSources.{interface_identifier}
use Rattle.wac_wit_validation.proofs.WorldFacts.{IsWorldAt-one, world_called}
use Rattle.wac_wit_validation.proofs.validator.Validator.is_world_of.Goals as goal

pub returns : goal.returns
returns c = λ same of knows.
    let v = c.args.self.now in
    let name = c.args.name.now in
    let found = c.in-Some.found.now in
    let scope = c.in-Some-world_at.scope.now in
    let decl = c.in-Some-world_at.decl.now in
    let version = option_map string_bytes c.args.version.now in
    let valid = knows.worlds found c.in-Some.ensures.among in
    let at_scope = c.in-Some-world_at.ensures.scope in
    let at_item = c.in-Some-world_at.ensures.item in
    let of_package = c.is_package_text.ensures c.if-not-is_package_text.false in
    let of_version = c.is_version_text.ensures c.if-not-is_version_text.false in
    let one = IsWorldAt-one of v found.place valid.written scope decl valid.at at_scope at_item in
    subst (λ (k : Id). IsWorldOf of v.types.now c.args.«package».now version name k) c.in-Some.ensures.id (record {
      written = valid.written;
      is = world_called of v found.place scope decl c.args.«package».now name version knows.interfaces at_scope at_item of_package of_version (sym c.deref.ensures ∙ c.if-not-is_word.ensures refl) valid.written valid.at;
      stands = valid.stands;
      identified = λ content at.
          let here = subst (λ (k : Id). slice_get v.types.now.worlds k.index ≡ Some content) c.in-Some.ensures.id at in
          ap (λ (e : WorldContent). e.id) (same_Some content (world_content c.index.result.now) (sym here ∙ c.index.ensures.entry)) ∙ c.is_identifier_of.ensures same ∙ ap (λ (x : PlacedWorld). Some (interface_identifier x.scope.package name)) (sym one);
      tree = valid.tree;
      one = valid.one;
      uses = valid.uses;
      owners = valid.owners;
    })
