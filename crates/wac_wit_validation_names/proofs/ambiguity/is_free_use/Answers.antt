use Rattle.std.proofs.Common.{inl, inr, ap, sym, refl, ◌∙◌}
use Rattle.indexmap.specs.IndexMap.{get_by_text}
use Rattle.wac_wit_scopes.specs.WitSources.{interface_identifier, package_id}
use Rattle.wac_wit_validation_names.proofs.AmbiguityFacts.{none_copied}
use Rattle.wac_wit_validation_names.proofs.ambiguity.is_free_use.Goals as goal

pub returns-then-keeps_name : goal.returns-then-keeps_name
returns-then-keeps_name c = λ is. inl (c.if-keeps_name.ensures refl)

pub returns : goal.returns
returns c = λ is.
    let noted = get_by_text c.args.noted.now in
    let key = c.as_str.ensures.value ∙ c.in_ok-key.ensures ∙ ap (interface_identifier (package_id c.args.package.now)) c.used_name.ensures in
    inr (sym (c.get.ensures.value ∙ ap noted key) ∙ none_copied c.get.result c.is_none.result c.is_none.ensures is)
