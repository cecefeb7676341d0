use Rattle.std.proofs.Common.{codes, ◌++◌, ◌∙◌}
use Rattle.std.proofs.lemmas.Str.Pattern.{contains_text}
use Rattle.wac_wit_scopes.specs.WitSources.{ident_text, version_part}
use Rattle.wac_wit_validation_types.proofs.TextFacts.{append_three, not_and_is}
use Rattle.wac_wit_validation_types.proofs.texts.is_plain.Goals as goal

pub returns : goal.returns
returns c = λ plain i is.
    let p = i.scope.«package» in
    not_and_is c.contains.result plain ((contains_text c.contains.result (codes "/") c.args.name.now c.contains.ensures.cases).1
    ((p.namespace ++ codes ":") ++ p.name, ident_text i.decl.name ++ version_part p.version, is ∙ append_three ((p.namespace ++ codes ":") ++ p.name) (codes "/") (ident_text i.decl.name) (version_part p.version)))
