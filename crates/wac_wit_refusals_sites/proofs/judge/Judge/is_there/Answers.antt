use Rattle.std.proofs.Common.{◌≡◌, ◌∙◌, string_bytes, sym, ap}
use Rattle.std.proofs.lemmas.Option.{same_Some}
use Rattle.wac_wit_names.specs.Features.{has_feature}
use Rattle.wac_wit_scopes.specs.WitSources.{WitSources}
use Rattle.wac_wit_syntax.specs.declared.tree.Gate.{Gate}
use Rattle.wac_wit_refusals_sites.proofs.judge.Judge.is_there.Goals as goal

pub returns-in-Some : goal.returns-in-Some
returns-in-Some c of knows =
    let feature = c.in-Some.feature in
    let told : c.has.result ≡ of.is_on (string_bytes feature.text) = c.has.ensures ∙ ap (has_feature c.args.self.now.sources.features) c.deref.ensures ∙ sym (ap (λ (w : WitSources). w.is_on (string_bytes feature.text)) knows.is) in
    (λ is f at. ap (λ (g : Gate). of.is_on (string_bytes g.text)) (same_Some _ _ (sym at ∙ c.in-Some.is)) ∙ sym told ∙ is, λ enabled. told ∙ enabled feature c.in-Some.is)
