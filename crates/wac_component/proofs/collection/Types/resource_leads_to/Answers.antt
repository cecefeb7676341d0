use Rattle.std.proofs.Common.{◌≡◌, ◌∙◌, map}
use Rattle.wac_component.specs.Content.{resource_content}
use Rattle.wac_component.specs.Key.{resource_keys}
use Rattle.wac_component.specs.Naming.{key_of}
use Rattle.wac_component.specs.Parts.{places}
use Rattle.wac_component.proofs.PartLemmas.{alone_keys}
use Rattle.wac_component.proofs.collection.Types.resource_leads_to.Goals as goal

pub names_lead_to-requires : goal.names_lead_to-requires
names_lead_to-requires c =
    let names : map key_of c.deref.result.now ≡ resource_keys (resource_content c.args.resource.now) = rw c.deref.ensures.value (c.in_ok-ids.ensures ∙ alone_keys (places c.parts.result) ∙ c.parts.ensures) in
    rw names c.requires

pub returns : goal.returns
returns c =
    let names : map key_of c.deref.result.now ≡ resource_keys (resource_content c.args.resource.now) = rw c.deref.ensures.value (c.in_ok-ids.ensures ∙ alone_keys (places c.parts.result) ∙ c.parts.ensures) in
    rw names at c.names_lead_to.ensures
