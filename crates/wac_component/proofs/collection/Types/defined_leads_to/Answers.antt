use Rattle.std.proofs.Common.{◌≡◌, ◌∙◌, map}
use Rattle.wac_component.specs.Content.{defined_content}
use Rattle.wac_component.specs.Key.{defined_keys}
use Rattle.wac_component.specs.Naming.{key_of}
use Rattle.wac_component.specs.Parts.{places}
use Rattle.wac_component.proofs.PartLemmas.{defined_places, alone_keys}
use Rattle.wac_component.proofs.collection.Types.defined_leads_to.Goals as goal

pub names_lead_to-requires : goal.names_lead_to-requires
names_lead_to-requires c =
    let names : map key_of c.deref.result.now ≡ defined_keys (defined_content c.args.ty.now) = rw c.deref.ensures.value (c.in_ok-ids.ensures ∙ alone_keys (places c.parts.result) ∙ defined_places (places c.parts.result) (defined_content c.args.ty.now) c.parts.ensures) in
    rw names c.requires

pub returns : goal.returns
returns c =
    let names : map key_of c.deref.result.now ≡ defined_keys (defined_content c.args.ty.now) = rw c.deref.ensures.value (c.in_ok-ids.ensures ∙ alone_keys (places c.parts.result) ∙ defined_places (places c.parts.result) (defined_content c.args.ty.now) c.parts.ensures) in
    rw names at c.names_lead_to.ensures
