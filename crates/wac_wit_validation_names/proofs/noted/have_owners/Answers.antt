use Rattle.std.proofs.Common.{refl, sym, subst}
use Rattle.std.specs.Prelude.{string_bytes}
use Rattle.std.proofs.lemmas.Option.{get_or_from_slice_get, slice_get_within}
use Rattle.wac_model.specs.Text.{Text}
use Rattle.wac_component.specs.Content.{named, use_content}
use Rattle.wac_component.specs.declared.items.ItemKind.{ItemKind}
use Rattle.wac_component.specs.declared.items.ItemKind.TheVariants.{«Type» as OfType}
use Rattle.wac_component.specs.declared.items.Type.TheVariants.{Resource}
use Rattle.wac_wit_validation_names.specs.Noted.{HasOwner}
use Rattle.wac_wit_validation_types.proofs.MarkFacts.{AllBelow-contains, AllBelow-more, AllBelow-none}
use Rattle.wac_wit_validation_names.proofs.NotedFacts.{entries_past, entry_at_place}
use Rattle.wac_wit_validation_names.proofs.noted.have_owners.Goals as goal

pub loop-place-init : goal.loop-place-init
loop-place-init c = AllBelow-none (λ (e : Text × ItemKind). HasOwner c.args.types.now (named use_content c.args.uses.now.entries) e.0 e.1) (named (λ k. k) c.args.items.now.entries)

pub loop-place-preserved : goal.loop-place-preserved
loop-place-preserved c =
    let types = c.args.types.now in
    let exports = named (λ k. k) c.args.items.now.entries in
    let uses = named use_content c.args.uses.now.entries in
    let place = c.loop-place.place in
    let n = string_bytes c.in-Some.name.now in
    let k = c.in-Some.item.now in
    let at = entry_at_place (λ k. k) c.args.items.now.entries place c.in-Some.name.now k (sym c.in-Some.ensures.entry) in
    AllBelow-more (λ (e : Text × ItemKind). HasOwner types uses e.0 e.1) exports place (n, k) (slice_get_within exports place (n, k) at) (sym (get_or_from_slice_get exports place (n, k) (n, k) at)) c.loop-place.invariant
    (subst (λ (t : Text). HasOwner types uses t k) c.deref.ensures (c.if-not-has_owner.ensures refl))

pub returns : goal.returns
returns c = λ is n id among r at.
    let exports = named (λ k. k) c.args.items.now.entries in
    AllBelow-contains (λ (e : Text × ItemKind). HasOwner c.args.types.now (named use_content c.args.uses.now.entries) e.0 e.1) exports c.loop-place.place (n, OfType (Resource id))
    (entries_past (λ k. k) c.args.items.now.entries c.len-place-end.result c.loop-place.place c.len-place-end.ensures.len c.loop-place-test.false) c.loop-place.invariant among id refl r at
