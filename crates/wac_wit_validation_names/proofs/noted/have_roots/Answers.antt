use Rattle.std.proofs.Common.{refl, sym, subst}
use Rattle.std.specs.Prelude.{string_bytes}
use Rattle.std.proofs.lemmas.Option.{get_or_from_slice_get, slice_get_within}
use Rattle.wac_model.specs.Text.{Text}
use Rattle.wac_component.specs.Collection.{UseContent}
use Rattle.wac_component.specs.Content.{named, use_content}
use Rattle.wac_wit_validation_names.specs.Noted.{HasUseRoot}
use Rattle.wac_wit_validation_types.proofs.MarkFacts.{AllBelow-contains, AllBelow-more, AllBelow-none}
use Rattle.wac_wit_validation_names.proofs.NotedFacts.{entries_past, entry_at_place, found_among}
use Rattle.wac_wit_validation_names.proofs.noted.have_roots.Goals as goal

pub loop-place-init : goal.loop-place-init
loop-place-init c = AllBelow-none (λ (e : Text × UseContent). HasUseRoot c.args.types.now (named (λ k. k) c.args.items.now.entries) e.0 e.1) (named use_content c.args.uses.now.entries)

pub loop-place-preserved : goal.loop-place-preserved
loop-place-preserved c =
    let types = c.args.types.now in
    let exports = named (λ k. k) c.args.items.now.entries in
    let uses = named use_content c.args.uses.now.entries in
    let place = c.loop-place.place in
    let n = string_bytes c.in-Some.name.now in
    let u = use_content c.in-Some.used.now in
    let at = entry_at_place use_content c.args.uses.now.entries place c.in-Some.name.now c.in-Some.used.now (sym c.in-Some.ensures.entry) in
    AllBelow-more (λ (e : Text × UseContent). HasUseRoot types exports e.0 e.1) uses place (n, u) (slice_get_within uses place (n, u) at) (sym (get_or_from_slice_get uses place (n, u) (n, u) at)) c.loop-place.invariant
    (subst (λ (t : Text). HasUseRoot types exports t u) c.deref.ensures (c.if-not-has_root.ensures refl))

pub returns : goal.returns
returns c = λ is n u at.
    let uses = named use_content c.args.uses.now.entries in
    AllBelow-contains (λ (e : Text × UseContent). HasUseRoot c.args.types.now (named (λ k. k) c.args.items.now.entries) e.0 e.1) uses c.loop-place.place (n, u)
    (entries_past use_content c.args.uses.now.entries c.len-place-end.result c.loop-place.place c.len-place-end.ensures.len c.loop-place-test.false) c.loop-place.invariant (found_among uses n u at)
