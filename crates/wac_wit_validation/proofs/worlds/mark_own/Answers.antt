use Rattle.std.proofs.Common.{arith, refl, sym, subst}
use Rattle.std.specs.Prelude.{string_bytes}
use Rattle.std.proofs.lemmas.Option.{get_or_from_slice_get, slice_get_within}
use Rattle.wac_component.specs.Tree.{item_tree}
use Rattle.wac_component.specs.declared.items.ItemKind.{ItemKind}
use Rattle.wac_component.specs.declared.worlds.ExternKind.TheVariants.{Import}
use Rattle.wac_model.specs.Text.{Text}
use Rattle.wac_wit_validation_types.specs.Exports.{named_items}
use Rattle.wac_wit_validation.specs.WorldClauses.{CoversType}
use Rattle.wac_wit_validation_types.specs.Reading.{imported_name}
use Rattle.wac_wit_validation_types.specs.Worlds.{HasExternOf}
use Rattle.wac_wit_validation_types.proofs.MarkFacts.{AllBelow-contains, AllBelow-more, AllBelow-none}
use Rattle.wac_wit_validation_types.proofs.NameFacts.{named_at}
use Rattle.wac_wit_scopes.proofs.PathFacts.{contains_at}
use Rattle.wac_wit_validation.proofs.WorldFacts.{named_past}
use Rattle.wac_wit_validation.proofs.WorldWhole.{own_extern}
use Rattle.wac_wit_validation.proofs.worlds.mark_own.Goals as goal

pub loop-place-init : goal.loop-place-init
loop-place-init c = record {
  within = omega (arith);
  marks = λ of v w x rss one brings renames own old. old;
  covers = AllBelow-none (λ (e : Text × ItemKind). CoversType c.args.side.now e.0 e.1) (named_items c.args.side.now.names);
}

pub loop-place-preserved : goal.loop-place-preserved
loop-place-preserved c =
    let side = c.args.side.now in
    let own_items = named_items side.names in
    let place = c.loop-place.place in
    let n = string_bytes c.in-Some.name.now in
    let item = c.in-Some.item.now in
    let at = named_at side.names.items.now.entries place c.in-Some.name.now item (sym c.in-Some.ensures.entry) in
    record {
      within = omega (arith, c.loop-place-test.true, c.len-place-end.ensures.len);
      marks = λ of v w x rss one brings renames own old.
          let has = own_extern of w x rss brings v.types.now n item (own.each (n, item) (contains_at own_items place (n, item) at)) in
          c.if-not-mark_type.ensures.marks refl of v w rss renames (subst (λ (t : Text). HasExternOf of Import w (imported_name rss t item) (item_tree v.types.now item)) (sym c.deref.ensures) has) (c.loop-place.invariant.marks of v w x rss one brings renames own old);
      covers = AllBelow-more (λ (e : Text × ItemKind). CoversType side e.0 e.1) own_items place (n, item) (slice_get_within own_items place (n, item) at) (sym (get_or_from_slice_get own_items place (n, item) (n, item) at)) c.loop-place.invariant.covers
          (subst (λ (t : Text). CoversType side t item) c.deref.ensures (c.if-not-mark_type.ensures.covers refl));
    }

pub returns-clause-covers : goal.returns-clause-covers
returns-clause-covers c = λ is rss renames n k among. AllBelow-contains (λ (e : Text × ItemKind). CoversType c.args.side.now e.0 e.1) (named_items c.args.side.now.names) c.loop-place.place (n, k)
    (named_past c.args.side.now.names.items.now.entries c.len-place-end.result c.loop-place.place c.len-place-end.ensures.len c.loop-place-test.false) c.loop-place.invariant.covers among rss renames
