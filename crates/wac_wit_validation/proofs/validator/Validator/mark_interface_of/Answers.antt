use Rattle.std.proofs.Common.{refl, sym, subst}
use Rattle.std.specs.Prelude.{slice_get, Some, ◌≡◌}
use Rattle.wac_component.specs.Content.{named}
use Rattle.wac_wit_validation_types.specs.Placed.{placed_identifier}
use Rattle.wac_wit_validation.specs.WorldChecking.{IsInterfaceAt, IsPlacedAt}
use Rattle.wac_wit_validation.specs.declared.marks.ExternMark.TheVariants.{Found}
use Rattle.wac_wit_validation_names.specs.declared.places.ItemPlace.{ItemPlace}
use Rattle.wac_wit_validation_types.proofs.MarkFacts.{has_item_at}
use Rattle.wac_wit_validation.proofs.WorldFacts.{AreMarksOf-marked, IsMarkOf-found, entry_named, full_named}
use Rattle.wac_wit_validation.proofs.validator.Validator.mark_interface_of.Goals as goal

-- what `get_full` answered is the item under the name
item_at : (c : goal.After-mark) → slice_get (named (λ k. k) c.args.externs.now.entries) c.in-Some.place ≡ Some (c.args.name.now, c.in-Some.item.now)
item_at c = full_named c.args.name.now c.args.name.now c.args.externs.now.entries c.get_full.result c.in-Some.place c.in-Some.field-0-1 c.in-Some.item refl c.get_full.ensures.key c.in-Some.is c.in-Some.ensures.entry

pub returns-in-Some-same_interface-clause-marks : goal.returns-in-Some-same_interface-clause-marks
returns-in-Some-same_interface-clause-marks c = λ is of k w i knows placed name has.
    let v = c.args.self.now in
    let es = named (λ k. k) c.args.externs.now.entries in
    let place = c.in-Some.place in
    let own = c.in-Some-same_interface.own in
    let told = c.in-Some-same_interface.ensures in
    let here : IsInterfaceAt of v es place own i = record {
      found = record { valid = knows.interfaces.found own told.2; at = subst (λ (p : ItemPlace). IsPlacedAt v p i) (sym told.1) placed };
      at = entry_named es place c.args.name.now (placed_identifier i) c.in-Some.item.now own.id (item_at c) name told.0;
    } in
    AreMarksOf-marked of v w k es c.args.marks.now c.mark.new.self place (Found own) c.mark.ensures.even c.mark.ensures.marked (IsMarkOf-found of v w k es place own i here has)

pub returns-in-Some-same_interface-clause-covers : goal.returns-in-Some-same_interface-clause-covers
returns-in-Some-same_interface-clause-covers c = λ is. has_item_at (named (λ k. k) c.args.externs.now.entries) c.in-Some.place c.args.name.now c.in-Some.item.now (item_at c)
