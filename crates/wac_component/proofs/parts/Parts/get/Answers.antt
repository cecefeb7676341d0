use Rattle.std.proofs.Common.{Some}
use Rattle.std.specs.Option.{option_map}
use Rattle.wac_component.specs.Content.{types_of}
use Rattle.wac_component.specs.declared.items.ItemKind.TheVariants.{Value, Instance}
use Rattle.wac_component.proofs.PartLemmas.{map_at}
use Rattle.wac_component.proofs.parts.Parts.get.Goals as goal

pub returns-in-Values : goal.returns-in-Values
returns-in-Values c = rw c.in-Values.is (map_at (λ v. Some (Value v)) c.in-Values.types.now c.args.index c.item_at.result c.item_at.ensures)

pub returns-in-Fields : goal.returns-in-Fields
returns-in-Fields c = rw c.in-Fields.is (map_at (λ v. Some (Value v)) (types_of c.in-Fields.fields.now.entries) c.args.index c.value_at.result.now c.value_at.ensures)

pub returns-in-Cases : goal.returns-in-Cases
returns-in-Cases c = rw (c.in-Cases.is, c.value_item.ensures) (map_at (λ t. option_map Value t) (types_of c.in-Cases.cases.now.entries) c.args.index c.value_at-in-Cases.result.now c.value_at-in-Cases.ensures)

pub returns-in-Uses : goal.returns-in-Uses
returns-in-Uses c = rw c.in-Uses.is (map_at (λ u. Some (Instance u.interface)) (types_of c.in-Uses.uses.now.entries) c.args.index c.value_at-in-Uses.result.now c.value_at-in-Uses.ensures)

pub returns-in-Items : goal.returns-in-Items
returns-in-Items c = rw c.in-Items.is (map_at (λ k. Some k) (types_of c.in-Items.items.now.entries) c.args.index c.value_at-in-Items.result.now c.value_at-in-Items.ensures)
