use Rattle.std.proofs.Common.{◌≡◌, Some, refl, sym, subst, List}
use Rattle.std.specs.Prelude.{slice_get}
use Rattle.wac_component.specs.Tree.{item_tree}
use Rattle.wac_component.specs.declared.items.ItemKind.{ItemKind}
use Rattle.wac_component.specs.declared.worlds.ExternKind.TheVariants.{Import}
use Rattle.wac_model.specs.Text.{Text}
use Rattle.wac_wit_syntax.specs.declared.tree.Rename.{Rename}
use Rattle.wac_wit_validation_types.specs.Reading.{Renames, imported_name}
use Rattle.wac_wit_validation.specs.WorldChecking.{side_items}
use Rattle.wac_wit_validation_types.specs.Worlds.{HasExternOf}
use Rattle.wac_wit_validation.specs.declared.marks.ExternMark.TheVariants.{Written}
use Rattle.wac_wit_validation_types.proofs.MarkFacts.{has_item_at}
use Rattle.wac_wit_validation.proofs.WorldFacts.{AreMarksOf-marked, IsMarkOf-written, full_named}
use Rattle.wac_wit_validation.proofs.worlds.mark_type.Goals as goal

-- what `get_full` answered is the item under the name
item_at : (c : goal.After-mark) (rss : List (List Rename)) → Renames c.args.side.now.names rss → slice_get (side_items c.args.side.now) c.in-Some-get_full.index ≡ Some (imported_name rss c.args.name.now c.args.item.now, c.in-Some-get_full.other.now)
item_at c rss renames = subst (λ (t : Text). slice_get (side_items c.args.side.now) c.in-Some-get_full.index ≡ Some (t, c.in-Some-get_full.other.now)) (sym (c.in-Some.ensures rss renames))
    (full_named c.in-Some.name.now c.in-Some.name.now c.args.side.now.externs.now.entries c.get_full.result c.in-Some-get_full.index c.in-Some-get_full.field-0-1 c.in-Some-get_full.other refl c.get_full.ensures.key c.in-Some-get_full.is c.in-Some-get_full.ensures.entry)

pub returns-clause-marks : goal.returns-clause-marks
returns-clause-marks c = λ is of v w rss renames has.
    let n = imported_name rss c.args.name.now c.args.item.now in
    let here = subst (λ (k : ItemKind). HasExternOf of Import w n (item_tree v.types.now k)) (c.if-not-is_same_item.ensures refl) has in
    AreMarksOf-marked of v w Import (side_items c.args.side.now) c.args.marks.now c.mark.new.self c.in-Some-get_full.index Written c.mark.ensures.even c.mark.ensures.marked
    (IsMarkOf-written of v w Import (side_items c.args.side.now) c.in-Some-get_full.index n c.in-Some-get_full.other.now (item_at c rss renames) here)

pub returns-clause-covers : goal.returns-clause-covers
returns-clause-covers c = λ is rss renames. has_item_at (side_items c.args.side.now) c.in-Some-get_full.index (imported_name rss c.args.name.now c.args.item.now) c.in-Some-get_full.other.now (item_at c rss renames)
