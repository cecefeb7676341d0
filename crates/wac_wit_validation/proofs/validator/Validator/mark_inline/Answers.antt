use Rattle.wac_component.specs.Content.{interface_content}
use Rattle.wac_component.specs.Tree.{item_tree}
use Rattle.wac_component.specs.declared.items.ItemKind.TheVariants.{Instance}
use Rattle.wac_wit_scopes.specs.Scopes.{scope_syntax}
use Rattle.wac_wit_validation_types.specs.Denoted.{renamed_by}
use Rattle.wac_wit_scopes.specs.WitSources.{ident_text}
use Rattle.wac_wit_validation.specs.WorldChecking.{side_items}
use Rattle.wac_wit_validation_types.specs.Worlds.{extern_inline}
use Rattle.wac_wit_validation.specs.declared.marks.ExternMark.TheVariants.{Written}
use Rattle.wac_wit_validation.proofs.FoundFacts.{tree_of_exports}
use Rattle.wac_wit_validation_types.proofs.MarkFacts.{has_item_at}
use Rattle.wac_wit_validation.proofs.WorldFacts.{AreMarksOf-marked, IfOk-map, IsMarkOf-written}
use Rattle.wac_wit_validation.proofs.validator.Validator.mark_inline.Goals as goal

pub returns-clause-marks : goal.returns-clause-marks
returns-clause-marks c = IfOk-map c.is_interface.result _ _ c.is_interface.ensures (λ b told is one of w x rss comes says.
    let v = c.args.self.now in
    let side = c.args.side.now in
    let at = comes.at in
    let exports = told is of at.knows.interfaces at.items at.at in
    let tree = tree_of_exports of (scope_syntax at.items) c.deref.result.now v.types.now c.in-Instance.id (interface_content c.index.result.now) c.index.ensures.tree exports in
    AreMarksOf-marked of v w side.kind (side_items side) c.args.marks.now c.mark.new.self c.in-Some.index Written c.mark.ensures.even c.mark.ensures.marked
    (IsMarkOf-written of v w side.kind (side_items side) c.in-Some.index (renamed_by rss (ident_text c.args.name.now)) c.in-Some.item.now (c.in-Some.ensures rss comes.new_names)
    (rw c.in-Instance.is (extern_inline {t = item_tree v.types.now (Instance c.in-Instance.id)} c.args.name.now c.args.items.now comes.brings says (rw (at.is, ← c.deref.ensures.value) tree)))))

pub returns-clause-covers : goal.returns-clause-covers
returns-clause-covers c = IfOk-map c.is_interface.result _ _ c.is_interface.ensures (λ b told is rss renames. has_item_at (side_items c.args.side.now) c.in-Some.index (renamed_by rss (ident_text c.args.name.now)) c.in-Some.item.now (c.in-Some.ensures rss renames))
