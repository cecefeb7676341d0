use Rattle.std.proofs.Common.{subst, []}
use Rattle.wac_component.specs.Collection.{Collection}
use Rattle.wac_component.specs.Tree.{func_tree}
use Rattle.wac_wit_validation_types.specs.Denoted.{renamed_by}
use Rattle.wac_wit_validation_types.specs.Functions.{IsFuncOf}
use Rattle.wac_wit_scopes.specs.WitSources.{ident_text}
use Rattle.wac_wit_validation.specs.WorldChecking.{side_items}
use Rattle.wac_wit_validation_types.specs.Worlds.{extern_func, world_setting}
use Rattle.wac_wit_validation.specs.declared.marks.ExternMark.TheVariants.{Written}
use Rattle.wac_wit_validation_types.proofs.MarkFacts.{has_item_at}
use Rattle.wac_wit_validation.proofs.WorldFacts.{AreMarksOf-marked, IsMarkOf-written}
use Rattle.wac_wit_validation.proofs.externs.mark_func.Goals as goal

pub returns-in-Func-clause-marks : goal.returns-in-Func-clause-marks
returns-in-Func-clause-marks c = λ is v scope one of w x rss comes says.
    let side = c.args.side.now in
    let s = world_setting of rss x in
    let g = c.is_func.ensures is s comes.stand in
    let has = subst (λ (d : Collection). IsFuncOf s c.args.signature.now [] (λ r. r) (func_tree d c.in-Func.id)) one g in
    AreMarksOf-marked of v w side.kind (side_items side) c.args.marks.now c.mark.new.self c.in-Some.index Written c.mark.ensures.even c.mark.ensures.marked
    (IsMarkOf-written of v w side.kind (side_items side) c.in-Some.index (renamed_by rss (ident_text c.args.name.now)) c.in-Some.item.now (c.in-Some.ensures rss comes.new_names) (rw c.in-Func.is (extern_func c.args.name.now c.args.signature.now comes.brings says has)))

pub returns-in-Func-clause-covers : goal.returns-in-Func-clause-covers
returns-in-Func-clause-covers c = λ is rss renames. has_item_at (side_items c.args.side.now) c.in-Some.index (renamed_by rss (ident_text c.args.name.now)) c.in-Some.item.now (c.in-Some.ensures rss renames)
