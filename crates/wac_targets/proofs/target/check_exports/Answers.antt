use Rattle.std.proofs.Common.{◌++◌, List, [], ap, sym, subst, ◌∙◌}
use Rattle.std.specs.Borrow.{Bor}
use Rattle.std.specs.Result.{OnOk}
use Rattle.std.specs.Str.{bytes_eq}
use Rattle.indexmap.specs.IndexMap.{insert_all}
use Rattle.wac_model.specs.Text.{Text}
use Rattle.wac_component.specs.Content.{world_content}
use Rattle.wac_component.specs.Key.{AllStand, item_keys, named_keys}
use Rattle.wac_component.specs.declared.items.ItemKind.{ItemKind}
use Rattle.wac_component.specs.declared.worlds.ExternKind.TheVariants.{Export}
use Rattle.wac_component.proofs.Members.{world_exports_stand}
use Rattle.wac_targets.specs.Named.{borrowed}
use Rattle.wac_targets.specs.Noting.{AreNoted, note_of}
use Rattle.wac_targets.proofs.Distinct.{insert_all-distinct}
use Rattle.wac_targets.proofs.target.check_exports.Goals as goal

pub check_all-requires-clause-standing : goal.check_all-requires-clause-standing
check_all-requires-clause-standing c =
    let own = (world_content c.args.component.now).exports in
    let items = c.new-given.ensures.items ∙ ap (λ (es : List (Bor Text × ItemKind)). insert_all bytes_eq [] (borrowed es ++ own)) c.new.ensures.empty ∙ insert_all-distinct own c.new-given.ensures.distinct in
    subst (λ ps. AllStand c.args.types.now (named_keys item_keys ps)) (sym items) (world_exports_stand c.args.types.now (world_content c.args.component.now) c.requires.component)

pub check_all-requires-clause-wanted : goal.check_all-requires-clause-wanted
check_all-requires-clause-wanted c = world_exports_stand c.args.types.now (world_content c.args.target.now) c.requires.target

pub returns-clause-noted : goal.returns-clause-noted
returns-clause-noted c =
    let own = (world_content c.args.component.now).exports in
    let items = c.new-given.ensures.items ∙ ap (λ (es : List (Bor Text × ItemKind)). insert_all bytes_eq [] (borrowed es ++ own)) c.new.ensures.empty ∙ insert_all-distinct own c.new-given.ensures.distinct in
    subst (λ ps. OnOk c.check_all.result (AreNoted c.args.types.now Export ps (world_content c.args.target.now).exports (note_of c.args.report.now) (note_of c.check_all.new.report))) items c.check_all.ensures.noted
