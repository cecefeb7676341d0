use Rattle.std.proofs.Common.{◌∷◌, ◌++◌, [], refl, ap, sym, subst, ◌∙◌}
use Rattle.std.specs.Str.{bytes_eq}
use Rattle.indexmap.specs.IndexMap.{insert_all}
use Rattle.wac_checker.specs.Cache.{IsSoundCache}
use Rattle.wac_component.specs.Content.{world_content}
use Rattle.wac_component.specs.Key.{AllStand, item_keys, named_keys}
use Rattle.wac_component.specs.declared.worlds.ExternKind.TheVariants.{Import}
use Rattle.wac_component.proofs.Members.{world_imports_stand}
use Rattle.wac_targets.specs.Named.{borrowed}
use Rattle.wac_targets.specs.Noting.{AreNoted, note_of}
use Rattle.wac_targets.specs.Wanted.{NamedItems}
use Rattle.wac_targets.proofs.Distinct.{put-all}
use Rattle.wac_targets.proofs.Standing.{insert_all-stands}
use Rattle.wac_targets.proofs.target.check_imports.Goals as goal

pub check_all-requires-clause-standing : goal.check_all-requires-clause-standing
check_all-requires-clause-standing c =
    let own = (world_content c.args.target.now).imports in
    let implicit = borrowed c.in_ok-implicit.implicit.entries in
    let first = insert_all-stands c.args.types.now [] implicit tt c.in_ok-implicit.ensures.standing in
    let all = insert_all-stands c.args.types.now (insert_all bytes_eq [] implicit) own first (world_imports_stand c.args.types.now (world_content c.args.target.now) c.requires.target) in
    subst (λ ps. AllStand c.args.types.now (named_keys item_keys ps)) (put-all own implicit implicit refl ∙ sym c.new-given.ensures.items) all

pub check_all-requires-clause-wanted : goal.check_all-requires-clause-wanted
check_all-requires-clause-wanted c = world_imports_stand c.args.types.now (world_content c.args.component.now) c.requires.component

pub check_all-requires-clause-remembered : goal.check_all-requires-clause-remembered
check_all-requires-clause-remembered c = subst (λ ps. IsSoundCache (c.args.types.now ∷ c.args.types.now ∷ []) ps) (sym c.invert.ensures.remembered) c.requires.remembered

pub returns-clause-remembered : goal.returns-clause-remembered
returns-clause-remembered c = subst (λ ps. IsSoundCache (c.args.types.now ∷ c.args.types.now ∷ []) ps) (sym c.revert.ensures.remembered) c.in_ok-check_all.ensures.remembered

pub returns-clause-noted : goal.returns-clause-noted
returns-clause-noted c =
    let own = (world_content c.args.target.now).imports in
    subst (λ ps. AreNoted c.args.types.now Import ps (world_content c.args.component.now).imports (note_of c.args.report.now) (note_of c.check_all.new.report))
    (c.new-given.ensures.items ∙ ap (λ (xs : NamedItems). insert_all bytes_eq [] (xs ++ own)) c.in_ok-implicit.ensures.imports) c.in_ok-check_all.ensures.noted
