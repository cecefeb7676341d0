use Rattle.std.proofs.Common.{ap, refl, string_bytes}
use Rattle.wac_component.specs.Key.{interface_key}
use Rattle.wac_component.specs.Tree.{Externs, externs, item_tree}
use Rattle.wac_checker_parts.proofs.ExternPartLemmas.{extern_within, extern_here}
use Rattle.wac_checker.proofs.frames.interface_frame.Goals as goal

pub name_of-requires : goal.name_of-requires
name_of-requires c = extern_within (item_tree c.args.types.now) c.index.result.now.exports.entries (externs c.args.types.now (interface_key c.args.id)).exports c.args.index (ap (λ (e : Externs). e.exports) c.index.ensures.tree) c.requires.within

pub returns : goal.returns
returns c =
    let at = c.in_ok-name_of.ensures.at in
    (string_bytes c.in_ok-name_of.field-0, item_tree c.args.types.now at.0, extern_here (item_tree c.args.types.now) c.index.result.now.exports.entries (externs c.args.types.now (interface_key c.args.id)).exports c.args.index (string_bytes c.in_ok-name_of.field-0) at.0 (ap (λ (e : Externs). e.exports) c.index.ensures.tree) at.1, refl)
