use Rattle.std.proofs.Common.{◌≡◌, ◌-◌, ap, refl, sym, subst, ◌∙◌, Some, slice_get, string_bytes, ℕ, arith}
use Rattle.wac_component.specs.Key.{world_key}
use Rattle.wac_component.specs.Tree.{Externs, externs, item_tree}
use Rattle.wac_checker_parts.specs.Parts.{listed}
use Rattle.wac_checker_parts.specs.Pairs.{import_count}
use Rattle.wac_checker_parts.proofs.ExternPartLemmas.{extern_count, extern_here}
use Rattle.wac_checker.proofs.frames.world_frame.Goals as goal

pub returns-then-index-len : goal.returns-then-index-len
returns-then-index-len c =
    let at = c.in_ok-name_of.ensures.at in
    let count = extern_count (item_tree c.args.sides.now.left.now) c.index.result.now.imports.entries (externs c.args.sides.now.left.now (world_key c.args.a)).imports (ap (λ (e : Externs). e.imports) c.index.ensures.tree) in
    ((λ _. (string_bytes c.in_ok-name_of.field-0, item_tree c.args.sides.now.left.now at.0, extern_here (item_tree c.args.sides.now.left.now) c.index.result.now.imports.entries (externs c.args.sides.now.left.now (world_key c.args.a)).imports c.args.index (string_bytes c.in_ok-name_of.field-0) at.0 (ap (λ (e : Externs). e.imports) c.index.ensures.tree) at.1, refl)), (λ past. absurd (omega (arith, count))))

pub name_of-requires-2 : goal.name_of-requires-2
name_of-requires-2 c =
    let count = extern_count (item_tree c.args.sides.now.left.now) c.index.result.now.imports.entries (externs c.args.sides.now.left.now (world_key c.args.a)).imports (ap (λ (e : Externs). e.imports) c.index.ensures.tree) in
    let exports = extern_count (item_tree c.args.sides.now.right.now) c.index-2.result.now.exports.entries (externs c.args.sides.now.right.now (world_key c.args.b)).exports (ap (λ (e : Externs). e.exports) c.index-2.ensures.tree) in
    omega (arith, count, exports, c.requires.within.0)

pub returns : goal.returns
returns c =
    let at = c.in_ok-name_of-2.ensures.at in
    let name = c.in_ok-name_of-2.field-0 in
    let count = extern_count (item_tree c.args.sides.now.left.now) c.index.result.now.imports.entries (externs c.args.sides.now.left.now (world_key c.args.a)).imports (ap (λ (e : Externs). e.imports) c.index.ensures.tree) in
    let same : c.args.index - c.len-2.result ≡ c.args.index - import_count c.args.sides.now.left.now c.args.a = ap (λ (n : ℕ). c.args.index - n) (c.len-2.ensures.len ∙ sym count) in
    ((λ before. absurd (omega (arith, count))), (λ _. (string_bytes name, item_tree c.args.sides.now.right.now at.0, subst (λ (i : ℕ). slice_get (listed (externs c.args.sides.now.right.now (world_key c.args.b)).exports) i ≡ Some (string_bytes name, item_tree c.args.sides.now.right.now at.0)) same (extern_here (item_tree c.args.sides.now.right.now) c.index-2.result.now.exports.entries (externs c.args.sides.now.right.now (world_key c.args.b)).exports (c.args.index - c.len-2.result) (string_bytes name) at.0 (ap (λ (e : Externs). e.exports) c.index-2.ensures.tree) at.1), refl)))
