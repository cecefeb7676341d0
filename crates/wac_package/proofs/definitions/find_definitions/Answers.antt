use Rattle.std.proofs.Common.{◌∙◌, ap, add-one, List, take, suc, String, Global}
use Rattle.wac_component.specs.Content.{named}
use Rattle.wac_component.specs.declared.items.ItemKind.{ItemKind}
use Rattle.wac_component.proofs.VisitLemmas.{extern-stands}
use Rattle.wac_package.specs.Definitions.{AreDefinitions}
use Rattle.wac_package.proofs.Defined.{definitions_more, definitions_same, distinct_texts, kind_at, named_insert, not_before}
use Rattle.wac_package.proofs.definitions.find_definitions.Goals.{in-Some+in_ok-from_str+in_ok-insert, in_default}
use Rattle.wac_package.proofs.definitions.find_definitions.Goals as goal

pub definition-requires : goal.definition-requires
definition-requires c =
    extern-stands c.args.types.now c.args.exports.now.entries c.loop-i.i c.export_at.result.1.now (kind_at c.args.exports.now.entries c.loop-i.i c.export_at.result.0.now c.export_at.result.1.now c.export_at.ensures) c.requires

pub loop-i-preserved : goal.loop-i-preserved
loop-i-preserved c =
    let t = c.args.types.now in
    let exports = named (λ (k : ItemKind). k) c.args.exports.now.entries in
    let before = named (λ (k : ItemKind). k) c.loop-i.definitions.entries in
    let name = c.export_at.result.0.now in
    let kind = c.export_at.result.1.now in
    let more : AreDefinitions t (take (suc c.loop-i.i) exports) (named (λ (k : ItemKind). k) c.match-branch-2.definitions.entries) = elim c.match-branch-2.branch [
      | in-Some+in_ok-from_str+in_ok-insert w ↦
          let defines = rw w.in-Some.is at c.in_ok-definition.ensures in
          let new = not_before t exports before c.loop-i.i (name, kind) c.export_at.ensures (distinct_texts c.args.exports.now.entries c.len-i-end.ensures.unique) c.loop-i.invariant in
          let last = named_insert c.loop-i.definitions.entries w.in_ok-from_str.field-0 name w.in-Some.definition w.in_ok-from_str.ensures.ok new in
          let entries = ap (λ (es : List (String Global × ItemKind)). named (λ (k : ItemKind). k) es) w.in_ok-insert.ensures.entries ∙ last in
          rw w.definitions-is (rw entries (definitions_more t exports before c.loop-i.i (name, kind) w.in-Some.definition c.export_at.ensures defines c.loop-i.invariant))
      | in_default w ↦
          let nothing = rw w.in_default.is at c.in_ok-definition.ensures in
          rw w.definitions-is (definitions_same t exports before c.loop-i.i (name, kind) c.export_at.ensures nothing c.loop-i.invariant)
    ] in
    rw add-one more
