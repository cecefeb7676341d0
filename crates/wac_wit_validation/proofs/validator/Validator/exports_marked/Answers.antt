use Rattle.std.proofs.Common.{◌≡◌, ◌∙◌, refl, sym, ap, subst, Contains, List}
use Rattle.wac_component.specs.Content.{named, world_content}
use Rattle.wac_component.specs.declared.worlds.ExternKind.TheVariants.{Export, Import}
use Rattle.wac_wit_syntax.specs.declared.tree.Extern.{Extern}
use Rattle.wac_wit_syntax.specs.declared.tree.WorldItem.TheVariants as of_world
use Rattle.wac_wit_syntax.specs.declared.tree.WorldItem.{WorldItem}
use Rattle.wac_wit_syntax.specs.declared.tree.WorldDecl.{WorldDecl}
use Rattle.wac_wit_validation.specs.WorldChecking.{IsPathThere}
use Rattle.wac_wit_validation_types.specs.Worlds.{SaysExtern}
use Rattle.wac_wit_validation.proofs.WorldFacts.{AreMarksOf-none, then_some_told}
use Rattle.wac_wit_validation.proofs.WorldWhole.{HasNamed-layers, all_exports, each_marked, exports_there, interfaces_there}
use Rattle.wac_wit_validation.proofs.validator.Validator.exports_marked.Goals as goal

pub returns : goal.returns
returns c = then_some_told c.are_all.result _ c.then_some.result _ c.then_some.ensures (λ is of w text layers.
    let v = c.args.self.now in
    let entry = c.args.text.now.entry.now in
    let es = named (λ k. k) entry.exports.entries in
    let ls = c.args.layers.now in
    let knows = text.at.knows in
    let same : w.decl.items.items ≡ c.deref.result.now = ap (λ (d : WorldDecl). d.items.items) text.decl ∙ sym c.deref.ensures.value in
    let again : w.decl.items.items ≡ c.deref-2.result.now = ap (λ (d : WorldDecl). d.items.items) text.decl ∙ sym c.deref-2.ensures.value in
    let first = c.if-not-mark_included.ensures.marks refl of w text.at same (record {
      imports = AreMarksOf-none of v w Import entry.imports.entries c.in_ok-new.field-0 c.len.result c.in_ok-new.ensures.even c.len.ensures.len c.in_ok-new.ensures.none;
      exports = AreMarksOf-none of v w Export entry.exports.entries c.in_ok-new-2.field-0 c.len-2.result c.in_ok-new-2.ensures.even c.len-2.ensures.len c.in_ok-new-2.ensures.none;
    }) in
    let included = c.if-not-mark_included.ensures.covers refl of w text.at same in
    let paths = c.in_ok-mark_paths.ensures.marks c.if-not-branch.false of w text.at again first.exports in
    let marks = c.in_ok-are_layers.ensures.marks c.if-not-branch-2.false of w knows layers.each (record { imports = first.imports; exports = paths }) in
    let there_named = HasNamed-layers of v w (world_content entry) ls layers (c.in_ok-are_layers.ensures.covers c.if-not-branch-2.false) knows in
    let said = λ (x : Extern) (says : SaysExtern of w Export x). subst (IsPathThere of w.scope es) says.what (c.in_ok-mark_paths.ensures.covers c.if-not-branch.false of w.scope text.at says.item (subst (λ (l : List WorldItem). Contains l (of_world.Export says.item)) again says.among) says.there) in
    let there = interfaces_there of w Export es (exports_there of w es said) (λ x j says. (included x j says).exports) in
    record {
      named = there_named;
      included = included;
      imports = marks.imports;
      exports = record {
        items = record { each = each_marked of v w Export es _ marks.exports (c.are_all.ensures is); all = all_exports of w (world_content entry) there_named there Export refl };
        marks = marks.exports;
        interfaces = there;
      };
    })
