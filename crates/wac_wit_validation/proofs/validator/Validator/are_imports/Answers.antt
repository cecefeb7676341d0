use Rattle.std.proofs.Common.{◌≡◌, ◌∙◌, refl, sym, ap}
use Rattle.wac_component.specs.Content.{named}
use Rattle.wac_component.specs.declared.worlds.ExternKind.TheVariants.{Import}
use Rattle.wac_wit_syntax.specs.declared.tree.WorldDecl.{WorldDecl}
use Rattle.wac_wit_validation.specs.WorldChecking.{text_content}
use Rattle.wac_wit_validation.proofs.WorldFacts.{IfOk-map}
use Rattle.wac_wit_validation.proofs.WorldWhole.{all_imports, each_marked, import_marked, interfaces_there, item_marked}
use Rattle.wac_wit_validation.proofs.validator.Validator.are_imports.Goals as goal

pub returns : goal.returns
returns c = IfOk-map c.has_all_needs.result _ _ c.has_all_needs.ensures (λ b told is of w text ready.
    let v = c.args.self.now in
    let es = named (λ k. k) c.args.text.now.entry.now.imports.entries in
    let same : w.decl.items.items ≡ c.deref.result.now = ap (λ (d : WorldDecl). d.items.items) text.decl ∙ sym c.deref.ensures.value in
    let before = c.in_ok-is.ensures.marks c.if-not-is.false of w text.at same ready.imports in
    let marks = c.in_ok-mark_all_needs.ensures c.if-not-branch.false of w text ready.exports.interfaces before in
    let needs = told is of w text ready.exports.marks in
    let there = interfaces_there of w Import es (λ i h. item_marked of v w Import es _ marks i (import_marked of v w _ needs i h)) (λ x j says. (ready.included x j says).imports) in
    record {
      imports = record {
        items = record { each = each_marked of v w Import es _ marks needs.all; all = all_imports of w (text_content c.args.text.now) ready.named there Import refl };
        marks = marks;
        interfaces = there;
      };
      exports = ready.exports;
    })
