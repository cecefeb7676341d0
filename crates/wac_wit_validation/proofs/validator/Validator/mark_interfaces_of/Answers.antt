use Rattle.std.proofs.Common.{◌≡◌, ◌∙◌, IsTrue, arith, sym, subst}
use Rattle.std.specs.Prelude.{string_bytes}
use Rattle.wac_wit_validation_types.specs.Exports.{HasItem}
use Rattle.wac_wit_validation_types.specs.Placed.{placed_identifier}
use Rattle.wac_wit_validation.specs.declared.marks.ExternMark.TheVariants.{Found}
use Rattle.wac_wit_validation_types.proofs.NameFacts.{named_at}
use Rattle.wac_wit_validation.proofs.WorldFacts.{FoundItemsBelow-more, FoundItemsBelow-there, included_interface, named_past, same_name}
use Rattle.wac_wit_validation.proofs.validator.Validator.mark_interfaces_of.Goals.{in-Some-found_at, in-None}
use Rattle.wac_component.specs.Content.{named}
use Rattle.wac_wit_validation.proofs.validator.Validator.mark_interfaces_of.Goals as goal

pub loop-index-preserved : goal.loop-index-preserved
loop-index-preserved c =
    let v = c.args.self.now in
    let es = named (λ k. k) c.args.externs.now.entries in
    let others = named (λ k. k) c.args.others.now.entries in
    let n = string_bytes c.in-Some.name.now in
    let other_at = named_at c.args.others.now.entries c.loop-index.index c.in-Some.name.now c.in-Some.field-0-1.now (sym c.in-Some.ensures.entry) in
    record {
      within = omega (arith, c.loop-index-test.true, c.len-index-end.ensures.len);
      marks = λ of k w x i knows side says old.
          let before = c.loop-index.invariant.marks of k w x i knows side says old in
          elim c.match-found_at.branch [
            | in-Some-found_at s ↦
                let mark = side.marks.each c.loop-index.index (Found s.in-Some-found_at.interface) s.in-Some-found_at.ensures.some in
                let name : s.deref.result.now ≡ placed_identifier mark.0 = s.deref.ensures ∙ same_name others c.loop-index.index _ _ _ _ other_at mark.1.at in
                rw s.marks-is (s.mark_interface_of-is.ensures.marks (subst IsTrue s.is-is c.if-not-is.false) of k w mark.0 knows mark.1.found.at name (included_interface of w x k i mark.0 says mark.2) before)
            | in-None s ↦ rw s.marks-is before
          ];
      covers = FoundItemsBelow-more es others c.loop-index.index (n, c.in-Some.field-0-1.now) other_at (λ i is. elim c.match-found_at.branch [
        | in-Some-found_at s ↦ subst (HasItem es) s.deref.ensures (s.mark_interface_of-is.ensures.covers (subst IsTrue s.is-is c.if-not-is.false))
        | in-None s ↦ absurd (s.is_plain-is.ensures (subst IsTrue s.is-is c.if-not-is.false) i (s.deref-in-None.ensures ∙ is))
      ]) c.loop-index.invariant.covers;
    }

pub returns-clause-covers : goal.returns-clause-covers
returns-clause-covers c = λ is of k x side. FoundItemsBelow-there of c.args.self.now k x (named (λ k. k) c.args.externs.now.entries) (named (λ k. k) c.args.others.now.entries) c.args.found.now c.loop-index.index
    (named_past c.args.others.now.entries c.len-index-end.result c.loop-index.index c.len-index-end.ensures.len c.loop-index-test.false) c.loop-index.invariant.covers side
