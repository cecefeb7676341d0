use Rattle.std.proofs.Common.{subst, sym}
use Rattle.wac_wit_refusals_types.specs.NamesTwice.{TakesMemberName}
use Rattle.wac_wit_refusals_types.specs.TypeSteps.{AreTaken}
use Rattle.wac_wit_refusals_types.proofs.TwiceFacts.{taken_twice}
use Rattle.wac_wit_refusals_sites.proofs.TypeFacts.{among_from}
use Rattle.wac_wit_refusals_types.proofs.names_twice.has_member_twice.Goals as goal

pub returns-then-stands_twice : goal.returns-then-stands_twice
returns-then-stands_twice c is of knows =
    let ty = c.ty-item.result in
    record {
      type_item = ty.now;
      has = c.in_ok-types_there.ensures of knows ty (among_from c.in_ok-types_there.field-0.items c.deref-ty-items.result.now c.loop-ty.ty-index ty c.deref-ty-items.ensures.value c.loop-ty-test.true c.ty-item.is);
      twice = taken_twice (TakesMemberName ty.now.def) c.deref.result.now c.args.span (subst (AreTaken (TakesMemberName ty.now.def)) (sym c.deref.ensures.value) c.in_ok-member_names.ensures) (c.stands_twice.ensures c.if-stands_twice.true);
    }
