use Rattle.std.proofs.Common.{subst, sym}
use Rattle.wac_wit_refusals_types.specs.NamesTwice.{TakesFieldName}
use Rattle.wac_wit_refusals_types.specs.TypeSteps.{AreTaken}
use Rattle.wac_wit_refusals_types.proofs.TwiceFacts.{taken_twice}
use Rattle.wac_wit_refusals_sites.proofs.TypeFacts.{among_from}
use Rattle.wac_wit_refusals_types.proofs.names_twice.has_param_twice.Goals as goal

pub returns-then-stands_twice : goal.returns-then-stands_twice
returns-then-stands_twice c is of knows =
    let named = c.named-item.result in
    let Takes = TakesFieldName named.signature.now.params.items in
    record {
      name = named.name.now;
      signature = named.signature.now;
      has = c.in_ok-signatures_of.ensures of knows named (among_from c.in_ok-signatures_of.field-0.items c.deref-named-items.result.now c.loop-named.named-index named c.deref-named-items.ensures.value c.loop-named-test.true c.named-item.is);
      twice = taken_twice Takes c.deref.result.now c.args.span (subst (AreTaken Takes) (sym c.deref.ensures.value) c.in_ok-param_names.ensures) (c.stands_twice.ensures c.if-stands_twice.true);
    }
