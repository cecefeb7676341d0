use Rattle.wac_wit_refusals_sites.proofs.TypeFacts.{among_from}
use Rattle.wac_wit_refusals_sites.proofs.judge.Judge.type_named_at.Goals as goal

pub returns-then-is_at : goal.returns-then-is_at
returns-then-is_at c = record {
  has = λ of knows. c.in_ok-types_there.ensures of knows c.ty-item.result (among_from c.in_ok-types_there.field-0.items c.deref-ty-items.result.now c.loop-ty.ty-index c.ty-item.result c.deref-ty-items.ensures.value c.loop-ty-test.true c.ty-item.is);
  place = c.is_at.ensures c.if-is_at.true;
}
