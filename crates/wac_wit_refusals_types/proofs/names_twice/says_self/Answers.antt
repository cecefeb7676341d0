use Rattle.std.proofs.Common.{◌∙◌, ap, refl, sym}
use Rattle.std.specs.Str.{str_to_ascii_lowercase}
use Rattle.wac_wit_refusals_sites.proofs.TypeFacts.{at_read}
use Rattle.wac_wit_refusals_types.proofs.names_twice.says_self.Goals as goal

pub returns-then-eq_ignore_ascii_case : goal.returns-then-eq_ignore_ascii_case
returns-then-eq_ignore_ascii_case c is =
    let param = c.param-item.result in
    record {
      index = c.loop-param.param-index;
      param = param;
      at = at_read c.args.params.now c.loop-param.param-index param param c.loop-param-test.true c.param-item.is refl;
      place = c.is_at.ensures c.if-is_at.true;
      named = ap str_to_ascii_lowercase (sym c.deref.ensures) ∙ c.eq_ignore_ascii_case.ensures.test.0 c.if-eq_ignore_ascii_case.true;
    }
