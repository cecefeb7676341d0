use Rattle.std.proofs.Common.{ap, refl, ◌∙◌}
use Rattle.wac_names.proofs.PairFacts.{lookup_with_key}
use Rattle.wac_names.proofs.Standing.{writes_at}
use Rattle.wac_names.proofs.name_map.NameMap.raw_get_mut.Goals as goal

pub returns : goal.returns
returns g c = (
  (
    refl,
    λ w. writes_at g.K.PartialEq.eq c.args.key.now c.args.self.now (record { definitions = c.get_mut.follows.lender w; alternate_lookups = c.args.self.now.alternate_lookups }) w (c.get_mut.follows.holds w).0 refl,
    ap (λ d. record c.args.self.now { definitions = d }) c.get_mut.follows.holds-at-none,
  ),
  record {
    writes_back = tt;
    value = λ f ps law s. c.get_mut.ensures.value ∙ lookup_with_key law g.met.K.Eq.laws c.args.self.now.definitions.entries ps c.args.key.now s.defined;
  },
)
