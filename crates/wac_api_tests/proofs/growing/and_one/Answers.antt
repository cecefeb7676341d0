use Rattle.std.proofs.Common.{refl}
use Rattle.wac_api_tests.proofs.growing.and_one.Goals as goal

pub returns-in-Ok-clause-remembered : goal.returns-in-Ok-clause-remembered
returns-in-Ok-clause-remembered c = c.in-Ok.ensures.truly c.args.types.now (λ same. refl) c.requires.remembered
