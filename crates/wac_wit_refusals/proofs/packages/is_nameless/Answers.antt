use Rattle.std.proofs.Common.{refl}
use Rattle.wac_wit_refusals.proofs.NamingFacts.{tree_at}
use Rattle.wac_wit_refusals.specs.Trees.{tree_syntax, wit_sources}
use Rattle.wac_wit_refusals.proofs.packages.is_nameless.Goals as goal

pub returns-then-is_at : goal.returns-then-is_at
returns-then-is_at c is = record {
  here = tree_syntax c.in-Some.here;
  at = tree_at (wit_sources c.args.sources.now) c.in-Some.here c.args.file c.in-Some.ensures.0 c.in-Some.ensures.1;
  nobody = c.is_group_nameless.ensures is;
  begins = c.if-is_at.ensures refl;
}
