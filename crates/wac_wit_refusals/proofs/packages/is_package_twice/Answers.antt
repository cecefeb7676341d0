use Rattle.wac_wit_refusals.specs.Trees.{package_place, wit_sources}
use Rattle.wac_wit_refusals.proofs.packages.is_package_twice.Goals as goal

pub returns-then-is_named_in : goal.returns-then-is_named_in
returns-then-is_named_in c is =
    let name = c.in-Some.name in
    let placed = c.in-Some.ensures.2 in
    record {
      place = package_place name;
      in_file = c.in-Some.ensures.0;
      name = name.name.now;
      named = placed.named;
      stands = c.in-Some.ensures.1;
      twice = c.if-is_named_in.ensures is (wit_sources c.args.sources.now) placed c.in-Some-file_at.ensures.1;
    }
