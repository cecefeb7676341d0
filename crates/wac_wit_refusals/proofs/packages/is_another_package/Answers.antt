use Rattle.wac_wit_scopes.proofs.PathFacts.{contains_at}
use Rattle.wac_wit_refusals.proofs.NamingFacts.{tree_at}
use Rattle.wac_wit_refusals.specs.Trees.{tree_syntax, wit_sources}
use Rattle.wac_wit_refusals.proofs.packages.is_another_package.Goals as goal

pub returns-then-names_another : goal.returns-then-names_another
returns-then-names_another c is =
    let of = wit_sources c.args.sources.now in
    let here = c.in-Some.here in
    let other = c.in-Some-file_at.other in
    record {
      here = tree_syntax here;
      at = tree_at of here c.args.file c.in-Some.ensures.0 c.in-Some.ensures.1;
      name = c.in-Some-package.name;
      names = c.in-Some-package.is;
      stands = c.is_at.ensures c.if-not-is_at.false;
      other = tree_syntax other;
      among = contains_at of.files other.index (tree_syntax other) c.in-Some-file_at.ensures.1;
      beside = c.if-other-here.true;
      another = c.if-names_another.ensures is;
    }
