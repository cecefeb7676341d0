-- The test goes over all that stands between dots.
use Rattle.std.proofs.Common.{lit<, rules, tests}
use Rattle.std.proofs.lemmas.Iterator.Search.{any_from_yields_List}
use Rattle.std.proofs.lemmas.Iterator.Splits.{YieldsList-from_str_split}
use Rattle.wac_wit_syntax.specs.Productions.{is_keyword}
use Rattle.wac_wit_syntax.proofs.versions.has_keyword.Goals as goal

pub returns : goal.returns
returns c =
    let pieces = YieldsList-from_str_split 46 c.args.identifiers.now (lit< tt) c.split.ensures.text c.split.ensures.has_more c.split.ensures.pattern in
    any_from_yields_List is_keyword _ _ c.any.result c.any.ensures.ran pieces (λ x b q k. search (rules, tests))
