use Rattle.std.proofs.Common.{None, Some, refl}
use Rattle.wac_wit_refusals_sites.proofs.JudgeFacts.{read_item}
use Rattle.wac_wit_refusals.proofs.NamingFacts.{tree_at}
use Rattle.wac_wit_refusals.specs.Packages.{by_file, by_nested}
use Rattle.wac_wit_refusals.specs.Trees.{tree_syntax, wit_sources}
use Rattle.wac_wit_refusals.proofs.packages.is_upper_case.Goals as goal

pub returns-then-has_upper_case : goal.returns-then-has_upper_case
returns-then-has_upper_case c is =
    let of = wit_sources c.args.sources.now in
    let here = c.in-Some.here in
    let at = tree_at of here c.args.file c.in-Some.ensures.0 c.in-Some.ensures.1 in
    record {
      place = record { file = c.args.file; nested = None };
      in_file = refl;
      name = c.in-Some-package.name;
      named = by_file c.args.file (tree_syntax here) c.in-Some-package.name at c.in-Some-package.is;
      has = c.if-has_upper_case.ensures is;
    }

pub returns-then-has_upper_case-2 : goal.returns-then-has_upper_case-2
returns-then-has_upper_case-2 c is =
    let of = wit_sources c.args.sources.now in
    let here = c.in-Some.here in
    let at = tree_at of here c.args.file c.in-Some.ensures.0 c.in-Some.ensures.1 in
    let index = c.loop-nested.nested-index in
    let nested = c.nested-item.result in
    let inside = read_item here.document.now.packages.items c.deref-nested-items.result.now index nested c.deref-nested-items.ensures.value c.loop-nested-test.true c.nested-item.is in
    record { place = record { file = c.args.file; nested = Some index }; in_file = refl; name = nested.name; named = by_nested c.args.file (tree_syntax here) index nested at inside; has = c.if-has_upper_case-2.ensures is }
