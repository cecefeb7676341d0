use Rattle.std.proofs.Common.{refl}
use Rattle.wac_wit_refusals_sites.proofs.JudgeFacts.{read_item}
use Rattle.wac_wit_refusals.proofs.NamingFacts.{tree_at}
use Rattle.wac_wit_refusals.specs.Packages.{by_file, by_nested}
use Rattle.wac_wit_refusals.specs.Trees.{tree_syntax, wit_sources}
use Rattle.wac_wit_refusals.proofs.packages.name_at.Goals as goal

pub returns-then-is_at : goal.returns-then-is_at
returns-then-is_at c =
    let of = wit_sources c.args.sources.now in
    let here = c.in_ok-here.here in
    let at = tree_at of here c.args.file c.in_ok-here.ensures.0 c.in_ok-here.ensures.1 in
    (refl, c.if-is_at.ensures refl, record { named = by_file c.args.file (tree_syntax here) c.in-Some.name at c.in-Some.is; file = tree_syntax here; at = at; group = refl })

pub returns-then-is_at-2 : goal.returns-then-is_at-2
returns-then-is_at-2 c =
    let of = wit_sources c.args.sources.now in
    let here = c.in_ok-here.here in
    let at = tree_at of here c.args.file c.in_ok-here.ensures.0 c.in_ok-here.ensures.1 in
    let index = c.loop-index.index in
    let nested = c.nested-item.result in
    let inside = read_item here.document.now.packages.items c.deref-nested-items.result.now index nested c.deref-nested-items.ensures.value c.loop-index-test.true c.nested-item.is in
    (refl, c.if-is_at-2.ensures refl, record { named = by_nested c.args.file (tree_syntax here) index nested at inside; file = tree_syntax here; at = at; group = refl })
