-- The test goes over all keywords.
use Rattle.std.proofs.Common.{ℕ, List, bytes_eq, map, ap, refl, rules, tests}
use Rattle.std.specs.Slice.Iter.{iter_rest}
use Rattle.std.proofs.lemmas.Iterator.{YieldsList-from_slice}
use Rattle.std.proofs.lemmas.Iterator.Search.{any_from_yields_List}
use Rattle.wac_wit_syntax.specs.Names.{keywords}
use denote.Ref.{Bor}
use Rattle.wac_wit_syntax.proofs.Keys.{any_item}
use Rattle.wac_wit_syntax.proofs.keywords.is_keyword.Goals as goal

pub returns : goal.returns
unfolding keywords
returns c = any_item c.args.word.now keywords (iter_rest c.iter.result) c.any.result
    (any_from_yields_List (λ (k : Bor (List ℕ)). bytes_eq k.now c.args.word.now) _ _ c.any.result c.any.ensures.ran (YieldsList-from_slice (iter_rest c.iter.result) refl) (λ x b q k. search (rules, tests)))
    (ap (map (λ (k : Bor (List ℕ)). k.now)) c.iter.ensures.rest)
