-- The test goes over all that stands between dashes.
use Rattle.std.proofs.Common.{◌≡◌, Bool, true, false, ◌&&◌, get_or, rules, tests}
use Rattle.std.specs.Char.{is_ascii_alphabetic}
use Rattle.std.specs.List.{list_all, slice_split}
use Rattle.std.proofs.lemmas.Iterator.Search.{all_from_yields_List}
use Rattle.std.proofs.lemmas.Iterator.Splits.{YieldsList-from_slice_split}
use Rattle.wac_wit_syntax.specs.Bytes.{is_dash}
use Rattle.wac_wit_syntax.specs.Names.{is_fragment}
use Rattle.wac_wit_syntax.proofs.names.is_label.Goals as goal

answered : (a r l : Bool) → a ≡ true → r ≡ l → r ≡ (a && l)
answered true r l h e = e
answered false r l h e = cc h

pub returns-then-is_ascii_alphabetic : goal.returns-then-is_ascii_alphabetic
returns-then-is_ascii_alphabetic c =
    let w = c.args.words.now in
    let all : c.all.result ≡ list_all is_fragment (slice_split is_dash w) =
    all_from_yields_List is_fragment _ _ c.all.result c.all.ensures.ran (YieldsList-from_slice_split _ is_dash w c.split.ensures.rest c.split.ensures.done c.split.ensures.closure (λ x b q k. search (rules, tests))) (λ x b q k. search (rules, tests)) in
    let letter : is_ascii_alphabetic (get_or w 0 0) ≡ true = search rules in
    answered _ _ _ letter all
