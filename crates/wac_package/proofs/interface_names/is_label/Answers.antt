use Rattle.std.proofs.Common.{◌∙◌, sym, rules, lit<}
use borrow.Author.Tests.{tests}
use Rattle.std.proofs.lemmas.Iterator.Search.{all_from_yields_List}
use Rattle.std.proofs.lemmas.Iterator.Splits.{YieldsList-from_str_split}
use Rattle.wac_package.specs.InterfaceName.{is_label_fragment}
use Rattle.wac_package.proofs.Labels.{label_from_parts, parts_of_label}
use Rattle.wac_package.proofs.interface_names.is_label.Goals as goal

pub returns-then-starts_with_letter : goal.returns-then-starts_with_letter
returns-then-starts_with_letter c =
    let pieces = YieldsList-from_str_split 45 c.args.text.now (lit< tt) c.split.ensures.text c.split.ensures.has_more c.split.ensures.pattern in
    let all = all_from_yields_List is_label_fragment _ _ c.all.result c.all.ensures.ran pieces (λ x b q k. search (rules, tests)) in
    (λ h. label_from_parts _ (sym c.starts_with_letter.ensures ∙ c.if-starts_with_letter.true) (sym all ∙ h), λ l. all ∙ parts_of_label _ l)
