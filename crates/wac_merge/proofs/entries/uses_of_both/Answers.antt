use Rattle.std.proofs.Common.{refl, ap, ◌∙◌, string_bytes}
use Rattle.std.specs.Str.{bytes_eq}
use Rattle.wac_component.proofs.CloneLemmas.{named-clones}
use Rattle.wac_component.specs.Content.{named, use_content}
use Rattle.wac_core_merge.specs.Names.{with_new}
use Rattle.wac_core_merge.proofs.NameLemmas.{with_new-shown}
use Rattle.wac_merge.proofs.entries.uses_of_both.Goals as goal

pub returns : goal.returns
returns c =
    let first = named-clones use_content (λ u v e. e) c.args.first.now c.in_ok-uses.uses c.in_ok-uses.ensures.cases in
    let second = named-clones use_content (λ u v e. e) c.args.second.now c.in_ok-clone.field-0 c.in_ok-clone.ensures.cases in
    ap (λ es. named use_content es) c.in_ok-add_new.ensures.entries
    ∙ with_new-shown string_bytes use_content (λ s t. bytes_eq (string_bytes s) (string_bytes t)) bytes_eq (λ k l. refl) c.in_ok-uses.uses.entries c.in_ok-clone.field-0.entries
    ∙ ap (λ es. with_new bytes_eq es (named use_content c.in_ok-clone.field-0.entries)) first
    ∙ ap (λ es. with_new bytes_eq (named use_content c.args.first.now.entries) es) second
