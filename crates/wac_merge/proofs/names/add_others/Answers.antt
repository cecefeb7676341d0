use Rattle.std.proofs.Common.{refl, ap, subst, ◌∙◌, string_bytes}
use Rattle.std.specs.Str.{bytes_eq}
use Rattle.std.proofs.lemmas.Result.{on_ok_weaker}
use Rattle.std.proofs.lemmas.Slice.Eq.{bytes_eq-Decides}
use Rattle.wac_model.proofs.Lookups.{IsDistinct-shown}
use Rattle.wac_component.specs.Content.{named}
use Rattle.wac_component.proofs.CloneLemmas.{named-clones}
use Rattle.wac_core_merge.specs.Names.{with_new}
use Rattle.wac_core_merge.proofs.NameLemmas.{with_new-shown}
use Rattle.wac_core_merge.proofs.EntryLemmas.{All-found}
use Rattle.wac_merge.specs.Items.{AreUnhidden, extern_list}
use Rattle.wac_merge.proofs.names.add_others.Goals as goal

pub returns-clause-added : goal.returns-clause-added
returns-clause-added c =
    let same = named-clones (λ k. k) (λ k l e. e) c.args.second.now c.in_ok-clone.field-0 c.in_ok-clone.ensures.cases in
    on_ok_weaker c.add_new.result (λ is.
    ap (λ es. named (λ k. k) es) is
    ∙ with_new-shown string_bytes (λ k. k) (λ s t. bytes_eq (string_bytes s) (string_bytes t)) bytes_eq (λ k l. refl) c.args.externs.now.entries c.in_ok-clone.field-0.entries
    ∙ ap (λ es. with_new bytes_eq (extern_list c.args.externs.now) es) same) c.add_new.ensures.entries

pub returns-clause-found : goal.returns-clause-found
returns-clause-found c =
    let same = named-clones (λ k. k) (λ k l e. e) c.args.second.now c.in_ok-clone.field-0 c.in_ok-clone.ensures.cases in
    let distinct = IsDistinct-shown string_bytes (λ s t. bytes_eq (string_bytes s) (string_bytes t)) bytes_eq (λ k l. refl) (λ k. k) c.in_ok-clone.field-0.entries c.add_new.ensures.unique in
    on_ok_weaker c.add_new.result (λ is. subst AreUnhidden same (All-found bytes_eq bytes_eq-Decides (extern_list c.in_ok-clone.field-0) distinct)) c.add_new.ensures.entries
