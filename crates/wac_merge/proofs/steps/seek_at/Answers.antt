use Rattle.std.proofs.Common.{◌≡◌, ◌∙◌, sym, subst, Some, string_bytes}
use Rattle.std.specs.Str.{bytes_eq}
use Rattle.wac_model.specs.Text.{lookup}
use Rattle.wac_component.specs.Key.{AllStand, item_keys, optional_keys}
use Rattle.wac_checker_parts.proofs.ExternLemmas.{named_stands}
use Rattle.wac_checker_parts.proofs.Lookups.{get_named}
use Rattle.wac_merge.specs.Items.{extern_list}
use Rattle.wac_merge.proofs.ExternLemmas.{found_stands}
use Rattle.wac_merge.proofs.LoopLemmas.{lacks_under}
use Rattle.wac_merge.proofs.steps.seek_at.Goals as goal

named : (c : goal.After-extern_named) → lookup bytes_eq (extern_list c.args.first.now) (string_bytes c.in-Some.name.now) ≡ Some c.in-Some.a.now
named c = let found = rw c.in-Some.is at c.get_index.ensures.value in sym (get_named c.args.first.now.entries (string_bytes c.in-Some.name.now)) ∙ found

pub bound_with-requires-clause-left : goal.bound_with-requires-clause-left
bound_with-requires-clause-left c = named_stands c.args.types.now (extern_list c.args.first.now) (string_bytes c.in-Some.name.now) c.in-Some.a.now (named c) c.requires.left

pub bound_with-requires-clause-right : goal.bound_with-requires-clause-right
bound_with-requires-clause-right c =
    subst (λ o. AllStand c.args.types.now (optional_keys item_keys o)) (sym c.extern_named.ensures) (found_stands c.args.types.now (extern_list c.args.second.now) (string_bytes c.in-Some.name.now) c.requires.right)

pub returns-in-Err-clause-lacks : goal.returns-in-Err-clause-lacks
returns-in-Err-clause-lacks c =
    let found = rw c.in-Some.is at c.get_index.ensures.value in
    lacks_under c.args.types.now (extern_list c.args.first.now) (extern_list c.args.second.now) (string_bytes c.in-Some.name.now) c.in-Some.a.now c.extern_named.result
    (sym (get_named c.args.first.now.entries (string_bytes c.in-Some.name.now)) ∙ found) c.extern_named.ensures c.in-Err.untold c.in-Err.ensures.lacks
