use Rattle.std.proofs.Common.{◌≤◌, sym, ◌∙◌, arith}
use Rattle.std.proofs.lemmas.List.{length-map}
use Rattle.std.specs.List.{flat_map}
use Rattle.std.specs.Option.{option_to_list}
use Rattle.wac_component.specs.Content.{types_of, case_types}
use Rattle.wac_component.specs.Height.{height, keys_height}
use Rattle.wac_component.specs.Key.{Stands, value_keys}
use Rattle.wac_component.specs.Tree.{value_tree}
use Rattle.wac_component.proofs.Members.{AllStand-member, keys_height-member}
use Rattle.wac_component.proofs.AnyBorrow.{any_borrows-found, any_borrows-none, any_borrows-case_found, any_borrows-no_case, Each-case, largest-case}
use Rattle.wac_component.proofs.+borrows.Goals as goal

pub borrows::items_borrow-contains_borrow-requires : goal.borrows::items_borrow-contains_borrow-requires
borrows::items_borrow-contains_borrow-requires t c =
    let lower : keys_height c.args.types.now (value_keys c.item_at.result) ≤ keys_height c.args.types.now (flat_map value_keys c.args.items.now) = keys_height-member c.args.types.now c.args.items.now c.loop-i.i c.item_at.result c.item_at.ensures in
    (omega arith, AllStand-member c.args.types.now c.args.items.now c.loop-i.i c.item_at.result c.item_at.ensures c.requires)

pub borrows::items_borrow-returns-then-contains_borrow : goal.borrows::items_borrow-returns-then-contains_borrow
borrows::items_borrow-returns-then-contains_borrow t c = sym (any_borrows-found (value_tree c.args.types.now) c.args.items.now c.loop-i.i c.item_at.result c.item_at.ensures (sym c.contains_borrow.ensures ∙ c.if-contains_borrow.true))

pub borrows::items_borrow-returns : goal.borrows::items_borrow-returns
borrows::items_borrow-returns t c = sym (any_borrows-none (value_tree c.args.types.now) c.args.items.now c.loop-i.i (omega arith) c.loop-i.invariant)

pub borrows::fields_borrow-contains_borrow-requires : goal.borrows::fields_borrow-contains_borrow-requires
borrows::fields_borrow-contains_borrow-requires t c =
    let lower : keys_height c.args.types.now (value_keys c.value_at.result.now) ≤ keys_height c.args.types.now (flat_map value_keys (types_of c.args.fields.now.entries)) = keys_height-member c.args.types.now (types_of c.args.fields.now.entries) c.loop-i.i c.value_at.result.now c.value_at.ensures in
    (omega arith, AllStand-member c.args.types.now (types_of c.args.fields.now.entries) c.loop-i.i c.value_at.result.now c.value_at.ensures c.requires)

pub borrows::fields_borrow-returns-then-contains_borrow : goal.borrows::fields_borrow-returns-then-contains_borrow
borrows::fields_borrow-returns-then-contains_borrow t c = sym (any_borrows-found (value_tree c.args.types.now) (types_of c.args.fields.now.entries) c.loop-i.i c.value_at.result.now c.value_at.ensures (sym c.contains_borrow.ensures ∙ c.if-contains_borrow.true))

pub borrows::fields_borrow-returns : goal.borrows::fields_borrow-returns
borrows::fields_borrow-returns t c = sym (any_borrows-none (value_tree c.args.types.now) (types_of c.args.fields.now.entries) c.loop-i.i (simp length-map (omega arith)) c.loop-i.invariant)

pub borrows::cases_borrow-optional_borrows-requires : goal.borrows::cases_borrow-optional_borrows-requires
borrows::cases_borrow-optional_borrows-requires t c =
    let lower : keys_height c.args.types.now (flat_map value_keys (option_to_list c.value_at.result.now)) ≤ keys_height c.args.types.now (flat_map value_keys (case_types c.args.cases.now.entries)) = largest-case (height c.args.types.now) c.args.cases.now.entries c.loop-i.i c.value_at.result.now c.value_at.ensures in
    (omega arith, Each-case (Stands c.args.types.now) c.args.cases.now.entries c.loop-i.i c.value_at.result.now c.value_at.ensures c.requires)

pub borrows::cases_borrow-returns-then-optional_borrows : goal.borrows::cases_borrow-returns-then-optional_borrows
borrows::cases_borrow-returns-then-optional_borrows t c = sym (any_borrows-case_found (value_tree c.args.types.now) c.args.cases.now.entries c.loop-i.i c.value_at.result.now c.value_at.ensures (sym c.optional_borrows.ensures ∙ c.if-optional_borrows.true))

pub borrows::cases_borrow-returns : goal.borrows::cases_borrow-returns
borrows::cases_borrow-returns t c = sym (any_borrows-no_case (value_tree c.args.types.now) c.args.cases.now.entries c.loop-i.i (omega arith) c.loop-i.invariant)
