use Rattle.std.proofs.Common.{ap, ◌∙◌, not, [], string_bytes, refl, sym, arith}
use Rattle.wac_component.specs.Content.{named}
use Rattle.wac_checker_parts.proofs.ExternLemmas.{extern_stands, named_stands}
use Rattle.wac_checker_parts.proofs.ExternListing.{imports_lack, next_extern}
use Rattle.std.specs.Prelude.{option_copied}
use Rattle.wac_checker_parts.proofs.ExternPartLemmas.{named_length}
use Rattle.wac_checker_parts.proofs.sides.Sides.list_imports.Goals as goal

pub name_items-requires-clause-left : goal.name_items-requires-clause-left
name_items-requires-clause-left c = rw c.turned-turned.ensures.left (named_stands c.args.self.now.right.now (named (λ k. k) c.args.b.now.entries) (string_bytes c.entry_at.result.0.now) c.in-Some.given.now (sym c.named_at.ensures ∙ ap option_copied c.in-Some.is) c.requires.right)

pub name_items-requires-clause-right : goal.name_items-requires-clause-right
name_items-requires-clause-right c = rw c.turned-turned.ensures.right (extern_stands c.args.self.now.left.now (named (λ k. k) c.args.a.now.entries) c.loop-i.i (string_bytes c.entry_at.result.0.now) c.entry_at.result.1.now c.entry_at.ensures.at c.requires.left)

pub items_apart-requires-clause-left : goal.items_apart-requires-clause-left
items_apart-requires-clause-left c = rw c.turned-turned.ensures.left (named_stands c.args.self.now.right.now (named (λ k. k) c.args.b.now.entries) (string_bytes c.entry_at.result.0.now) c.in-Some.given.now (sym c.named_at.ensures ∙ ap option_copied c.in-Some.is) c.requires.right)

pub items_apart-requires-clause-right : goal.items_apart-requires-clause-right
items_apart-requires-clause-right c = rw c.turned-turned.ensures.right (extern_stands c.args.self.now.left.now (named (λ k. k) c.args.a.now.entries) c.loop-i.i (string_bytes c.entry_at.result.0.now) c.entry_at.result.1.now c.entry_at.ensures.at c.requires.left)

pub desc-kind-requires : goal.desc-kind-requires
desc-kind-requires c = extern_stands c.args.self.now.left.now (named (λ k. k) c.args.a.now.entries) c.loop-i.i (string_bytes c.entry_at.result.0.now) c.entry_at.result.1.now c.entry_at.ensures.at c.requires.left

pub returns-in_default-clause-listed : goal.returns-in_default-clause-listed
returns-in_default-clause-listed c = (c.loop-i.invariant.0, imports_lack c.args.self.now.left.now c.args.self.now.right.now (named (λ k. k) c.args.a.now.entries) (named (λ k. k) c.args.b.now.entries) c.entry_at.result.0 c.desc-kind.result c.entry_at.result.1.now c.entry_at.ensures.by_name (sym c.named_at.ensures ∙ ap option_copied c.in_default.is) c.desc-kind.ensures)

pub returns-then-not-branch-clause-listed : goal.returns-then-not-branch-clause-listed
returns-then-not-branch-clause-listed c =
    let told = rw (c.turned-turned.ensures.left, c.turned-turned.ensures.right) at (rw c.if-not-branch.true at c.in_ok-name_items.ensures.listed) in
    let differ = rw (c.turned-turned.ensures.left, c.turned-turned.ensures.right) at c.items_apart.ensures in
    rw told.0 (c.loop-i.invariant.0, refl, ((omega (arith, named_length c.args.a.now.entries), omega arith), ((string_bytes c.entry_at.result.0.now), c.in-Some.given.now, c.entry_at.result.1.now, (sym c.named_at.ensures ∙ ap option_copied c.in-Some.is, c.entry_at.ensures.at, c.entry_at.ensures.by_name), differ, told.2)))

pub loop-i-preserved : goal.loop-i-preserved
loop-i-preserved c = let more = next_extern c.args.self.now.right.now c.args.self.now.left.now (not c.args.self.now.swapped) 0 (named (λ k. k) c.args.b.now.entries) (named (λ k. k) c.args.a.now.entries) c.loop-i.i c.loop-i.i (string_bytes c.entry_at.result.0.now) c.in-Some.given.now c.entry_at.result.1.now [] c.loop-i.parts.items c.name_items.new.parts.items (omega arith) (omega (arith, named_length c.args.a.now.entries), omega arith) (sym c.named_at.ensures ∙ ap option_copied c.in-Some.is, c.entry_at.ensures.at, c.entry_at.ensures.by_name) (rw (c.turned-turned.ensures.left, c.turned-turned.ensures.right, c.turned-turned.ensures.swapped) at (rw c.if-not-branch.false at c.in_ok-name_items.ensures.listed)) (c.loop-i.invariant.0, c.loop-i.invariant.1) in (more.0, more.1, c.name_items.ensures.kept ∙ c.loop-i.invariant.2)

pub returns-clause-listed : goal.returns-clause-listed
returns-clause-listed c = (c.loop-i.invariant.0, λ all j b. c.loop-i.invariant.1 all j (let count = named_length c.args.a.now.entries in omega (arith, b, count)))
