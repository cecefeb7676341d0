use Rattle.std.proofs.Common.{[], ◌∷◌, refl, ap, arith}
use Rattle.wac_component.specs.Content.{world_content}
use Rattle.wac_component.specs.Height.{height}
use Rattle.wac_component.specs.Key.{world_entry, world_key}
use Rattle.wac_component.proofs.Members.{world_imports_stand}
use Rattle.wac_aggregator_copies.proofs.Enters.{items_copied}
use Rattle.wac_aggregator_taking.specs.Takes.{state_of}
use Rattle.wac_aggregator_taking.proofs.Enters.{world_stands, world_put, world_enters}
use Rattle.wac_aggregator_taking.proofs.TakeLemmas.{MayTake-copies, Takes-none, Takes-enter, Takes-copied, copied_run, copied_holds, copied_may}
use Rattle.wac_aggregator_taking.proofs.Within.{within_all}
use Rattle.wac_aggregator_taking.proofs.entering.put_world.Goals as goal

pub copy_externs-requires-clause-source : goal.copy_externs-requires-clause-source
copy_externs-requires-clause-source c = world_imports_stand c.args.types.now (world_content c.index-world.result.now) c.index-world.ensures.standing

pub copy_externs-requires-clause-state : goal.copy_externs-requires-clause-state
copy_externs-requires-clause-state c = MayTake-copies c.args.types.now c.args.state.now c.requires.state

pub add_world-requires : goal.add_world-requires
add_world-requires c =
    let f = c.args.types.now in
    let a = c.args.state.now in
    let mid = record a { types = c.copy_externs.new.own; copies = c.copy_externs.new.copies } in
    let x = world_content c.index-world.result.now in
    let z = world_content (record { id = c.in_ok-identifier.identifier; uses = c.args.uses; imports = c.in_ok-imports.imports; exports = c.args.exports }) in
    let may = copied_may f a mid.types mid.copies _ _ c.requires.state c.in_ok-imports.ensures in
    let taken = world_put f a mid (copied_run f a mid.types mid.copies _ _ c.requires.state c.in_ok-imports.ensures) c.requires.state.kept c.args.id x z c.sound.ensures c.requires.stands c.index-world.ensures.entry c.requires.taken (copied_holds f a mid.types mid.copies _ _ c.requires.state c.in_ok-imports.ensures) in
    world_stands f (state_of mid) c.sound.ensures may.kept c.args.id x z taken.0

pub returns : goal.returns
returns c =
    let f = c.args.types.now in
    let a = c.args.state.now in
    let mid = record a { types = c.copy_externs.new.own; copies = c.copy_externs.new.copies } in
    let now = record mid { types = c.add_world.new.self; taken = c.put_world.new.self } in
    let x = world_content c.index-world.result.now in
    let z = world_content (record { id = c.in_ok-identifier.identifier; uses = c.args.uses; imports = c.in_ok-imports.imports; exports = c.args.exports }) in
    let theirs = world_key c.args.id in
    let own = world_key c.in_ok-own.own in
    let copies = c.in_ok-imports.ensures in
    let imported = copied_holds f a mid.types mid.copies _ _ c.requires.state copies in
    let may = copied_may f a mid.types mid.copies _ _ c.requires.state copies in
    let taken = world_put f a mid (copied_run f a mid.types mid.copies _ _ c.requires.state copies) c.requires.state.kept c.args.id x z c.sound.ensures c.requires.stands c.index-world.ensures.entry c.requires.taken imported in
    Takes-copied f a mid.types mid.copies _ _ c.requires.state copies now theirs own (world_entry z) c.in_ok-own.ensures.added (ap world_key c.in_ok-own.ensures.id) (items_copied f (state_of mid) x.imports z.imports imported)
    (Takes-enter f mid mid now theirs own (world_entry z) (height f theirs) (theirs ∷ []) (λ t. Unit {0}) may c.sound.ensures c.requires.stands (omega arith) (within_all f (theirs ∷ []))
    (Takes-none f mid (height f theirs) (theirs ∷ []) (λ t. Unit {0}) may tt) refl c.in_ok-own.ensures.added (ap world_key c.in_ok-own.ensures.id) (c.in_ok-put_world.ensures c.requires.taken.absent)
    (λ t kept q adds same. world_enters f (state_of mid) c.sound.ensures kept t c.args.id x z taken.0 taken.1 adds same))
