use Rattle.std.proofs.Common.{[], ◌∷◌, None, refl, ap, sym, ◌∙◌, arith}
use Rattle.wac_component.specs.Content.{interface_content}
use Rattle.wac_component.specs.Height.{height}
use Rattle.wac_component.specs.Key.{interface_entry, interface_key}
use Rattle.wac_names.specs.Class.{class_of}
use Rattle.wac_aggregator_narrowing.proofs.Entering.{interface_named, interface_enters}
use Rattle.wac_aggregator_taking.specs.Takes.{state_of}
use Rattle.wac_aggregator_taking.proofs.TakeLemmas.{content_identifier, Takes-none, Takes-enter}
use Rattle.wac_aggregator_taking.proofs.Enters.{interface_owners, interface_made}
use Rattle.wac_aggregator_taking.proofs.Within.{within_all}
use Rattle.wac_aggregator_taking.proofs.entering.put_plain.Goals as goal

pub add_interface-requires : goal.add_interface-requires
add_interface-requires c = interface_named class_of c.args.types.now (state_of c.args.state.now) c.requires.state.kept c.args.id c.requires.taken.content _ c.requires.taken.taken

pub returns : goal.returns
returns c =
    let f = c.args.types.now in
    let a = c.args.state.now in
    let theirs = interface_key c.args.id in
    let taken = c.requires.taken.taken in
    Takes-enter f a a (record a { types = c.add_interface.new.self; taken = c.put_interface.new.self }) theirs (interface_key c.in_ok-own.own)
    (interface_entry (interface_content (record { id = None; uses = c.args.uses; exports = c.args.exports }))) (height f theirs) (theirs ∷ []) (λ t. Unit {0}) c.requires.state taken.sound taken.stands (omega arith) (within_all f (theirs ∷ []))
    (Takes-none f a (height f theirs) (theirs ∷ []) (λ t. Unit {0}) c.requires.state tt) refl c.in_ok-own.ensures.added (ap interface_key c.in_ok-own.ensures.id) (c.in_ok-put_interface.ensures c.requires.taken.absent)
    (λ t kept q adds same. record {
      plain = refl;
      entered = interface_enters class_of f (state_of a) kept c.args.id c.requires.taken.content _ taken t (sym (content_identifier f c.args.id c.requires.taken.content taken.entry) ∙ c.requires.plain) refl adds same;
      owners = interface_owners f (state_of a) taken.sound kept c.args.id c.requires.taken.content _ taken;
      made = interface_made f (state_of a) taken.sound kept c.args.id c.requires.taken.content _ taken c.requires.taken.used;
    })
