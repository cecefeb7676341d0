use Rattle.std.proofs.Common.{◌≡◌, ◌++◌, [], ◌∷◌, Some, refl, ap, sym, subst, ◌∙◌, None, inl, inr}
use Rattle.std.specs.Option.{option_map_or}
use Rattle.indexmap.proofs.CallerLemmas.{insert_entry-new}
use Rattle.wac_component.specs.Content.{interface_content}
use Rattle.wac_component.specs.Entries.{entry_identifier, identifier_at}
use Rattle.wac_component.specs.Key.{Stands, interface_entry, interface_key}
use Rattle.wac_aggregator_memo.specs.Memo.{AddsPair, memo_of}
use Rattle.wac_names.specs.Class.{class_eq, class_of}
use Rattle.wac_aggregator_narrowing.specs.Entering.{AddsEntry, IsEntered}
use Rattle.wac_aggregator_narrowing.specs.Last.{last_key}
use Rattle.wac_aggregator_narrowing.specs.Narrows.{AddsShared}
use Rattle.wac_aggregator_narrowing.proofs.Adding.{last_at}
use Rattle.wac_aggregator_narrowing.proofs.Entering.{interface_named, shared_interface_enters}
use Rattle.wac_aggregator_taking.specs.Takes.{state_of}
use Rattle.wac_aggregator_taking.proofs.TakeLemmas.{content_identifier, taken_as, Takes-entered, AreFiledIn-put, not_known}
use Rattle.wac_component.specs.Open.{stay}
use Rattle.wac_component.specs.Reach.{IsAmong, here}
use Rattle.wac_aggregator_taking.proofs.Enters.{interface_owners}
use Rattle.wac_aggregator_taking.proofs.GrowAccounts.{shared_accounted}
use Rattle.wac_aggregator_taking.proofs.MemberPuts.{shares_last, TakesMembers-added}
use Rattle.wac_aggregator_taking.proofs.Identifiers.{identified_by}
use Rattle.wac_aggregator_taking.proofs.entering.put_shared.Goals as goal

pub add_interface-requires : goal.add_interface-requires
add_interface-requires c = interface_named class_of c.args.types.now (state_of c.args.state.now) c.requires.state.kept c.args.id c.requires.taken.content _ c.requires.taken.taken

pub returns-clause-taken : goal.returns-clause-taken
returns-clause-taken c =
    let f = c.args.types.now in
    let was = c.args.state.now in
    let now = record c.args.state.now { types = c.add_interface.new.self; shared = c.insert.new.self; taken = c.put_interface.new.self } in
    let theirs = interface_key c.args.id in
    let z = interface_content c.args.interface in
    let found = identified_by (identifier_at f theirs) c.args.class c.requires.of in
    let name = found.0 in
    let is_named : z.id ≡ Some name = c.requires.named ∙ found.1 in
    let last : interface_key c.in_ok-own.own ≡ last_key was.types (interface_entry z) = ap interface_key c.in_ok-own.ensures.id in
    let pair = c.in_ok-put_interface.ensures c.requires.taken.absent in
    let entries : c.insert.new.self.entries ≡ was.shared.entries ++ (c.args.class, c.in_ok-own.own) ∷ [] = c.in_ok-insert.ensures.entries ∙ insert_entry-new class_eq was.shared c.args.class c.in_ok-own.own c.requires.new in
    let shares : AddsShared (state_of was).shared (state_of now).shared (last_key was.types (interface_entry z)) = subst (λ k. AddsShared (state_of was).shared (state_of now).shared k) last (shares_last was.shared.entries c.insert.new.self.entries c.args.class c.in_ok-own.own entries) in
    let adds : AddsEntry f (state_of was) (state_of now) theirs (interface_entry z) = record { own = c.in_ok-own.ensures.added; imports = refl; copies = refl; number = c.requires.taken.taken.stands.0; remembers = subst (AddsPair (memo_of was.taken) (memo_of now.taken) theirs) last pair } in
    let enters = shared_interface_enters class_of f (state_of was) c.requires.state.kept c.args.id c.requires.taken.content z (taken_as f (state_of was) c.args.id c.requires.taken.content _ _ z.id c.requires.taken.taken) (state_of now) name name (sym (content_identifier f c.args.id c.requires.taken.content c.requires.taken.taken.entry) ∙ found.1) is_named refl adds shares in
    let identified : identifier_at now.types (interface_key c.in_ok-own.own) ≡ Some name =
    (λ i. identifier_at (c.in_ok-own.ensures.added i) (last i)) ∙ ap (λ o. option_map_or entry_identifier o None) (last_at was.types (interface_entry z)).at ∙ is_named in
    let taken = c.requires.taken.taken in
    Takes-entered f was now theirs (interface_key c.in_ok-own.own) taken.sound taken.stands pair refl
    (AreFiledIn-put f (state_of was) (state_of now) was.shared.entries now.shared.entries c.args.class c.in_ok-own.own name c.requires.state.kept refl enters.run identified (sym found.2) c.in_ok-insert.ensures.updates.0 c.requires.new (shares_last was.shared.entries c.insert.new.self.entries c.args.class c.in_ok-own.own entries) c.requires.state.filed)
    (λ e among. elim (shares.only e among) [
      | inl is ↦ inr (record { theirs = theirs; name = name; walk = (theirs, here, stay); identified = found.1; own_identified = ap (identifier_at now.types) (is ∙ sym last) ∙ identified })
      | inr stood ↦ inl stood
    ])
    (λ k n stands is. elim ((last_at was.types (interface_entry z)).others k (subst (λ d. Stands d k) c.in_ok-own.ensures.added stands)) [
      | inl stood ↦ inl stood
      | inr same ↦ inr (inl (subst (λ j. IsAmong j (state_of now).shared) (sym same) shares.is))
    ])
    (λ all. absurd (not_known f was theirs name found.1 c.requires.taken.absent all))
    (interface_owners f (state_of was) taken.sound c.requires.state.kept c.args.id c.requires.taken.content _ taken)
    (subst (λ k. IsEntered class_of f (state_of was) (state_of now) theirs k) (sym last) enters)
    (λ at trial all. shared_accounted at f (state_of was) c.args.id c.requires.taken.content z name c.requires.state.kept trial all (taken_as f (state_of was) c.args.id c.requires.taken.content _ _ z.id c.requires.taken.taken) found.1 (state_of now) c.requires.taken.used is_named adds shares)

pub returns-clause-members : goal.returns-clause-members
returns-clause-members c = λ taken wit has all.
    let was = c.args.state.now in
    let now = record c.args.state.now { types = c.add_interface.new.self; shared = c.insert.new.self; taken = c.put_interface.new.self } in
    let found = identified_by (identifier_at c.args.types.now (interface_key c.args.id)) c.args.class c.requires.of in
    TakesMembers-added c.args.types.now was now c.requires.state c.args.id c.in_ok-own.own (interface_content c.args.interface) c.requires.taken found.0 c.args.class
    found.1 (c.requires.named ∙ found.1) found.2 c.requires.new c.names_in_an_interface_are_distinct.ensures.0 (ap interface_key c.in_ok-own.ensures.id) c.in_ok-own.ensures.added c.in_ok-insert.ensures.updates.0 taken wit has
    (shares_last was.shared.entries c.insert.new.self.entries c.args.class c.in_ok-own.own (c.in_ok-insert.ensures.entries ∙ insert_entry-new class_eq was.shared c.args.class c.in_ok-own.own c.requires.new))
    (c.in_ok-put_interface.ensures c.requires.taken.absent)
