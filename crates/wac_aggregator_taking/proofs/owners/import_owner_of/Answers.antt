use Rattle.std.proofs.Common.{◌≡◌, [], ◌∷◌, Some, string_bytes, ap, sym, subst, ◌∙◌}
use Rattle.std.specs.Option.{option_and_then}
use Rattle.wac_component.specs.Collection.{InterfaceContent}
use Rattle.wac_component.specs.Content.{interface_content, resource_content}
use Rattle.wac_component.specs.Key.{interface_key, resource_key}
use Rattle.wac_component.specs.Open.{stay}
use Rattle.wac_component.specs.Reach.{here}
use Rattle.wac_aggregator_promises.specs.Reason.{owner_without_identifier}
use Rattle.wac_names.specs.Class.{class_of}
use Rattle.wac_aggregator_narrowing.proofs.Mapped.{taken_key_still}
use Rattle.wac_aggregator_narrowing.specs.Remembers.{RemembersTruly}
use Rattle.wac_aggregator_errors.specs.declared.error.AggregateError.TheVariants.{OwnerWithoutIdentifier}
use Rattle.wac_aggregator_taking.specs.Refused.{IsOfUnidentified}
use Rattle.wac_aggregator_taking.specs.Takes.{state_of, LeadsToOwner, IsTakenOwner}
use Rattle.wac_aggregator_taking.proofs.Parts.{owner_taken}
use Rattle.wac_aggregator_taking.proofs.Refusals.{refused_owner}
use Rattle.wac_aggregator_taking.proofs.StepAnswers.{no_owner_told}
use Rattle.wac_aggregator_taking.proofs.StepLemmas.{Takes-gives}
use Rattle.wac_aggregator_taking.proofs.TakeLemmas.{Takes-none, content_identifier, no_name, some_name}
use Rattle.wac_aggregator_taking.proofs.Taken.{key_taken}
use Rattle.wac_aggregator_taking.proofs.owners.import_owner_of.Goals as goal

pub returns-in_default-clause-taken : goal.returns-in_default-clause-taken
returns-in_default-clause-taken c = Takes-none c.args.types.now c.args.state.now _ _ _ c.requires.state (no_owner_told c.args.types.now (state_of c.args.state.now) _ c.in_default.ensures.owner)

pub returns-then-is_none-clause-taken : goal.returns-then-is_none-clause-taken
returns-then-is_none-clause-taken c =
    let f = c.args.types.now in
    let unidentified = ap (option_and_then (λ (x : InterfaceContent). x.id)) c.index.ensures.entry ∙ no_name c.index.result.now.id c.if-is_none.ensures in
    refused_owner f c.args.state.now c.args.id c.in-Some.owner (resource_content c.index-then-is_none.result.now) (OwnerWithoutIdentifier c.in_ok-resource.resource) c.index-then-is_none.ensures.entry (sym c.in-Some.ensures.owner) unidentified
    (ap (λ n. Some (owner_without_identifier n)) c.in_ok-resource.ensures.cases)

pub returns-then-is_none-clause-unidentified : goal.returns-then-is_none-clause-unidentified
returns-then-is_none-clause-unidentified c = λ r is. let same : owner_without_identifier (string_bytes c.in_ok-resource.resource) ≡ r = cc in subst IsOfUnidentified same tt

pub returns-in_default-interface-clause-taken : goal.returns-in_default-interface-clause-taken
returns-in_default-interface-clause-taken c = Takes-none c.args.types.now c.args.state.now _ _ _ c.requires.state (sym c.in-Some.ensures.owner)

pub import_owner-requires-clause-shared : goal.import_owner-requires-clause-shared
import_owner-requires-clause-shared c =
    let f = c.args.types.now in
    let name = some_name c.index.result.now.id c.if-is_none.ensures in
    let identified = content_identifier f c.in-Some.owner (interface_content c.index.result.now) c.index.ensures.entry ∙ name.1 in
    ((key_taken f c.args.state.now c.requires.state (interface_key c.in-Some.owner) (interface_key c.in-Some-interface.own) c.in-Some.ensures.stands.0 (sym c.in-Some-interface.ensures)).remembered.shared name.0 identified).is_shared

pub returns-clause-taken : goal.returns-clause-taken
returns-clause-taken c =
    let f = c.args.types.now in
    let a = c.args.state.now in
    let b = c.import_owner.new.state in
    let o = c.in-Some.owner in
    let own = c.in-Some-interface.own in
    let name = some_name c.index.result.now.id c.if-is_none.ensures in
    let identified = content_identifier f o (interface_content c.index.result.now) c.index.ensures.entry ∙ name.1 in
    let taken = key_taken f a c.requires.state (interface_key o) (interface_key own) c.in-Some.ensures.stands.0 (sym c.in-Some-interface.ensures) in
    let shared = taken.remembered.shared name.0 identified in
    let owned = sym c.in-Some.ensures.owner in
    let leads : LeadsToOwner f (resource_key c.args.id) name.0 = record { resource = c.args.id; owner = o; walk = stay; owned = owned; identified = identified } in
    let h = c.in_ok-import_owner.ensures.imported f (resource_key c.args.id ∷ []) (resource_key c.args.id) name.0 shared.name c.requires.state here leads shared.identified shared.on_track in
    let still = taken_key_still class_of f (state_of a) (state_of b) c.requires.state.kept (RemembersTruly class_of) f h.run (interface_key o) (interface_key own) taken in
    Takes-gives f a b 0 (resource_key c.args.id ∷ []) _ _ (Some own, subst (λ x. IsTakenOwner f x (Some own) (state_of b)) c.in-Some.ensures.owner (owner_taken f (state_of b) o own name.0 identified still h.holds)) h

pub returns-clause-others : goal.returns-clause-others
returns-clause-others c = c.import_owner.ensures.others
