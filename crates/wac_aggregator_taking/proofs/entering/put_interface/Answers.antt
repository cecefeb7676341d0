use Rattle.std.proofs.Common.{◌≡◌, List, Option, Some, ap, sym, subst, ◌∙◌}
use Rattle.std.specs.Option.{option_and_then}
use Rattle.wac_names.specs.Class.{Class}
use Rattle.wac_component.specs.Id.{Id}
use Rattle.wac_component.specs.Entries.{identifier_at}
use Rattle.wac_component.specs.Key.{interface_key}
use Rattle.wac_aggregator_taking.specs.Takes.{shared_in}
use Rattle.wac_aggregator_taking.proofs.Identifiers.{identified_by, unidentified}
use Rattle.wac_aggregator_taking.proofs.MemberPuts.{no_plain}
use Rattle.wac_aggregator_taking.proofs.entering.put_interface.Goals as goal

-- what is found under a class is what is found under the one that there is
found_of : (ss : List (Class × Id)) (class : Option Class) (q : Class) (found : Option Id) → class ≡ Some q → found ≡ option_and_then (shared_in ss) class → shared_in ss q ≡ found
found_of ss class q found is by = sym (by ∙ ap (option_and_then (shared_in ss)) is)

pub put_plain-requires-clause-plain : goal.put_plain-requires-clause-plain
put_plain-requires-clause-plain c = unidentified (identifier_at c.args.types.now (interface_key c.args.id)) (sym c.in_default.is ∙ c.requires.class)

pub merge_shared-requires-clause-shared : goal.merge_shared-requires-clause-shared
merge_shared-requires-clause-shared c =
    let k = identified_by (identifier_at c.args.types.now (interface_key c.args.id)) c.in-Some.class (sym c.in-Some.is ∙ c.requires.class) in
    (k.0, k.1, subst (λ q. shared_in c.args.state.now.shared.entries q ≡ Some c.in-Some-shared.own) k.2 (found_of c.args.state.now.shared.entries c.args.class c.in-Some.class c.args.shared.now c.in-Some.is c.requires.shared ∙ c.in-Some-shared.is))

pub put_shared-requires-clause-of : goal.put_shared-requires-clause-of
put_shared-requires-clause-of c = sym c.in-Some.is ∙ c.requires.class

pub put_shared-requires-clause-new : goal.put_shared-requires-clause-new
put_shared-requires-clause-new c = found_of c.args.state.now.shared.entries c.args.class c.in-Some.class c.args.shared.now c.in-Some.is c.requires.shared ∙ c.in-None.is

pub returns-in_default-clause-members : goal.returns-in_default-clause-members
returns-in_default-clause-members c = λ taken wit has all.
    absurd (no_plain c.args.types.now c.args.id (unidentified (identifier_at c.args.types.now (interface_key c.args.id)) (sym c.in_default.is ∙ c.requires.class)) wit)
