use Rattle.std.proofs.Common.{◌≡◌, Some, string_bytes, refl, sym, subst, ◌∙◌}
use Rattle.std.specs.Prelude.{IsSome}
use Rattle.wac_names.specs.Class.{class_of}
use Rattle.wac_aggregator_taking.specs.Takes.{shared_in}
use Rattle.wac_aggregator_taking.proofs.growing.merge_shared.Goals as goal

pub identifier-requires : goal.identifier-requires
identifier-requires c = record { stands = c.requires.taken.taken.stands; has = subst (λ o. IsSome o) (sym c.requires.shared.1) refl }

pub grow-requires-clause-identified : goal.grow-requires-clause-identified
grow-requires-clause-identified c = c.in_ok-name.ensures

pub grow-requires-clause-shared : goal.grow-requires-clause-shared
grow-requires-clause-shared c =
    let both : Some c.requires.shared.0 ≡ Some (string_bytes c.in_ok-name.name) = sym c.requires.shared.1 ∙ c.in_ok-name.ensures in
    let same : c.requires.shared.0 ≡ string_bytes c.in_ok-name.name = cc in
    subst (λ n. shared_in c.args.state.now.shared.entries (class_of n) ≡ Some c.args.own) same c.requires.shared.2
