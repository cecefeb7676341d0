use Rattle.std.proofs.Common.{◌≡◌, ℕ, ◌+◌, ◌-◌, Some, arith, ap, refl, subst, ◌∙◌}
use Rattle.wac_model.specs.Text.{Text}
use Rattle.wac_wit_validation_types.proofs.NewNameFacts.{AreRenamedFrom, AreRenamedFrom-put}
use Rattle.wac_wit_scopes.proofs.PathFacts.{read_at}
use Rattle.wac_wit_validation_types.proofs.new_names.NewNames.of_include.Goals as goal

pub loop-index-preserved-in-Continue-1 : goal.loop-index-preserved-in-Continue-1
loop-index-preserved-in-Continue-1 c =
    let renames = c.args.renames.now in
    let index = c.loop-index.index - 1 in
    let rename = c.in-Some.rename.now in
    let from : c.loop-index.index ≡ index + 1 = omega (arith, c.loop-index-test.true) in
    AreRenamedFrom-put renames c.loop-index.names c.put.new.self index rename (read_at renames index rename rename c.in-Some.ensures.lookup.0 c.in-Some.ensures.lookup.1 refl)
    (c.in_ok-put.ensures.same ∙ ap (λ (t : Text). Some t) c.local_name.ensures) c.in_ok-put.ensures.others (subst (λ (k : ℕ). AreRenamedFrom renames c.loop-index.names k) from c.loop-index.invariant)
