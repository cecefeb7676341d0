use Rattle.std.proofs.Common.{◌≡◌, arith, false, true}
use Rattle.wac_wit_refusals_sites.specs.TypeLists.{GivesLocalName}
use Rattle.wac_wit_refusals_sites.specs.declared.type_items.PlacedUse.{PlacedUse}
use Rattle.wac_wit_scopes.proofs.ScopeFacts.{All-end, All-next}
use Rattle.wac_wit_scopes.specs.WitSources.{IsEnabled, ident_text}
use Rattle.wac_wit_refusals_types.proofs.type_names.no_use_there.Goals as goal

pub loop-placed-init : goal.loop-placed-init
loop-placed-init c of knows k d h = absurd (omega (arith, h))

pub loop-placed-preserved : goal.loop-placed-preserved
loop-placed-preserved c of knows =
    let P : PlacedUse → Type 0 = λ p. GivesLocalName p.used.now (ident_text c.args.name.now) → IsEnabled of p.used.now.gates → ⊥ in
    All-next c.args.uses.now c.loop-placed.placed-index P P c.placed-item.result c.loop-placed-test.true c.placed-item.is (λ y h. h) (c.loop-placed.invariant of knows)
    (λ given enabled. let yes : c.use_gives.result ≡ true = c.use_gives.ensures of knows given enabled in let no : c.use_gives.result ≡ false = c.if-use_gives.false in absurd (cc))

pub returns : goal.returns
returns c is of knows p among =
    let P : PlacedUse → Type 0 = λ q. GivesLocalName q.used.now (ident_text c.args.name.now) → IsEnabled of q.used.now.gates → ⊥ in
    All-end c.args.uses.now c.loop-placed.placed-index P c.loop-placed-test.false (c.loop-placed.invariant of knows) p among
