use Rattle.std.proofs.Common.{◌≡◌, arith, false, true}
use Rattle.wac_wit_refusals_sites.specs.TypeLists.{GivesLocalName}
use Rattle.wac_wit_refusals_sites.specs.declared.type_items.PlacedUse.{PlacedUse}
use Rattle.wac_wit_scopes.proofs.ScopeFacts.{All-end, All-next}
use Rattle.wac_wit_scopes.specs.WitSources.{ident_text}
use Rattle.wac_wit_refusals_types.proofs.type_names.no_use_gives.Goals as goal

pub loop-placed-init : goal.loop-placed-init
loop-placed-init c k d h = absurd (omega (arith, h))

pub loop-placed-preserved : goal.loop-placed-preserved
loop-placed-preserved c =
    let P : PlacedUse → Type 0 = λ p. GivesLocalName p.used.now (ident_text c.args.name.now) → ⊥ in
    All-next c.args.uses.now c.loop-placed.placed-index P P c.placed-item.result c.loop-placed-test.true c.placed-item.is (λ y h. h) c.loop-placed.invariant
    (λ given. let yes : c.gives.result ≡ true = c.gives.ensures.1 given in let no : c.gives.result ≡ false = c.if-gives.false in absurd (cc))

pub returns : goal.returns
returns c is p among =
    let P : PlacedUse → Type 0 = λ q. GivesLocalName q.used.now (ident_text c.args.name.now) → ⊥ in
    All-end c.args.uses.now c.loop-placed.placed-index P c.loop-placed-test.false c.loop-placed.invariant p among
