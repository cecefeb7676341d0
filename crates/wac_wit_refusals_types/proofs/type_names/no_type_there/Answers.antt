use Rattle.std.proofs.Common.{◌≡◌, arith, false, true}
use Rattle.wac_wit_refusals_sites.specs.declared.type_items.PlacedType.{PlacedType}
use Rattle.wac_wit_scopes.proofs.ScopeFacts.{All-end, All-next}
use Rattle.wac_wit_scopes.specs.WitSources.{IsEnabled, ident_text}
use Rattle.wac_wit_refusals_types.proofs.type_names.no_type_there.Goals as goal

pub loop-placed-init : goal.loop-placed-init
loop-placed-init c of knows k d h = absurd (omega (arith, h))

pub loop-placed-preserved : goal.loop-placed-preserved
loop-placed-preserved c of knows =
    let P : PlacedType → Type 0 = λ p. ident_text p.ty.now.name ≡ ident_text c.args.name.now → IsEnabled of p.ty.now.gates → ⊥ in
    All-next c.args.types.now c.loop-placed.placed-index P P c.placed-item.result c.loop-placed-test.true c.placed-item.is (λ y h. h) (c.loop-placed.invariant of knows)
    (λ named enabled. let yes : c.type_gives.result ≡ true = c.type_gives.ensures of knows named enabled in let no : c.type_gives.result ≡ false = c.if-type_gives.false in absurd (cc))

pub returns : goal.returns
returns c is of knows p among =
    let P : PlacedType → Type 0 = λ q. ident_text q.ty.now.name ≡ ident_text c.args.name.now → IsEnabled of q.ty.now.gates → ⊥ in
    All-end c.args.types.now c.loop-placed.placed-index P c.loop-placed-test.false (c.loop-placed.invariant of knows) p among
