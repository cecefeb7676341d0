use Rattle.std.proofs.Common.{◌≡◌, ◌∙◌, arith, false, true}
use Rattle.std.proofs.lemmas.Slice.Eq.{bytes_eq-Decides}
use Rattle.wac_wit_refusals_sites.specs.declared.type_items.PlacedType.{PlacedType}
use Rattle.wac_wit_scopes.proofs.ScopeFacts.{All-end, All-next}
use Rattle.wac_wit_scopes.specs.WitSources.{ident_text}
use Rattle.wac_wit_refusals_types.proofs.type_names.no_type_gives.Goals as goal

pub loop-placed-init : goal.loop-placed-init
loop-placed-init c k d h = absurd (omega (arith, h))

pub loop-placed-preserved : goal.loop-placed-preserved
loop-placed-preserved c =
    let P : PlacedType → Type 0 = λ p. ident_text p.ty.now.name ≡ ident_text c.args.name.now → ⊥ in
    All-next c.args.types.now c.loop-placed.placed-index P P c.placed-item.result c.loop-placed-test.true c.placed-item.is (λ y h. h) c.loop-placed.invariant
    (λ named. let yes : c.eq.result ≡ true = c.eq.ensures ∙ (bytes_eq-Decides _ _).1 named in let no : c.eq.result ≡ false = c.if-eq.false in absurd (cc))

pub returns : goal.returns
returns c is p among =
    let P : PlacedType → Type 0 = λ q. ident_text q.ty.now.name ≡ ident_text c.args.name.now → ⊥ in
    All-end c.args.types.now c.loop-placed.placed-index P c.loop-placed-test.false c.loop-placed.invariant p among
