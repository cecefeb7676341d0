use Rattle.std.proofs.Common.{◌≡◌, ◌∙◌, arith, false, true, sym}
use Rattle.std.proofs.lemmas.Slice.Eq.{bytes_eq-Decides}
use Rattle.wac_wit_refusals_sites.proofs.Walks.{among_at}
use Rattle.wac_wit_scopes.proofs.ScopeFacts.{All-end, All-next}
use Rattle.wac_wit_scopes.specs.WitSources.{ident_text}
use Rattle.wac_wit_syntax.specs.declared.tree.Rename.{Rename}
use Rattle.wac_wit_refusals_worlds.proofs.sought_names.is_renamed.Goals as goal

pub loop-rename-init : goal.loop-rename-init
loop-rename-init c k d h = absurd (omega (arith, h))

pub loop-rename-preserved : goal.loop-rename-preserved
loop-rename-preserved c =
    let P : Rename → Type 0 = λ r. ident_text r.name ≡ ident_text c.args.name.now → ⊥ in
    All-next c.args.renames.now c.loop-rename.rename-index P P c.rename-item.result c.loop-rename-test.true c.rename-item.is (λ y h. h) c.loop-rename.invariant
    (λ named. let yes : c.eq.result ≡ true = c.eq.ensures ∙ (bytes_eq-Decides _ _).1 named in let no : c.eq.result ≡ false = c.if-eq.false in absurd (cc))

pub returns-clause-kept : goal.returns-clause-kept
returns-clause-kept c none r among =
    let P : Rename → Type 0 = λ q. ident_text q.name ≡ ident_text c.args.name.now → ⊥ in
    All-end c.args.renames.now c.loop-rename.rename-index P c.loop-rename-test.false c.loop-rename.invariant r among

pub returns-then-eq-clause-renamed : goal.returns-then-eq-clause-renamed
returns-then-eq-clause-renamed c is keeps = keeps c.rename-item.result (among_at c.args.renames.now c.loop-rename.rename-index c.rename-item.result c.loop-rename-test.true c.rename-item.is) ((bytes_eq-Decides _ _).0 (sym c.eq.ensures ∙ c.if-eq.true))
