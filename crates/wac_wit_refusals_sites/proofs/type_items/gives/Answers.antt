use Rattle.std.proofs.Common.{◌≡◌, ◌∙◌, Contains, List, ap, arith, false, refl, subst, sym, true}
use Rattle.std.proofs.lemmas.Slice.Eq.{bytes_eq-Decides}
use Rattle.wac_wit_scopes.proofs.ScopeFacts.{All-end, All-next}
use Rattle.wac_wit_scopes.specs.WitSources.{given_name, ident_text}
use Rattle.wac_wit_syntax.specs.declared.tree.Rename.{Rename}
use Rattle.wac_wit_refusals_sites.proofs.TypeFacts.{alias_given, among_from}
use Rattle.wac_wit_refusals_sites.proofs.type_items.gives.Goals as goal

pub loop-rename-init : goal.loop-rename-init
loop-rename-init c k d h = absurd (omega (arith, h))

pub loop-rename-preserved : goal.loop-rename-preserved
loop-rename-preserved c =
    let P : Rename → Type 0 = λ r. given_name r.name r.alias ≡ ident_text c.args.name.now → ⊥ in
    All-next c.deref-rename-items.result.now c.loop-rename.rename-index P P c.rename-item.result c.loop-rename-test.true c.rename-item.is (λ y h. h) c.loop-rename.invariant
    (λ given. let yes : c.eq.result ≡ true = c.eq.ensures ∙ (bytes_eq-Decides _ _).1 (ap ident_text c.local_name.ensures ∙ alias_given c.rename-item.result.name c.rename-item.result.alias ∙ given) in let no : c.eq.result ≡ false = c.if-eq.false in absurd (cc))

pub returns-then-eq : goal.returns-then-eq
returns-then-eq c =
    let rename = c.rename-item.result in
    let among = among_from c.args.used.now.names.items c.deref-rename-items.result.now c.loop-rename.rename-index rename c.deref-rename-items.ensures.value c.loop-rename-test.true c.rename-item.is in
    (λ is. (rename, among, sym (alias_given rename.name rename.alias) ∙ ap ident_text (sym c.local_name.ensures) ∙ (bytes_eq-Decides _ _).0 (sym c.eq.ensures ∙ c.if-eq.true)), λ given. refl)

pub returns : goal.returns
returns c =
    let P : Rename → Type 0 = λ r. given_name r.name r.alias ≡ ident_text c.args.name.now → ⊥ in
    (λ is. absurd (cc), λ given. absurd (All-end c.deref-rename-items.result.now c.loop-rename.rename-index P c.loop-rename-test.false c.loop-rename.invariant given.0 (subst (λ (l : List Rename). Contains l given.0) (sym c.deref-rename-items.ensures.value) given.1) given.2))
