use Rattle.std.proofs.Common.{◌≡◌, Bool, true, false, refl, subst}
use mathlib.Core.Bool.{beq, not}
use Rattle.std.proofs.lemmas.Option.{MatchOption-at_some}
use Rattle.wac_wit_refusals_sites.specs.Paths.{LeadsToItem}
use Rattle.wac_wit_refusals_worlds.specs.SaidTwice.{SaysPath}
use Rattle.wac_wit_scopes.specs.Scopes.{scope_syntax}
use Rattle.wac_wit_scopes.specs.declared.scopes.ScopeItems.{ScopeItems}
use Rattle.wac_wit_syntax.specs.declared.tree.TopItem.{TopItem}
use Rattle.wac_wit_refusals_worlds.proofs.said_twice.says.Goals as goal

same_bool : (a b : Bool) → not (beq a b) ≡ false → a ≡ b
same_bool true true h = refl
same_bool true false h = absurd (cc)
same_bool false true h = absurd (cc)
same_bool false false h = refl

pub returns-in-Some-2 : goal.returns-in-Some-2
returns-in-Some-2 c is of knows placed =
    let path = c.in-Some.said.path.now in
    let found = MatchOption-at_some _ _ c.in-Some-2.led c.in-Some-2.is c.in_ok-led.ensures of knows in
    let scope = c.are_one.ensures.scope is c.args.judge.now found.placed placed in
    let item = c.are_one.ensures.item is c.args.judge.now found.placed placed in
    record {
      path = path;
      says = subst (λ (b : Bool). SaysPath of c.args.item.now b path) (same_bool c.in-Some.said.is_export c.args.is_export c.if-said-is_export.false) (c.in-Some.ensures of knows);
      leads = subst (λ (p : ScopeItems × TopItem). LeadsToItem of (scope_syntax c.args.scope.now) path (scope_syntax p.0) p.1) (λ k. (scope k, item k)) found.leads;
    }
