use Rattle.std.proofs.Common.{Contains, List, refl, subst, sym}
use Rattle.wac_wit_scopes.specs.Scopes.{IsKnownScope, scope_syntax}
use Rattle.wac_wit_validation.specs.Listing.{IsScopeListed}
use Rattle.wac_wit_scopes.specs.declared.scopes.ScopeItems.{ScopeItems}
use Rattle.wac_wit_validation.proofs.ListingFacts.{listed_scopes}
use Rattle.wac_wit_validation_types.proofs.MarkFacts.{AllBelow-contains, AllBelow-more, AllBelow-none}
use Rattle.wac_wit_validation.proofs.validator.Validator.are_scopes_listed.Goals as goal

pub loop-index-init : goal.loop-index-init
loop-index-init c = λ of knows. AllBelow-none (λ (w : ScopeItems). IsKnownScope of w → IsScopeListed of c.args.listed.now (scope_syntax w)) c.deref-scope-items.result.now

pub loop-index-preserved : goal.loop-index-preserved
loop-index-preserved c = λ of knows. AllBelow-more (λ (w : ScopeItems). IsKnownScope of w → IsScopeListed of c.args.listed.now (scope_syntax w)) c.deref-scope-items.result.now c.loop-index.index c.scope-item.result c.loop-index-test.true c.scope-item.is (c.loop-index.invariant of knows) (c.if-not-is_scope_listed.ensures refl of knows)

pub returns : goal.returns
returns c = λ is of knows.
    let scopes = c.deref-scope-items.result.now in
    listed_scopes of c.args.self.now c.args.listed.now knows (λ w among.
    AllBelow-contains (λ (w : ScopeItems). IsKnownScope of w → IsScopeListed of c.args.listed.now (scope_syntax w)) scopes c.loop-index.index w c.loop-index-test.false (c.loop-index.invariant of knows) (subst (λ (l : List ScopeItems). Contains l w) (sym c.deref-scope-items.ensures.value) among))
