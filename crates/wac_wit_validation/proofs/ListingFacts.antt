-- Where what is said of each scope's package lists its items, nothing is left out.
use Rattle.std.proofs.Common.{◌∙◌, Contains, List, Some, ap, subst}
use Rattle.std.proofs.lemmas.Option.{slice_get-get_or}
use Rattle.wac_wit_syntax.specs.declared.tree.TopItem.TheVariants as top
use Rattle.wac_wit_scopes.specs.Scopes.{IsKnownScope, scope_syntax}
use Rattle.wac_wit_validation.specs.Checking.{Knows}
use Rattle.wac_wit_validation.specs.Listing.{AreAllListed, IsOfText, IsScopeListed, ListsInterface, ListsWorld}
use Rattle.wac_wit_scopes.specs.WitSources.{IsScopeOf, ScopeSyntax, WitSources}
use Rattle.wac_wit_validation.specs.declared.listing.PackageListing.{PackageListing}
use Rattle.wac_wit_scopes.specs.declared.scopes.ScopeItems.{ScopeItems}
use Rattle.wac_wit_validation.specs.declared.validator.Validator.{Validator}

-- the scopes that were found are all
pub listed_scopes : (of : WitSources) (v : Validator) (ls : List PackageListing) → Knows of v → ((w : ScopeItems) → Contains v.scopes.items w → IsKnownScope of w → IsScopeListed of ls (scope_syntax w)) → (w : ScopeSyntax) → IsScopeOf of w → IsScopeListed of ls w
listed_scopes of v ls knows all w is =
    let s = knows.all_scopes w is in
    let known = knows.scopes s.among.0 s.scope (slice_get-get_or v.scopes.items s.among.0 s.scope s.among.1 ∙ ap Some s.among.2) in
    subst (IsScopeListed of ls) s.is (all s.scope s.among known)

pub AreAllListed-scopes : (of : WitSources) (ls : List PackageListing) → ((w : ScopeSyntax) → IsScopeOf of w → IsScopeListed of ls w) → ((l : PackageListing) → Contains ls l → IsOfText of l) → AreAllListed of ls
AreAllListed-scopes of ls all texts = record {
  interfaces = λ w n d has.
      let l = all w has.scope in
      (l.0, l.1, l.2, subst (ListsInterface l.0) has.named (l.3 (top.Interface d) has.item has.there));
  worlds = λ w n d has.
      let l = all w has.scope in
      (l.0, l.1, l.2, subst (ListsWorld l.0) has.named (l.3 (top.World d) has.item has.there));
  of_texts = texts;
}
