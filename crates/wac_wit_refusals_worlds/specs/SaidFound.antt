-- What is known of a world that imports or exports what was found.
use Rattle.std.specs.Prelude.{ℕ, Bool, List}
use Rattle.wac_wit_refusals_worlds.specs.SaidTwice.{IsSaidElsewhere, SaysMember}
use Rattle.wac_wit_refusals_sites.specs.declared.led.LedTo.{LedTo}
use Rattle.wac_wit_scopes.specs.Scopes.{scope_syntax}
use Rattle.wac_wit_scopes.specs.WitSources.{WitSources}
use Rattle.wac_wit_scopes.specs.declared.scopes.ScopeItems.{ScopeItems}
use Rattle.wac_wit_syntax.specs.declared.tree.WorldItem.{WorldItem}

-- an item exports or imports it
abbrev pub SaysFound : WitSources → ScopeItems → WorldItem → Bool → LedTo → Type 0
SaysFound of w i exports l = SaysMember of (scope_syntax w) i exports (scope_syntax l.scope) l.item.now

-- an item at another index does
abbrev pub IsFoundElsewhere : WitSources → ScopeItems → List WorldItem → ℕ → Bool → LedTo → Type 0
IsFoundElsewhere of w is index exports l = IsSaidElsewhere of (scope_syntax w) is index exports (scope_syntax l.scope) l.item.now
