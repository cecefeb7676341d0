-- Files (WIT.md, "Top-level items" and "Package declaration").
use Rattle.std.specs.Prelude.{◌≡◌, ℕ, false, codes, List, [], ◌∷◌, ◌++◌, Option, Some, None}
use Rattle.wac_model.specs.Text.{Text}
use Rattle.wac_wit_syntax.specs.Completing.{IsShallow}
use Rattle.wac_wit_syntax.specs.Gates.{IsGates}
use Rattle.wac_wit_syntax.specs.Interfaces.{IsAlias, IsInterfaceItem}
use Rattle.wac_wit_syntax.specs.Lists.{IsBlock}
use Rattle.wac_wit_syntax.specs.Parts.{IsRead}
use Rattle.wac_wit_syntax.specs.Paths.{IsPackageName, IsPath}
use Rattle.wac_wit_syntax.specs.Productions.{◌▸◌, IsKind, IsName, IsWord, Nothing, Production, Source, token_at}
use Rattle.wac_wit_syntax.specs.Worlds.{IsWorldItem}
use Rattle.wac_wit_syntax.specs.declared.token.Token.{Token}
use Rattle.wac_wit_syntax.specs.declared.token.TokenKind.TheVariants.{End, Semicolon}
use Rattle.wac_wit_syntax.specs.declared.tree.Document.{Document}
use Rattle.wac_wit_syntax.specs.declared.tree.InterfaceDecl.{InterfaceDecl}
use Rattle.wac_wit_syntax.specs.declared.tree.NestedPackage.{NestedPackage}
use Rattle.wac_wit_syntax.specs.declared.tree.PackageName.{PackageName}
use Rattle.wac_wit_syntax.specs.declared.tree.TopItem.{TopItem}
use Rattle.wac_wit_syntax.specs.declared.tree.TopItem.TheVariants as item
use Rattle.wac_wit_syntax.specs.declared.tree.TopUse.{TopUse}
use Rattle.wac_wit_syntax.specs.declared.tree.WorldDecl.{WorldDecl}

-- toplevel-use-item ::= 'use' use-path ('as' id)? ';'
abbrev pub IsTopUse : TopUse → Production
IsTopUse u = IsWord (codes "use") ▸ IsPath u.path ▸ IsAlias false u.alias ▸ IsKind Semicolon

-- interface-item ::= gate 'interface' id '{' interface-items* '}'
abbrev pub IsInterface : InterfaceDecl → Production
IsInterface d = IsGates d.gates ▸ IsWord (codes "interface") ▸ IsName d.name ▸ IsBlock IsInterfaceItem d.items.items

-- world-item ::= gate 'world' id '{' world-items* '}'
abbrev pub IsWorld : WorldDecl → Production
IsWorld d = IsGates d.gates ▸ IsWord (codes "world") ▸ IsName d.name ▸ IsBlock IsWorldItem d.items.items

-- package-items ::= toplevel-use-item | interface-item | world-item
abbrev pub IsTopItem : TopItem → Production
IsTopItem (item.Use u) = IsTopUse u
IsTopItem (item.Interface d) = IsInterface d
IsTopItem (item.World d) = IsWorld d

-- nested-package-definition ::= 'package' id ':' id .. '{' package-items* '}'
abbrev pub IsNested : NestedPackage → Production
IsNested p = IsWord (codes "package") ▸ IsPackageName p.name ▸ IsBlock IsTopItem p.items.items

-- (package-items | nested-package-definition)*, each kind in its order
pub data AreParts (s : Source) : List TopItem → List NestedPackage → ℕ → ℕ → Type 0 where
  none : {i : ℕ} → AreParts s [] [] i i
  one_more : (x : TopItem) (xs : List TopItem) {ps : List NestedPackage} {i k j : ℕ} → AreParts s xs ps i k → IsTopItem x s k j → AreParts s (xs ++ x ∷ []) ps i j
  nested : (p : NestedPackage) {xs : List TopItem} (ps : List NestedPackage) {i k j : ℕ} → AreParts s xs ps i k → IsNested p s k j → AreParts s xs (ps ++ p ∷ []) i j

-- package-decl ::= 'package' id ':' id .. ';', which may be missing
abbrev pub MayBeNamed : Option PackageName → Production
MayBeNamed None = Nothing
MayBeNamed (Some name) = IsWord (codes "package") ▸ IsPackageName name ▸ IsKind Semicolon

-- wit-file ::= package-decl? (package-items | nested-package-definition)*
abbrev pub IsDocument : Document → Production
IsDocument d = MayBeNamed d.«package» ▸ (λ s i j. AreParts s d.items.items d.packages.items i j)

-- The text says some tokens, and those from the first to the end of the text are the document.
abbrev pub Says : Text → Document → Type 0
Says text d = (tokens : List Token) × IsRead text tokens × ((j : ℕ) × IsDocument d (record { text = text; tokens = tokens }) 0 j × ((token_at (record { text = text; tokens = tokens }) j).kind ≡ End))

-- at no place of what the text says are as many angles open as types may nest deep
abbrev pub IsShallowText : Text → Type 0
IsShallowText text = (tokens : List Token) → IsRead text tokens → IsShallow (record { text = text; tokens = tokens })
