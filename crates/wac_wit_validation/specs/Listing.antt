-- What is said that packages have, and that nothing is left out there.
use Rattle.std.specs.Prelude.{◌≡◌, List, Contains, IsSome, string_bytes}
use Rattle.std.specs.HashMap.{get_by_text}
use Rattle.std.specs.Option.{option_map}
use Rattle.wac_model.specs.Text.{Text}
use Rattle.wac_wit_syntax.specs.declared.tree.InterfaceDecl.{InterfaceDecl}
use Rattle.wac_wit_syntax.specs.declared.tree.TopItem.{TopItem}
use Rattle.wac_wit_syntax.specs.declared.tree.TopItem.TheVariants as top
use Rattle.wac_wit_syntax.specs.declared.tree.WorldDecl.{WorldDecl}
use Rattle.wac_wit_validation_types.specs.Placed.{HasWorld, package_text}
use Rattle.wac_wit_scopes.specs.WitSources.{HasInterface, IsEnabled, IsInGroup, IsScopeOf, PackageId, ScopeSyntax, WitSources, ident_text}
use Rattle.wac_wit_validation.specs.declared.listing.PackageListing.{PackageListing}

-- what is said is said of the package, and of the group of files that it is in
pub record IsListingOf (of : WitSources) (l : PackageListing) (p : PackageId) : Type 0 where
  pub name : package_text p ≡ l.«package».now
  pub version : p.version ≡ option_map string_bytes l.version.now
  pub group : IsInGroup of p l.group

abbrev pub ListsInterface : PackageListing → Text → Type 0
ListsInterface l n = IsSome (get_by_text l.interfaces.now n)

abbrev pub ListsWorld : PackageListing → Text → Type 0
ListsWorld l n = IsSome (get_by_text l.worlds.now n)

-- some of these is said of the package, and this holds of it
abbrev pub HasListing : WitSources → List PackageListing → PackageId → (PackageListing → Type 0) → Type 0
HasListing of ls p Has = (l : PackageListing) × Contains ls l × IsListingOf of l p × Has l

-- it is said of the package of a scope
pub record IsOfText (of : WitSources) (l : PackageListing) : Type 0 where
  pub scope : ScopeSyntax
  pub is_scope : IsScopeOf of scope
  pub listing : IsListingOf of l scope.package

-- each interface and each world that is read is listed, under its name in its package; and nothing is said of other packages
pub record AreAllListed (of : WitSources) (ls : List PackageListing) : Type 0 where
  pub interfaces : (w : ScopeSyntax) (n : Text) (d : InterfaceDecl) → HasInterface of w n d → HasListing of ls w.«package» (λ l. ListsInterface l n)
  pub worlds : (w : ScopeSyntax) (n : Text) (d : WorldDecl) → HasWorld of w n d → HasListing of ls w.«package» (λ l. ListsWorld l n)
  pub of_texts : (l : PackageListing) → Contains ls l → IsOfText of l

-- ---- facts of clauses

-- an item is listed, if it is an interface or a world that is there
abbrev pub IsItemListed : WitSources → PackageListing → TopItem → Type 0
IsItemListed of l (top.Use u) = Unit {0}
IsItemListed of l (top.Interface d) = IsEnabled of d.gates → ListsInterface l (ident_text d.name)
IsItemListed of l (top.World d) = IsEnabled of d.gates → ListsWorld l (ident_text d.name)

-- those of a package are
abbrev pub IsScopeListed : WitSources → List PackageListing → ScopeSyntax → Type 0
IsScopeListed of ls w = HasListing of ls w.«package» (λ l. (t : TopItem) → Contains w.items t → IsItemListed of l t)
