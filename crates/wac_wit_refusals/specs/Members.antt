-- Names that are given twice in files and in packages (WIT.md, "WIT Packages and `use`" and "Package Format").
use Rattle.std.specs.Prelude.{◌≡◌, ℕ, List, Contains, Some, None, slice_get}
use Rattle.wac_model.specs.Text.{Text}
use Rattle.wac_wit_refusals_sites.specs.Paths.{ident_of_item}
use Rattle.wac_wit_refusals_sites.specs.Sites.{alias_ident}
use Rattle.wac_wit_scopes.specs.WitSources.{IsScopeAt, IsScopeOf, PackageId, ScopeSyntax, WitSources, ident_text}
use Rattle.wac_wit_syntax.specs.declared.positions.Span.{Span}
use Rattle.wac_wit_syntax.specs.declared.tree.Ident.{Ident}
use Rattle.wac_wit_syntax.specs.declared.tree.TopItem.{TopItem}
use Rattle.wac_wit_syntax.specs.declared.tree.TopItem.TheVariants as top
use Rattle.wac_wit_syntax.specs.declared.tree.TopUse.{TopUse}

-- the name that a `use` outside of interfaces and worlds gives
abbrev pub used_ident : TopUse → Ident
used_ident u = alias_ident u.path.name u.alias

-- the item is a `use` that gives this name
abbrev pub GivesName : TopItem → Text → Type 0
GivesName (top.Use u) n = ident_text (used_ident u) ≡ n
GivesName (top.Interface d) n = ⊥
GivesName (top.World d) n = ⊥

-- a `use` at another index gives this name
pub record IsGivenElsewhere (ts : List TopItem) (index : ℕ) (n : Text) : Type 0 where
  pub other : ℕ
  pub elsewhere : other ≡ index → ⊥
  pub item : TopItem
  pub at : slice_get ts other ≡ Some item
  pub gives : GivesName item n

-- a name that a `use` gives at this place is given by another one too
pub record IsGivenTwice (ts : List TopItem) (span : Span) : Type 0 where
  pub index : ℕ
  pub used : TopUse
  pub at : slice_get ts index ≡ Some (top.Use used)
  pub stands : (used_ident used).span ≡ span
  pub twice : IsGivenElsewhere ts index (ident_text (used_ident used))

-- a file gives a name twice by `use`
pub record IsUseTwice (of : WitSources) (file : ℕ) (span : Span) : Type 0 where
  pub scope : ScopeSyntax
  pub at : IsScopeAt of file scope
  pub twice : IsGivenTwice scope.items span

-- the item is an interface or a world of this name
pub record NamesMember (t : TopItem) (n : Text) : Type 0 where
  pub ident : Ident
  pub is : ident_of_item t ≡ Some ident
  pub named : ident_text ident ≡ n

-- an interface or a world of this name is among items
pub record HasMemberIn (ts : List TopItem) (n : Text) : Type 0 where
  pub item : TopItem
  pub among : Contains ts item
  pub is : NamesMember item n

-- a package has an interface or a world of this name, whether a feature hides it or not
pub record HasMember (of : WitSources) (p : PackageId) (n : Text) : Type 0 where
  pub scope : ScopeSyntax
  pub is_scope : IsScopeOf of scope
  pub same : scope.package ≡ p
  pub has : HasMemberIn scope.items n

-- what the package has is used under its own name
pub record UsesOwn (u : TopUse) : Type 0 where
  pub own : u.path.package ≡ None
  pub same : ident_text u.path.name ≡ ident_text (used_ident u)

-- a `use` gives a name at this place that the package has
pub record IsTakenIn (of : WitSources) (w : ScopeSyntax) (span : Span) : Type 0 where
  pub used : TopUse
  pub among : Contains w.items (top.Use used)
  pub stands : (used_ident used).span ≡ span
  pub other : UsesOwn used → ⊥
  pub taken : HasMember of w.package (ident_text (used_ident used))

-- a file gives a name by `use` that the package has
pub record IsTakenByPackage (of : WitSources) (file : ℕ) (span : Span) : Type 0 where
  pub scope : ScopeSyntax
  pub at : IsScopeAt of file scope
  pub taken : IsTakenIn of scope span

-- an interface or a world at another index has this name
pub record HasMemberBeside (ts : List TopItem) (index : ℕ) (n : Text) : Type 0 where
  pub other : ℕ
  pub elsewhere : other ≡ index → ⊥
  pub item : TopItem
  pub at : slice_get ts other ≡ Some item
  pub is : NamesMember item n

-- an interface or a world of a package has this name, in another file
pub record HasMemberInOther (of : WitSources) (file : ℕ) (p : PackageId) (n : Text) : Type 0 where
  pub other : ℕ
  pub elsewhere : other ≡ file → ⊥
  pub scope : ScopeSyntax
  pub at : IsScopeAt of other scope
  pub same : scope.package ≡ p
  pub has : HasMemberIn scope.items n

-- an interface or a world of this name stands elsewhere in the package
pub data HasMemberElsewhere (of : WitSources) (file : ℕ) (w : ScopeSyntax) (index : ℕ) (n : Text) : Type 0 where
  at_index : HasMemberBeside w.items index n → HasMemberElsewhere of file w index n
  at_file : HasMemberInOther of file w.package n → HasMemberElsewhere of file w index n

-- the name of an interface or a world stands at this place, and the package has another one of the name
pub record IsTwiceIn (of : WitSources) (file : ℕ) (w : ScopeSyntax) (span : Span) : Type 0 where
  pub index : ℕ
  pub item : TopItem
  pub at : slice_get w.items index ≡ Some item
  pub ident : Ident
  pub is : ident_of_item item ≡ Some ident
  pub stands : ident.span ≡ span
  pub twice : HasMemberElsewhere of file w index (ident_text ident)

-- a package has two interfaces or worlds of a name
pub record IsMemberTwice (of : WitSources) (file : ℕ) (span : Span) : Type 0 where
  pub scope : ScopeSyntax
  pub at : IsScopeAt of file scope
  pub twice : IsTwiceIn of file scope span
