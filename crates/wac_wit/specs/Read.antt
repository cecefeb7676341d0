-- What read packages are: what the texts of their files say.
use Rattle.std.specs.Prelude.{◌≡◌, Contains, IsSome, List, Option, String, string_bytes}
use Rattle.std.specs.HashMap.{get_by_text}
use Rattle.std.specs.Option.{option_map}
use Rattle.std.specs.declared.alloc.Global.{Global}
use Rattle.wac_model.specs.Text.{Text}
use Rattle.wac_component.specs.Collection.{Collection}
use Rattle.wac_component.specs.Id.{Id}
use Rattle.wac_wit_names.specs.declared.features.Features.{Features}
use Rattle.wac_wit_names.specs.declared.sources.SourceFile.{SourceFile}
use Rattle.wac_wit_syntax.specs.declared.tree.Document.{Document}
use Rattle.wac_wit_validation.specs.WorldChecking.{KnowsWorlds}
use Rattle.wac_wit_scopes.specs.WitSources.{HasInterface, IsInGroup, IsScopeOf, PackageId, ScopeSyntax, WitSources, sources_of}
use Rattle.wac_wit_validation_types.specs.OneMeaning.{ExportsStandForOne}
use Rattle.wac_wit_validation_types.specs.Placed.{HasWorld, IsUnambiguous, package_text}
use Rattle.wac_wit_syntax.specs.declared.tree.InterfaceDecl.{InterfaceDecl}
use Rattle.wac_wit_syntax.specs.declared.tree.WorldDecl.{WorldDecl}
use Rattle.wac_wit_validation.specs.Validated.{IsInterfaceOf, IsWorldOf}
use Rattle.wac_wit_validation.specs.declared.validator.Validator.{Validator}
use Rattle.wac_wit_scopes.specs.Parsed.{AreParsed}
use Rattle.wac_wit.specs.declared.packages.Wit.{Wit}
use Rattle.wac_wit.specs.declared.packages.WitPackage.{WitPackage}

abbrev pub version_bytes : WitPackage → Option Text
version_bytes p = option_map string_bytes p.version

-- each interface of a package that was read is the one of its name in the sources' package: its entry's tree is what
-- its text denotes
abbrev pub AreReadInterfaces : WitSources → Collection → WitPackage → Type 0
AreReadInterfaces of c p = (n : String Global) (id : Id) → Contains p.interfaces.entries (n, id) → IsInterfaceOf of c (string_bytes p.name) (version_bytes p) (string_bytes n) id

-- so is each world
abbrev pub AreReadWorlds : WitSources → Collection → WitPackage → Type 0
AreReadWorlds of c p = (n : String Global) (id : Id) → Contains p.worlds.entries (n, id)
    → IsWorldOf of c (string_bytes p.name) (version_bytes p) (string_bytes n) id

pub record IsReadPackage (of : WitSources) (c : Collection) (p : WitPackage) : Type 0 where
  pub interfaces : AreReadInterfaces of c p
  pub worlds : AreReadWorlds of c p

abbrev pub IsEachRead : WitSources → Collection → Wit → Type 0
IsEachRead of c wit = (p : WitPackage) → Contains wit.packages.items p → IsReadPackage of c p

-- one of the packages has this name and this version, and the group of its files, and this holds of it
pub record HasPackage (of : WitSources) (ps : List WitPackage) (q : PackageId) (Has : WitPackage → Type 0) : Type 0 where
  pub is : WitPackage
  pub among : Contains ps is
  pub name : package_text q ≡ string_bytes is.name
  pub version : q.version ≡ version_bytes is
  pub group : IsInGroup of q is.group
  pub has : Has is

-- the package is that of a scope
pub record IsOfScope (of : WitSources) (p : WitPackage) : Type 0 where
  pub scope : ScopeSyntax
  pub is_scope : IsScopeOf of scope
  pub name : package_text scope.package ≡ string_bytes p.name
  pub version : scope.package.version ≡ version_bytes p
  pub group : IsInGroup of scope.package p.group

-- nothing is left out: each interface and each world that is read is in the package of its name and version; and each package is
-- one that is read
pub record ListsAll (of : WitSources) (ps : List WitPackage) : Type 0 where
  pub interfaces : (w : ScopeSyntax) (n : Text) (d : InterfaceDecl) → HasInterface of w n d → HasPackage of ps w.«package» (λ p. IsSome (get_by_text p.interfaces n))
  pub worlds : (w : ScopeSyntax) (n : Text) (d : WorldDecl) → HasWorld of w n d → HasPackage of ps w.«package» (λ p. IsSome (get_by_text p.worlds n))
  pub of_texts : (p : WitPackage) → Contains ps p → IsOfScope of p

-- what is read says one thing: a path leads to one interface or world at most, and in an interface the name of an export stands for
-- one item at most
pub record SaysOneThing (of : WitSources) : Type 0 where
  pub paths : IsUnambiguous of
  pub exports : ExportsStandForOne of

-- each is so, they are all, and their texts say one thing
pub record AreReadPackages (of : WitSources) (c : Collection) (wit : Wit) : Type 0 where
  pub each : IsEachRead of c wit
  pub all : ListsAll of wit.packages.items
  pub clear : SaysOneThing of

-- the packages are those of files: there is a document of each file, which its text says, and the interfaces and the worlds are what
-- these documents denote
pub record AreOfTexts (files : List SourceFile) (features : Features) (c : Collection) (wit : Wit) : Type 0 where
  pub documents : List Document
  pub parsed : AreParsed files documents
  pub listed : AreReadPackages (sources_of files documents features) c wit

-- what was known of the sources is known still
pub record KeepsKnowing (old new : Validator) : Type 0 where
  pub types : new.types.now ≡ old.types.now
  pub knows : (of : WitSources) → KnowsWorlds of old → KnowsWorlds of new
