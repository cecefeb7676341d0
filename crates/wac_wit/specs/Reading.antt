-- What is made of files, before it is known to be what their texts denote.
use Rattle.std.specs.Prelude.{◌≡◌, ℕ, IfErr, List, Result, Some, slice_get, string_bytes}
use Rattle.wac_component.specs.Collection.{Collection}
use Rattle.wac_wit.specs.Read.{AreReadPackages}
use Rattle.wac_wit_names.specs.declared.error.WitError.{WitError}
use Rattle.wac_wit_names.specs.declared.features.Features.{Features}
use Rattle.wac_wit_names.specs.declared.sources.SourceFile.{SourceFile}
use Rattle.wac_wit_names.specs.declared.error.WitRefusal.{WitRefusal}
use Rattle.wac_wit_refusals.specs.Reasons.{AllRefusedFor, AreRefusedFor, IsNotWit}
use Rattle.wac_wit_scopes.specs.Parsed.{AreParsed}
use Rattle.wac_wit_syntax.specs.Faults.{ArePlacesIn}
use Rattle.wac_wit_syntax.specs.declared.error.Refusal.{Refusal}
use Rattle.wac_wit_syntax.specs.declared.error.SyntaxError.{SyntaxError}
use Rattle.wac_wit_syntax.specs.declared.error.SyntaxError.TheVariants.{Memory, Refused}
use Rattle.wac_wit.specs.declared.reading.PairError.{PairError}
use Rattle.wac_wit.specs.declared.reading.PairError.TheVariants.{Old, New}
use Rattle.wac_wit.specs.declared.packages.Resolved.{Resolved}
use Rattle.wac_wit.specs.declared.packages.WitPackage.{WitPackage}
use Rattle.wac_wit_validation.specs.declared.listing.PackageListing.{PackageListing}
use Rattle.wac_wit_scopes.specs.WitSources.{WitSources, sources_of}
use Rattle.wac_wit_scopes.specs.declared.trees.SourceTrees.{SourceTrees}

-- files with their trees, as what is read
abbrev pub sources_in : SourceTrees → WitSources
sources_in trees = sources_of trees.files.now trees.documents.now trees.features

-- what was made of files is what they denote
abbrev pub ResolvesSources : Collection → Resolved → Type 0
ResolvesSources c r = AreReadPackages (sources_in r.sources) c r.wit

-- the listing is that of a package
pub record IsListing (l : PackageListing) (p : WitPackage) : Type 0 where
  pub name : l.«package».now ≡ string_bytes p.name
  pub version : l.version.now ≡ p.version
  pub group : l.group ≡ p.group
  pub interfaces : l.interfaces.now ≡ p.interfaces
  pub worlds : l.worlds.now ≡ p.worlds

-- a file's text isn't WIT, for what is refused at these places of it
pub record AreMisread (files : List SourceFile) (file : ℕ) (rs : List Refusal) : Type 0 where
  pub is : SourceFile
  pub at : slice_get files file ≡ Some is
  pub wrong : IsNotWit (string_bytes is.text)
  pub places : ArePlacesIn (string_bytes is.text) rs

abbrev pub IsMisread : List SourceFile → ℕ → SyntaxError → Type 0
IsMisread files file (Refused rs) = AreMisread files file rs.items
IsMisread files file Memory = Unit {0}

-- of files of which this is so, the reasons of the second refusals hold where those of the first do
abbrev pub AreStillRefused : (List SourceFile → Type 0) → List WitRefusal → List WitRefusal → Type 0
AreStillRefused Of before after = (files : List SourceFile) (features : Features) → Of files → AllRefusedFor files features before → AllRefusedFor files features after

-- where the sources are the trees of their files, each reason of the error holds
abbrev pub IsRefusedIn : {A : Type 0} → SourceTrees → Result A WitError → Type 0
IsRefusedIn of r = AreParsed of.files.now of.documents.now → IfErr r (AreRefusedFor of.files.now of.features)

-- so does each reason of the error of old files and new ones
abbrev pub IsPairRefused : List SourceFile → List SourceFile → Features → PairError → Type 0
IsPairRefused old new features (Old e) = AreRefusedFor old features e
IsPairRefused old new features (New e) = AreRefusedFor new features e
