-- Versions, the names of packages, and paths (WIT.md, "Package declaration" and "Item: `use`").
use Rattle.std.specs.Prelude.{◌≡◌, ◌⊎◌, ◌+◌, Bool, false, Option, Some, None, Ok, string_bytes}
use Rattle.std.specs.List.{list_any, slice_split}
use Rattle.semver.specs.Parse.{Parts, version_parts}
use Rattle.wac_model.specs.Text.{Text}
use Rattle.wac_wit_syntax.specs.Bytes.{is_dot}
use Rattle.wac_wit_syntax.specs.Completing.{AnyOf}
use Rattle.wac_wit_syntax.specs.Productions.{◌▸◌, IsKind, IsName, Nothing, Production, Spanning, is_keyword, token_at, token_text}
use Rattle.wac_wit_syntax.specs.declared.token.TokenKind.TheVariants.{At, Colon, Integer, Slash, Version}
use Rattle.wac_wit_syntax.specs.declared.tree.Gate.{Gate}
use Rattle.wac_wit_syntax.specs.declared.tree.PackageName.{PackageName}
use Rattle.wac_wit_syntax.specs.declared.tree.Path.{Path}

-- whether a keyword stands among the identifiers of a text
abbrev pub has_keyword : Text → Bool
has_keyword w = list_any is_keyword (slice_split is_dot w)

-- A version of SemVer 2.0.0, with numbers below 2^64. None of the identifiers behind them is a keyword:
-- the standard doesn't say so, but the readers in use refuse one.
abbrev pub IsSemVer : Text → Type 0
IsSemVer w = (parts : Parts) × (version_parts w ≡ Ok parts) × (has_keyword parts.3 ≡ false) × (has_keyword parts.4 ≡ false)

-- valid-semver
abbrev pub IsVersion : Gate → Production
IsVersion version = λ s i j.
    (((token_at s i).kind ≡ Version) ⊎ ((token_at s i).kind ≡ Integer)) × (string_bytes version.text ≡ token_text s i)
    × IsSemVer (string_bytes version.text) × (version.span ≡ (token_at s i).span) × (j ≡ i + 1)

-- ('@' valid-semver)?
abbrev pub IsSuffix : Option Gate → Production
IsSuffix None = Nothing
IsSuffix (Some version) = IsKind At ▸ IsVersion version

-- id ':' id ('@' valid-semver)?
abbrev pub IsPackageName : PackageName → Production
IsPackageName p = Spanning p.span (IsName p.namespace ▸ IsKind Colon ▸ IsName p.name ▸ IsSuffix p.version)

-- Behind the name of a package stands the one in it, and then the version; the place of the package
-- is that of its two names.
abbrev pub IsPathWith : Path → Option PackageName → Production
IsPathWith path None = IsName path.name
IsPathWith path (Some p) =
    Spanning p.span (IsName p.namespace ▸ IsKind Colon ▸ IsName p.name) ▸ IsKind Slash ▸ IsName path.name ▸ IsSuffix p.version

-- use-path ::= id | id ':' id '/' id ('@' valid-semver)?
abbrev pub IsPath : Path → Production
IsPath path = Spanning path.span (IsPathWith path path.package)

-- what stands behind the first name of a path
abbrev pub IsPathRest : Production
IsPathRest = λ s i j. (j ≡ i) ⊎ (IsKind Colon ▸ AnyOf IsName ▸ IsKind Slash ▸ AnyOf IsName ▸ AnyOf IsSuffix) s i j
