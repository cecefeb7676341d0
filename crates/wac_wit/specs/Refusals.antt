-- How an error lists what is refused of files.
use Rattle.std.specs.Prelude.{◌≡◌, ◌<◌, ◌≤◌, All, List, length}
use Rattle.std.specs.List.{AllAdjacentBelow}
use Rattle.wac_wit.specs.declared.reading.PairError.{PairError}
use Rattle.wac_wit.specs.declared.reading.PairError.TheVariants.{Old, New}
use Rattle.wac_wit_names.specs.declared.error.WitError.{WitError}
use Rattle.wac_wit_names.specs.declared.error.WitError.TheVariants.{Memory, Missing, Refused}
use Rattle.wac_wit_names.specs.declared.error.WitRefusal.{WitRefusal}
use Rattle.wac_wit_names.specs.declared.refusals.TheConstants.{MAX_REFUSALS}
use Rattle.wac_wit_names.specs.declared.sources.SourceFile.{SourceFile}

-- a refusal is no later than another one: by their files, and in one file by where their places begin
pub record IsNoLater (r q : WitRefusal) : Type 0 where
  pub file : r.file ≤ q.file
  pub place : r.file ≡ q.file → r.refusal.span.start ≤ q.refusal.span.start

-- one refusal at least and MAX_REFUSALS at most, each of one of the files, and in order
pub record AreRefusalsOf (files : List SourceFile) (rs : List WitRefusal) : Type 0 where
  pub some : 0 < length rs
  pub bound : length rs ≤ MAX_REFUSALS
  pub within : All (λ (r : WitRefusal). r.file < length files) rs
  pub ordered : AllAdjacentBelow IsNoLater rs (length rs)

-- an error that refuses files lists such refusals
abbrev pub TellsRefusals : List SourceFile → WitError → Type 0
TellsRefusals files (Refused rs) = AreRefusalsOf files rs.items
TellsRefusals files Missing = Unit {0}
TellsRefusals files Memory = Unit {0}

-- so does one that refuses old files, or new ones
abbrev pub TellsPairRefusals : List SourceFile → List SourceFile → PairError → Type 0
TellsPairRefusals old new (Old e) = TellsRefusals old e
TellsPairRefusals old new (New e) = TellsRefusals new e
