-- What the parts of a call that reads a name may answer.
use Rattle.std.specs.Prelude.{◌≡◌, ◌≢◌, ◌⊎◌, ◌∷◌}
use Rattle.std.specs.Fmt.{decimal}
use Rattle.semver.specs.Grammar.{IsValid}
use Rattle.semver.specs.Identifiers.{parts_text}
use Rattle.semver.specs.Parse.{Parts}
use Rattle.wac_model.specs.Text.{Text}

-- the front of a version's text that ends a track key: `major`, or
-- `0.minor` where the major number is 0
abbrev pub IsKeyFront : Parts → Text → Type 0
IsKeyFront parts front = ((parts.0 ≢ 0) × (front ≡ decimal parts.0))
    ⊎ ((parts.0 ≡ 0) × (parts.1 ≢ 0) × (front ≡ 48 ∷ 46 ∷ decimal parts.1))

-- the text is the version of these parts
abbrev pub IsVersionText : Text → Parts → Type 0
IsVersionText text parts = (text ≡ parts_text parts) × IsValid parts

-- the text is no version
abbrev pub IsNoVersionText : Text → Type 0
IsNoVersionText text = (parts : Parts) → IsVersionText text parts → ⊥
