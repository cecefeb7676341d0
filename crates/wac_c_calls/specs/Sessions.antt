-- What the calls of a session do, by the number that they return.
use Rattle.std.specs.Prelude.{◌≡◌, ℤ, pos, negsuc}
use Rattle.std.specs.declared.option.Option.{Option}
use Rattle.std.specs.declared.option.Option.TheVariants.{None, Some}
use Rattle.wac_script_program.specs.declared.dialogue.Dialogue.{Dialogue}

-- there is a session
abbrev pub IsThere : Option Dialogue → Type 0
IsThere None = ⊥
IsThere (Some d) = Unit {0}

-- 0: a session has begun;  else nothing has changed
abbrev pub IsSessionBegun : Option Dialogue → Option Dialogue → ℤ → Type 0
IsSessionBegun old new (pos n) = (n ≡ 0) × IsThere new
IsSessionBegun old new (negsuc n) = new ≡ old

-- a session that is there stays, and where there is none, the number says so
abbrev pub IsSessionKept : Option Dialogue → Option Dialogue → ℤ → Type 0
IsSessionKept None new r = (new ≡ None) × (r ≡ negsuc 2)
IsSessionKept (Some d) new r = IsThere new
