-- The laws of what is remembered.
use Rattle.std.specs.Prelude.{◌≡◌, List, None, Some}
use Rattle.wac_model.specs.Text.{Text}
use Rattle.wac_component.specs.Collection.{Collection}
use Rattle.wac_component.specs.Entries.{entry_identifier, identifier_at}
use Rattle.wac_component.specs.Growth.{Extends}
use Rattle.wac_component.specs.Key.{Key, Entry, entry_at, other_keys}
use Rattle.wac_component.specs.Open.{open_next}
use Rattle.wac_component.specs.Reach.{IsAmong}
use Rattle.wac_component.specs.Sound.{IsSound}
use Rattle.wac_names.specs.Class.{class_of}
use Rattle.wac_aggregator_memo.specs.Memo.{Remembered}
use Rattle.wac_aggregator_narrowing.specs.Identified.{use_names, use_names_at, IsQuiet}
use Rattle.wac_aggregator_narrowing.specs.Narrows.{Narrows, KeepsStops}
use Rattle.wac_aggregator_narrowing.specs.Remembers.{IsRememberedAs, RemembersTruly}
use Rattle.wac_aggregator_narrowing.specs.Standing.{StandsFor}
use Rattle.wac_aggregator_narrowing.specs.State.{State, IsStateTrueOf}
use Rattle.wac_aggregator_narrowing.specs.Taking.{SameTree, IsClosedIn, AreTakenKeys}

-- what is remembered truly stays so when the foreign collection is added to
abbrev pub RememberedStay : Type 0
RememberedStay = (f g : Collection) (s : State) → IsSound f → Extends f g → RemembersTruly class_of f s → RemembersTruly class_of g s

-- and when the own one is narrowed
abbrev pub PairsAreRememberedStill : Type 0
PairsAreRememberedStill = (f c d : Collection) (ss ts : List Key) (theirs own : Key) → Narrows c ss d ts → KeepsStops c ss d ts → IsRememberedAs class_of f c ss theirs own → IsRememberedAs class_of f d ts theirs own

-- an entry without identifier that uses the same names, and whose ids were taken in for those of
-- the foreign entry, one by one
abbrev pub PlainIsRemembered : Type 0
PlainIsRemembered = (f d : Collection) (s : State) (theirs own : Key) (z : Entry) → IsSound s.own → Extends s.own d → entry_at d own ≡ Some z
    → StandsFor f d theirs own → (IsQuiet f theirs → SameTree f d theirs own)
    → identifier_at f theirs ≡ None → entry_identifier z ≡ None → use_names z ≡ use_names_at f theirs
    → AreTakenKeys class_of f s (open_next f theirs) (other_keys z)
    → IsRememberedAs class_of f d s.shared theirs own × IsClosedIn f s.taken theirs

-- an id is closed where its parts are, and it is itself remembered if it is identified
abbrev pub ClosedByParts : Type 0
ClosedByParts = (f : Collection) (now : Remembered) (theirs : Key) → ((n : Text) → identifier_at f theirs ≡ Some n → (o : Key) × (now theirs ≡ Some o)) → ((i : Key) → IsAmong i (open_next f theirs) → IsClosedIn f now i) → IsClosedIn f now theirs

-- the shared interface on the track
abbrev pub SharedIsRemembered : Type 0
SharedIsRemembered = (f d : Collection) (ts : List Key) (theirs own : Key) (n m : Text) → StandsFor f d theirs own → IsAmong own ts → identifier_at f theirs ≡ Some n → identifier_at d own ≡ Some m → class_of m ≡ class_of n
    → IsRememberedAs class_of f d ts theirs own

-- what is remembered truly is true
abbrev pub RememberedIsTrue : Type 0
RememberedIsTrue = (f : Collection) (s : State) → RemembersTruly class_of f s → IsStateTrueOf f s
