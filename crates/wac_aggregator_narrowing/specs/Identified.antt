-- Identifiers, and where open walks stop at them.
use Rattle.std.specs.Prelude.{◌≡◌, List, [], Some, None, map}
use Rattle.std.specs.Option.{option_map_or}
use Rattle.wac_model.specs.Text.{Text}
use Rattle.wac_component.specs.Collection.{Collection, UseContent}
use Rattle.wac_component.specs.Key.{Key, Entry, entry_at}
use Rattle.wac_component.specs.Reach.{IsAmong}
use Rattle.wac_component.specs.Open.{open_next, OpenReaches}
use Rattle.wac_component.specs.Entries.{entry_uses, identifier_at}

-- the names under which an entry uses types
abbrev pub used_names : List (Text × UseContent) → List Text
used_names us = map (λ u. u.0) us

abbrev pub use_names : Entry → List Text
use_names e = used_names (entry_uses e)

abbrev pub use_names_at : Collection → Key → List Text
use_names_at c k = option_map_or use_names (entry_at c k) []

-- an open walk from k that passes through no identified interface stops
-- at t, which is identified by n
pub data StopsAt (c : Collection) : Key → Key → Text → Type 0 where
  stop : {t : Key} {n : Text} → identifier_at c t ≡ Some n → StopsAt c t t n
  goes_on : {k j t : Key} {n : Text} → identifier_at c k ≡ None → IsAmong j (open_next c k) → StopsAt c j t n → StopsAt c k t n

-- no open walk from the id stops
abbrev pub IsUnstopped : Collection → Key → Type 0
IsUnstopped c k = (t : Key) (n : Text) → StopsAt c k t n → ⊥

-- no open walk from the id leads to an identified interface
abbrev pub IsQuiet : Collection → Key → Type 0
IsQuiet c k = (t : Key) (n : Text) → OpenReaches c k t → identifier_at c t ≡ Some n → ⊥

-- an open walk from the id leads to an interface with an identifier on this track
pub record OpenlyOn {T : Type 0} (track : Text → T) (c : Collection) (k : Key) (on : T) : Type 0 where
  pub at : Key
  pub name : Text
  pub walk : OpenReaches c k at
  pub identified : identifier_at c at ≡ Some name
  pub on_track : track name ≡ on

-- each identified interface to which an open walk leads from the id is shared
abbrev pub IsCovered : Collection → List Key → Key → Type 0
IsCovered c ss k = (t : Key) (n : Text) → OpenReaches c k t → identifier_at c t ≡ Some n → IsAmong t ss
