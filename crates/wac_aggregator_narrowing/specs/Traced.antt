-- Which tracks lead to which.
use Rattle.std.specs.Prelude.{◌≡◌, ◌⊎◌, List, ◌∷◌, Some}
use Rattle.wac_model.specs.Text.{Text}
use Rattle.wac_component.specs.Collection.{Collection}
use Rattle.wac_component.specs.Key.{Key}
use Rattle.wac_component.specs.Reach.{IsAmong}
use Rattle.wac_component.specs.Entries.{identifier_at}
use Rattle.wac_component.specs.Open.{open_next, OpenReaches}
use Rattle.wac_names.specs.Class.{Class, class_of}
use Rattle.wac_aggregator_narrowing.specs.Identified.{OpenlyOn}

-- an open walk of a step or more
pub record OpenlyLeads (c : Collection) (s t : Key) : Type 0 where
  pub by : Key
  pub named : IsAmong by (open_next c s)
  pub onward : OpenReaches c by t

-- a shared entry with this identifier
abbrev pub IsSharedAs : Collection → List Key → Key → Text → Type 0
IsSharedAs c ss t n = IsAmong t ss × (identifier_at c t ≡ Some n)

-- each open walk from an id to a shared entry leads from the track to that of the entry
abbrev pub LeadsAlong : {T : Type 0} → (Text → T) → Collection → List Key → (T → T → Type 0) → T → Key → Type 0
LeadsAlong track c ss Leads from k = (t : Key) (n : Text) → IsSharedAs c ss t n → OpenReaches c k t → Leads from (track n)

-- each open walk between shared entries follows the relation of their tracks, which is transitive
pub record IsTraced {T : Type 0} (track : Text → T) (c : Collection) (ss : List Key) (Leads : T → T → Type 0) : Type 0 where
  pub traced : (s t : Key) (n m : Text) → IsSharedAs c ss s n → IsSharedAs c ss t m → OpenlyLeads c s t → Leads (track n) (track m)
  pub joined : (a b e : T) → Leads a b → Leads b e → Leads a e

-- where open walks start: an id of a collection
pub record Root : Type 0 where
  pub of : Collection
  pub at : Key

pub data IsAmongRoots (c : Collection) (k : Key) : List Root → Type 0 where
  here : {rs : List Root} → IsAmongRoots c k (record { of = c; at = k } ∷ rs)
  there : {r : Root} {rs : List Root} → IsAmongRoots c k rs → IsAmongRoots c k (r ∷ rs)

-- an identified interface on the one track, openly reached from a root,
-- openly leads to one on the other
pub record Arrow {T : Type 0} (track : Text → T) (rs : List Root) (a b : T) : Type 0 where
  pub of : Collection
  pub root : Key
  pub from : Key
  pub to : Key
  pub from_name : Text
  pub to_name : Text
  pub is_root : IsAmongRoots of root rs
  pub reached : OpenReaches of root from
  pub from_identified : identifier_at of from ≡ Some from_name
  pub from_track : track from_name ≡ a
  pub leads : OpenlyLeads of from to
  pub to_identified : identifier_at of to ≡ Some to_name
  pub to_track : track to_name ≡ b

-- one arrow after another
pub data Arrows {T : Type 0} (track : Text → T) (rs : List Root) : T → T → Type 0 where
  one : {a b : T} → Arrow track rs a b → Arrows track rs a b
  on : {a b e : T} → Arrow track rs a b → Arrows track rs b e → Arrows track rs a e

-- the id openly leads to an identified interface on the track, or on one that leads there
pub record LeadsOnto {T : Type 0} (track : Text → T) (f : Collection) (k : Key) (Leads : T → T → Type 0) (to : T) : Type 0 where
  pub by : T
  pub openly : OpenlyOn track f k by
  pub onward : (by ≡ to) ⊎ Leads by to

-- walks between shared entries, or from an id to these, follow the arrows from some roots
abbrev pub IsArrowed : Collection → List Key → List Root → Type 0
IsArrowed c ss rs = IsTraced class_of c ss (Arrows class_of rs)

abbrev pub LeadsAlongArrows : Collection → List Key → List Root → Class → Key → Type 0
LeadsAlongArrows c ss rs = LeadsAlong class_of c ss (Arrows class_of rs)
