-- The core externs of a name in two lists, and lists of what they make.
use Rattle.std.specs.Prelude.{◌≡◌, List, [], ◌∷◌, Bool, IsTrue, Option, None, Some}
use Rattle.std.specs.List.{list_all}
use Rattle.std.specs.Option.{option_map}
use Rattle.std.specs.Map.{lookup}
use Rattle.wac_model.specs.CoreTree.{CoreTree, CoreFits, Serves, is_valid_extern}
use Rattle.wac_bounds.specs.MeetIn.{IsMeetIn, IsJoinIn}
use Rattle.wac_bounds.specs.Valid.{ValidFits}
use Rattle.wac_core.specs.Content.{core_tree}
use Rattle.wac_core.specs.declared.externs.CoreExtern.{CoreExtern}
use Rattle.wac_core_merge.specs.Names.{put, with_new}

-- each of these is valid
abbrev pub AreValid : {K : Type 0} → List (K × CoreExtern) → Type 0
AreValid es = IsTrue (list_all (λ e. is_valid_extern (core_tree e.1)) es)

-- m is the meet, among valid externs, of what two have at a name, where
-- having nothing is above everything
abbrev pub IsMeetAt : Option CoreTree → Option CoreTree → Option CoreTree → Type 0
IsMeetAt a b m = IsMeetIn (Serves ValidFits) a b (Some m)

-- m is the join of what two have at a name
abbrev pub IsJoinAt : Option CoreTree → Option CoreTree → Option CoreTree → Type 0
IsJoinAt a b m = IsJoinIn (Serves CoreFits) a b (Some m)

-- ms is es, with each value replaced by one that is in the relation to it, or left out
abbrev pub ReplacesEach : {K V : Type 0} → (K → V → Option V → Type 0) → List (K × V) → List (K × V) → Type 0
ReplacesEach R [] ms = ms ≡ []
ReplacesEach {K} {V} R (e ∷ es) ms = (o : Option V) × (rest : List (K × V)) × R e.0 e.1 o × ReplacesEach R es rest × (ms ≡ put e.0 o rest)

module _ {K : Type 0} (eq : K → K → Bool) where
  -- the extern of a name
  abbrev pub core_extern_at : List (K × CoreExtern) → K → Option CoreTree
  core_extern_at es n = option_map core_tree (lookup (eq n) es)

  -- ms is es, with each extern met with what ts has under its name
  abbrev pub IsEachMet : (es ts ms : List (K × CoreExtern)) → Type 0
  IsEachMet es ts ms = ReplacesEach (λ n v o. IsMeetAt (Some (core_tree v)) (core_extern_at ts n) (option_map core_tree o)) es ms

  -- ms is es, with each extern joined with what ts has under its name, or
  -- left out where they have no join
  abbrev pub IsEachJoined : (es ts ms : List (K × CoreExtern)) → Type 0
  IsEachJoined es ts ms = ReplacesEach (λ n v o. IsJoinAt (Some (core_tree v)) (core_extern_at ts n) (option_map core_tree o)) es ms

  -- under some name nothing valid is below what es and ts have
  abbrev pub HasNoMeet : (es ts : List (K × CoreExtern)) → Type 0
  HasNoMeet es ts = (n : K) × IsMeetIn (Serves ValidFits) (core_extern_at es n) (core_extern_at ts n) None

  -- the same, if it has a meet under each name
  abbrev pub IsEachMetIfAny : (es ts : List (K × CoreExtern)) → Option (List (K × CoreExtern)) → Type 0
  IsEachMetIfAny es ts None = HasNoMeet es ts
  IsEachMetIfAny es ts (Some ms) = IsEachMet es ts ms

  -- the externs of es, met with those of ts, and then what only ts has, if
  -- those of one name have a meet
  abbrev pub AreAllMet : (es ts : List (K × CoreExtern)) → Option (List (K × CoreExtern)) → Type 0
  AreAllMet es ts None = HasNoMeet es ts
  AreAllMet es ts (Some ms) = (each : List (K × CoreExtern)) × IsEachMet es ts each × (ms ≡ with_new eq each ts)
