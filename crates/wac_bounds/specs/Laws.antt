-- The laws of bounds.
use Rattle.std.specs.Prelude.{List, ◌∷◌, Contains, Some, ◌↔◌}
use Rattle.wac_model.specs.ItemTree.{ItemTree}
use Rattle.wac_model.specs.Order.{Fits}
use Rattle.wac_model.specs.Same.{Same}
use Rattle.wac_bounds.specs.Bounds.{IsLowerBound, IsUpperBound, IsMeet, IsJoin}
use Rattle.wac_bounds.specs.MeetIn.{IsMeetIn}

-- one tree or more with a common lower bound have a greatest one
abbrev pub HaveMeets : Type 0
HaveMeets = (t : ItemTree) (ts : List ItemTree) (c : ItemTree) → IsLowerBound c (t ∷ ts) → (m : ItemTree) × IsMeet m (t ∷ ts)

-- one tree or more with a common upper bound have a least one
abbrev pub HaveJoins : Type 0
HaveJoins = (t : ItemTree) (ts : List ItemTree) (c : ItemTree) → IsUpperBound c (t ∷ ts) → (m : ItemTree) × IsJoin m (t ∷ ts)

-- there is one meet, but for the order of names
abbrev pub IsOneMeet : Type 0
IsOneMeet = (m n : ItemTree) (ts : List ItemTree) → IsMeet m ts → IsMeet n ts → Same m n

-- there is one join, but for the order of names
abbrev pub IsOneJoin : Type 0
IsOneJoin = (m n : ItemTree) (ts : List ItemTree) → IsJoin m ts → IsJoin n ts → Same m n

-- each list contains what the other does
abbrev pub HaveSameMembers : List ItemTree → List ItemTree → Type 0
HaveSameMembers ts us = (t : ItemTree) → Contains ts t ↔ Contains us t

-- lists with the same members have the same meets: neither order nor repeats count
abbrev pub MeetsDependOnMembers : Type 0
MeetsDependOnMembers = (ts us : List ItemTree) → HaveSameMembers ts us → (m : ItemTree) → IsMeet m ts ↔ IsMeet m us

-- lists with the same members have the same joins
abbrev pub JoinsDependOnMembers : Type 0
JoinsDependOnMembers = (ts us : List ItemTree) → HaveSameMembers ts us → (m : ItemTree) → IsJoin m ts ↔ IsJoin m us

-- what is below a list's meet and below one tree more is below the list with
-- that tree, and the other way round
abbrev pub BoundsOfMore : Type 0
BoundsOfMore = (ts : List ItemTree) (m t c : ItemTree) → IsMeet m ts → (Fits c m × Fits c t) ↔ IsLowerBound c (t ∷ ts)

-- the meet of a list's meet and one tree more is the meet of the list with that tree
abbrev pub MeetsOfMore : Type 0
MeetsOfMore = (ts : List ItemTree) (m t n : ItemTree) → IsMeet m ts → IsMeetIn Fits m t (Some n) ↔ IsMeet n (t ∷ ts)
