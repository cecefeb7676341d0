-- When a type of one collection and a type of another one are alike.
use Rattle.std.specs.Prelude.{◌≡◌, ◌↔◌, List, [], ◌∷◌, Option, Some, None, Contains, IsSome}
use Rattle.std.specs.Option.{option_map, option_map_or}
use Rattle.std.specs.declared.vec.Vec.{Vec}
use Rattle.std.specs.declared.alloc.Global.{Global}
use Rattle.wac_component.specs.Id.{Id}
use Rattle.wac_component.specs.Collection.{Collection}
use Rattle.wac_component.specs.Entries.{identifier_at, owner_at}
use Rattle.wac_component.specs.Key.{Key, Sort, defined_sort, resource_sort, Entry, defined_entry, resource_entry, entry_at, defined_keys, optional_keys, resource_key, interface_key}
use Rattle.wac_component.specs.Reach.{IsAmong}
use Rattle.wac_component.specs.Tree.{root_name, value_tree}
use Rattle.wac_component.specs.declared.items.ValueType.TheVariants.{Defined}
use Rattle.wac_names.specs.Class.{Class, class_of}

-- ---- what a type is made of

-- the ids in a defined type, and the source of a resource that is another
-- name of one, but not its owner
abbrev pub made_keys : Entry → List Key
made_keys (defined_entry d) = defined_keys d
made_keys (resource_entry r) = option_map_or (λ a. resource_key a.source ∷ []) r.alias []
made_keys e = []

abbrev pub made_next : Collection → Key → List Key
made_next c k = optional_keys made_keys (entry_at c k)

-- the first type is made of the second one, which may be itself
pub data IsTypeMadeOf (c : Collection) : Key → Key → Type 0 where
  itself : {k : Key} → IsTypeMadeOf c k k
  part : {k j t : Key} → IsAmong j (made_next c k) → IsTypeMadeOf c j t → IsTypeMadeOf c k t

-- rs are the resources that the type is made of
abbrev pub AreResourcesOf : Collection → Key → List Id → Type 0
AreResourcesOf c k rs = (r : Id) → Contains rs r ↔ IsTypeMadeOf c k (resource_key r)

-- rs are the resources with an owner that the type is made of
pub record AreOwnedIn (c : Collection) (k : Key) (rs : List Id) : Type 0 where
  pub each : (r : Id) → Contains rs r → IsTypeMadeOf c k (resource_key r) × IsSome (owner_at c r)
  pub every : (r o : Id) → IsTypeMadeOf c k (resource_key r) → owner_at c r ≡ Some o → Contains rs r

-- ---- owners and their tracks

-- the interface owns a resource that the type is made of
abbrev pub IsOwnerIn : Collection → Key → Id → Type 0
IsOwnerIn c k o = (r : Id) × IsTypeMadeOf c k (resource_key r) × (owner_at c r ≡ Some o)

-- the class of an interface's identifier, if it has one
abbrev pub track_at : Collection → Id → Option Class
track_at c o = option_map class_of (identifier_at c (interface_key o))

-- each of these interfaces has an identifier
abbrev pub HaveIdentifiers : Collection → (Id → Type 0) → Type 0
HaveIdentifiers c P = (o : Id) → P o → IsSome (identifier_at c (interface_key o))

-- t is the class of the identifier of one of these interfaces
abbrev pub IsTrackAmong : Collection → (Id → Type 0) → Class → Type 0
IsTrackAmong c P t = (o : Id) × P o × (track_at c o ≡ Some t)

-- each owner of a resource that the type is made of has an identifier
abbrev pub AreOwnersIdentified : Collection → Key → Type 0
AreOwnersIdentified c k = HaveIdentifiers c (IsOwnerIn c k)

-- t is the class of the identifier of the owner of a resource that the type is made of
abbrev pub IsOwnerTrack : Collection → Key → Class → Type 0
IsOwnerTrack c k t = IsTrackAmong c (IsOwnerIn c k) t

-- ---- alike types

-- two resources with one name at the roots of their aliases, or two defined types with one tree
abbrev pub are_of_one_tree : Collection → Collection → Sort → Sort → Id → Id → Type 0
are_of_one_tree c f resource_sort resource_sort p q = root_name c p ≡ root_name f q
are_of_one_tree c f defined_sort defined_sort p q = value_tree c (Defined p) ≡ value_tree f (Defined q)
are_of_one_tree c f s t p q = ⊥

abbrev pub AreOfOneTree : Collection → Collection → Key → Key → Type 0
AreOfOneTree c f a b = are_of_one_tree c f a.sort b.sort a.id b.id

-- a type of c and one of f have one tree, and the owners of the resources that they are made of
-- have identifiers, which are on the same tracks
pub record AreTypesAlike (c f : Collection) (a b : Key) : Type 0 where
  pub same : AreOfOneTree c f a b
  pub ours : AreOwnersIdentified c a
  pub theirs : AreOwnersIdentified f b
  pub tracks : (t : Class) → IsOwnerTrack c a t ↔ IsOwnerTrack f b t

-- the resources with an owner that b is made of, where the types are alike, and else none
abbrev pub IsAlikeAnswer : Collection → Collection → Key → Key → Option (Vec Id Global) → Type 0
IsAlikeAnswer c f a b (Some rs) = AreTypesAlike c f a b × AreOwnedIn f b rs.items
IsAlikeAnswer c f a b None = ¬ AreTypesAlike c f a b
