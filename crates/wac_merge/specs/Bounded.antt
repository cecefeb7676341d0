-- Which items are the meet and the join of two, and of named items.
use Rattle.std.specs.Prelude.{◌≡◌, Option, Some, None}
use Rattle.std.specs.Option.{option_map}
use Rattle.std.specs.Str.{bytes_eq}
use Rattle.wac_model.specs.Text.{Text, lookup}
use Rattle.wac_model.specs.ItemTree.{ItemTree, core_module, composite, item, type_item, interface, world}
use Rattle.wac_model.specs.Order.{Fits}
use Rattle.wac_bounds.specs.MeetIn.{IsMeetIn, IsJoinIn}
use Rattle.wac_component.specs.Collection.{Collection}
use Rattle.wac_component.specs.Tree.{item_tree}
use Rattle.wac_component.specs.declared.items.ItemKind.{ItemKind}
use Rattle.wac_merge.specs.Items.{ExternKinds}

-- neither fits where the other is asked for
abbrev pub AreIncomparable : ItemTree → ItemTree → Type 0
AreIncomparable a b = (¬ (Fits a b)) × (¬ (Fits b a))

-- not both interfaces, both worlds or both core modules, both as items or both as types
abbrev pub AreUnlike : ItemTree → ItemTree → Type 0
AreUnlike (core_module item a) (core_module item b) = ⊥
AreUnlike (core_module type_item a) (core_module type_item b) = ⊥
AreUnlike (composite item interface i e) (composite item interface j f) = ⊥
AreUnlike (composite item world i e) (composite item world j f) = ⊥
AreUnlike (composite type_item interface i e) (composite type_item interface j f) = ⊥
AreUnlike (composite type_item world i e) (composite type_item world j f) = ⊥
AreUnlike s t = Unit {0}

-- the answer is x where the first tree fits where the second is asked for, else y where the
-- second does where the first is
abbrev pub KeepsFitting : ItemTree → ItemTree → ItemKind → ItemKind → Option ItemKind → Type 0
KeepsFitting s t x y answer = (Fits s t → answer ≡ Some x) × (¬ (Fits s t) → Fits t s → answer ≡ Some y)

-- m, in d, is the meet of two items in c; none where nothing is below both
abbrev pub IsMetAs : Collection → Collection → ItemKind → ItemKind → Option ItemKind → Type 0
IsMetAs c d a b m = IsMeetIn Fits (item_tree c a) (item_tree c b) (option_map (item_tree d) m)

-- m, in d, is the join of two items in c; none where nothing is above both
abbrev pub IsJoinedAs : Collection → Collection → ItemKind → ItemKind → Option ItemKind → Type 0
IsJoinedAs c d a b m = IsJoinIn Fits (item_tree c a) (item_tree c b) (option_map (item_tree d) m)

-- the same of an item and of what the other side has, if anything
abbrev pub IsMetWith : Collection → Collection → ItemKind → Option ItemKind → Option ItemKind → Type 0
IsMetWith c d a None m = m ≡ Some a
IsMetWith c d a (Some b) m = IsMetAs c d a b m

abbrev pub IsJoinedWith : Collection → Collection → ItemKind → Option ItemKind → Option ItemKind → Type 0
IsJoinedWith c d a None m = m ≡ None
IsJoinedWith c d a (Some b) m = IsJoinedAs c d a b m

-- what a meet has under a name: what one of the two has there, or the meet of what both have
abbrev pub IsMetAt : Collection → Collection → Option ItemKind → Option ItemKind → Option ItemKind → Type 0
IsMetAt c d None b m = m ≡ b
IsMetAt c d (Some a) b None = ⊥
IsMetAt c d (Some a) b (Some m) = IsMetWith c d a b (Some m)

-- the same for the names of the first alone
abbrev pub IsFirstMetAt : Collection → Collection → Option ItemKind → Option ItemKind → Option ItemKind → Type 0
IsFirstMetAt c d None b m = m ≡ None
IsFirstMetAt c d (Some a) b None = ⊥
IsFirstMetAt c d (Some a) b (Some m) = IsMetWith c d a b (Some m)

-- what a join has under a name: the join of what both have there, if it exists
abbrev pub IsJoinedAt : Collection → Collection → Option ItemKind → Option ItemKind → Option ItemKind → Type 0
IsJoinedAt c d None b m = m ≡ None
IsJoinedAt c d (Some a) b m = IsJoinedWith c d a b m

-- a name of both under which two items with no meet stand
pub record Clash (c : Collection) (es ts : ExternKinds) : Type 0 where
  pub name : Text
  pub left : ItemKind
  pub right : ItemKind
  pub of_first : lookup bytes_eq es name ≡ Some left
  pub of_second : lookup bytes_eq ts name ≡ Some right
  pub no_meet : IsMetAs c c left right None

-- the names of both, with what both have met; none where they clash
abbrev pub AreMet : Collection → Collection → ExternKinds → ExternKinds → Option ExternKinds → Type 0
AreMet c d es ts None = Clash c es ts
AreMet c d es ts (Some ms) = (n : Text) → IsMetAt c d (lookup bytes_eq es n) (lookup bytes_eq ts n) (lookup bytes_eq ms n)

-- the names of the first, with what both have met
abbrev pub AreFirstMet : Collection → Collection → ExternKinds → ExternKinds → Option ExternKinds → Type 0
AreFirstMet c d es ts None = Clash c es ts
AreFirstMet c d es ts (Some ms) = (n : Text) → IsFirstMetAt c d (lookup bytes_eq es n) (lookup bytes_eq ts n) (lookup bytes_eq ms n)

-- the names that both have, with what both have joined; those without a join are dropped
abbrev pub AreJoined : Collection → Collection → ExternKinds → ExternKinds → ExternKinds → Type 0
AreJoined c d es ts js = (n : Text) → IsJoinedAt c d (lookup bytes_eq es n) (lookup bytes_eq ts n) (lookup bytes_eq js n)
