-- A collection in which one entry was replaced, and what a call that replaces one answers.
use Rattle.std.specs.Prelude.{◌≡◌, ◌≢◌, ℕ, List, slice_set, Result, Ok, Err}
use Rattle.wac_component.specs.Collection.{Collection}
use Rattle.wac_component.specs.Key.{Key, Entry, defined_entry, resource_entry, func_entry, interface_entry, world_entry, module_entry, entry_at, Stands, AllStand, item_keys}
use Rattle.wac_component.specs.Height.{height}
use Rattle.wac_component.specs.Reach.{IsAmong, Reaches}
use Rattle.wac_component.specs.Tree.{item_tree}
use Rattle.wac_component.specs.declared.items.ItemKind.{ItemKind}
use Rattle.wac_component.specs.declared.collection.replace.ReplaceError.{ReplaceError}
use Rattle.wac_component.specs.declared.collection.replace.ReplaceError.TheVariants.{Cycle, Memory, Limits}

-- the collection with another entry at this index in the list of its sort
abbrev pub replaced : Collection → ℕ → Entry → Collection
replaced c i (defined_entry e) = record c { defined = slice_set c.defined i e }
replaced c i (resource_entry e) = record c { resources = slice_set c.resources i e }
replaced c i (func_entry e) = record c { funcs = slice_set c.funcs i e }
replaced c i (interface_entry e) = record c { interfaces = slice_set c.interfaces i e }
replaced c i (world_entry e) = record c { worlds = slice_set c.worlds i e }
replaced c i (module_entry e) = record c { modules = slice_set c.modules i e }

-- a walk leads from one of these ids to t
abbrev pub NamesReach : Collection → List Key → Key → Type 0
NamesReach c ks t = (j : Key) × IsAmong j ks × Reaches c j t

-- d is c with another entry at k: each other entry stays, and what doesn't reach k is
-- as high as it was, with its tree
pub record Replaces (c d : Collection) (k : Key) : Type 0 where
  pub number : d.number ≡ c.number
  pub standing : (j : Key) → Stands c j → Stands d j
  pub same_entry : (j : Key) → Stands c j → j ≢ k → entry_at d j ≡ entry_at c j
  pub heights : (j : Key) → Stands c j → ¬ Reaches c j k → height d j ≡ height c j
  pub trees : (i : ItemKind) → AllStand c (item_keys i) → ¬ NamesReach c (item_keys i) k → item_tree d i ≡ item_tree c i

-- the call succeeds only where the fact is false, and finds a cycle only where it is true; a
-- refusal hands the content back
abbrev pub AnswersReplace : {T : Type 0} → Result Unit (ReplaceError T) → T → Type 0 → Type 0
AnswersReplace (Ok done) content IsCycle = ¬ IsCycle
AnswersReplace (Err (Cycle back)) content IsCycle = (back ≡ content) × IsCycle
AnswersReplace (Err (Memory back)) content IsCycle = back ≡ content
AnswersReplace (Err (Limits back)) content IsCycle = ⊥

-- the same of a core module, which names no ids and takes no memory: refused
-- exactly where something in it isn't valid
abbrev pub AnswersReplaceModule : {T : Type 0} → Result Unit (ReplaceError T) → T → Type 0 → Type 0
AnswersReplaceModule (Ok done) content IsValid = IsValid
AnswersReplaceModule (Err (Limits back)) content IsValid = (back ≡ content) × ¬ IsValid
AnswersReplaceModule (Err refused) content IsValid = ⊥
