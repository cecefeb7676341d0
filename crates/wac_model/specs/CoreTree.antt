-- Core modules (WebAssembly core specification, "Types" and "Import Subtyping").
use Rattle.std.specs.Prelude.{◌≡◌, ◌≤◌, ℕ, List, [], Bool, true, false, ◌&&◌, IsTrue, nat_le, Option, Some, None}
use Rattle.std.specs.List.{list_all}
use mathlib.Core.Path.{refl}
use Rattle.std.specs.Str.{bytes_eq}
use Rattle.wac_model.specs.Text.{Text, ImportName, import_name_eq, lookup}

-- a heap type
pub data HeapTree : Type 0 where
  concrete : (index : ℕ) → HeapTree
  func_heap : HeapTree
  extern : HeapTree
  any : HeapTree
  none : HeapTree
  noextern : HeapTree
  nofunc : HeapTree
  eq : HeapTree
  struct : HeapTree
  array : HeapTree
  i31 : HeapTree
  exn : HeapTree
  noexn : HeapTree
  cont : HeapTree
  nocont : HeapTree
  deriving Discrete as HeapTree-discrete

-- a reference type
pub record RefTree : Type 0 where
  pub nullable : Bool
  pub heap_type : HeapTree

-- a value type of core WebAssembly
pub data CoreTypeTree : Type 0 where
  i32 : CoreTypeTree
  i64 : CoreTypeTree
  f32 : CoreTypeTree
  f64 : CoreTypeTree
  v128 : CoreTypeTree
  ref : (of : RefTree) → CoreTypeTree
  deriving Discrete as CoreTypeTree-discrete

-- how many elements a table has, or a memory pages; no maximum is the greatest
pub record Limits : Type 0 where
  pub initial : ℕ
  pub maximum : Option ℕ

-- a core extern that has no limits
pub data CoreLabel : Type 0 where
  func : (params results : List CoreTypeTree) → CoreLabel
  tag : (params results : List CoreTypeTree) → CoreLabel
  global : (val_type : CoreTypeTree) → (mutable shared : Bool) → CoreLabel
  deriving Discrete as CoreLabel-discrete

-- a core extern that has limits, but for them
pub data LimitedLabel : Type 0 where
  table : (element : RefTree) → (table64 shared : Bool) → LimitedLabel
  memory : (memory64 shared : Bool) → (page_size_log2 : Option ℕ) → LimitedLabel
  deriving Discrete as LimitedLabel-discrete

-- what a core module imports or exports
pub data CoreTree : Type 0 where
  plain : (label : CoreLabel) → CoreTree
  limited : (label : LimitedLabel) → (limits : Limits) → CoreTree

-- a size is at most the maximum, if there is one
abbrev pub is_within : ℕ → Option ℕ → Bool
is_within n None = true
is_within n (Some m) = nat_le n m

-- valid limits start within their maximum (core specification, "Validation", limits)
abbrev pub is_valid_extern : CoreTree → Bool
is_valid_extern (plain label) = true
is_valid_extern (limited label limits) = is_within limits.initial limits.maximum

-- what the type of a core module says that it imports and exports
pub record ModuleContent : Type 0 where
  pub imports : List (ImportName × CoreTree)
  pub exports : List (Text × CoreTree)

-- each import and each export is valid
abbrev pub is_valid_module : ModuleContent → Bool
is_valid_module m = list_all (λ e. is_valid_extern e.1) m.imports && list_all (λ e. is_valid_extern e.1) m.exports

-- a core module
pub record ModuleTree : Type 0 where
  pub content : ModuleContent
  pub valid : IsTrue (is_valid_module content)

-- the module that says this; where something in it isn't valid there is none,
-- and the empty one stands for it
abbrev pub module_if : (m : ModuleContent) (valid : Bool) → is_valid_module m ≡ valid → ModuleTree
module_if m true is = record { content = m; valid = is }
module_if m false is = record { content = record { imports = []; exports = [] }; valid = refl }

abbrev pub module_of : ModuleContent → ModuleTree
module_of m = module_if m (is_valid_module m) refl

-- one that is asked for is there, and is in the relation
abbrev pub Serves : {V : Type 0} → (V → V → Type 0) → Option V → Option V → Type 0
Serves R a None = Unit {0}
Serves R None (Some b) = ⊥
Serves R (Some a) (Some b) = R a b

-- limits fit where these are asked for (core specification, "Import Subtyping", limits)
abbrev pub LimitsFit : Limits → Limits → Type 0
LimitsFit a b = (b.initial ≤ a.initial) × Serves (λ m n. m ≤ n) a.maximum b.maximum

-- a core extern fits where another is asked for: equal, but for limits that fit
abbrev pub CoreFits : CoreTree → CoreTree → Type 0
CoreFits (limited k a) (limited l b) = (k ≡ l) × LimitsFit a b
CoreFits a b = a ≡ b

-- a module fits where another is asked for: it exports what that one does, and imports no more
pub record ModuleFits (a b : ModuleContent) : Type 0 where
  pub exports : (n : Text) → Serves CoreFits (lookup bytes_eq a.exports n) (lookup bytes_eq b.exports n)
  pub imports : (n : ImportName) → Serves CoreFits (lookup import_name_eq b.imports n) (lookup import_name_eq a.imports n)
