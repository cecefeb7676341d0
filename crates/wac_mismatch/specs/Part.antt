-- The part of a type that a frame names (Component Model explainer, "Type Definitions").
use Rattle.std.specs.Prelude.{List, [], ◌∷◌, Bool, true, false, Option as Opt, Some, None, string_bytes, if◌then◌else◌}
use Rattle.std.specs.Str.{bytes_eq}
use Rattle.wac_model.specs.Text.{Text, lookup, import_name_eq}
use Rattle.wac_model.specs.ValueTree.{ValueTree, ValueTrees, FuncTree, node, no_parts, part, part_at, tuple, list, fixed_size_list, map_of, option, result_of, variant, record_of, stream, future}
use Rattle.wac_model.specs.CoreTree.{CoreTree, ModuleTree}
use Rattle.wac_model.specs.ItemTree.{ItemTree, Items, Shape, leaf, core_module, composite, world, item_at, resource, func, value}
use Rattle.wac_mismatch.specs.declared.frame.Frame.{Frame}
use Rattle.wac_mismatch.specs.declared.frame.Frame.TheVariants.{Export, Import, CoreImport, Parameter, FuncResult, ListElement, FixedSizeListElement, MapKey, MapValue, FuturePayload, StreamPayload, Option, Ok, Err, Field, Case, Item}
use Rattle.wac_mismatch.specs.Place.{Side, item_side, core_side, value_side, absent}

-- the value type, as a side
abbrev pub sided : Opt ValueTree → Opt Side
sided None = None
sided (Some t) = Some (value_side t)

-- the type of the field of a name, in a record with these fields and types
abbrev pub field_part : List Text → ValueTrees → Text → Opt ValueTree
field_part [] ts n = None
field_part (m ∷ ms) no_parts n = None
field_part (m ∷ ms) (part t ts) n = if bytes_eq n m then Some t else field_part ms ts n

-- the type of the case of a name, in a variant with these cases and
-- the types of those that have one
abbrev pub case_part : List (Text × Bool) → ValueTrees → Text → Opt ValueTree
case_part [] ts n = None
case_part ((m, false) ∷ cs) ts n = if bytes_eq n m then None else case_part cs ts n
case_part ((m, true) ∷ cs) no_parts n = None
case_part ((m, true) ∷ cs) (part t ts) n = if bytes_eq n m then Some t else case_part cs ts n

-- the payload, or that there is none
abbrev pub payload_part : Bool → ValueTrees → Opt Side
payload_part true ts = sided (part_at ts 0)
payload_part false ts = Some absent

-- the part of a value type that a frame names
abbrev pub value_part : Frame → ValueTree → Opt Side
value_part ListElement (node list ts) = sided (part_at ts 0)
value_part FixedSizeListElement (node (fixed_size_list n) ts) = sided (part_at ts 0)
value_part MapKey (node map_of ts) = sided (part_at ts 0)
value_part MapValue (node map_of ts) = sided (part_at ts 1)
value_part FuturePayload (node (future p) ts) = payload_part p ts
value_part StreamPayload (node (stream p) ts) = payload_part p ts
value_part Option (node option ts) = sided (part_at ts 0)
value_part Ok (node (result_of true e) ts) = sided (part_at ts 0)
value_part Err (node (result_of true true) ts) = sided (part_at ts 1)
value_part Err (node (result_of false true) ts) = sided (part_at ts 0)
value_part (Field n) (node (record_of names) ts) = sided (field_part names ts (string_bytes n))
value_part (Case n) (node (variant cases) ts) = sided (case_part cases ts (string_bytes n))
value_part (Item i) (node tuple ts) = sided (part_at ts i)
value_part f t = None

-- the part of a function that a frame names
abbrev pub func_part : Frame → FuncTree → Opt Side
func_part (Parameter n) t = sided (lookup bytes_eq t.params (string_bytes n))
func_part FuncResult t = sided t.«result»
func_part f t = None

-- the item, or the core extern, as a side
abbrev pub item_sided : Opt ItemTree → Opt Side
item_sided None = None
item_sided (Some t) = Some (item_side t)

abbrev pub core_sided : Opt CoreTree → Opt Side
core_sided None = None
core_sided (Some t) = Some (core_side t)

-- the part of a core module that a frame names
abbrev pub module_part : Frame → ModuleTree → Opt Side
module_part (Export n) m = core_sided (lookup bytes_eq m.content.exports (string_bytes n))
module_part (CoreImport m' n) m = core_sided (lookup import_name_eq m.content.imports (string_bytes m', string_bytes n))
module_part f m = None

-- the part of an interface or a world that a frame names; an interface imports nothing
abbrev pub composite_part : Frame → Shape → Items → Items → Opt Side
composite_part (Export n) s is es = item_sided (item_at es (string_bytes n))
composite_part (Import n) world is es = item_sided (item_at is (string_bytes n))
composite_part f s is es = None

-- the part of a side that a frame names
abbrev pub part_of : Frame → Side → Opt Side
part_of f (value_side t) = value_part f t
part_of f (item_side (leaf k (value t))) = value_part f t
part_of f (item_side (leaf k (func t))) = func_part f t
part_of f (item_side (leaf k (resource r))) = None
part_of f (item_side (core_module k m)) = module_part f m
part_of f (item_side (composite k s is es)) = composite_part f s is es
part_of f (core_side t) = None
part_of f absent = None
