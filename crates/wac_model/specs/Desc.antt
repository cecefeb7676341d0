-- The texts that describe types.
use Rattle.std.specs.Prelude.{codes}
use Rattle.wac_model.specs.declared.primitive.PrimitiveType.{PrimitiveType}
use Rattle.wac_model.specs.declared.primitive.PrimitiveType.TheVariants.{U8, S8, U16, S16, U32, S32, U64, S64, F32, F64, Char, Bool, String, ErrorContext}
use Rattle.wac_model.specs.Text.{Text}
use Rattle.wac_model.specs.ValueTree.{ValueLabel, primitive, borrow, own, tuple, list, fixed_size_list, map_of, option, result_of, variant, record_of, flags, enum, stream, future, ValueTree, node}
use Rattle.wac_model.specs.ItemTree.{ItemTree, leaf, core_module, composite, item, type_item, resource, func, value, interface, world}

-- the name of a primitive type in WIT
abbrev pub primitive_desc : PrimitiveType → Text
primitive_desc U8 = codes "u8"
primitive_desc S8 = codes "s8"
primitive_desc U16 = codes "u16"
primitive_desc S16 = codes "s16"
primitive_desc U32 = codes "u32"
primitive_desc S32 = codes "s32"
primitive_desc U64 = codes "u64"
primitive_desc S64 = codes "s64"
primitive_desc F32 = codes "f32"
primitive_desc F64 = codes "f64"
primitive_desc Char = codes "char"
primitive_desc Bool = codes "bool"
primitive_desc String = codes "string"
primitive_desc ErrorContext = codes "error-context"

-- the text that describes a value type
abbrev pub label_desc : ValueLabel → Text
label_desc (primitive p) = primitive_desc p
label_desc (borrow r) = codes "borrow"
label_desc (own r) = codes "own"
label_desc tuple = codes "tuple"
label_desc list = codes "list"
label_desc (fixed_size_list n) = codes "list<,N>"
label_desc map_of = codes "map"
label_desc option = codes "option"
label_desc (result_of o e) = codes "result"
label_desc (variant cs) = codes "variant"
label_desc (record_of fs) = codes "record"
label_desc (flags ns) = codes "flags"
label_desc (enum ns) = codes "enum"
label_desc (stream p) = codes "stream"
label_desc (future p) = codes "future"

abbrev pub value_desc : ValueTree → Text
value_desc (node l ts) = label_desc l

-- the text that describes an item
abbrev pub item_desc : ItemTree → Text
item_desc (leaf item (resource r)) = codes "resource"
item_desc (leaf item (func f)) = codes "function"
item_desc (leaf item (value v)) = codes "value"
item_desc (leaf type_item (resource r)) = codes "resource"
item_desc (leaf type_item (func f)) = codes "function type"
item_desc (leaf type_item (value v)) = value_desc v
item_desc (core_module item m) = codes "module"
item_desc (core_module type_item m) = codes "module type"
item_desc (composite item interface is es) = codes "instance"
item_desc (composite item world is es) = codes "component"
item_desc (composite type_item interface is es) = codes "interface"
item_desc (composite type_item world is es) = codes "world"
