-- Each item takes a token, and begins with a word, a name or an attribute.
use Rattle.std.proofs.Common.{ℕ, ◌<◌, true, false, List, inl, inr, arith}
use Rattle.wac_wit_syntax.specs.Completing.{AllBegin, Begins}
use Rattle.wac_wit_syntax.specs.Documents.{IsTopItem}
use Rattle.wac_wit_syntax.specs.Functions.{IsFieldDecl, IsFunc}
use Rattle.wac_wit_syntax.specs.Interfaces.{IsInterfaceItem, IsRename, IsUse}
use Rattle.wac_wit_syntax.specs.Productions.{IsName, Source}
use Rattle.wac_wit_syntax.specs.Typedefs.{AreMethods, IsBody, IsCaseDecl, IsMethod, IsTypeItem}
use Rattle.wac_wit_syntax.specs.Worlds.{AreRenames, IsExtern, IsWorldItem}
use Rattle.wac_wit_syntax.specs.declared.tree.Extern.{Extern}
use Rattle.wac_wit_syntax.specs.declared.tree.Extern.TheVariants as extern
use Rattle.wac_wit_syntax.specs.declared.tree.FuncItem.{FuncItem}
use Rattle.wac_wit_syntax.specs.declared.tree.InterfaceItem.TheVariants as item
use Rattle.wac_wit_syntax.specs.declared.tree.Method.{Method}
use Rattle.wac_wit_syntax.specs.declared.tree.Rename.{Rename}
use Rattle.wac_wit_syntax.specs.declared.tree.TopItem.TheVariants as top
use Rattle.wac_wit_syntax.specs.declared.tree.TypeDef.{TypeDef}
use Rattle.wac_wit_syntax.specs.declared.tree.TypeDef.TheVariants as def
use Rattle.wac_wit_syntax.specs.declared.tree.TypeItem.{TypeItem}
use Rattle.wac_wit_syntax.specs.declared.tree.UseItem.{UseItem}
use Rattle.wac_wit_syntax.specs.declared.tree.WorldItem.TheVariants as of_world
use Rattle.wac_wit_syntax.proofs.ItemsLeft.{cases_begin, fields_begin, name_begin, names_begin}
use Rattle.wac_wit_syntax.proofs.Lengthening.{block_longer, gated, listed_longer, methods_begin, signature_longer}
use Rattle.wac_wit_syntax.proofs.TypesLeft.{type_longer}
use Rattle.wac_wit_syntax.proofs.WorldsLeft.{alias_longer, path_longer, renames_begin}

methods_longer : (ms : List Method) (s : Source) (i j : ℕ) → AreMethods ms s i j → i < j
methods_longer ms s i j (inl h) = let a = h.1.1 in omega arith
methods_longer ms s i j (inr h) = block_longer IsMethod methods_begin ms s i j h

body_longer : (d : TypeDef) (s : Source) (i j : ℕ) → IsBody d s i j → i < j
body_longer (def.Alias t) s i j h = let a = h.1.1 in let b = type_longer s t h.0 h.2.0 h.2.1 in let c = h.2.2.1 in omega arith
body_longer (def.Record fields) s i j h = listed_longer IsFieldDecl _ _ fields_begin fields.items s i j h
body_longer (def.Variant cases) s i j h = listed_longer IsCaseDecl _ _ cases_begin cases.items s i j h
body_longer (def.Flags names) s i j h = listed_longer IsName _ _ names_begin names.items s i j h
body_longer (def.Enum names) s i j h = listed_longer IsName _ _ names_begin names.items s i j h
body_longer (def.Resource methods) s i j h = methods_longer methods.items s i j h

type_item_begins : (t : TypeItem) (s : Source) (i j : ℕ) → IsTypeItem t s i j → Begins s i j
type_item_begins t s i j h =
    let p = h.2.0 in
    gated s t.gates i h.0 j h.1 (let a = p.1.1 in let b = p.2.1.2 in let c = body_longer t.def s p.2.0 j p.2.2 in omega arith, inl p.1.0.0)

use_begins : (u : UseItem) (s : Source) (i j : ℕ) → IsUse u s i j → Begins s i j
use_begins u s i j h =
    let p = h.2 in
    gated s u.gates i h.0 j h.1 (
      let a = p.1.1 in
          let b = path_longer u.path s p.0 p.2.0 p.2.1 in
          let c = p.2.2.1.1 in
          let d = listed_longer (IsRename false) _ _ (renames_begin false) u.names.items s p.2.2.0 p.2.2.2.0 p.2.2.2.1 in
          let e = p.2.2.2.2.1 in
          omega arith,
      inl p.1.0.0,
    )

func_begins : (f : FuncItem) (s : Source) (i j : ℕ) → IsFunc f s i j → Begins s i j
func_begins f s i j h =
    let p = h.2.0 in
    gated s f.gates i h.0 j h.1 (name_begin s f.name h.0 p.0 j p.1 (let a = p.2.1.1 in let b = signature_longer f.signature s p.2.0 j p.2.2 in omega arith))

pub items_begin : AllBegin IsInterfaceItem
items_begin (item.Use u) s i j h = use_begins u s i j h
items_begin (item.Type t) s i j h = type_item_begins t s i j h
items_begin (item.Func f) s i j h = func_begins f s i j h

renames_longer : (rs : List Rename) (s : Source) (i j : ℕ) → AreRenames rs s i j → i < j
renames_longer rs s i j (inl h) = let a = h.1.1 in omega arith
renames_longer rs s i j (inr h) = let a = h.1.1 in let b = listed_longer (IsRename true) _ _ (renames_begin true) rs s h.0 j h.2 in omega arith

extern_longer : (x : Extern) (s : Source) (i j : ℕ) → IsExtern x s i j → i < j
extern_longer (extern.Path p) s i j h = let a = path_longer p s i h.0 h.1 in let b = h.2.1 in omega arith
extern_longer (extern.Func name f) s i j h = let a = h.1.2 in let b = h.2.1.1 in let c = signature_longer f s h.2.0 j h.2.2 in omega arith
extern_longer (extern.Inline name items) s i j h = let a = h.1.2 in let b = h.2.1.1 in let c = h.2.2.1.1 in let d = block_longer IsInterfaceItem items_begin items.items s h.2.2.0 j h.2.2.2 in omega arith
extern_longer (extern.Named name p) s i j h = let a = h.1.2 in let b = h.2.1.1 in let c = path_longer p s h.2.0 h.2.2.0 h.2.2.1 in let d = h.2.2.2.1 in omega arith

pub world_items_begin : AllBegin IsWorldItem
world_items_begin (of_world.Use u) s i j h = use_begins u s i j h
world_items_begin (of_world.Type t) s i j h = type_item_begins t s i j h
world_items_begin (of_world.Include n) s i j h =
    let p = h.2 in
    gated s n.gates i h.0 j h.1 (let a = p.1.1 in let b = path_longer n.path s p.0 p.2.0 p.2.1 in let c = renames_longer n.renames.items s p.2.0 j p.2.2 in omega arith, inl p.1.0.0)
world_items_begin (of_world.Import e) s i j h =
    let p = h.2 in
    gated s e.gates i h.0 j h.1 (let a = p.1.1 in let b = extern_longer e.what s p.0 j p.2.0 in omega arith, inl p.1.0.0)
world_items_begin (of_world.Export e) s i j h =
    let p = h.2 in
    gated s e.gates i h.0 j h.1 (let a = p.1.1 in let b = extern_longer e.what s p.0 j p.2.0 in omega arith, inl p.1.0.0)

pub top_items_begin : AllBegin IsTopItem
top_items_begin (top.Use u) s i j h =
    (let a = h.1.1 in let b = path_longer u.path s h.0 h.2.0 h.2.1 in let c = alias_longer false u.alias s h.2.0 h.2.2.0 h.2.2.1 in let d = h.2.2.2.1 in omega arith, inl h.1.0.0)
top_items_begin (top.Interface d) s i j h =
    let p = h.2 in
    gated s d.gates i h.0 j h.1 (let a = p.1.1 in let b = p.2.1.2 in let c = block_longer IsInterfaceItem items_begin d.items.items s p.2.0 j p.2.2 in omega arith, inl p.1.0.0)
top_items_begin (top.World d) s i j h =
    let p = h.2 in
    gated s d.gates i h.0 j h.1 (let a = p.1.1 in let b = p.2.1.2 in let c = block_longer IsWorldItem world_items_begin d.items.items s p.2.0 j p.2.2 in omega arith, inl p.1.0.0)
