-- Items and what a setting takes from them; exports that are all as they should be.
use Rattle.std.proofs.Common.{◌≡◌, ◌⊎◌, inl, inr, ℕ, zero, suc, ◌<◌, List, [], ◌∷◌, Contains, Some, arith, length, sym, ap, subst, ◌∙◌, true}
use Rattle.std.specs.Prelude.{String, slice_get, string_bytes}
use Rattle.std.proofs.lemmas.Option.{slice_get_within, slice_get-get_or}
use Rattle.std.proofs.lemmas.List.{length-map}
use Rattle.std.proofs.Math.Nat.{eq-or-lt_of_le}
use Rattle.std.specs.declared.alloc.Global.{Global}
use Rattle.wac_model.specs.ItemTree.{ItemTree}
use Rattle.wac_model.specs.Text.{Text}
use Rattle.wac_model.specs.ValueTree.{FuncTree}
use Rattle.wac_component.proofs.Among.{Contains-cases, Contains-first, Contains-later}
use Rattle.wac_component.specs.Collection.{Collection}
use Rattle.wac_component.specs.declared.items.ItemKind.{ItemKind}
use Rattle.wac_component.specs.declared.items.ItemKind.TheVariants.{Func, «Type» as OfType}
use Rattle.wac_wit_syntax.specs.declared.tree.FuncItem.{FuncItem}
use Rattle.wac_wit_syntax.specs.declared.tree.InterfaceItem.{InterfaceItem}
use Rattle.wac_wit_syntax.specs.declared.tree.InterfaceItem.TheVariants as inside
use Rattle.wac_wit_syntax.specs.declared.tree.TypeItem.{TypeItem}
use Rattle.wac_wit_syntax.specs.declared.tree.UseItem.{UseItem}
use Rattle.wac_wit_validation_types.specs.Exports.{AreExportsOf, HasFuncItem, HasItem, HasTypeItem, IsExportAt, IsRepresented, MarksExports, Offers, named_items}
use Rattle.wac_wit_validation_types.specs.Denoted.{Denoted, NamesType, Setting, defined, funcs_in, interface_setting, types_in, used, uses_in}
use Rattle.wac_wit_validation_types.specs.Functions.{HasMethod, of_resource}
use Rattle.wac_wit_validation_types.specs.Interfaces.{HasExportOf, a_func, a_method, a_type}
use Rattle.wac_wit_validation_types.specs.Reading.{IsItemNamed, TypesAreNamed}
use Rattle.wac_wit_scopes.specs.WitSources.{ScopeSyntax, WitSources}
use Rattle.wac_wit_validation_types.specs.declared.names.NamedTypes.{NamedTypes}
use Rattle.wac_wit_validation_types.specs.declared.progress.ExportMarks.{ExportMarks}

-- what is among items is among what the setting takes from them, and the other way round

pub use_kept : (u : UseItem) (is : List InterfaceItem) → Contains is (inside.Use u) → Contains (uses_in is) u
use_kept u [] (k, h, e) = absurd (omega (arith, h))
use_kept u (inside.Use v ∷ is) among = elim (Contains-cases (inside.Use u) (inside.Use v) is among) [ inl e ↦ subst (λ (w : UseItem). Contains (v ∷ uses_in is) w) (cc e) (Contains-first v (uses_in is)) | inr h ↦ Contains-later u v (uses_in is) (use_kept u is h) ]
use_kept u (inside.Type t ∷ is) among = elim (Contains-cases (inside.Use u) (inside.Type t) is among) [ inl e ↦ absurd (cc e) | inr h ↦ use_kept u is h ]
use_kept u (inside.Func f ∷ is) among = elim (Contains-cases (inside.Use u) (inside.Func f) is among) [ inl e ↦ absurd (cc e) | inr h ↦ use_kept u is h ]

type_kept : (t : TypeItem) (is : List InterfaceItem) → Contains is (inside.Type t) → Contains (types_in is) t
type_kept t [] (k, h, e) = absurd (omega (arith, h))
type_kept t (inside.Use v ∷ is) among = elim (Contains-cases (inside.Type t) (inside.Use v) is among) [ inl e ↦ absurd (cc e) | inr h ↦ type_kept t is h ]
type_kept t (inside.Type v ∷ is) among = elim (Contains-cases (inside.Type t) (inside.Type v) is among) [ inl e ↦ subst (λ (w : TypeItem). Contains (v ∷ types_in is) w) (cc e) (Contains-first v (types_in is)) | inr h ↦ Contains-later t v (types_in is) (type_kept t is h) ]
type_kept t (inside.Func f ∷ is) among = elim (Contains-cases (inside.Type t) (inside.Func f) is among) [ inl e ↦ absurd (cc e) | inr h ↦ type_kept t is h ]

func_kept : (f : FuncItem) (is : List InterfaceItem) → Contains is (inside.Func f) → Contains (funcs_in is) f
func_kept f [] (k, h, e) = absurd (omega (arith, h))
func_kept f (inside.Use v ∷ is) among = elim (Contains-cases (inside.Func f) (inside.Use v) is among) [ inl e ↦ absurd (cc e) | inr h ↦ func_kept f is h ]
func_kept f (inside.Type t ∷ is) among = elim (Contains-cases (inside.Func f) (inside.Type t) is among) [ inl e ↦ absurd (cc e) | inr h ↦ func_kept f is h ]
func_kept f (inside.Func v ∷ is) among = elim (Contains-cases (inside.Func f) (inside.Func v) is among) [ inl e ↦ subst (λ (w : FuncItem). Contains (v ∷ funcs_in is) w) (cc e) (Contains-first v (funcs_in is)) | inr h ↦ Contains-later f v (funcs_in is) (func_kept f is h) ]

pub items_offered : (of : WitSources) (w : ScopeSyntax) (is : List InterfaceItem) (x : InterfaceItem) → Contains is x → Offers (interface_setting of w is) x
items_offered of w is (inside.Use u) among = use_kept u is among
items_offered of w is (inside.Type t) among = type_kept t is among
items_offered of w is (inside.Func f) among = func_kept f is among

pub use_back : (u : UseItem) (is : List InterfaceItem) → Contains (uses_in is) u → Contains is (inside.Use u)
use_back u [] (k, h, e) = absurd (omega (arith, h))
use_back u (inside.Use v ∷ is) among = elim (Contains-cases u v (uses_in is) among) [ inl e ↦ subst (λ (w : UseItem). Contains (inside.Use v ∷ is) (inside.Use w)) e (Contains-first (inside.Use v) is) | inr h ↦ Contains-later (inside.Use u) (inside.Use v) is (use_back u is h) ]
use_back u (inside.Type t ∷ is) among = Contains-later (inside.Use u) (inside.Type t) is (use_back u is among)
use_back u (inside.Func f ∷ is) among = Contains-later (inside.Use u) (inside.Func f) is (use_back u is among)

type_back : (t : TypeItem) (is : List InterfaceItem) → Contains (types_in is) t → Contains is (inside.Type t)
type_back t [] (k, h, e) = absurd (omega (arith, h))
type_back t (inside.Use v ∷ is) among = Contains-later (inside.Type t) (inside.Use v) is (type_back t is among)
type_back t (inside.Type v ∷ is) among = elim (Contains-cases t v (types_in is) among) [ inl e ↦ subst (λ (w : TypeItem). Contains (inside.Type v ∷ is) (inside.Type w)) e (Contains-first (inside.Type v) is) | inr h ↦ Contains-later (inside.Type t) (inside.Type v) is (type_back t is h) ]
type_back t (inside.Func f ∷ is) among = Contains-later (inside.Type t) (inside.Func f) is (type_back t is among)

func_back : (f : FuncItem) (is : List InterfaceItem) → Contains (funcs_in is) f → Contains is (inside.Func f)
func_back f [] (k, h, e) = absurd (omega (arith, h))
func_back f (inside.Use v ∷ is) among = Contains-later (inside.Func f) (inside.Use v) is (func_back f is among)
func_back f (inside.Type t ∷ is) among = Contains-later (inside.Func f) (inside.Type t) is (func_back f is among)
func_back f (inside.Func v ∷ is) among = elim (Contains-cases f v (funcs_in is) among) [ inl e ↦ subst (λ (w : FuncItem). Contains (inside.Func v ∷ is) (inside.Func w)) e (Contains-first (inside.Func v) is) | inr h ↦ Contains-later (inside.Func f) (inside.Func v) is (func_back f is h) ]

pub offered_items : (of : WitSources) (w : ScopeSyntax) (is : List InterfaceItem) (x : InterfaceItem) → Offers (interface_setting of w is) x → Contains is x
offered_items of w is (inside.Use u) among = use_back u is among
offered_items of w is (inside.Type t) among = type_back t is among
offered_items of w is (inside.Func f) among = func_back f is among

-- a type or a function that has a name is an item that does
pub type_has_item : (es : List (Text × ItemKind)) (n : Text) → HasTypeItem es n → HasItem es n
type_has_item es n has = record { kind = OfType has.is; among = has.among }

pub func_has_item : (es : List (Text × ItemKind)) (n : Text) → HasFuncItem es n → HasItem es n
func_has_item es n has = record { kind = Func has.id; among = has.among }

module _ (s : Setting) (es : List (Text × ItemKind)) (covers : (x : InterfaceItem) → Offers s x → IsRepresented s es x) where
  pub type_named : (n : Text) (m : Denoted) → NamesType s n m → HasTypeItem es n
  type_named n m (defined t among there is d) = subst (HasTypeItem es) is (covers (inside.Type t) among there).0
  type_named n m (used u r d among there within given leads has from) = subst (HasTypeItem es) given (covers (inside.Use u) among there r within)

  pub method_named : (n : Text) (f : FuncTree) → HasMethod s n f → HasFuncItem es n
  method_named n f (of_resource t ms m among there is within shown func) = (covers (inside.Type t) among there).1 ms is m within shown

  -- whatever the setting exports has an item
  pub export_named : (n : Text) (x : ItemTree) → HasExportOf s n x → HasItem es n
  export_named n x (a_type {m = m} named) = type_has_item es n (type_named n m named)
  export_named n x (a_func f among there is) = covers (inside.Func f) among there
  export_named n x (a_method {g = f} of) = func_has_item es n (method_named n f of)

module _ (s : Setting) (c : Collection) (es : List (Text × ItemKind)) (each : (i : ℕ) → i < length es → IsExportAt s c es i) where
  -- each type is named, since those before it are
  pub exports_named : (n : ℕ) → TypesAreNamed s c n es
  exports_named zero = λ i e h at. absurd (omega (arith, h))
  exports_named (suc n) = λ i e h at. by_place (exports_named n) i e at (eq-or-lt_of_le {n = i} {m = n} (omega (arith, h)))
    where
      by_place : TypesAreNamed s c n es → (i : ℕ) (e : Text × ItemKind) → slice_get es i ≡ Some e → (i ≡ n) ⊎ (i < n) → IsItemNamed s e.0 c e.1
      by_place all i e at (inl is) = (each i (slice_get_within es i e at) e at (subst (λ (k : ℕ). TypesAreNamed s c k es) (sym is) all)).1
      by_place all i e at (inr below) = all i e below at

-- where all were marked, and each item has an export, the exports are those of the setting
pub all_exported : (s : Setting) (names : NamedTypes) (a b : ExportMarks) → length a.seen.items ≡ length names.items.now.entries → ((i : ℕ) → slice_get a.seen.items i ≡ Some true → ⊥) → MarksExports s names a b
    → ((i : ℕ) → i < length b.seen.items → slice_get b.seen.items i ≡ Some true) → ((x : InterfaceItem) → Offers s x → IsRepresented s (named_items names) x) → AreExportsOf s names.types.now (named_items names)
all_exported s names a b even none marks done covers = record {
  named = exports_named s names.types.now (named_items names) each (length (named_items names));
  each = λ e among. (each among.0 among.1 e (slice_get-get_or (named_items names) among.0 e among.1 ∙ ap (λ (x : Text × ItemKind). Some x) among.2) (exports_named s names.types.now (named_items names) each among.0)).0;
  all = export_named s (named_items names) covers;
  types = type_named s (named_items names) covers;
  methods = method_named s (named_items names) covers;
}
  where
    each : (i : ℕ) → i < length (named_items names) → IsExportAt s names.types.now (named_items names) i
    each i below = elim (marks.marked i (done i (omega (arith, even, marks.even, below, length-map {B = Text × ItemKind} names.items.now.entries (λ (e : String Global × ItemKind). (string_bytes e.0, e.1)))))) [ inl old ↦ absurd (none i old) | inr here ↦ here ]
