-- What an entry of a sound collection names stands there, and is lower.
use Rattle.std.proofs.Common.{◌≡◌, ◌<◌, ◌≤◌, ◌⊎◌, inl, inr, ℕ, List, length, get_or, Some, None, slice_get, arith, ap, ◌∙◌}
use Rattle.std.proofs.lemmas.List.{length-map}
use Rattle.std.proofs.lemmas.Option.{slice_get_cases}
use Rattle.std.specs.Option.{option_map}
use Rattle.wac_component.specs.Id.{Id}
use Rattle.wac_component.specs.Collection.{Collection, DefinedContent, ResourceContent, FuncContent, InterfaceContent, WorldContent}
use Rattle.wac_component.specs.Key.{Key, Entry, defined_entry, resource_entry, func_entry, interface_entry, world_entry, entry_keys, entry_at, defined_key, resource_key, func_key, interface_key, world_key, defined_keys, resource_keys, func_keys, interface_keys, world_keys, Stands, AllStand}
use Rattle.wac_component.specs.Sound.{IsSound}
use Rattle.wac_component.specs.Height.{height, keys_height}
use Rattle.wac_component.proofs.Lists.{slice_get-map}
use Rattle.wac_component.proofs.Unfolded.{entry_below}

entry_standing : (c : Collection) (k : Key) (e : Entry) → IsSound c → Stands c k → entry_at c k ≡ Some e → AllStand c (entry_keys e)
entry_standing c k e s st is = rw is at (s.standing k st)

pub defined_at : (c : Collection) (p : Id) (e : DefinedContent) → slice_get c.defined p.index ≡ Some e → entry_at c (defined_key p) ≡ Some (defined_entry e)
defined_at c p e is = slice_get-map defined_entry c.defined p.index ∙ ap (option_map defined_entry) is

pub resource_at : (c : Collection) (p : Id) (e : ResourceContent) → slice_get c.resources p.index ≡ Some e → entry_at c (resource_key p) ≡ Some (resource_entry e)
resource_at c p e is = slice_get-map resource_entry c.resources p.index ∙ ap (option_map resource_entry) is

pub func_at : (c : Collection) (p : Id) (e : FuncContent) → slice_get c.funcs p.index ≡ Some e → entry_at c (func_key p) ≡ Some (func_entry e)
func_at c p e is = slice_get-map func_entry c.funcs p.index ∙ ap (option_map func_entry) is

pub defined_standing : (c : Collection) (p : Id) (e : DefinedContent) → IsSound c → Stands c (defined_key p) → slice_get c.defined p.index ≡ Some e → AllStand c (defined_keys e)
defined_standing c p e s st is = entry_standing c (defined_key p) (defined_entry e) s st (defined_at c p e is)

pub resource_standing : (c : Collection) (p : Id) (e : ResourceContent) → IsSound c → Stands c (resource_key p) → slice_get c.resources p.index ≡ Some e → AllStand c (resource_keys e)
resource_standing c p e s st is = entry_standing c (resource_key p) (resource_entry e) s st (resource_at c p e is)

pub func_standing : (c : Collection) (p : Id) (e : FuncContent) → IsSound c → Stands c (func_key p) → slice_get c.funcs p.index ≡ Some e → AllStand c (func_keys e)
func_standing c p e s st is = entry_standing c (func_key p) (func_entry e) s st (func_at c p e is)

pub defined_lower : (c : Collection) (p : Id) (e : DefinedContent) → IsSound c → Stands c (defined_key p) → slice_get c.defined p.index ≡ Some e → keys_height c (defined_keys e) < height c (defined_key p)
defined_lower c p e s st is = entry_below c (defined_key p) (defined_entry e) s st (defined_at c p e is)

pub resource_lower : (c : Collection) (p : Id) (e : ResourceContent) → IsSound c → Stands c (resource_key p) → slice_get c.resources p.index ≡ Some e → keys_height c (resource_keys e) < height c (resource_key p)
resource_lower c p e s st is = entry_below c (resource_key p) (resource_entry e) s st (resource_at c p e is)

pub func_lower : (c : Collection) (p : Id) (e : FuncContent) → IsSound c → Stands c (func_key p) → slice_get c.funcs p.index ≡ Some e → keys_height c (func_keys e) < height c (func_key p)
func_lower c p e s st is = entry_below c (func_key p) (func_entry e) s st (func_at c p e is)

pub interface_at : (c : Collection) (p : Id) (e : InterfaceContent) → slice_get c.interfaces p.index ≡ Some e → entry_at c (interface_key p) ≡ Some (interface_entry e)
interface_at c p e is = slice_get-map interface_entry c.interfaces p.index ∙ ap (option_map interface_entry) is

pub interface_standing : (c : Collection) (p : Id) (e : InterfaceContent) → IsSound c → Stands c (interface_key p) → slice_get c.interfaces p.index ≡ Some e → AllStand c (interface_keys e)
interface_standing c p e s st is = entry_standing c (interface_key p) (interface_entry e) s st (interface_at c p e is)

pub interface_lower : (c : Collection) (p : Id) (e : InterfaceContent) → IsSound c → Stands c (interface_key p) → slice_get c.interfaces p.index ≡ Some e → keys_height c (interface_keys e) < height c (interface_key p)
interface_lower c p e s st is = entry_below c (interface_key p) (interface_entry e) s st (interface_at c p e is)

pub world_at : (c : Collection) (p : Id) (e : WorldContent) → slice_get c.worlds p.index ≡ Some e → entry_at c (world_key p) ≡ Some (world_entry e)
world_at c p e is = slice_get-map world_entry c.worlds p.index ∙ ap (option_map world_entry) is

pub world_standing : (c : Collection) (p : Id) (e : WorldContent) → IsSound c → Stands c (world_key p) → slice_get c.worlds p.index ≡ Some e → AllStand c (world_keys e)
world_standing c p e s st is = entry_standing c (world_key p) (world_entry e) s st (world_at c p e is)

pub world_lower : (c : Collection) (p : Id) (e : WorldContent) → IsSound c → Stands c (world_key p) → slice_get c.worlds p.index ≡ Some e → keys_height c (world_keys e) < height c (world_key p)
world_lower c p e s st is = entry_below c (world_key p) (world_entry e) s st (world_at c p e is)

-- an interface and a world that stand say something
found : {A : Type 0} (xs : List A) (i : ℕ) → i < length xs → (x : A) × (slice_get xs i ≡ Some x)
found {A = A} xs i low = of (slice_get_cases xs i).1
  where
    of : ((x : A) × (i < length xs) × (slice_get xs i ≡ Some x) × (get_or xs i x ≡ x)) ⊎ ((length xs ≤ i) × (slice_get xs i ≡ None)) → (x : A) × (slice_get xs i ≡ Some x)
    of (inl x) = (x.0, x.2)
    of (inr x) = absurd (omega (arith, low, x.0))

pub interface_found : (c : Collection) (p : Id) → Stands c (interface_key p) → (e : InterfaceContent) × (slice_get c.interfaces p.index ≡ Some e)
interface_found c p st = found c.interfaces p.index (let low = st.1 in omega (arith, low, length-map c.interfaces interface_entry))

pub world_found : (c : Collection) (p : Id) → Stands c (world_key p) → (e : WorldContent) × (slice_get c.worlds p.index ≡ Some e)
world_found c p st = found c.worlds p.index (let low = st.1 in omega (arith, low, length-map c.worlds world_entry))
