-- Entries all of whose parts were taken in: what they name stands, and they enter.
use Rattle.std.proofs.Common.{◌≡◌, ◌∙◌, List, [], ◌∷◌, length, Option, Some, None, slice_get, refl, ap, sym, subst, IsSome}
use Rattle.std.specs.Option.{option_and_then, option_map_or}
use Rattle.wac_component.specs.Entries.{entry_identifier, owner_at, entry_exports, entry_uses, exports_at, uses_at}
use Rattle.wac_component.specs.Open.{open_next}
use Rattle.wac_component.specs.Reach.{IsAmong}
use Rattle.wac_model.specs.Text.{Text}
use Rattle.wac_model.specs.CoreTree.{ModuleTree}
use Rattle.wac_component.specs.Id.{Id}
use Rattle.wac_component.specs.Collection.{Collection, DefinedContent, ResourceContent, AliasContent, FuncContent, UseContent, InterfaceContent, WorldContent}
use Rattle.wac_component.specs.Key.{defined_sort, resource_sort, func_sort, interface_sort, world_sort, module_sort, interface_keys, Key, Entry, entry_at, Stands, AllStand, other_keys, defined_entry, resource_entry, func_entry, interface_entry, world_entry, module_entry, import_keys, entry_keys, item_keys, Each, defined_key, resource_key, func_key, interface_key, world_key, module_key, defined_keys, func_keys, world_keys, alias_keys, optional_keys, named_keys, use_keys}
use Rattle.wac_component.specs.Sound.{IsSound}
use Rattle.wac_component.specs.Tree.{root_name, item_tree}
use Rattle.wac_component.specs.Growth.{with_entry}
use Rattle.wac_component.proofs.Adding.{IsSound-with_entry, Extends-with_entry}
use Rattle.wac_component.proofs.Lists.{slice_get-last}
use Rattle.wac_component.proofs.Among.{among_right}
use Rattle.wac_aggregator_narrowing.proofs.Adding.{last_at}
use Rattle.wac_aggregator_narrowing.proofs.Taking.{same_interface, same_world}
use Rattle.wac_component.specs.declared.items.ItemKind.{ItemKind}
use Rattle.wac_component.proofs.Reading.{defined_at, resource_at, func_at, interface_at, world_at}
use Rattle.wac_merge.proofs.ReadLemmas.{module_at}
use Rattle.wac_names.specs.Class.{class_of}
use Rattle.wac_aggregator_narrowing.specs.Entering.{AddsEntry, InterfaceIsTaken, WorldIsTaken}
use Rattle.wac_aggregator_narrowing.specs.Identified.{used_names}
use Rattle.wac_aggregator_narrowing.specs.Leaves.{SaysSame, same_func, same_defined, same_resource, same_module}
use Rattle.wac_aggregator_narrowing.specs.Remembers.{RemembersTruly}
use Rattle.wac_aggregator_narrowing.specs.State.{State, IsStateKept, RunsTaking}
use Rattle.wac_aggregator_narrowing.specs.Taking.{AreMapped, none, one, AreTakenKeys, no_keys, one_key, IsTakenKey, IsTakenItem, IsCopiedItem}
use Rattle.wac_aggregator_narrowing.specs.Values.{IsTakenValue, SameValue, IfAny, neither, both, AreFuncs, AreDefined}
use Rattle.wac_aggregator_narrowing.proofs.Entering.{interface_parts, interface_named, world_parts, world_named as world_names, world_enters as world_goes}
use Rattle.wac_aggregator_narrowing.proofs.EnteringLeaves.{leaf_enters, says_same}
use Rattle.wac_aggregator_narrowing.proofs.Mapped.{mapped_more, mapped_same, taken_of, taken_each, taken_named}
use Rattle.wac_aggregator_narrowing.proofs.Values.{funcs_more, defined_more, each_func, each_defined, func_parts, defined_parts}
use Rattle.wac_aggregator_taking.specs.Takes.{state_of, MayPutWorld, IsTakenAlias, IsOwnUse, IsOwnerImported}
use Rattle.wac_aggregator_taking.specs.declared.state.Merging.{Merging}
use Rattle.wac_aggregator_taking.proofs.Parts.{uses_still, items_still}
use Rattle.wac_aggregator_taking.proofs.TakeLemmas.{HasOwners, Enters}
use Rattle.wac_aggregator_copies.proofs.Enters.{items_low}
use Rattle.wac_aggregator_reasons.specs.Entering.{IsTakenIdentifiedUse}
use Rattle.wac_aggregator_reasons.specs.Split.{IsLow}
use Rattle.wac_aggregator_reasons.proofs.EntryAccounts.{IsMadeFrom}

-- the entry has no identifier, and exports, uses and imports nothing
record IsBareEntry (e : Entry) : Type 0 where
  plain : entry_identifier e ≡ None
  exports : entry_exports e ≡ []
  uses : entry_uses e ≡ []
  imports : import_keys e ≡ []

module _ (f : Collection) (s : State) where
  -- what is named stands

  pub defined_stands : (x z : DefinedContent) → AreDefined (IsTakenValue class_of f s) x z → AllStand s.own (defined_keys z)
  defined_stands x z h = each_defined (IsTakenValue class_of f s) (Stands s.own) (λ v w c. c.stands) x z h

  pub func_stands : (x z : FuncContent) → AreFuncs (IsTakenValue class_of f s) x z → AllStand s.own (func_keys z)
  func_stands x z h = each_func (IsTakenValue class_of f s) (Stands s.own) (λ v w c. c.stands) x z h

  alias_parts : (x y : Option AliasContent) → IfAny (IsTakenAlias f s) x y → AreTakenKeys class_of f s (optional_keys alias_keys x) (optional_keys alias_keys y)
  alias_parts x y neither = no_keys
  alias_parts x y (both c) = c.keys

  alias_roots : (x y : Option AliasContent) → IfAny (IsTakenAlias f s) x y → IfAny (λ a b. root_name s.own b.source ≡ root_name f a.source) x y
  alias_roots x y neither = neither
  alias_roots x y (both {x = a} {y = b} c) = both c.source

  pub alias_stands : (x y : Option AliasContent) → IfAny (IsTakenAlias f s) x y → AllStand s.own (optional_keys alias_keys y)
  alias_stands x y h = taken_each class_of f s (Stands s.own) (λ i j k. k.remembered.stands_for.own_stands) (optional_keys alias_keys x) (optional_keys alias_keys y) (alias_parts x y h)

  -- what is used

  use_parts : (us vs : List (Text × UseContent)) → AreMapped (IsOwnUse f s) us vs → AreTakenKeys class_of f s (named_keys use_keys us) (named_keys use_keys vs)
  use_parts us vs m = taken_named class_of f s (IsOwnUse f s) use_keys use_keys (λ u v c. one_key c.interface no_keys) us vs m

  same_names : (us vs : List (Text × UseContent)) → AreMapped (IsOwnUse f s) us vs → used_names vs ≡ used_names us
  same_names us vs none = refl
  same_names us vs (one {n = n} {xs = xs} {ys = ys} h m) = ap (λ ns. n ∷ ns) (same_names xs ys m)

  module _ (sound : IsSound f) where
    pub interface_is_taken : (p : Id) (x : InterfaceContent) (us : List (Text × UseContent)) (es : List (Text × ItemKind)) → Stands f (interface_key p) → slice_get f.interfaces p.index ≡ Some x → AreMapped (IsOwnUse f s) x.uses us → AreMapped (IsTakenItem class_of f s) x.exports es
        → InterfaceIsTaken class_of f s p x (record { id = None; uses = us; exports = es })
    interface_is_taken p x us es st at used exported = record {
      sound = sound;
      stands = st;
      entry = at;
      names = same_names x.uses us used;
      uses = use_parts x.uses us used;
      exports = exported;
    }

    pub world_is_taken : (p : Id) (x z : WorldContent) → Stands f (world_key p) → slice_get f.worlds p.index ≡ Some x → AreMapped (IsOwnUse f s) x.uses z.uses → AreMapped (IsCopiedItem f s) x.imports z.imports → AreMapped (IsTakenItem class_of f s) x.exports z.exports → WorldIsTaken class_of f s p x z
    world_is_taken p x z st at used imported exported = record {
      sound = sound;
      stands = st;
      entry = at;
      names = same_names x.uses z.uses used;
      uses = use_parts x.uses z.uses used;
      imports = imported;
      exports = exported;
    }

    pub world_stands : IsStateKept s → (p : Id) (x z : WorldContent) → WorldIsTaken class_of f s p x z → AllStand s.own (world_keys z)
    world_stands kept p x z h = world_names class_of f s kept p x z h

    -- what was made of parts that were taken in

    identified_uses : (us vs : List (Text × UseContent)) → AreMapped (IsOwnUse f s) us vs → AreMapped (IsTakenIdentifiedUse f s) us vs
    identified_uses us vs m = mapped_more (IsOwnUse f s) (IsTakenIdentifiedUse f s) (λ u v c. record { same_name = c.name; identified = c.identified; taken = c.interface }) us vs m

    pub interface_made : IsStateKept s → (p : Id) (x z : InterfaceContent) → InterfaceIsTaken class_of f s p x z → AreMapped (IsOwnUse f s) x.uses z.uses → IsMadeFrom f s (interface_key p) (interface_entry z)
    interface_made kept p x z h used =
        let at = interface_at f p x h.entry in
        let exports : exports_at f (interface_key p) ≡ x.exports = ap (λ o. option_map_or entry_exports o []) at in
        let uses : uses_at f (interface_key p) ≡ x.uses = ap (λ o. option_map_or entry_uses o []) at in
        let named = interface_named class_of f s kept p x z h in
        record {
          named = named;
          parts = interface_parts class_of f s kept p x z h;
          exports = subst (λ es. AreMapped (IsTakenItem class_of f s) es z.exports) (sym exports) h.exports;
          opens = λ k m. subst (IsAmong k) (sym (ap (optional_keys other_keys) at)) (among_right (named_keys use_keys x.uses) (named_keys item_keys x.exports) (subst (λ es. IsAmong k (named_keys item_keys es)) exports m));
          uses = subst (λ us. AreMapped (IsTakenIdentifiedUse f s) us z.uses) (sym uses) (identified_uses x.uses z.uses used);
          lows = tt;
          same = λ m.
              let d = with_entry s.own (interface_entry z) in
              same_interface f d p (record { number = s.own.number; index = length s.own.interfaces }) h.sound (IsSound-with_entry s.own (interface_entry z) kept.good.sound named) x z h.stands (last_at s.own (interface_entry z)).stands h.entry (slice_get-last s.own.interfaces z)
              (mapped_same f d x.exports z.exports (subst (λ es. AreMapped (λ a b. item_tree d b ≡ item_tree f a) es z.exports) exports m));
        }

    world_made : IsStateKept s → (p : Id) (x z : WorldContent) → WorldIsTaken class_of f s p x z → AreMapped (IsOwnUse f s) x.uses z.uses → IsMadeFrom f s (world_key p) (world_entry z)
    world_made kept p x z h used =
        let at = world_at f p x h.entry in
        let exports : exports_at f (world_key p) ≡ x.exports = ap (λ o. option_map_or entry_exports o []) at in
        let uses : uses_at f (world_key p) ≡ x.uses = ap (λ o. option_map_or entry_uses o []) at in
        let named = world_names class_of f s kept p x z h in
        let grows = Extends-with_entry s.own (world_entry z) kept.good.sound in
        record {
          named = named;
          parts = world_parts class_of f s kept p x z h;
          exports = subst (λ es. AreMapped (IsTakenItem class_of f s) es z.exports) (sym exports) h.exports;
          opens = λ k m. subst (IsAmong k) (sym (ap (optional_keys other_keys) at)) (among_right (named_keys use_keys x.uses) (named_keys item_keys x.exports) (subst (λ es. IsAmong k (named_keys item_keys es)) exports m));
          uses = subst (λ us. AreMapped (IsTakenIdentifiedUse f s) us z.uses) (sym uses) (identified_uses x.uses z.uses used);
          lows = items_low f s x.imports z.imports h.imports;
          same = λ m.
              let d = with_entry s.own (world_entry z) in
              same_world f d p (record { number = s.own.number; index = length s.own.worlds }) h.sound (IsSound-with_entry s.own (world_entry z) kept.good.sound named) x z h.stands (last_at s.own (world_entry z)).stands h.entry (slice_get-last s.own.worlds z)
              (mapped_same f d x.imports z.imports (mapped_more (IsCopiedItem f s) (λ a b. item_tree d b ≡ item_tree f a) (λ a b k. grows.trees b k.stands ∙ k.same) x.imports z.imports h.imports))
              (mapped_same f d x.exports z.exports (subst (λ es. AreMapped (λ a b. item_tree d b ≡ item_tree f a) es z.exports) exports m));
        }

    -- entries enter, whose owners are imported where those of their parts are

    module _ (kept : IsStateKept s) (t : State) where
      noted : (theirs : Key) (x : Entry) (js : List Key) → entry_at f theirs ≡ Some x → AreTakenKeys class_of f s (other_keys x) js → (j : Key) → IsAmong j (open_next f theirs) → (o : Key) × (s.taken j ≡ Some o)
      noted theirs x js at parts j m = let o = taken_of class_of f s (other_keys x) js j parts (subst (IsAmong j) (ap (optional_keys other_keys) at) m) in (o.0, o.2.noted)

      leaf : (theirs : Key) (x z : Entry) → IsBareEntry x → IsBareEntry z → Stands f theirs → entry_at f theirs ≡ Some x → AllStand s.own (entry_keys z) → SaysSame f s.own theirs z → AreTakenKeys class_of f s (other_keys x) (other_keys z) → ((r : Id) → theirs ≡ resource_key r → IsOwnerImported f s (owner_at f r))
          → AddsEntry f s t theirs z → t.shared ≡ s.shared → Enters f s t theirs z
      leaf theirs x z is own_is st at named says parts self adds same =
          let taken = subst (λ ks. AreTakenKeys class_of f s ks (other_keys z)) (sym (ap (optional_keys other_keys) at)) parts in
          record {
            plain = own_is.plain;
            entered = leaf_enters class_of f s kept sound theirs z st says t taken adds same;
            owners = record { parts = noted theirs x (other_keys z) at parts; self = self };
            made = record {
              named = named;
              parts = taken;
              exports = subst (λ es. AreMapped (IsTakenItem class_of f s) es (entry_exports z)) (sym (ap (λ o. option_map_or entry_exports o []) at ∙ is.exports)) (subst (λ es. AreMapped (IsTakenItem class_of f s) [] es) (sym own_is.exports) none);
              opens = λ k m. absurd (nothing k (subst (λ es. IsAmong k (named_keys item_keys es)) (ap (λ o. option_map_or entry_exports o []) at ∙ is.exports) m));
              uses = subst (λ us. AreMapped (IsTakenIdentifiedUse f s) us (entry_uses z)) (sym (ap (λ o. option_map_or entry_uses o []) at ∙ is.uses)) (subst (λ us. AreMapped (IsTakenIdentifiedUse f s) [] us) (sym own_is.uses) none);
              lows = subst (λ ks. Each (IsLow s) ks) (sym own_is.imports) tt;
              same = λ m. says_same f s.own sound kept.good.sound theirs z st named says;
            };
          }
        where
          nothing : (k : Key) → IsAmong k [] → ⊥
          nothing k m = elim m [ ]

      pub defined_enters : (p : Id) (x z : DefinedContent) → Stands f (defined_key p) → slice_get f.defined p.index ≡ Some x → AreDefined (IsTakenValue class_of f s) x z → AddsEntry f s t (defined_key p) (defined_entry z) → t.shared ≡ s.shared
          → Enters f s t (defined_key p) (defined_entry z)
      defined_enters p x z st at h adds same =
          leaf (defined_key p) (defined_entry x) (defined_entry z) (record { plain = refl; exports = refl; uses = refl; imports = refl }) (record { plain = refl; exports = refl; uses = refl; imports = refl }) st (defined_at f p x at) (defined_stands x z h) (same_defined at (defined_more (IsTakenValue class_of f s) (SameValue f s.own) (λ v w c. c.same) x z h)) (defined_parts (IsTakenValue class_of f s) (IsTakenKey class_of f s) (λ v w c. c.keys) x z h) (λ r e. absurd (let no : defined_sort ≡ resource_sort = ap (λ (k : Key). k.sort) e in cc)) adds same

      pub func_enters : (p : Id) (x z : FuncContent) → Stands f (func_key p) → slice_get f.funcs p.index ≡ Some x → AreFuncs (IsTakenValue class_of f s) x z → AddsEntry f s t (func_key p) (func_entry z) → t.shared ≡ s.shared
          → Enters f s t (func_key p) (func_entry z)
      func_enters p x z st at h adds same =
          leaf (func_key p) (func_entry x) (func_entry z) (record { plain = refl; exports = refl; uses = refl; imports = refl }) (record { plain = refl; exports = refl; uses = refl; imports = refl }) st (func_at f p x at) (func_stands x z h) (same_func at (funcs_more (IsTakenValue class_of f s) (SameValue f s.own) (λ v w c. c.same) x z h)) (func_parts (IsTakenValue class_of f s) (IsTakenKey class_of f s) (λ v w c. c.keys) x z h) (λ r e. absurd (let no : func_sort ≡ resource_sort = ap (λ (k : Key). k.sort) e in cc)) adds same

      alias_imported : (r : Id) (x : ResourceContent) (y : Option AliasContent) → slice_get f.resources r.index ≡ Some x → IfAny (IsTakenAlias f s) x.alias y → IsOwnerImported f s (owner_at f r)
      alias_imported r x y at h i n is named = go x.alias y h (sym (ap (λ o. option_and_then (λ (e : ResourceContent). option_and_then (λ (a : AliasContent). a.owner) e.alias) o) at) ∙ is)
        where
          go : (a b : Option AliasContent) → IfAny (IsTakenAlias f s) a b → option_and_then (λ (c : AliasContent). c.owner) a ≡ Some i → IsSome (s.imports n)
          go a b neither e = absurd (cc)
          go a b (both c) e = c.owner i n e named

      pub resource_enters : (p : Id) (x z : ResourceContent) → Stands f (resource_key p) → slice_get f.resources p.index ≡ Some x → z.name ≡ x.name → IfAny (IsTakenAlias f s) x.alias z.alias → AddsEntry f s t (resource_key p) (resource_entry z) → t.shared ≡ s.shared
          → Enters f s t (resource_key p) (resource_entry z)
      resource_enters p x z st at name h adds same =
          leaf (resource_key p) (resource_entry x) (resource_entry z) (record { plain = refl; exports = refl; uses = refl; imports = refl }) (record { plain = refl; exports = refl; uses = refl; imports = refl }) st (resource_at f p x at) (alias_stands x.alias z.alias h) (same_resource at (record { name = name; alias = alias_roots x.alias z.alias h })) (alias_parts x.alias z.alias h)
          (λ r e. let same_id : p ≡ r = ap (λ (k : Key). k.id) e in subst (λ i. IsOwnerImported f s (owner_at f i)) same_id (alias_imported p x z.alias at h)) adds same

      pub module_enters : (p : Id) (x : ModuleTree) → Stands f (module_key p) → slice_get f.modules p.index ≡ Some x → AddsEntry f s t (module_key p) (module_entry x) → t.shared ≡ s.shared → Enters f s t (module_key p) (module_entry x)
      module_enters p x st at adds same = leaf (module_key p) (module_entry x) (module_entry x) (record { plain = refl; exports = refl; uses = refl; imports = refl }) (record { plain = refl; exports = refl; uses = refl; imports = refl }) st (module_at f p x at) tt (same_module at) no_keys (λ r e. absurd (let no : module_sort ≡ resource_sort = ap (λ (k : Key). k.sort) e in cc)) adds same

      pub world_enters : (p : Id) (x z : WorldContent) → WorldIsTaken class_of f s p x z → AreMapped (IsOwnUse f s) x.uses z.uses → AddsEntry f s t (world_key p) (world_entry z) → t.shared ≡ s.shared → Enters f s t (world_key p) (world_entry z)
      world_enters p x z h used adds same = record {
        plain = refl;
        entered = world_goes class_of f s kept p x z h t adds same;
        made = world_made kept p x z h used;
        owners = record { parts = λ j m. let o = taken_of class_of f s (open_next f (world_key p)) (other_keys (world_entry z)) j (world_parts class_of f s kept p x z h) m in (o.0, o.2.noted); self = λ r e. absurd (let no : world_sort ≡ resource_sort = ap (λ (k : Key). k.sort) e in cc) };
      }

    -- of an interface
    pub interface_owners : IsStateKept s → (p : Id) (x z : InterfaceContent) → InterfaceIsTaken class_of f s p x z → HasOwners f s (interface_key p)
    interface_owners kept p x z h = record { parts = λ j m. let o = taken_of class_of f s (open_next f (interface_key p)) (interface_keys z) j (interface_parts class_of f s kept p x z h) m in (o.0, o.2.noted); self = λ r e. absurd (let no : interface_sort ≡ resource_sort = ap (λ (k : Key). k.sort) e in cc) }

-- a world whose uses and exports were taken in, once what it imports was copied
pub world_put : (f : Collection) (a b : Merging) → RunsTaking (RemembersTruly class_of) f (state_of a) (state_of b) → IsStateKept (state_of a) → (p : Id) (x z : WorldContent) → IsSound f → Stands f (world_key p) → slice_get f.worlds p.index ≡ Some x → MayPutWorld f a p z.uses z.exports
    → AreMapped (IsCopiedItem f (state_of b)) x.imports z.imports → WorldIsTaken class_of f (state_of b) p x z × AreMapped (IsOwnUse f (state_of b)) x.uses z.uses
world_put f a b run kept p x z sound stands at may imported =
    let same : may.content ≡ x = let both : Some may.content ≡ Some x = sym may.entry ∙ at in cc in
    let used = uses_still f (state_of a) (state_of b) kept (RemembersTruly class_of) f run x.uses z.uses (subst (λ (w : WorldContent). AreMapped (IsOwnUse f (state_of a)) w.uses z.uses) same may.used) in
    let exported = items_still f (state_of a) (state_of b) kept (RemembersTruly class_of) f run x.exports z.exports (subst (λ (w : WorldContent). AreMapped (IsTakenItem class_of f (state_of a)) w.exports z.exports) same may.exported) in
    (world_is_taken f (state_of b) sound p x z stands at used imported exported, used)
