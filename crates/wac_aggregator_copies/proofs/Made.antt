-- An entry that is made of copies of what the foreign one names.
use Rattle.std.proofs.Common.{◌≡◌, ◌++◌, List, [], ◌∷◌, Some, slice_get, refl, ap, sym, subst, ◌∙◌}
use Rattle.std.specs.Option.{option_map}
use Rattle.wac_model.specs.CoreTree.{ModuleTree}
use Rattle.wac_component.specs.Id.{Id}
use Rattle.wac_component.specs.Collection.{Collection, DefinedContent, ResourceContent, FuncContent, InterfaceContent, WorldContent}
use Rattle.wac_aggregator_memo.specs.EntryOrder.{HasOwn}
use Rattle.wac_component.specs.Growth.{with_entry}
use Rattle.wac_component.specs.Key.{Key, Entry, Each, Stands, AllStand, defined_entry, resource_entry, func_entry, interface_entry, world_entry, module_entry, entry_at, entry_keys, other_keys, optional_keys, next, named_keys, use_keys, item_keys, defined_keys, resource_keys, func_keys, interface_keys, world_keys, defined_key, resource_key, func_key, interface_key, world_key, module_key}
use Rattle.wac_aggregator_memo.specs.Memo.{AddsPair, memo_of}
use Rattle.wac_aggregator_memo.specs.Renamed.{renamed_defined, renamed_resource, renamed_func, renamed_interface, renamed_world}
use Rattle.wac_component.specs.Sound.{IsSound}
use Rattle.wac_aggregator_memo.specs.declared.memo.Memo.{Memo}
use Rattle.wac_component.proofs.Keys.{Each-left, Each-right}
use Rattle.wac_component.proofs.Lists.{slice_get-map}
use Rattle.wac_component.proofs.Reading.{defined_at, resource_at, func_at, interface_at, world_at}
use Rattle.wac_component.proofs.Search.{next_at}
use Rattle.wac_names.specs.Class.{class_of}
use Rattle.wac_aggregator_narrowing.specs.Entering.{AddsCopy, IsCopiedInto, InterfaceIsCopied, WorldIsCopied}
use Rattle.wac_aggregator_narrowing.specs.Last.{last_key}
use Rattle.wac_aggregator_narrowing.specs.Leaves.{SaysSame, same_func, same_defined, same_resource, same_module}
use Rattle.wac_aggregator_narrowing.specs.State.{State}
use Rattle.wac_aggregator_narrowing.specs.Taking.{IsCopiedKey, AreCopiedKeys, no_keys}
use Rattle.wac_aggregator_narrowing.specs.Values.{IsCopiedValue, SameValue, IfAny, AreFuncs, AreDefined}
use Rattle.wac_aggregator_narrowing.proofs.Entering.{interface_copied, world_copied}
use Rattle.wac_aggregator_narrowing.proofs.EnteringLeaves.{leaf_copied}
use Rattle.wac_aggregator_narrowing.proofs.Mapped.{paired_each}
use Rattle.wac_aggregator_narrowing.proofs.Values.{funcs_more, func_parts, defined_more, defined_parts}
use Rattle.wac_aggregator_copies.specs.Copies.{IsState, MayCopy, IsCopiedAlias, HasCopies}
use Rattle.wac_aggregator_copies.proofs.CopyLemmas.{HasCopies-enter}
use Rattle.wac_aggregator_copies.proofs.Enters.{alias_parts, alias_roots, interface_parts, world_parts, interface_is_copied, world_is_copied}
use Rattle.wac_aggregator_copies.proofs.Renamed.{HasOne, each_both, defined_renamed, aliases_renamed, func_renamed, uses_renamed, items_renamed}

module _ (f c : Collection) (m : Memo) (sound : IsSound f) (may : MayCopy f c m) where
  -- in each state these ids are copies of what the foreign entry names
  abbrev ArePairs : List Key → List Key → Type 0
  ArePairs ks js = (s : State) → IsState f c m s → AreCopiedKeys f s ks js

  stand : (ks js : List Key) → ArePairs ks js → AllStand c js
  stand ks js pairs = subst (λ d. AllStand d js) may.is.own (paired_each (IsCopiedKey f may.state) (Stands may.state.own) (λ i j k. k.copy.own_stands) ks js (pairs may.state may.is))

  module _ (theirs : Key) (y : Entry) (st : Stands f theirs) (at : entry_at f theirs ≡ Some y) where
    parts_have : Each (HasOwn (memo_of m)) (next f theirs) → Each (HasOne f m) (entry_keys y)
    parts_have has = subst (Each (HasOne f m)) (next_at f theirs y at) (each_both f m (next f theirs) (sound.standing theirs st) has)

    module _ (z : Entry) (e : Collection) (o : Memo) (own : Key) (added : e ≡ with_entry c z) (last : own ≡ last_key c z) (adds : AddsPair (memo_of m) (memo_of o) theirs own) where
      made : ArePairs (entry_keys y) (entry_keys z) → ((s t : State) → IsState f c m s → AddsCopy f s t theirs z → IsCopiedInto class_of f s t theirs (last_key s.own z)) → HasCopies f c m e o (theirs ∷ [])
      made pairs enters = HasCopies-enter f c e m o theirs own z st.0 added last adds
          (λ s t is add. record { into = enters s t is add; parts = subst (λ ks. AreCopiedKeys f s ks (entry_keys z)) (sym (next_at f theirs y at)) (pairs s is) }) may

      made_leaf : ArePairs (entry_keys y) (entry_keys z) → ArePairs (other_keys y) (other_keys z) → ((s : State) → IsState f c m s → SaysSame f s.own theirs z) → HasCopies f c m e o (theirs ∷ [])
      made_leaf pairs leaves same = made pairs (λ s t is add. leaf_copied class_of f s is.kept sound theirs z st (same s is) t (subst (λ ks. AreCopiedKeys f s ks (other_keys z)) (sym (ap (optional_keys other_keys) at)) (leaves s is)) add)

  module _ (p : Id) (x z : DefinedContent) (st : Stands f (defined_key p)) (at : slice_get f.defined p.index ≡ Some x) (has : Each (HasOwn (memo_of m)) (next f (defined_key p))) (is : z ≡ renamed_defined (memo_of m) x) where
    defined_copied : (s : State) → IsState f c m s → AreDefined (IsCopiedValue f s) x z
    defined_copied s h = rw is (defined_renamed f c m s h x (parts_have (defined_key p) (defined_entry x) st (defined_at f p x at) has))

    defined_pairs : ArePairs (defined_keys x) (defined_keys z)
    defined_pairs s h = defined_parts (IsCopiedValue f s) (IsCopiedKey f s) (λ v w k. k.keys) x z (defined_copied s h)

    pub stands_defined : AllStand c (defined_keys z)
    stands_defined = stand (defined_keys x) (defined_keys z) defined_pairs

    pub made_defined : (e : Collection) (o : Memo) (own : Key) → e ≡ with_entry c (defined_entry z) → own ≡ last_key c (defined_entry z) → AddsPair (memo_of m) (memo_of o) (defined_key p) own → HasCopies f c m e o (defined_key p ∷ [])
    made_defined e o own added last adds = made_leaf (defined_key p) (defined_entry x) st (defined_at f p x at) (defined_entry z) e o own added last adds defined_pairs defined_pairs
        (λ s h. same_defined at (defined_more (IsCopiedValue f s) (SameValue f s.own) (λ v w k. k.same) x z (defined_copied s h)))

  module _ (p : Id) (x z : ResourceContent) (st : Stands f (resource_key p)) (at : slice_get f.resources p.index ≡ Some x) (has : Each (HasOwn (memo_of m)) (next f (resource_key p))) (is : z ≡ renamed_resource (memo_of m) x) where
    alias_copied : (s : State) → IsState f c m s → IfAny (IsCopiedAlias f s) x.alias z.alias
    alias_copied s h = rw is (aliases_renamed f c m s h x.alias (parts_have (resource_key p) (resource_entry x) st (resource_at f p x at) has))

    resource_pairs : ArePairs (resource_keys x) (resource_keys z)
    resource_pairs s h = alias_parts f s x.alias z.alias (alias_copied s h)

    pub stands_resource : AllStand c (resource_keys z)
    stands_resource = stand (resource_keys x) (resource_keys z) resource_pairs

    pub made_resource : (e : Collection) (o : Memo) (own : Key) → e ≡ with_entry c (resource_entry z) → own ≡ last_key c (resource_entry z) → AddsPair (memo_of m) (memo_of o) (resource_key p) own → HasCopies f c m e o (resource_key p ∷ [])
    made_resource e o own added last adds = made_leaf (resource_key p) (resource_entry x) st (resource_at f p x at) (resource_entry z) e o own added last adds resource_pairs resource_pairs
        (λ s h. same_resource at (record { name = ap (λ (r : ResourceContent). r.name) is; alias = alias_roots f s x.alias z.alias (alias_copied s h) }))

  module _ (p : Id) (x z : FuncContent) (st : Stands f (func_key p)) (at : slice_get f.funcs p.index ≡ Some x) (has : Each (HasOwn (memo_of m)) (next f (func_key p))) (is : z ≡ renamed_func (memo_of m) x) where
    func_copied : (s : State) → IsState f c m s → AreFuncs (IsCopiedValue f s) x z
    func_copied s h = rw is (func_renamed f c m s h x (parts_have (func_key p) (func_entry x) st (func_at f p x at) has))

    func_pairs : ArePairs (func_keys x) (func_keys z)
    func_pairs s h = func_parts (IsCopiedValue f s) (IsCopiedKey f s) (λ v w k. k.keys) x z (func_copied s h)

    pub stands_func : AllStand c (func_keys z)
    stands_func = stand (func_keys x) (func_keys z) func_pairs

    pub made_func : (e : Collection) (o : Memo) (own : Key) → e ≡ with_entry c (func_entry z) → own ≡ last_key c (func_entry z) → AddsPair (memo_of m) (memo_of o) (func_key p) own → HasCopies f c m e o (func_key p ∷ [])
    made_func e o own added last adds = made_leaf (func_key p) (func_entry x) st (func_at f p x at) (func_entry z) e o own added last adds func_pairs func_pairs
        (λ s h. same_func at (funcs_more (IsCopiedValue f s) (SameValue f s.own) (λ v w k. k.same) x z (func_copied s h)))

  module _ (p : Id) (x z : InterfaceContent) (st : Stands f (interface_key p)) (at : slice_get f.interfaces p.index ≡ Some x) (has : Each (HasOwn (memo_of m)) (next f (interface_key p))) (is : z ≡ renamed_interface (memo_of m) x) where
    interface_has : Each (HasOne f m) (interface_keys x)
    interface_has = parts_have (interface_key p) (interface_entry x) st (interface_at f p x at) has

    interface_is : (s : State) → IsState f c m s → InterfaceIsCopied f s p x z
    interface_is s h = rw is (interface_is_copied f s sound p x (renamed_interface (memo_of m) x) st at refl
        (uses_renamed f c m s h x.uses (Each-left (HasOne f m) (named_keys use_keys x.uses) (named_keys item_keys x.exports) interface_has))
        (items_renamed f c m s h x.exports (Each-right (HasOne f m) (named_keys use_keys x.uses) (named_keys item_keys x.exports) interface_has)))

    interface_pairs : ArePairs (interface_keys x) (interface_keys z)
    interface_pairs s h = interface_parts f s p x z (interface_is s h)

    pub stands_interface : AllStand c (interface_keys z)
    stands_interface = stand (interface_keys x) (interface_keys z) interface_pairs

    pub made_interface : (e : Collection) (o : Memo) (own : Key) → e ≡ with_entry c (interface_entry z) → own ≡ last_key c (interface_entry z) → AddsPair (memo_of m) (memo_of o) (interface_key p) own → HasCopies f c m e o (interface_key p ∷ [])
    made_interface e o own added last adds = made (interface_key p) (interface_entry x) st (interface_at f p x at) (interface_entry z) e o own added last adds interface_pairs (λ s t h add. interface_copied class_of f s h.kept p x z (interface_is s h) t add)

  module _ (p : Id) (x z : WorldContent) (st : Stands f (world_key p)) (at : slice_get f.worlds p.index ≡ Some x) (has : Each (HasOwn (memo_of m)) (next f (world_key p))) (is : z ≡ renamed_world (memo_of m) x) where
    world_has : Each (HasOne f m) (world_keys x)
    world_has = parts_have (world_key p) (world_entry x) st (world_at f p x at) has

    imports_have : Each (HasOne f m) (named_keys use_keys x.uses ++ named_keys item_keys x.imports)
    imports_have = Each-left (HasOne f m) (named_keys use_keys x.uses ++ named_keys item_keys x.imports) (named_keys item_keys x.exports) world_has

    world_is : (s : State) → IsState f c m s → WorldIsCopied f s p x z
    world_is s h = rw is (world_is_copied f s sound p x (renamed_world (memo_of m) x) st at
        (uses_renamed f c m s h x.uses (Each-left (HasOne f m) (named_keys use_keys x.uses) (named_keys item_keys x.imports) imports_have))
        (items_renamed f c m s h x.imports (Each-right (HasOne f m) (named_keys use_keys x.uses) (named_keys item_keys x.imports) imports_have))
        (items_renamed f c m s h x.exports (Each-right (HasOne f m) (named_keys use_keys x.uses ++ named_keys item_keys x.imports) (named_keys item_keys x.exports) world_has)))

    world_pairs : ArePairs (world_keys x) (world_keys z)
    world_pairs s h = world_parts f s p x z (world_is s h)

    pub stands_world : AllStand c (world_keys z)
    stands_world = stand (world_keys x) (world_keys z) world_pairs

    pub made_world : (e : Collection) (o : Memo) (own : Key) → e ≡ with_entry c (world_entry z) → own ≡ last_key c (world_entry z) → AddsPair (memo_of m) (memo_of o) (world_key p) own → HasCopies f c m e o (world_key p ∷ [])
    made_world e o own added last adds = made (world_key p) (world_entry x) st (world_at f p x at) (world_entry z) e o own added last adds world_pairs (λ s t h add. world_copied class_of f s h.kept p x z (world_is s h) t add)

  pub made_module : (e : Collection) (o : Memo) (p : Id) (own : Key) (x : ModuleTree) → Stands f (module_key p) → slice_get f.modules p.index ≡ Some x → e ≡ with_entry c (module_entry x) → own ≡ last_key c (module_entry x) → AddsPair (memo_of m) (memo_of o) (module_key p) own → HasCopies f c m e o (module_key p ∷ [])
  made_module e o p own x st at added last adds = made_leaf (module_key p) (module_entry x) st (slice_get-map module_entry f.modules p.index ∙ ap (option_map module_entry) at) (module_entry x) e o own added last adds (λ s h. no_keys) (λ s h. no_keys) (λ s h. same_module at)
