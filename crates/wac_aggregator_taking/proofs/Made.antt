-- An entry that is made of what was taken in for what the foreign one names.
use Rattle.std.proofs.Common.{◌≡◌, ◌++◌, ℕ, List, [], ◌∷◌, Option, Some, None, slice_get, zero, refl, ap, sym, subst, ◌∙◌, arith}
use Rattle.std.specs.Option.{option_and_then, option_map, option_map_or}
use Rattle.wac_model.specs.CoreTree.{ModuleTree}
use Rattle.wac_model.specs.Text.{Text}
use Rattle.wac_component.specs.Collection.{Collection, DefinedContent, ResourceContent, AliasContent, FuncContent, UseContent, InterfaceContent, WorldContent}
use Rattle.wac_component.specs.Entries.{identifier_at, owner_at, entry_uses, entry_exports, uses_at, exports_at}
use Rattle.wac_aggregator_memo.specs.EntryOrder.{HasOwn}
use Rattle.wac_component.specs.Growth.{with_entry}
use Rattle.wac_component.specs.Height.{height}
use Rattle.wac_component.specs.Id.{Id}
use Rattle.wac_component.specs.Key.{Key, Entry, Each, Stands, AllStand, entry_at, defined_entry, resource_entry, func_entry, entry_keys, optional_keys, next, alias_keys, named_keys, use_keys, item_keys, defined_keys, resource_keys, func_keys, defined_key, resource_key, func_key, interface_key, world_key, module_key, module_entry}
use Rattle.wac_aggregator_memo.specs.Memo.{AddsPair, memo_of}
use Rattle.wac_component.specs.Open.{open_next, OpenReaches, stay, step}
use Rattle.wac_component.specs.Reach.{IsAmong}
use Rattle.wac_aggregator_memo.specs.Renamed.{renamed_defined, renamed_resource, renamed_func, renamed_use, renamed_item, with_values}
use Rattle.wac_component.specs.Sound.{IsSound}
use Rattle.wac_component.specs.declared.items.ItemKind.{ItemKind}
use Rattle.wac_component.proofs.Among.{among_single}
use Rattle.wac_component.proofs.Lists.{slice_get-map}
use Rattle.wac_component.proofs.OpenWalks.{opens_stand}
use Rattle.wac_component.proofs.Reading.{defined_at, resource_at, func_at, interface_at, world_at}
use Rattle.wac_component.proofs.Search.{next_at}
use Rattle.wac_aggregator_copies.proofs.CopyLemmas.{noted_of, has_of}
use Rattle.wac_aggregator_copies.proofs.Renamed.{HasOne, each_both}
use Rattle.wac_merge.proofs.ReadLemmas.{module_at}
use Rattle.wac_names.specs.Class.{class_of}
use Rattle.wac_aggregator_narrowing.specs.Entering.{AddsEntry}
use Rattle.wac_aggregator_narrowing.specs.Last.{last_key}
use Rattle.wac_aggregator_narrowing.specs.State.{State, IsStateKept}
use Rattle.wac_aggregator_narrowing.specs.Taking.{AreMapped, IsTakenKey, IsTakenItem}
use Rattle.wac_aggregator_narrowing.specs.Values.{IsTakenValue, IfAny, AreDefined, AreFuncs, neither, both}
use Rattle.wac_aggregator_taking.specs.Steps.{AreContentsNoted, AreUsesNoted, LacksSource, IsOwnerTold}
use Rattle.wac_aggregator_taking.specs.Takes.{state_of, MayTake, MayPut, MayPutWorld, AreKnown, TakesBy, Takes, IsTakenAlias, IsOwnUse, IsOwnerImported, alias_at}
use Rattle.wac_aggregator_taking.specs.declared.state.Merging.{Merging}
use Rattle.wac_aggregator_taking.proofs.Enters.{defined_stands, func_stands, alias_stands, defined_enters, func_enters, resource_enters, module_enters, interface_is_taken}
use Rattle.wac_aggregator_taking.proofs.Taken.{key_taken, uses_taken, items_taken, defined_taken, func_taken, aliases_taken}
use Rattle.wac_aggregator_taking.proofs.TakeLemmas.{Enters, Takes-none, Takes-more, Takes-enter}
use Rattle.wac_aggregator_taking.proofs.Within.{within_all}

-- nothing is said of it
pub Takes-only : {near : List Key} (f : Collection) (a b : Merging) (top : ℕ) (ks : List Key) (Q : State → Type 0) → MayTake f a → TakesBy near f a b top ks Q → TakesBy near f a b top ks (λ t. Unit {0})
Takes-only f a b top ks Q may h = Takes-more f a b top top ks ks Q (λ t. Unit {0}) (omega arith) (within_all f ks) may (λ t kept q. tt) h

-- an id all of whose parts were taken in, and which isn't one of an interface with an identifier
pub parts_known : (f : Collection) (a : Merging) (k : Key) → IsSound f → MayTake f a → Stands f k → identifier_at f k ≡ None → ((j : Key) → IsAmong j (open_next f k) → HasOwn (memo_of a.taken) j) → AreKnown f a (k ∷ [])
parts_known f a k sound may st plain has t n w is = by_walk w.0 (among_single k w.1) w.2
  where
    by_walk : (i : Key) → i ≡ k → OpenReaches f i t → (own : Key) × (memo_of a.taken t ≡ Some own)
    by_walk i e stay = absurd (let no : None ≡ Some n = sym plain ∙ sym (ap (identifier_at f) e) ∙ is in cc)
    by_walk i e (step {j = j} m v) =
        let among = subst (λ x. IsAmong j (open_next f x)) e m in
        let own = noted_of (memo_of a.taken j) (has j among) in
        (key_taken f a may j own.0 (opens_stand f sound k j st (step among stay)).0 own.1).closed t n v is

module _ (f : Collection) (a : Merging) (sound : IsSound f) (may : MayTake f a) where
  parts_have : (theirs : Key) (y : Entry) → Stands f theirs → entry_at f theirs ≡ Some y → Each (HasOwn (memo_of a.taken)) (next f theirs) → Each (HasOne f a.taken) (entry_keys y)
  parts_have theirs y st at has = subst (Each (HasOne f a.taken)) (next_at f theirs y at) (each_both f a.taken (next f theirs) (sound.standing theirs st) has)

  -- it enters, and is noted
  made : (c : Merging) (theirs own : Key) (z : Entry) → Stands f theirs → c ≡ record a { types = c.types; taken = c.taken } → c.types ≡ with_entry a.types z → own ≡ last_key a.types z → AddsPair (memo_of a.taken) (memo_of c.taken) theirs own
      → ((t : State) → IsStateKept (state_of a) → AddsEntry f (state_of a) t theirs z → t.shared ≡ (state_of a).shared → Enters f (state_of a) t theirs z) → Takes f a c (height f theirs) (theirs ∷ []) (λ t. Unit {0})
  made c theirs own z st same added last adds enters =
      Takes-only f a c (height f theirs) (theirs ∷ []) (λ t. IsTakenKey class_of f t theirs own) may
      (Takes-enter f a a c theirs own z zero [] (λ s. Unit {0}) may sound st (omega arith) (λ k m. elim m [ ]) (Takes-none f a zero [] (λ s. Unit {0}) may tt) same added last adds (λ t kept q add shared. enters t kept add shared))

  module _ (p : Id) (x z : DefinedContent) (st : Stands f (defined_key p)) (at : slice_get f.defined p.index ≡ Some x) (has : Each (HasOwn (memo_of a.taken)) (next f (defined_key p))) (is : z ≡ renamed_defined (memo_of a.taken) x) where
    defined_is : AreDefined (IsTakenValue class_of f (state_of a)) x z
    defined_is = rw is (defined_taken f a may x (parts_have (defined_key p) (defined_entry x) st (defined_at f p x at) has))

    pub stands_defined : AllStand a.types (defined_keys z)
    stands_defined = defined_stands f (state_of a) x z defined_is

    pub made_defined : (c : Merging) (own : Key) → c ≡ record a { types = c.types; taken = c.taken } → c.types ≡ with_entry a.types (defined_entry z) → own ≡ last_key a.types (defined_entry z) → AddsPair (memo_of a.taken) (memo_of c.taken) (defined_key p) own → Takes f a c (height f (defined_key p)) (defined_key p ∷ []) (λ t. Unit {0})
    made_defined c own same added last adds = made c (defined_key p) own (defined_entry z) st same added last adds (λ t kept add shared. defined_enters f (state_of a) sound kept t p x z st at defined_is add shared)

  module _ (p : Id) (x z : FuncContent) (st : Stands f (func_key p)) (at : slice_get f.funcs p.index ≡ Some x) (has : Each (HasOwn (memo_of a.taken)) (next f (func_key p))) (is : z ≡ renamed_func (memo_of a.taken) x) where
    func_is : AreFuncs (IsTakenValue class_of f (state_of a)) x z
    func_is = rw is (func_taken f a may x (parts_have (func_key p) (func_entry x) st (func_at f p x at) has))

    pub stands_func : AllStand a.types (func_keys z)
    stands_func = func_stands f (state_of a) x z func_is

    pub made_func : (c : Merging) (own : Key) → c ≡ record a { types = c.types; taken = c.taken } → c.types ≡ with_entry a.types (func_entry z) → own ≡ last_key a.types (func_entry z) → AddsPair (memo_of a.taken) (memo_of c.taken) (func_key p) own → Takes f a c (height f (func_key p)) (func_key p ∷ []) (λ t. Unit {0})
    made_func c own same added last adds = made c (func_key p) own (func_entry z) st same added last adds (λ t kept add shared. func_enters f (state_of a) sound kept t p x z st at func_is add shared)

  module _ (p : Id) (x z : ResourceContent) (st : Stands f (resource_key p)) (at : slice_get f.resources p.index ≡ Some x) (has : Each (HasOwn (memo_of a.taken)) (next f (resource_key p))) (imported : IsOwnerImported f (state_of a) (owner_at f p)) (is : z ≡ renamed_resource (memo_of a.taken) x) where
    owner_of : (y : AliasContent) → x.alias ≡ Some y → owner_at f p ≡ y.owner
    owner_of y of = ap (option_and_then (λ (r : ResourceContent). option_and_then (λ (b : AliasContent). b.owner) r.alias)) at ∙ ap (option_and_then (λ (b : AliasContent). b.owner)) of

    alias_is : IfAny (IsTakenAlias f (state_of a)) x.alias z.alias
    alias_is = rw is (aliases_taken f a may x.alias (λ y of. subst (IsOwnerImported f (state_of a)) (owner_of y of) imported) (parts_have (resource_key p) (resource_entry x) st (resource_at f p x at) has))

    pub stands_resource : AllStand a.types (resource_keys z)
    stands_resource = alias_stands f (state_of a) x.alias z.alias alias_is

    pub made_resource : (c : Merging) (own : Key) → c ≡ record a { types = c.types; taken = c.taken } → c.types ≡ with_entry a.types (resource_entry z) → own ≡ last_key a.types (resource_entry z) → AddsPair (memo_of a.taken) (memo_of c.taken) (resource_key p) own → Takes f a c (height f (resource_key p)) (resource_key p ∷ []) (λ t. Unit {0})
    made_resource c own same added last adds = made c (resource_key p) own (resource_entry z) st same added last adds (λ t kept add shared. resource_enters f (state_of a) sound kept t p x z st at (ap (λ (r : ResourceContent). r.name) is) alias_is add shared)

  pub module_made : (p : Id) (x : ModuleTree) → Stands f (module_key p) → slice_get f.modules p.index ≡ Some x → (c : Merging) (own : Key) → c ≡ record a { types = c.types; taken = c.taken } → c.types ≡ with_entry a.types (module_entry x) → own ≡ last_key a.types (module_entry x) → AddsPair (memo_of a.taken) (memo_of c.taken) (module_key p) own → Takes f a c (height f (module_key p)) (module_key p ∷ []) (λ t. Unit {0})
  module_made p x st at c own same added last adds = made c (module_key p) own (module_entry x) st same added last adds (λ t kept add shared. module_enters f (state_of a) sound kept t p x st at add shared)

  -- a core module type names nothing
  pub module_has : (p : Id) (x : ModuleTree) → slice_get f.modules p.index ≡ Some x → Each (HasOwn (memo_of a.taken)) (next f (module_key p))
  module_has p x at = subst (Each (HasOwn (memo_of a.taken))) (sym (next_at f (module_key p) (module_entry x) (module_at f p x at))) tt

  -- what a resource names was taken in, if its owner and its source were
  pub resource_has : (p : Id) → Stands f (resource_key p) → IsOwnerTold f (owner_at f p) None (state_of a) → LacksSource (memo_of a.taken) (alias_at f p) None → Each (HasOwn (memo_of a.taken)) (next f (resource_key p))
  resource_has p st owner source = by_entry (slice_get f.resources p.index) refl
    where
      owners : (o q : Option Id) → IfAny (λ i j. IsTakenKey class_of f (state_of a) (interface_key i) (interface_key j)) o q → Each (HasOwn (memo_of a.taken)) (optional_keys (λ i. interface_key i ∷ []) o)
      owners o q neither = tt
      owners o q (both {x = i} {y = j} h) = (has_of a.taken (interface_key i) (interface_key j) h.noted, tt)

      append : (ks js : List Key) → Each (HasOwn (memo_of a.taken)) ks → Each (HasOwn (memo_of a.taken)) js → Each (HasOwn (memo_of a.taken)) (ks ++ js)
      append [] js g h = h
      append (k ∷ ks) js g h = (g.0, append ks js g.1 h)

      by_alias : (x : Option AliasContent) → alias_at f p ≡ x → owner_at f p ≡ option_and_then (λ (b : AliasContent). b.owner) x → Each (HasOwn (memo_of a.taken)) (optional_keys alias_keys x)
      by_alias None of owned = tt
      by_alias (Some y) of owned = append (optional_keys (λ i. interface_key i ∷ []) y.owner) (resource_key y.source ∷ []) (owners y.owner owner.0 (subst (λ o. IfAny (λ i j. IsTakenKey class_of f (state_of a) (interface_key i) (interface_key j)) o owner.0) owned owner.1.taken)) (source y of, tt)

      by_entry : (x : Option ResourceContent) → slice_get f.resources p.index ≡ x → Each (HasOwn (memo_of a.taken)) (next f (resource_key p))
      by_entry None at = subst (Each (HasOwn (memo_of a.taken))) (sym (ap (optional_keys entry_keys) (slice_get-map resource_entry f.resources p.index ∙ ap (option_map resource_entry) at))) tt
      by_entry (Some x) at = subst (Each (HasOwn (memo_of a.taken))) (sym (next_at f (resource_key p) (resource_entry x) (resource_at f p x at))) (by_alias x.alias (ap (option_and_then (λ (r : ResourceContent). r.alias)) at) (ap (option_and_then (λ (r : ResourceContent). option_and_then (λ (b : AliasContent). b.owner) r.alias)) at))

  -- ---- interfaces and worlds

  exports_have : (k : Key) (es : List (Text × ItemKind)) → AllStand f (named_keys item_keys es) → Each (HasOwn (memo_of a.taken)) (named_keys item_keys es) → Each (HasOne f a.taken) (named_keys item_keys es)
  exports_have k es st has = each_both f a.taken (named_keys item_keys es) st has

  pub may_put : (p : Id) (x : InterfaceContent) (us : List (Text × UseContent)) (es : List (Text × ItemKind)) → Stands f (interface_key p) → slice_get f.interfaces p.index ≡ Some x → AllStand f (named_keys use_keys x.uses) → AllStand f (named_keys item_keys x.exports)
      → AreContentsNoted f (memo_of a.taken) (interface_key p) → us ≡ with_values (renamed_use (memo_of a.taken)) x.uses → es ≡ with_values (renamed_item (memo_of a.taken)) x.exports → memo_of a.taken (interface_key p) ≡ None → MayPut f a p us es
  may_put p x us es st at uses_stand exports_stand has is_us is_es absent =
      let of_uses : uses_at f (interface_key p) ≡ x.uses = ap (λ o. option_map_or entry_uses o []) (interface_at f p x at) in
      let of_exports : exports_at f (interface_key p) ≡ x.exports = ap (λ o. option_map_or entry_exports o []) (interface_at f p x at) in
      let used : AreMapped (IsOwnUse f (state_of a)) x.uses us = rw is_us (uses_taken f a may x.uses uses_stand (subst (AreUsesNoted f (memo_of a.taken)) of_uses has.uses)) in
      let exported : AreMapped (IsTakenItem class_of f (state_of a)) x.exports es = rw is_es (items_taken f a may x.exports (exports_have (interface_key p) x.exports exports_stand (subst (λ vs. Each (HasOwn (memo_of a.taken)) (named_keys item_keys vs)) of_exports has.exports))) in
      record { content = x; taken = interface_is_taken f (state_of a) sound p x us es st at used exported; used = used; absent = absent }

  pub may_put_world : (p : Id) (x : WorldContent) (us : List (Text × UseContent)) (es : List (Text × ItemKind)) → slice_get f.worlds p.index ≡ Some x → AllStand f (named_keys use_keys x.uses) → AllStand f (named_keys item_keys x.exports)
      → AreContentsNoted f (memo_of a.taken) (world_key p) → us ≡ with_values (renamed_use (memo_of a.taken)) x.uses → es ≡ with_values (renamed_item (memo_of a.taken)) x.exports → memo_of a.taken (world_key p) ≡ None → MayPutWorld f a p us es
  may_put_world p x us es at uses_stand exports_stand has is_us is_es absent =
      let of_uses : uses_at f (world_key p) ≡ x.uses = ap (λ o. option_map_or entry_uses o []) (world_at f p x at) in
      let of_exports : exports_at f (world_key p) ≡ x.exports = ap (λ o. option_map_or entry_exports o []) (world_at f p x at) in
      record {
        content = x;
        entry = at;
        used = rw is_us (uses_taken f a may x.uses uses_stand (subst (AreUsesNoted f (memo_of a.taken)) of_uses has.uses));
        exported = rw is_es (items_taken f a may x.exports (exports_have (world_key p) x.exports exports_stand (subst (λ vs. Each (HasOwn (memo_of a.taken)) (named_keys item_keys vs)) of_exports has.exports)));
        absent = absent;
      }
