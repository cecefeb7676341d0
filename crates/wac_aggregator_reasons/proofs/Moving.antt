-- What comes from sources does so in a collection that was added to, and for more sources.
use Rattle.std.specs.Option.{option_map_or, option_and_then}
use Rattle.std.specs.Str.{bytes_eq}
use Rattle.std.proofs.Common.{◌≡◌, [], Option, Some, None, refl, sym, ap, subst, ◌∙◌, slice_get, option_map, Contains}
use Rattle.wac_model.specs.Text.{Text, lookup}
use Rattle.wac_model.specs.ItemTree.{ItemTree}
use Rattle.wac_component.specs.Id.{Id}
use Rattle.wac_component.specs.Collection.{Collection, UseContent, InterfaceContent}
use Rattle.wac_component.specs.Growth.{Extends}
use Rattle.wac_component.specs.Implicit.{identifier}
use Rattle.wac_component.specs.Key.{Key, interface_entry, interface_key, item_keys, Stands, AllStand}
use Rattle.wac_component.specs.Sound.{IsSound}
use Rattle.wac_component.specs.Tree.{item_tree}
use Rattle.wac_component.specs.Entries.{entry_identifier, entry_exports, entry_uses, exports_at, uses_at, HasUse, identifier_at}
use Rattle.wac_component.specs.declared.items.ItemKind.{ItemKind}
use Rattle.wac_component.proofs.Lists.{slice_get-map}
use Rattle.wac_component.proofs.OpenWalks.{open_stands, opens_stand}
use Rattle.wac_names.specs.Class.{Class}
use Rattle.wac_aggregator_promises.specs.Entries.{IsIdentifiedOn}
use Rattle.wac_aggregator_promises.proofs.Read.{use_opens}
use Rattle.wac_aggregator_narrowing.proofs.Adding.{opens_was, identifier_kept}
use Rattle.wac_aggregator_reasons.specs.Bare.{bare}
use Rattle.wac_aggregator_reasons.specs.Sourced.{IsExportFrom, IsUseFrom, IsSourced}
use Rattle.wac_aggregator_reasons.proofs.Exported.{export_each}

pub identifier_is : (c : Collection) (i : Id) → identifier_at c (interface_key i) ≡ identifier c i
identifier_is c i = ap (λ o. option_map_or entry_identifier o None) (slice_get-map interface_entry c.interfaces i.index) ∙ at_entry (slice_get c.interfaces i.index)
  where
    at_entry : (o : Option InterfaceContent) → option_map_or entry_identifier (option_map interface_entry o) None ≡ option_and_then (λ e. e.id) o
    at_entry None = refl
    at_entry (Some e) = refl

identified_moves : (c d : Collection) (i j : Id) (t : Class) → identifier_at d (interface_key j) ≡ identifier_at c (interface_key i) → IsIdentifiedOn c i t → IsIdentifiedOn d j t
identified_moves c d i j t same h = record { name = h.name; identified = sym (identifier_is d j) ∙ same ∙ identifier_is c i ∙ h.identified; on_track = h.on_track }

module _ (P : Collection → Key → Type 0) where
  -- for an equal bare tree
  pub export_bare : (n : Text) (s t : ItemTree) → bare t ≡ bare s → IsExportFrom P n s → IsExportFrom P n t
  export_bare n s t same h other u = h other (λ m p q. u m (rw same p) q)

  pub use_moves : (c d : Collection) (n : Text) (u : UseContent) → identifier_at d (interface_key u.interface) ≡ identifier_at c (interface_key u.interface) → IsUseFrom P c n u → IsUseFrom P d n u
  use_moves c d n u same h = record {
    types = h.types;
    key = h.key;
    content = h.content;
    of_these = h.of_these;
    has = h.has;
    same_name = h.same_name;
    track = h.track;
    source_on = h.source_on;
    is_on = identified_moves c d u.interface u.interface h.track same h.is_on;
  }

  -- the export that stands under a name of an entry that stands, and the interface of a use
  pub export_stands : (c : Collection) → IsSound c → (k : Key) (n : Text) (x : ItemKind) → Stands c k → lookup bytes_eq (exports_at c k) n ≡ Some x → AllStand c (item_keys x)
  export_stands c s k n x st is = export_each (Stands c) c k n x is (λ j m. open_stands c s k j st m)

  pub use_stands : (c : Collection) → IsSound c → (k : Key) (n : Text) (u : UseContent) → Stands c k → HasUse c k n u → Stands c (interface_key u.interface)
  use_stands c s k n u st has = open_stands c s k (interface_key u.interface) st (use_opens c k n u has)

  -- what an entry exports and uses that stood
  module _ (c d : Collection) (s : IsSound c) (x : Extends c d) where
    exports_kept : (t : Key) → Stands c t → exports_at d t ≡ exports_at c t
    exports_kept t st = ap (λ o. option_map_or entry_exports o []) (x.same_entry t st)

    uses_kept : (t : Key) → Stands c t → uses_at d t ≡ uses_at c t
    uses_kept t st = ap (λ o. option_map_or entry_uses o []) (x.same_entry t st)

    pub old_export : (t : Key) (n : Text) (y : ItemKind) → Stands c t → lookup bytes_eq (exports_at d t) n ≡ Some y
        → ((z : ItemKind) → lookup bytes_eq (exports_at c t) n ≡ Some z → IsExportFrom P n (item_tree c z)) → IsExportFrom P n (item_tree d y)
    old_export t n y st is h =
        let was = subst (λ es. lookup bytes_eq es n ≡ Some y) (exports_kept t st) is in
        subst (λ z. IsExportFrom P n z) (sym (x.trees y (export_stands c s t n y st was))) (h y was)

    pub old_use : (t : Key) (n : Text) (u : UseContent) → Stands c t → HasUse d t n u → ((v : UseContent) → HasUse c t n v → IsUseFrom P c n v) → IsUseFrom P d n u
    old_use t n u st has h =
        let was = subst (λ us. Contains us (n, u)) (uses_kept t st) has in
        use_moves c d n u (identifier_kept c d s x (interface_key u.interface) (use_stands c s t n u st was)) (h u was)

    pub sourced_kept : (k : Key) → Stands c k → IsSourced P c k → IsSourced P d k
    sourced_kept k st h = record {
      exports = λ t n y w is. let v = opens_was c d s x k t st w in old_export t n y (opens_stand c s k t st v) is (λ z g. h.exports t n z v g);
      uses = λ t n u w has. let v = opens_was c d s x k t st w in old_use t n u (opens_stand c s k t st v) has (λ z g. h.uses t n z v g);
    }
