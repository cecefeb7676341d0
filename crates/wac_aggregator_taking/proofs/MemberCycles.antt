-- Walks between shared entries, where one grows by an interface as WIT gives it.
use Rattle.std.proofs.Common.{◌≡◌, slice_get, List, ◌∷◌, Some, None, sym, subst, ◌∙◌}
use Rattle.wac_model.specs.Text.{Text}
use Rattle.wac_component.specs.Collection.{Collection, UseContent, InterfaceContent}
use Rattle.wac_component.specs.Entries.{identifier_at}
use Rattle.wac_component.specs.Id.{Id}
use Rattle.wac_component.specs.Key.{Key, Each, AllStand, interface_key, interface_keys, named_keys, use_keys}
use Rattle.wac_component.specs.Reach.{IsAmong}
use Rattle.wac_component.specs.Replacing.{NamesReach}
use Rattle.wac_component.proofs.Among.{among_each}
use Rattle.wac_merge.specs.Items.{ExternKinds}
use Rattle.wac_names.specs.Class.{class_of}
use Rattle.wac_aggregator_promises.specs.Shared.{TakenIds}
use Rattle.wac_aggregator_narrowing.specs.Apart.{IsGood}
use Rattle.wac_aggregator_narrowing.specs.Narrows.{grown}
use Rattle.wac_aggregator_narrowing.specs.Traced.{Root, Arrows, here, IsArrowed, LeadsAlongArrows}
use Rattle.wac_aggregator_narrowing.proofs.Entering.{interface_named}
use Rattle.wac_aggregator_narrowing.proofs.Tracing.{traced_added, traced_grown, cycle_reason}
use Rattle.wac_aggregator_taking.specs.Growing.{AreMetWith}
use Rattle.wac_aggregator_taking.specs.Members.{HasTakenIn, roots_of}
use Rattle.wac_aggregator_taking.specs.Takes.{shared_in, shared_keys, state_of, MayTake, MayPut}
use Rattle.wac_aggregator_taking.specs.declared.state.Merging.{Merging}
use Rattle.wac_aggregator_taking.proofs.Arrowed.{arrowed_more, parts_along, grown_along}
use Rattle.wac_aggregator_taking.proofs.Grows.{can, new_named}
use Rattle.wac_aggregator_taking.proofs.TakeLemmas.{content_identifier, lookup-shared, shared_stands}

module _ (f : Collection) (a : Merging) (may : MayTake f a) (p e : Id) (name : Text) (us : List (Text × UseContent)) (es : ExternKinds) (put : MayPut f a p us es) (identified : identifier_at f (interface_key p) ≡ Some name) (shared : shared_in a.shared.entries (class_of name) ≡ Some e)
    (old new : InterfaceContent) (was : slice_get a.types.interfaces e.index ≡ Some old) (old_named : AllStand a.types (interface_keys old)) (same_id : new.id ≡ old.id)
    (uses : (P : Key → Type 0) → Each P (named_keys use_keys old.uses) → Each P (named_keys use_keys us) → Each P (named_keys use_keys new.uses)) (d : Collection) (met : AreMetWith a.types d old.exports es new.exports)
    (taken : TakenIds) (has : HasTakenIn a taken) where
  abbrev ss : List Key
  ss = shared_keys a.shared.entries

  abbrev z : InterfaceContent
  z = record { id = None; uses = us; exports = es }

  -- the interface is a root
  abbrev rs : List Root
  rs = roots_of ((f, p) ∷ taken)

  among : IsAmong (interface_key e) ss
  among = lookup-shared (class_of name) a.shared.entries e shared

  arrowed : IsArrowed a.types ss rs
  arrowed = arrowed_more (roots_of taken) (record { of = f; at = interface_key p }) a.types ss has.arrowed

  good : IsGood d ss
  good = (met.on.steps ss may.kept.good).good

  arrowed_met : IsArrowed d ss rs
  arrowed_met = traced_added class_of (Arrows class_of rs) a.types d ss may.kept.good met.on.grows arrowed

  own_name : (m : Text) × (identifier_at a.types (interface_key e) ≡ Some m) × (class_of m ≡ class_of name)
  own_name = may.filed.on_class (class_of name) e shared

  old_is : old.id ≡ Some own_name.0
  old_is = sym (content_identifier a.types e old was) ∙ own_name.1

  -- what the grown entry names leads along arrows from its track
  along : Each (LeadsAlongArrows d ss rs (class_of own_name.0)) (interface_keys new)
  along = grown_along (state_of a) e old new z own_name.0 may.kept among was own_name.1 d met uses old_named (interface_named class_of f (state_of a) may.kept p put.content z put.taken) rs arrowed
      (subst (λ t. Each (LeadsAlongArrows a.types ss rs t) (interface_keys z)) (sym own_name.2) (parts_along f (state_of a) p put.content z name may.kept put.taken identified rs here arrowed))

  each_along : (j : Key) → IsAmong j (interface_keys new) → LeadsAlongArrows d ss rs (class_of own_name.0) j
  each_along j q = among_each (LeadsAlongArrows d ss rs (class_of own_name.0)) j (interface_keys new) q along

  -- so walks follow the arrows once it has grown
  pub grown_arrowed : ¬ (NamesReach d (interface_keys new) (interface_key e)) → IsArrowed (grown d e new) ss rs
  grown_arrowed acyclic = traced_grown class_of (Arrows class_of rs) d ss e old new good (can f a may p e name us es put identified shared old new was old_named same_id uses d met) acyclic own_name.0 old_is arrowed_met each_along

  -- and where it would lead back to itself, its track does
  pub grown_cycle : NamesReach d (interface_keys new) (interface_key e) → Arrows class_of rs (class_of name) (class_of name)
  grown_cycle reach =
      subst (λ t. Arrows class_of rs t t) own_name.2
      (cycle_reason class_of (Arrows class_of rs) d ss (interface_key e) own_name.0 (interface_keys new) good
      (among, (met.on.steps ss may.kept.good).stops.identifiers (interface_key e) (shared_stands (state_of a) may.kept (interface_key e) among) ∙ own_name.1)
      (new_named f a may p e name us es put identified shared old new was old_named same_id uses d met) each_along reach)
