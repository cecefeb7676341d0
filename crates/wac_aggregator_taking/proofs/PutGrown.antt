-- An entry that is taken out, grows and is put back.
use Rattle.std.proofs.Common.{◌≡◌, ◌++◌, List, Some, ap, sym, subst, ◌∙◌, slice_get, slice_set}
use Rattle.wac_model.specs.Text.{Text}
use Rattle.wac_component.specs.Collection.{Collection, InterfaceContent, UseContent}
use Rattle.wac_component.specs.Distinct.{HasDistinctNames}
use Rattle.wac_component.specs.Id.{Id}
use Rattle.wac_component.specs.Key.{Key, Each, Stands, AllStand, interface_entry, interface_key, interface_keys, named_keys, use_keys}
use Rattle.wac_component.specs.Replacing.{NamesReach}
use Rattle.wac_component.specs.Sound.{IsSound}
use Rattle.wac_component.specs.TakenOut.{without_content}
use Rattle.wac_component.proofs.Keys.{Each-append, Each-left, Each-right}
use Rattle.wac_component.proofs.TakenOut.{IsOut, old_out, out_from, out_acyclic, out_never, out_stand, out_stands, put_twice}
use Rattle.wac_merge.specs.Built.{uses_of_both}
use Rattle.wac_merge.specs.Items.{ExternKinds, extern_keys}
use Rattle.wac_aggregator_taking.specs.Growing.{IsGrownBy, with_put}
use Rattle.wac_aggregator_taking.proofs.PutLemmas.{each_uses, each_with_put}

module _ (c : Collection) (e : Id) (sound : IsSound c) (st : Stands c (interface_key e)) (old : InterfaceContent) (was : slice_get c.interfaces e.index ≡ Some old) (us : List (Text × UseContent)) (ms : ExternKinds)
    (su : AllStand c (named_keys use_keys us)) (sm : AllStand c (extern_keys ms)) (none : ¬ (NamesReach c (named_keys use_keys us ++ extern_keys ms) (interface_key e)))
    (new : InterfaceContent) (uses : new.uses ≡ uses_of_both old.uses us) (exports : new.exports ≡ with_put old.exports ms) where
  -- from nothing that it names then a walk leads back
  abbrev P : Key → Type 0
  P = IsOut c e sound st

  stood : Each P (interface_keys old)
  stood = old_out c e sound st old was

  put : Each P (named_keys use_keys us ++ extern_keys ms)
  put = out_from c e sound st (named_keys use_keys us ++ extern_keys ms) (Each-append (Stands c) (named_keys use_keys us) (extern_keys ms) su sm) none

  out : Each P (interface_keys new)
  out = Each-append P (named_keys use_keys new.uses) (extern_keys new.exports)
      (subst (λ l. Each P (named_keys use_keys l)) (sym uses) (each_uses P old.uses us (Each-left P (named_keys use_keys old.uses) (extern_keys old.exports) stood) (Each-left P (named_keys use_keys us) (extern_keys ms) put)))
      (subst (λ l. Each P (extern_keys l)) (sym exports) (each_with_put P old.exports ms (Each-right P (named_keys use_keys old.uses) (extern_keys old.exports) stood) (Each-right P (named_keys use_keys us) (extern_keys ms) put)))

  pub still_there : (t : Collection) → t ≡ without_content c e → Stands t (interface_key e)
  still_there t is = subst (λ x. Stands x (interface_key e)) (sym is) (out_stands c e sound st (interface_key e) st)

  pub still_named : (t : Collection) → t ≡ without_content c e → AllStand t (interface_keys new)
  still_named t is = subst (λ x. AllStand x (interface_keys new)) (sym is) (out_stand c e sound st (interface_keys new) out)

  pub still_acyclic : (t : Collection) → t ≡ without_content c e → ¬ (NamesReach t (interface_keys new) (interface_key e))
  still_acyclic t is = subst (λ x. ¬ (NamesReach x (interface_keys new) (interface_key e))) (sym is) (out_acyclic c e sound st (interface_keys new) out)

  pub is_grown : new.id ≡ old.id → HasDistinctNames (interface_entry new) → (t w : Collection) → t ≡ without_content c e → w ≡ record t { interfaces = slice_set t.interfaces e.index new } → IsGrownBy c e us ms w
  is_grown same distinct t w left is = record {
    old = old;
    new = new;
    was = was;
    same_identifier = same;
    uses = uses;
    exports = exports;
    distinct = distinct;
    acyclic = out_never c e sound st (interface_keys new) out;
    grows = is ∙ ap (λ (x : Collection). record x { interfaces = slice_set x.interfaces e.index new }) left ∙ put_twice c e new;
  }
