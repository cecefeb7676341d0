-- What an aggregator remembers is what its state of merging does.
use Rattle.std.proofs.Common.{◌≡◌, refl, sym, ◌∙◌}
use Rattle.wac_component.specs.Collection.{Collection}
use Rattle.wac_component.specs.Id.{Id}
use Rattle.wac_component.specs.Key.{Key, Sort, defined_sort, resource_sort, func_sort, interface_sort, world_sort, module_sort}
use Rattle.wac_aggregator_memo.specs.Memo.{Remembered, memo_of, own_at}
use Rattle.wac_aggregator_memo.specs.declared.memo.Memo.{Memo}
use Rattle.wac_names.specs.Class.{class_of}
use Rattle.wac_aggregator_narrowing.specs.Remembers.{RemembersTruly}
use Rattle.wac_aggregator_narrowing.specs.State.{State}
use Rattle.wac_aggregator_taking.specs.Takes.{state_of, OwnersImported}
use Rattle.wac_aggregator_taking.specs.declared.state.Merging.{Merging}
use Rattle.wac_aggregator.specs.Content.{own_in, remembered_in, memo_pairs, content_of, state_in}

-- the same stands for each id
same_pair : (m : Memo) (s : Sort) (p : Id) → own_in (memo_pairs m) s p ≡ own_at m s p
same_pair m defined_sort p = refl
same_pair m resource_sort p = refl
same_pair m func_sort p = refl
same_pair m interface_sort p = refl
same_pair m world_sort p = refl
same_pair m module_sort p = refl

same_pairs : (m : Memo) (k : Key) → remembered_in (memo_pairs m) k ≡ memo_of m k
same_pairs m k = same_pair m k.sort k.id

-- what is remembered truly is so wherever the same is remembered
RemembersTruly-same : (f : Collection) (s : State) (taken copies : Remembered) → ((k : Key) → taken k ≡ s.taken k) → ((k : Key) → copies k ≡ s.copies k) → RemembersTruly class_of f s → RemembersTruly class_of f (record s { taken = taken; copies = copies })
RemembersTruly-same f s taken copies p q h = record {
  taken = λ theirs own at number. h.taken theirs own (sym (p theirs) ∙ at) number;
  copies = λ theirs own at number. h.copies theirs own (sym (q theirs) ∙ at) number;
  closed = λ theirs own t n at number walk is. let r = h.closed theirs own t n (sym (p theirs) ∙ at) number walk is in (r.0, p t ∙ r.1);
}

module _ (f : Collection) (a : Merging) where
  pub truly_in : RemembersTruly class_of f (state_of a) → RemembersTruly class_of f (state_in (content_of a))
  truly_in h = RemembersTruly-same f (state_of a) (remembered_in (memo_pairs a.taken)) (remembered_in (memo_pairs a.copies)) (same_pairs a.taken) (same_pairs a.copies) h

  pub truly_of : RemembersTruly class_of f (state_in (content_of a)) → RemembersTruly class_of f (state_of a)
  truly_of h = RemembersTruly-same f (state_in (content_of a)) (memo_of a.taken) (memo_of a.copies) (λ k. sym (same_pairs a.taken k)) (λ k. sym (same_pairs a.copies k)) h

  -- so are owners imported
  pub owners_in : OwnersImported f (state_of a) → OwnersImported f (state_in (content_of a))
  owners_in h theirs own n at number to = h theirs own n (sym (same_pairs a.taken theirs) ∙ at) number to

  pub owners_of : OwnersImported f (state_in (content_of a)) → OwnersImported f (state_of a)
  owners_of h theirs own n at number to = h theirs own n (same_pairs a.taken theirs ∙ at) number to
