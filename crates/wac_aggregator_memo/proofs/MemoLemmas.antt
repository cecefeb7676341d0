-- What a memo says, with one pair more.
use Rattle.std.proofs.Common.{◌≡◌, Bool, true, false, cond, List, [], ◌∷◌, Some, None, ◌⊎◌, inl, inr, refl, ap, sym, subst, ◌∙◌}
use Rattle.std.specs.Option.{option_map}
use Rattle.indexmap.specs.IndexMap.{insert_entry}
use Rattle.wac_component.specs.Id.{Id, is_same}
use Rattle.wac_component.proofs.IdLemmas.{is_same-refl, is_same-true}
use Rattle.wac_component.specs.Key.{Key, Sort, defined_sort, resource_sort, func_sort, interface_sort, world_sort, module_sort}
use Rattle.wac_aggregator_memo.specs.Memo.{AddsPair, own_of, pairs_at, own_at, memo_of}
use Rattle.wac_aggregator_memo.specs.declared.memo.Memo.{Memo}

-- the id beside an id, once a pair was put
pub own_of-put : (ps : List (Id × Id)) (i o q : Id) → own_of (insert_entry is_same ps i o) q ≡ cond (is_same q i) (Some o) (own_of ps q)
own_of-put [] i o q = refl
own_of-put (e ∷ es) i o q = by_test (is_same i e.0) refl (own_of-put es i o q)
  where
    by_test : (b : Bool) → is_same i e.0 ≡ b → own_of (insert_entry is_same es i o) q ≡ cond (is_same q i) (Some o) (own_of es q)
        → own_of (cond b ((e.0, o) ∷ es) (e ∷ insert_entry is_same es i o)) q ≡ cond (is_same q i) (Some o) (own_of (e ∷ es) q)
    by_test true s rest = let same = is_same-true i e.0 s in twice (is_same q e.0) (ap (is_same q) same)
      where
        twice : (b : Bool) → is_same q i ≡ b → cond b (Some o) (own_of es q) ≡ cond (is_same q i) (Some o) (cond b (Some e.1) (own_of es q))
        twice true h = rw h refl
        twice false h = rw h refl
    by_test false s rest = other (is_same q e.0) (is_same q i) refl refl rest
      where
        other : (b c : Bool) → is_same q e.0 ≡ b → is_same q i ≡ c → own_of (insert_entry is_same es i o) q ≡ cond c (Some o) (own_of es q)
            → cond b (Some e.1) (own_of (insert_entry is_same es i o) q) ≡ cond c (Some o) (cond b (Some e.1) (own_of es q))
        other false c p r rest = rest
        other true false p r rest = refl
        other true true p r rest = let same : i ≡ e.0 = sym (is_same-true q i r) ∙ is_same-true q e.0 p in let is : is_same i e.0 ≡ true = ap (is_same i) (sym same) ∙ is_same-refl i in absurd (cc)

abbrev pub at_sort : Sort → Id → Key
at_sort s p = record { sort = s; id = p }

pub each_sort : (P : Sort → Type 0) → P defined_sort → P resource_sort → P func_sort → P interface_sort → P world_sort → P module_sort → (s : Sort) → P s
each_sort P d r f i w m defined_sort = d
each_sort P d r f i w m resource_sort = r
each_sort P d r f i w m func_sort = f
each_sort P d r f i w m interface_sort = i
each_sort P d r f i w m world_sort = w
each_sort P d r f i w m module_sort = m

module _ (m n : Memo) (s : Sort) (i o : Id) (others : (t : Sort) → (t ≡ s) ⊎ (pairs_at n t ≡ pairs_at m t)) (put : pairs_at n s ≡ insert_entry is_same (pairs_at m s) i o) (new : memo_of m (at_sort s i) ≡ None) where
  at_now : (p : Id) (b : Bool) → is_same p i ≡ b → own_at n s p ≡ option_map (at_sort s) (cond b (Some o) (own_of (pairs_at m s) p))
  at_now p b is = ap (λ es. option_map (at_sort s) (own_of es p)) put ∙ ap (option_map (at_sort s)) (own_of-put (pairs_at m s) i o p ∙ ap (λ b. cond b (Some o) (own_of (pairs_at m s) p)) is)

  -- an id is that which was put, or has what it had
  put_or_had : (k : Key) → (k ≡ at_sort s i) ⊎ (memo_of n k ≡ memo_of m k)
  put_or_had k = elim (others k.sort) [
    | inl t ↦ by_id t (is_same k.id i) refl
    | inr same ↦ inr (ap (λ es. option_map (at_sort k.sort) (own_of es k.id)) same)
  ]
    where
      by_id : k.sort ≡ s → (b : Bool) → is_same k.id i ≡ b → (k ≡ at_sort s i) ⊎ (memo_of n k ≡ memo_of m k)
      by_id t true is = let p = is_same-true k.id i is in inl (λ j. at_sort (t j) (p j))
      by_id t false is = inr (subst (λ r. own_at n r k.id ≡ own_at m r k.id) (sym t) (at_now k.id false is))

  -- a pair whose id had none is added
  pub put_adds : AddsPair (memo_of m) (memo_of n) (at_sort s i) (at_sort s o)
  put_adds = record {
    is = put_at;
    kept = λ k x h. elim (put_or_had k) [ inl e ↦ absurd (let same : Some x ≡ None = sym h ∙ ap (memo_of m) e ∙ new in cc) | inr same ↦ same ∙ h ];
    only = λ k x h. elim (put_or_had k) [ inl e ↦ inl (e, (let found : Some x ≡ Some (at_sort s o) = sym h ∙ ap (memo_of n) e ∙ put_at in let same : x ≡ at_sort s o = cc in same)) | inr same ↦ inr (sym same ∙ h) ];
  }
    where
      put_at : memo_of n (at_sort s i) ≡ Some (at_sort s o)
      put_at = at_now i true (is_same-refl i)
