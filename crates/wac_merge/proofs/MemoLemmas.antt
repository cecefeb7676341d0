-- What is remembered stays true, and how much it is.
use Rattle.std.proofs.Common.{◌≡◌, ◌+◌, List, None, inl, inr, refl, ap, sym, subst, ◌∙◌, suc, [], ◌∷◌, ◌++◌, length, length-append, Contains, Some, arith}
use Rattle.std.proofs.lemmas.List.Elements.{Contains-append_cases}
use Rattle.wac_component.specs.Collection.{Collection}
use Rattle.wac_component.specs.Growth.{Extends}
use Rattle.wac_component.specs.Key.{Stands}
use Rattle.wac_component.specs.Sound.{entry_count}
use Rattle.wac_component.specs.Tree.{item_tree}
use Rattle.wac_component.proofs.Among.{Contains-first, Contains-later, Contains-cases}
use Rattle.wac_component.proofs.Extended.{Extends-refl}
use Rattle.wac_checker.proofs.ComparedGrowth.{KnowsTruly-grown}
use Rattle.wac_checker.specs.Compared.{KnowsTruly}
use Rattle.wac_merge.specs.Items.{entry_item}
use Rattle.wac_merge.specs.Memo.{Made, made_of, refused_of, first_key, second_key, bound_key, order_of, IsNew, IsSame, IsBoundOf, IsRefused, IsTrueMade, IsTrueRefused, AreMadeOnce, IsTrueMemo, Grows, IsBoundMade, before, now}
use Rattle.wac_merge.specs.declared.memo.Asked.{Asked}
use Rattle.wac_merge.specs.declared.memo.Bound.{Bound}
use Rattle.wac_merge.specs.declared.memo.BoundId.{BoundId}
use Rattle.wac_merge.specs.declared.memo.BoundMemo.{BoundMemo}
use Rattle.wac_merge.specs.declared.memo.BoundPair.{BoundPair}
use Rattle.wac_merge.proofs.BoundLemmas.{bound_later, bound_after}
use Rattle.wac_merge.proofs.BuiltLemmas.{entry_item_stands}

-- at first
pub IsTrueMemo-none : (d : Collection) (m : BoundMemo) → made_of m ≡ [] → refused_of m ≡ [] → KnowsTruly d d m.compared → IsTrueMemo d m
IsTrueMemo-none d m none none_refused known = record {
  made = λ x c. nothing x (subst (λ (l : Made). Contains l x) none c);
  once = subst AreMadeOnce (sym none) tt;
  refused = λ a c. nothing_refused a (subst (λ (l : List Asked). Contains l a) none_refused c);
  compared = known;
}
  where
    nothing : (x : Asked × BoundId) → Contains [] x → IsTrueMade d x
    nothing x m = absurd (omega (arith, m.1))

    nothing_refused : (a : Asked) → Contains [] a → IsTrueRefused d a
    nothing_refused a m = absurd (omega (arith, m.1))

-- where only the pairs are others
pub IsTrueMemo-compared : (d : Collection) (m n : BoundMemo) → made_of n ≡ made_of m → refused_of n ≡ refused_of m → KnowsTruly d d n.compared → IsTrueMemo d m → IsTrueMemo d n
IsTrueMemo-compared d m n same same_refused known h = record {
  made = λ x c. h.made x (subst (λ (l : Made). Contains l x) same c);
  once = subst AreMadeOnce (sym same) h.once;
  refused = λ a c. h.refused a (subst (λ (l : List Asked). Contains l a) same_refused c);
  compared = known;
}

-- where one more has no bound
pub IsTrueMemo-refused : (d : Collection) (m n : BoundMemo) (a : Asked) → IsTrueRefused d a → made_of n ≡ made_of m → IsRefused m n a → n.compared ≡ m.compared → IsTrueMemo d m → IsTrueMemo d n
IsTrueMemo-refused d m n a none same noted same_compared h = record {
  made = λ x c. h.made x (subst (λ (l : Made). Contains l x) same c);
  once = subst AreMadeOnce (sym same) h.once;
  refused = λ b c. elim (noted b c) [ inl old ↦ h.refused b old | inr is ↦ subst (IsTrueRefused d) (sym is) none ];
  compared = subst (KnowsTruly d d) (sym same_compared) h.compared;
}

-- while entries are only added
module _ (d e : Collection) (grown : Extends d e) where
  IsTrueMade-grown : (x : Asked × BoundId) → IsTrueMade d x → IsTrueMade e x
  IsTrueMade-grown x h = record {
    first = grown.standing (first_key x.0.pair) h.first;
    second = grown.standing (second_key x.0.pair) h.second;
    stands = grown.standing (bound_key x.1) h.stands;
    bound = λ k. bound_later (order_of x.0.bound) d e grown (entry_item k (first_key x.0.pair)) (entry_item k (second_key x.0.pair)) (entry_item_stands d k (first_key x.0.pair) h.first) (entry_item_stands d k (second_key x.0.pair) h.second) (Some (item_tree e (entry_item k (bound_key x.1))))
        (bound_after (order_of x.0.bound) d e grown (item_tree d (entry_item k (first_key x.0.pair))) (item_tree d (entry_item k (second_key x.0.pair))) (entry_item k (bound_key x.1)) (entry_item_stands d k (bound_key x.1) h.stands) (h.bound k));
  }

  IsTrueRefused-grown : (a : Asked) → IsTrueRefused d a → IsTrueRefused e a
  IsTrueRefused-grown a h = record {
    first = grown.standing (first_key a.pair) h.first;
    second = grown.standing (second_key a.pair) h.second;
    none = λ k. bound_later (order_of a.bound) d e grown (entry_item k (first_key a.pair)) (entry_item k (second_key a.pair)) (entry_item_stands d k (first_key a.pair) h.first) (entry_item_stands d k (second_key a.pair) h.second) None (h.none k);
  }

  IsTrueMemo-grown : (m : BoundMemo) → IsTrueMemo d m → IsTrueMemo e m
  IsTrueMemo-grown m h = record { made = λ x c. IsTrueMade-grown x (h.made x c); once = h.once; refused = λ a c. IsTrueRefused-grown a (h.refused a c); compared = KnowsTruly-grown d d e e grown grown m.compared h.compared }

IsTrueMemo-same : (d : Collection) (m n : BoundMemo) → IsSame m n → IsTrueMemo d m → IsTrueMemo d n
IsTrueMemo-same d m n same h = record {
  made = λ x c. h.made x (subst (λ (l : Made). Contains l x) same.made c);
  once = subst AreMadeOnce (sym same.made) h.once;
  refused = λ a c. h.refused a (subst (λ (l : List Asked). Contains l a) same.refused c);
  compared = subst (KnowsTruly d d) (sym same.compared) h.compared;
}

-- nothing is made twice where what is made is new
once_more : (ms : Made) (x : Asked × BoundId) → AreMadeOnce ms → IsNew ms x.0 → AreMadeOnce (ms ++ x ∷ [])
once_more [] x h new = (λ p m. absurd (omega (arith, m.1)), tt)
once_more (y ∷ ys) x h new = (
  λ p m. elim (Contains-append_cases ys (x ∷ []) (y.0, p) m) [
    | inl old ↦ h.0 p old
    | inr last ↦ elim (Contains-cases (y.0, p) x [] last) [
      | inl same ↦ new y.1 (subst (λ (a : Asked). Contains (y ∷ ys) (a, y.1)) (sym (ap (λ (z : Asked × BoundId). z.0) same)) (Contains-first y ys))
      | inr none ↦ absurd (omega (arith, none.1))
    ]
  ],
  once_more ys x h.1 (λ p m. new p (Contains-later (x.0, p) y ys m)),
)

IsTrueMemo-put : (d : Collection) (m n : BoundMemo) (a : Asked) (r : BoundId) → IsTrueMemo d m → IsNew (made_of m) a → IsTrueMade d (a, r) → made_of n ≡ made_of m ++ (a, r) ∷ [] → refused_of n ≡ refused_of m → n.compared ≡ m.compared → IsTrueMemo d n
IsTrueMemo-put d m n a r h new here put same_refused same = record {
  made = λ x c. elim (Contains-append_cases (made_of m) ((a, r) ∷ []) x (subst (λ (l : Made). Contains l x) put c)) [
    | inl old ↦ h.made x old
    | inr last ↦ elim (Contains-cases x (a, r) [] last) [ inl is ↦ subst (IsTrueMade d) is here | inr none ↦ absurd (omega (arith, none.1)) ]
  ];
  once = subst AreMadeOnce (sym put) (once_more (made_of m) (a, r) h.once new);
  refused = λ b c. h.refused b (subst (λ (l : List Asked). Contains l b) same_refused c);
  compared = subst (KnowsTruly d d) (sym same) h.compared;
}

-- ---- growth

pub Grows-same : (d e : Collection) (m n : BoundMemo) → IsTrueMemo d m → e ≡ d → IsSame m n → Grows d m e n
Grows-same d e m n h here same = subst (λ z. Grows d m z n) (sym here) record { extends = Extends-refl d; counted = ap (λ (l : Made). entry_count d + length l) (sym same.made); true_memo = IsTrueMemo-same d m n same h }

-- where what was made is as it was
pub Grows-after : (d e : Collection) (m m' n : BoundMemo) → made_of m' ≡ made_of m → Grows d m' e n → Grows d m e n
Grows-after d e m m' n same h = record { extends = h.extends; counted = subst (λ (l : Made). entry_count e + length l ≡ entry_count d + length (made_of n)) same h.counted; true_memo = h.true_memo }

-- where only the notes change
pub Grows-noted : (d : Collection) (m n : BoundMemo) → made_of n ≡ made_of m → IsTrueMemo d n → Grows d m d n
Grows-noted d m n same h = record { extends = Extends-refl d; counted = ap (λ (l : Made). entry_count d + length l) (sym same); true_memo = h }

-- ---- an entry that was made before or is made now

pub record IsDone (t : Bound) (p : BoundPair) (c : Collection) (m : BoundMemo) (e : Collection) (n : BoundMemo) (r : BoundId) : Type 0 where
  pub grows : Grows c m e n
  pub bound : IsBoundOf t c e p (Some r)

module _ (t : Bound) (p : BoundPair) (c : Collection) (m : BoundMemo) (e : Collection) (n : BoundMemo) (r : BoundId) (more : Extends c e) (sx : Stands c (first_key p)) (sy : Stands c (second_key p)) (known : IsTrueMemo c m) where
  bound_at_end : IsBoundOf t c e p (Some r) → IsBoundOf t e e p (Some r)
  bound_at_end h = λ k. bound_later (order_of t) c e more (entry_item k (first_key p)) (entry_item k (second_key p)) (entry_item_stands c k (first_key p) sx) (entry_item_stands c k (second_key p) sy) (Some (item_tree e (entry_item k (bound_key r)))) (h k)

  pub done : (IsAdded : Type 0) → (IsAdded → (entry_count e ≡ suc (entry_count c)) × IsBoundOf t c e p (Some r) × Stands e (bound_key r)) → IsBoundMade c m e n (record { bound = t; pair = p }) r IsAdded → IsDone t p c m e n r
  done IsAdded f (before there here same) =
      subst (λ z. IsDone t p c m z n r) (sym here) record { grows = Grows-same c c m n known refl same; bound = (known.made (record { bound = t; pair = p }, r) there).bound }
  done IsAdded f (now new added put same_refused same) =
      let h = f added in
      let made : IsTrueMade e (record { bound = t; pair = p }, r) = record { first = more.standing (first_key p) sx; second = more.standing (second_key p) sy; stands = h.2; bound = bound_at_end h.1 } in
      let longer : length (made_of n) ≡ length (made_of m) + 1 = ap length put ∙ length-append (made_of m) ((record { bound = t; pair = p }, r) ∷ []) in
      record {
        grows = record { extends = more; counted = omega (arith, h.0, longer); true_memo = IsTrueMemo-put e m n (record { bound = t; pair = p }) r (IsTrueMemo-grown c e more m known) new made put same_refused same };
        bound = h.1;
      }
