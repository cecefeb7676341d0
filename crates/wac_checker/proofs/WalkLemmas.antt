-- How a comparison of pairs goes on.
use Rattle.std.proofs.Common.{Global, Vec, Option, ◌≡◌, ◌≤◌, ◌<◌, ◌+◌, ◌-◌, ◌⊎◌, inl, inr, ℕ, zero, suc, List, [], ◌∷◌, ◌++◌, length, take, reverse, Bool, true, false, Some, slice_get, refl, ap, sym, subst, ◌∙◌, arith}
use Rattle.std.specs.Prelude.{Contains}
use Rattle.std.proofs.Math.Seq.{take-append_seam}
use Rattle.std.proofs.Common.{length-append}
use Rattle.std.proofs.lemmas.Grind.{reverse_onto}
use Rattle.std.proofs.lemmas.List.{reverse-append, take_all}
use Rattle.std.proofs.lemmas.Option.{slice_get_within}
use Rattle.std.proofs.lemmas.List.Elements.{Contains-append_left, Contains-push, Contains-push_cases}
use Rattle.wac_component.proofs.Among.{Contains-first, Contains-later, Contains-cases}
use Rattle.wac_component.specs.Collection.{Collection}
use Rattle.wac_mismatch.specs.declared.check.SubtypeCheck.{SubtypeCheck}
use Rattle.wac_mismatch.specs.declared.fault.Fault.{Fault}
use Rattle.wac_mismatch.specs.declared.frame.Frame.{Frame}
use Rattle.wac_checker.specs.Compared.{AreAnswered, IsAnswered, IsComparing, KnowsBut, KnowsTruly}
use Rattle.wac_checker.specs.Believed.{IsPairAmong, IsFittingBy, MayBelieve}
use Rattle.wac_checker.specs.Cache.{AreInOrder, Pair}
use Rattle.wac_checker.specs.Known.{pairs_of}
use Rattle.wac_checker_parts.specs.Listing.{AllFit, AllFitBy, AreItemsNamed, ArePartsOf, IsPairTurn, IsPartOf}
use Rattle.std.specs.Prelude.{◌↔◌, IfOk, IsTrue, Result, Ok, Err}
use Rattle.std.specs.declared.alloc.AllocError.{AllocError}
use Rattle.std.proofs.lemmas.List.{same_from_push, reverse-reverse}
use Rattle.wac_model.specs.Order.{Fits}
use Rattle.wac_component.specs.Tree.{item_tree}
use Rattle.wac_component.specs.declared.items.ItemKind.{ItemKind}
use Rattle.wac_mismatch.specs.Path.{Explains}
use Rattle.wac_mismatch.specs.Place.{item_side}
use Rattle.wac_mismatch.specs.declared.error.SubtypeError.{SubtypeError}
use Rattle.wac_mismatch.specs.declared.error.SubtypeError.TheVariants.{Mismatch, Memory}
use Rattle.wac_checker_parts.proofs.ListingLemmas.{put_named}
use Rattle.wac_checker_parts.specs.Pairs.{AreOfItems, ArePairsOf, ExplainsPair, IsBelowPair, IsFitting, IsPairFrame, IsStanding, Two, entries_by, entries_of, flag_of, id_in, left_of, pair_height, placed_pair, right_of, two_of}
use Rattle.wac_checker.specs.Walk.{AreListed, IsAtStep, IsBegun, IsHaltNoted, IsOpen, IsPartOfPair, IsWalkPath, IsPathTo, LeadFrom, LeadsTo, NotesHalt, PathFrom, kept_pair}
use Rattle.wac_checker.specs.declared.compared.Compared.{Compared}
use Rattle.wac_checker_parts.specs.declared.parts.EntryPair.{EntryPair}
use Rattle.wac_checker_parts.specs.declared.parts.PairPart.{PairPart}
use Rattle.wac_checker_parts.specs.declared.parts.PairSort.{PairSort}
use Rattle.wac_mismatch.specs.declared.difference.Difference.{Difference}
use Rattle.wac_checker_parts.specs.declared.parts.Halt.{Halt}
use Rattle.wac_checker_parts.specs.declared.parts.Halt.TheVariants as halt
use Rattle.wac_checker.specs.declared.walk.WalkStep.{WalkStep}
use Rattle.wac_checker.specs.declared.walk.Walk.{Walk}
use Rattle.wac_checker_parts.proofs.CountLemmas.{last_or_before}
use Rattle.wac_checker_parts.proofs.KnownLemmas.{element_at, pairs_push}
use Rattle.wac_checker_parts.proofs.PairLemmas.{below_pair}
use Rattle.wac_checker.proofs.KeptPairs.{SameByNumber, fits_kept, kept_fits, kept_height, kept_stands, kept_unfit}
use Rattle.wac_checker.proofs.BelievedLemmas.{among_fits, left_has_keys, none_in_order, right_has_keys}

none_among : (xs : List EntryPair) (p : EntryPair) → xs ≡ [] → Contains xs p → ⊥
none_among xs p none m = let there = subst (λ (ys : List EntryPair). Contains ys p) none m in omega (arith, there.1)

-- ---- what is listed of a pair

placed_two : (c d : Collection) (w b v : Bool) (s : PairSort) (i j : ℕ) → v ≡ flag_of w b → placed_pair w (record { entries = entries_by s (id_in (left_of (left_of c d w) (right_of c d w) b) i) (id_in (right_of (left_of c d w) (right_of c d w) b) j); swapped = b }) ≡ record { entries = entries_by s (id_in (left_of c d v) i) (id_in (right_of c d v) j); swapped = v }
placed_two c d false false v s i j e = rw e refl
placed_two c d false true v s i j e = rw e refl
placed_two c d true false v s i j e = rw e refl
placed_two c d true true v s i j e = rw e refl

pair_part : (c d : Collection) (p : EntryPair) (q : PairPart) → IsPartOf (left_of c d p.swapped) (right_of c d p.swapped) p.swapped (entries_of (left_of c d p.swapped) (right_of c d p.swapped) p) q → IsPartOfPair c d p q
pair_part c d p q h =
    let told : Two = record { entries = entries_of (left_of (left_of c d p.swapped) (right_of c d p.swapped) h.0) (right_of (left_of c d p.swapped) (right_of c d p.swapped) h.0) q.pair; swapped = h.0 } in
    (h.2, subst (λ (t : Two). IsBelowPair c d (two_of c d p) q.index t) (placed_two c d p.swapped h.0 q.pair.swapped q.pair.sort q.pair.left q.pair.right h.1) (below_pair c d (two_of c d p) q.index told h.3))

sides_back : (c d : Collection) (w : Bool) (ms : List PairPart) → AllFit c d ms → AllFitBy (left_of c d w) (right_of c d w) w ms
sides_back c d false ms h = h
sides_back c d true ms h = h

module _ (c d : Collection) (p : EntryPair) (ms : List PairPart) where
  parts_listed : ArePartsOf (left_of c d p.swapped) (right_of c d p.swapped) p.swapped (entries_of (left_of c d p.swapped) (right_of c d p.swapped) p) ms → (q : PairPart) → Contains ms q → IsPartOfPair c d p q
  parts_listed h q m = pair_part c d p q (h q m)

  pub listed_whole : IsPairTurn c d p ms (Ok tt) → AreListed c d p ms false
  listed_whole h = record { parts = parts_listed h.0; same = λ e all. h.1 (sides_back c d p.swapped ms all); apart = λ e. absurd (cc) }

  pub listed_apart : (x : Difference) → IsPairTurn c d p ms (Err (halt.Apart x)) → AreListed c d p ms true
  listed_apart x h = record { parts = parts_listed h.0; same = λ e. absurd (cc); apart = λ e. h.2 }

  pub listed_part_apart : (i : ℕ) (b : Bool) (x : Difference) → IsPairTurn c d p ms (Err (halt.PartApart i b x)) → AreListed c d p ms true
  listed_part_apart i b x h = record { parts = parts_listed h.0; same = λ e. absurd (cc); apart = λ e. h.3 }

  pub listed_modules : IsPairTurn c d p ms (Err halt.Modules) → AreListed c d p ms true
  listed_modules h = record { parts = parts_listed h.0; same = λ e. absurd (cc); apart = λ e. h.1 }

-- ---- places on the list

place_in : {A : Type 0} (xs : List A) (x : A) → Contains xs x → (i : ℕ) × (slice_get xs i ≡ Some x)
place_in [] x m = absurd (omega (arith, m.1))
place_in (y ∷ xs) x m = elim (Contains-cases x y xs m) [ inl e ↦ (zero, ap Some e) | inr later ↦ (let rest = place_in xs x later in (suc rest.0, rest.1)) ]

at_right : (l ms : List PairPart) (i j : ℕ) → j ≡ length l + i → slice_get (l ++ ms) j ≡ slice_get ms i
at_right [] ms i j e = let same : j ≡ i = omega (arith, e) in ap (slice_get ms) same
at_right (x ∷ l) ms i j e = let next : j ≡ suc (length l + i) = omega (arith, e) in rw next (at_right l ms i (length l + i) refl)

module _ (c d : Collection) (q : PairPart) (l ms : List PairPart) (differs : Bool) (stands : IsStanding c d q.pair) (h : AreListed c d q.pair ms differs) where
  listed_at : (i : ℕ) (x : PairPart) → length l ≤ i → slice_get (l ++ ms) i ≡ Some x → Contains ms x
  listed_at i x le at = element_at ms (i - length l) x (sym (at_right l ms (i - length l) i (omega (arith, le))) ∙ at)

  -- a step begins
  pub begun : (ps : List Pair) (m : List PairPart) (s : WalkStep) → m ≡ l ++ ms → s ≡ record { part = q; first = length l; next = length l; differs = differs } → IsBegun ps c d q l m s
  begun ps m s more is = rw (more, is) (record {
    part = refl;
    first = refl;
    next = refl;
    before = take-append_seam l ms;
    at = record {
      stands = stands;
      within = (omega arith, simp length-append (omega arith));
      parts = λ i x le at. h.parts x (listed_at i x le at);
      fit = λ i x le lt at. absurd (omega (arith, le, lt));
      same = λ e all. h.same e (λ x m. let p = place_in ms x m in all (length l + p.0) x (omega arith) (at_right l ms p.0 (length l + p.0) refl ∙ p.1));
      apart = h.apart;
    };
  })

-- ---- steps

-- the same step, past one more part
abbrev pub moved : WalkStep → WalkStep
moved s = record { part = s.part; first = s.first; next = s.next + 1; differs = s.differs }

module _ (ps : List Pair) (c d : Collection) (l : List PairPart) (s : WalkStep) (n : ℕ) (h : IsAtStep ps c d l s n) where
  fit_next : (q : PairPart) → slice_get l n ≡ Some q → IsFittingBy ps c d q.pair → (i : ℕ) (x : PairPart) → s.first ≤ i → i < n + 1 → slice_get l i ≡ Some x → IsFittingBy ps c d x.pair
  fit_next q here fits i x le lt at = elim (last_or_before i n (omega (arith, lt))) [
    | inl e ↦ (let same : Some q ≡ Some x = sym here ∙ ap (slice_get l) (sym e) ∙ at in let one : q ≡ x = cc in subst (λ (y : PairPart). IsFittingBy ps c d y.pair) one fits)
    | inr before ↦ h.fit i x le before at
  ]

  -- one more part fits
  pub step_next : (q : PairPart) (t : WalkStep) → t.part ≡ s.part → t.first ≡ s.first → t.differs ≡ s.differs → slice_get l n ≡ Some q → IsFittingBy ps c d q.pair → IsAtStep ps c d l t (n + 1)
  step_next q t part first differs here fits =
      let below : n < length l = slice_get_within l n q here in
      record {
        stands = rw part h.stands;
        within = (rw first (let low = h.within.0 in omega arith), omega (arith, below));
        parts = λ i x le at. rw part (h.parts i x (rw first at le) at);
        fit = λ i x le lt at. fit_next q here fits i x (rw first at le) lt at;
        same = λ e all. rw part (h.same (sym differs ∙ e) (λ i x le at. all i x (rw first le) at));
        apart = λ e. rw part (h.apart (sym differs ∙ e));
      }

  -- all parts fit, and the two don't differ after them
  pub step_fits : length l ≤ n → s.differs ≡ false → IsFittingBy ps c d s.part.pair
  step_fits all even told = h.same even (λ i x le at. h.fit i x le (let below : i < length l = slice_get_within l i x at in omega (arith, below, all)) at told)

  -- the next part is at hand
  pub step_leads : (q : PairPart) (t : WalkStep) → t.part ≡ s.part → t.first ≡ s.first → t.differs ≡ s.differs → t.next ≡ n + 1 → slice_get l n ≡ Some q → LeadsTo ps c d l t q
  step_leads q t part first differs next here = record {
    place = n;
    next = next;
    at = record {
      stands = rw part h.stands;
      within = (rw first h.within.0, h.within.1);
      parts = λ i x le at. rw part (h.parts i x (rw first at le) at);
      fit = λ i x le lt at. h.fit i x (rw first at le) lt at;
      same = λ e all. rw part (h.same (sym differs ∙ e) (λ i x le at. all i x (rw first le) at));
      apart = λ e. rw part (h.apart (sym differs ∙ e));
    };
    here = here;
  }

leads_part : (ps : List Pair) (c d : Collection) (l : List PairPart) (s : WalkStep) (q : PairPart) → LeadsTo ps c d l s q → IsPartOfPair c d s.part.pair q
leads_part ps c d l s q h = h.at.parts h.place q h.at.within.0 h.here

-- steps that lead are a path
pub lead_path : (ps : List Pair) (c d : Collection) (r : EntryPair) (l : List PairPart) (ss : List WalkStep) (q : PairPart) → LeadFrom ps c d r l ss q → PathFrom c d r ss q
lead_path ps c d r l [] q h = h
lead_path ps c d r l (s ∷ ss) q h = (h.0.at.stands, leads_part ps c d l s q h.0, lead_path ps c d r (take s.first l) ss s.part h.1)

module _ (c d : Collection) (r : EntryPair) where
  -- a part is lower than the pairs of the steps that lead to it
  pub path_lower : (ss : List WalkStep) (q : PairPart) → PathFrom c d r ss q → (t : WalkStep) → Contains ss t → pair_height c d (two_of c d q.pair) < pair_height c d (two_of c d t.part.pair)
  path_lower [] q h t m = absurd (omega (arith, m.1))
  path_lower (s ∷ ss) q h t m =
      let lower = h.1.1.lower in
      elim (Contains-cases t s ss m) [
        | inl e ↦ (let same = ap (λ (u : WalkStep). pair_height c d (two_of c d u.part.pair)) e in omega (arith, lower, same))
        | inr later ↦ (let rest = path_lower ss s.part h.2 t later in omega (arith, lower, rest))
      ]

  -- where it doesn't fit, neither do they, nor the first pair
  pub path_unfit : (ss : List WalkStep) (q : PairPart) → PathFrom c d r ss q → ¬ (IsFitting c d q.pair) → ¬ (IsFitting c d r)
  path_unfit [] q h apart = subst (λ (p : EntryPair). ¬ (IsFitting c d p)) h apart
  path_unfit (s ∷ ss) q h apart = path_unfit ss s.part h.2 (λ fits. apart (h.1.1.needed fits))

  pub steps_unfit : (ss : List WalkStep) (q : PairPart) → PathFrom c d r ss q → ¬ (IsFitting c d q.pair) → (t : WalkStep) → Contains ss t → IsStanding c d t.part.pair × (¬ (IsFitting c d t.part.pair))
  steps_unfit [] q h apart t m = absurd (omega (arith, m.1))
  steps_unfit (s ∷ ss) q h apart t m = elim (Contains-cases t s ss m) [
    | inl e ↦ subst (λ (u : WalkStep). IsStanding c d u.part.pair × (¬ (IsFitting c d u.part.pair))) e (h.0, λ fits. apart (h.1.1.needed fits))
    | inr later ↦ steps_unfit ss s.part h.2 (λ fits. apart (h.1.1.needed fits)) t later
  ]

  pub path_refuses : (ss : List WalkStep) → IsPathTo c d r ss → ¬ (IsFitting c d r)
  path_refuses [] h = h
  path_refuses (s ∷ ss) h = path_unfit ss s.part h.2 h.1

  pub open_unfit : SameByNumber c d → (ss : List WalkStep) → IsPathTo c d r ss → (p : EntryPair) → IsOpen c d ss p → IsStanding c d p × (¬ (IsFitting c d p))
  open_unfit one [] h p o = absurd (omega (arith, o.1.1))
  open_unfit one (s ∷ ss) h p o = subst (λ (x : EntryPair). IsStanding c d x × (¬ (IsFitting c d x))) o.2 (kept_unfit c d one o.0.part.pair (elim (Contains-cases o.0 s ss o.1) [
    | inl e ↦ subst (λ (u : WalkStep). IsStanding c d u.part.pair × (¬ (IsFitting c d u.part.pair))) e (h.0, h.1)
    | inr later ↦ steps_unfit ss s.part h.2 h.1 o.0 later
  ]))

pub reverse_push : (ss : List WalkStep) (s : WalkStep) → reverse (ss ++ s ∷ []) ≡ s ∷ reverse ss
reverse_push ss s = reverse-append ss (s ∷ [])

pub reverse_has : (ss : List WalkStep) (s : WalkStep) → Contains (reverse ss) s → Contains ss s
reverse_has [] s m = absurd (omega (arith, m.1))
reverse_has (x ∷ ss) s m = elim (Contains-push_cases (reverse ss) x s (subst (λ (xs : List WalkStep). Contains xs s) (reverse_onto ss x []) m)) [
  | inl later ↦ Contains-later s x ss (reverse_has ss s later)
  | inr e ↦ subst (λ (y : WalkStep). Contains (x ∷ ss) y) e (Contains-first x ss)
]

-- ---- what is known

module _ (c d : Collection) where
  open_cases : (s : WalkStep) (ss : List WalkStep) (p : EntryPair) → IsOpen c d (s ∷ ss) p → (kept_pair c d s.part.pair ≡ p) ⊎ IsOpen c d ss p
  open_cases s ss p o = elim (Contains-cases o.0 s ss o.1) [ inl e ↦ inl (ap (λ (t : WalkStep). kept_pair c d t.part.pair) e ∙ o.2) | inr later ↦ inr (o.0, later, o.2) ]

  open_first : (s : WalkStep) (ss : List WalkStep) → IsOpen c d (s ∷ ss) (kept_pair c d s.part.pair)
  open_first s ss = (s, Contains-first s ss, refl)

  open_later : (s : WalkStep) (ss : List WalkStep) (p : EntryPair) → IsOpen c d ss p → IsOpen c d (s ∷ ss) p
  open_later s ss p o = (o.0, Contains-later o.0 s ss o.1, o.2)

-- before anything was compared
pub knows_nothing : (c d : Collection) (k : Compared) → pairs_of k.known ≡ [] → pairs_of k.unfit ≡ [] → KnowsTruly c d k
knows_nothing c d k known unfit = record {
  pairs = rw known (tt, λ p m. absurd (none_among [] p refl m));
  unfit = λ p m. absurd (none_among (pairs_of k.unfit) p unfit m);
  known = λ p m. absurd (none_among (pairs_of k.known) p known m);
}

module _ (ps : List Pair) (c d : Collection) (one : SameByNumber c d) (k : Compared) where
  pub truly_but : (ss : List WalkStep) → KnowsTruly c d k → KnowsBut ps c d k ss
  truly_but ss h = record { pairs = h.pairs; unfit = h.unfit; known = λ p m. inl (elim (h.known p m) [ inl fits ↦ inl (λ told. fits) | inr there ↦ inr there ]) }

  -- the pair at hand fits
  pub knows_closed : (s : WalkStep) (ss : List WalkStep) → KnowsBut ps c d k (s ∷ ss) → IsFittingBy ps c d s.part.pair → KnowsBut ps c d k ss
  knows_closed s ss h fits = record {
    pairs = h.pairs;
    unfit = h.unfit;
    known = λ p m. elim (h.known p m) [
      | inl told ↦ inl told
      | inr o ↦ elim (open_cases c d s ss p o) [ inl e ↦ inl (inl (subst (λ (x : EntryPair). IsFittingBy ps c d x) e (λ given. kept_fits c d one s.part.pair (fits given)))) | inr later ↦ inr later ]
    ];
  }

  pub knows_all : KnowsBut ps c d k [] → AreInOrder c d ps → KnowsTruly c d k
  knows_all h given = record { pairs = h.pairs; unfit = h.unfit; known = λ p m. elim (h.known p m) [ inl told ↦ elim told [ inl fits ↦ inl (fits given) | inr there ↦ inr there ] | inr o ↦ absurd (omega (arith, o.1.1)) ] }

  -- a step of the same pair in the place of the pair at hand
  pub knows_moved : (s t : WalkStep) (ss : List WalkStep) → t.part ≡ s.part → KnowsBut ps c d k (s ∷ ss) → KnowsBut ps c d k (t ∷ ss)
  knows_moved s t ss same h = record {
    pairs = h.pairs;
    unfit = h.unfit;
    known = λ p m. elim (h.known p m) [
      | inl told ↦ inl told
      | inr o ↦ elim (open_cases c d s ss p o) [ inl e ↦ inr (subst (λ (x : EntryPair). IsOpen c d (t ∷ ss) x) (ap (λ (x : PairPart). kept_pair c d x.pair) same ∙ e) (open_first c d t ss)) | inr later ↦ inr (open_later c d t ss p later) ]
    ];
  }

  -- one more pair is known, that of a step
  pub knows_opened : (k' : Compared) (s : WalkStep) (ss : List WalkStep) → KnowsBut ps c d k ss → (Contains (pairs_of k.known) (kept_pair c d s.part.pair) → ⊥) → IsStanding c d s.part.pair → pairs_of k'.known ≡ pairs_of k.known ++ kept_pair c d s.part.pair ∷ [] → pairs_of k'.unfit ≡ pairs_of k.unfit → KnowsBut ps c d k' (s ∷ ss)
  knows_opened k' s ss h new stands more same = record {
    pairs = rw more (pairs_push c d (pairs_of k.known) (kept_pair c d s.part.pair) h.pairs new (kept_stands c d one s.part.pair stands));
    unfit = λ p m. h.unfit p (rw same at m);
    known = λ p m. elim (Contains-push_cases (pairs_of k.known) (kept_pair c d s.part.pair) p (rw more at m)) [
      | inl old ↦ elim (h.known p old) [ inl told ↦ inl (elim told [ inl fits ↦ inl fits | inr no_fit ↦ inr (rw same no_fit) ]) | inr o ↦ inr (open_later c d s ss p o) ]
      | inr e ↦ inr (subst (λ (x : EntryPair). IsOpen c d (s ∷ ss) x) e (open_first c d s ss))
    ];
  }

  -- a part that is known fits, if it isn't known not to
  pub part_fits : (r : EntryPair) (ss : List WalkStep) (q : PairPart) → KnowsBut ps c d k ss → PathFrom c d r ss q → (Contains (pairs_of k.unfit) (kept_pair c d q.pair) → ⊥) → Contains (pairs_of k.known) (kept_pair c d q.pair) → IsFittingBy ps c d q.pair
  part_fits r ss q h path nw m = elim (h.known (kept_pair c d q.pair) m) [
    | inl told ↦ elim told [ inl fits ↦ (λ given. fits_kept c d one q.pair (fits given)) | inr there ↦ absurd (nw there) ]
    | inr o ↦ absurd (
        let lower = path_lower c d r ss q path o.0 o.1 in
        let same = sym (kept_height c d one o.0.part.pair) ∙ ap (λ (x : EntryPair). pair_height c d (two_of c d x)) o.2 ∙ kept_height c d one q.pair in
        omega (arith, lower, same))
  ]

  pub knows_same : (k' : Compared) (ss : List WalkStep) → KnowsBut ps c d k ss → pairs_of k'.known ≡ pairs_of k.known → pairs_of k'.unfit ≡ pairs_of k.unfit → KnowsBut ps c d k' ss
  knows_same k' ss h known unfit = record {
    pairs = rw known h.pairs;
    unfit = λ p m. h.unfit p (rw unfit at m);
    known = λ p m. elim (h.known p (rw known at m)) [ inl told ↦ inl (elim told [ inl fits ↦ inl fits | inr no_fit ↦ inr (rw unfit no_fit) ]) | inr o ↦ inr o ];
  }

noted_same : (c d : Collection) (o o' : Option Halt) (ss ss' : List WalkStep) → o' ≡ o → ss' ≡ ss → IsHaltNoted c d o ss → IsHaltNoted c d o' ss'
noted_same c d o o' ss ss' halt steps h = rw (halt, steps) h

-- ---- turns

module _ (ps : List Pair) (c d : Collection) (one : SameByNumber c d) (k : Compared) (w : Walk) (s : WalkStep) (h : IsComparing ps c d k w s) where
  way_path : PathFrom c d w.asked (reverse w.open.items) s.part
  way_path = lead_path ps c d w.asked (take s.first w.parts.before) (reverse w.open.items) s.part h.lead

  -- the two differ after their parts
  pub way_differs : (v : Walk) → v.open.items ≡ w.open.items ++ s ∷ [] → v.asked ≡ w.asked → v.halt ≡ w.halt → s.differs ≡ true → IsAnswered ps c d k v false
  way_differs v opened asked halt differs = rw (asked, opened, halt, reverse_push w.open.items s) (h.knows, (h.at.stands, h.at.apart differs, way_path), λ none. h.halt.0 differs)

  module _ (all : length w.parts.before ≤ s.next) (even : s.differs ≡ false) where
    this_fits : IsFittingBy ps c d s.part.pair
    this_fits = step_fits ps c d w.parts.before s s.next h.at all even

    -- back to the step above
    pub way_back : (os : List WalkStep) (a : WalkStep) (v : Walk) → w.open.items ≡ os ++ a ∷ [] → v.open.items ≡ os → v.parts.before ≡ take s.first w.parts.before → v.asked ≡ w.asked → v.parts.items ≡ w.parts.items → v.halt ≡ w.halt → IsComparing ps c d k v a
    way_back os a v was kept parts asked listed halt =
        let knows = rw (was, reverse_push os a) at h.knows in
        let lead = rw (was, reverse_push os a) at h.lead in
        let noted = rw (was, reverse_push os a) at (h.halt.1 even) in
        let at = step_next ps c d (take s.first w.parts.before) a lead.0.place lead.0.at s.part a refl refl refl lead.0.here this_fits in
        record {
          knows = rw kept (knows_closed ps c d one k s (a ∷ reverse os) knows this_fits);
          at = rw parts (subst (λ (n : ℕ). IsAtStep ps c d (take s.first w.parts.before) a n) (sym lead.0.next) at);
          lead = rw (asked, parts, kept) lead.1;
          listed = listed ∙ h.listed;
          halt = noted_same c d w.halt v.halt (a ∷ reverse os) (a ∷ reverse v.open.items) halt (ap (λ (xs : List WalkStep). a ∷ reverse xs) kept) noted;
        }

    -- to the end
    pub way_end : (v : Walk) → w.open.items ≡ [] → v.asked ≡ w.asked → IsAnswered ps c d k v true
    way_end v was asked =
        let knows = rw was at h.knows in
        let lead = rw was at h.lead in
        rw asked (λ told. (knows_all ps c d one k (knows_closed ps c d one k s [] knows this_fits) told, subst (λ (p : EntryPair). IsFitting c d p) lead (this_fits told)))

  module _ (q : PairPart) (here : slice_get w.parts.before s.next ≡ Some q) where
    this_part : IsPartOfPair c d s.part.pair q
    this_part = h.at.parts s.next q h.at.within.0 here

    pub part_stands : IsStanding c d q.pair
    part_stands = this_part.1.stand

    part_path : PathFrom c d w.asked (s ∷ reverse w.open.items) q
    part_path = (h.at.stands, this_part, way_path)

    -- the next part is known not to fit
    pub way_unfit : (v : Walk) → Contains (pairs_of k.unfit) (kept_pair c d q.pair) → v.open.items ≡ w.open.items ++ moved s ∷ [] → v.asked ≡ w.asked → IsAnswered ps c d k v false
    way_unfit v m opened asked = rw (asked, opened, reverse_push w.open.items (moved s)) (knows_moved ps c d one k s (moved s) (reverse w.open.items) refl h.knows, (h.at.stands, (λ fits. (h.knows.unfit (kept_pair c d q.pair) m).1 (kept_fits c d one q.pair (this_part.1.needed fits))), way_path), λ none. absurd (none_among (pairs_of k.unfit) (kept_pair c d q.pair) none m))

    -- the next part fits
    way_fits : (k' : Compared) → KnowsBut ps c d k' (moved s ∷ reverse w.open.items) → IsFittingBy ps c d q.pair → (v : Walk) → v.open ≡ w.open → v.parts.before ≡ w.parts.before → v.asked ≡ w.asked → v.parts.items ≡ [] → v.halt ≡ w.halt → IsComparing ps c d k' v (moved s)
    way_fits k' knows fits v kept parts asked listed halt = record {
      knows = rw kept knows;
      at = rw parts (step_next ps c d w.parts.before s s.next h.at q (moved s) refl refl refl here fits);
      lead = rw (asked, parts, kept) h.lead;
      listed = listed;
      halt = noted_same c d w.halt v.halt (moved s ∷ reverse w.open.items) (moved s ∷ reverse v.open.items) halt (ap (λ (xs : Vec WalkStep Global). moved s ∷ reverse xs.items) kept) h.halt;
    }

    -- it is believed to
    pub way_told : IsFittingBy ps c d q.pair → IsComparing ps c d k w (moved s)
    way_told fits = way_fits k (knows_moved ps c d one k s (moved s) (reverse w.open.items) refl h.knows) fits w refl refl refl h.listed refl

    -- it is known to
    pub way_known : (k' : Compared) → (Contains (pairs_of k.unfit) (kept_pair c d q.pair) → ⊥) → Contains (pairs_of k.known) (kept_pair c d q.pair) → pairs_of k'.known ≡ pairs_of k.known → pairs_of k'.unfit ≡ pairs_of k.unfit → IsComparing ps c d k' w (moved s)
    way_known k' nw m known unfit = way_fits k' (knows_same ps c d one k k' (moved s ∷ reverse w.open.items) (knows_moved ps c d one k s (moved s) (reverse w.open.items) refl h.knows) known unfit) (part_fits ps c d one k w.asked (s ∷ reverse w.open.items) q h.knows part_path nw m) w refl refl refl h.listed refl

    -- it is opened
    module _ (k' : Compared) (v : Walk) (b : WalkStep) (new : Contains (pairs_of k.known) (kept_pair c d q.pair) → ⊥) (more : pairs_of k'.known ≡ pairs_of k.known ++ kept_pair c d q.pair ∷ []) (same : pairs_of k'.unfit ≡ pairs_of k.unfit) where
      pub pairs_opened : ArePairsOf c d (pairs_of k'.known)
      pairs_opened = rw more (pairs_push c d (pairs_of k.known) (kept_pair c d q.pair) h.knows.pairs new (kept_stands c d one q.pair part_stands))

      module _ (begins : IsBegun ps c d q w.parts.before v.parts.before b) (notes : NotesHalt c d b w.halt v.halt) (asked : v.asked ≡ w.asked) (listed : v.parts.items ≡ []) where
        -- and has parts, or differs
        pub way_below : v.open.items ≡ w.open.items ++ moved s ∷ [] → IsComparing ps c d k' v b
        way_below opened =
            let knows = knows_opened ps c d one k k' b (moved s ∷ reverse w.open.items) (knows_moved ps c d one k s (moved s) (reverse w.open.items) refl h.knows) (λ m. new (rw begins.part at m)) (rw begins.part part_stands) (rw begins.part more) same in
            record {
              knows = rw (opened, reverse_push w.open.items (moved s)) knows;
              at = subst (λ (n : ℕ). IsAtStep ps c d v.parts.before b n) (sym begins.next) begins.at;
              lead = rw (asked, opened, reverse_push w.open.items (moved s), begins.first, begins.before, begins.part) (step_leads ps c d w.parts.before s s.next h.at q (moved s) refl refl refl refl here, h.lead);
              listed = listed;
              halt = rw (opened, reverse_push w.open.items (moved s)) (notes.0, λ e. noted_same c d w.halt v.halt (moved s ∷ reverse w.open.items) (moved s ∷ reverse w.open.items) (notes.1 e) refl h.halt);
            }

        -- and has none, and doesn't differ
        pub way_over : v.open ≡ w.open → b.differs ≡ false → length v.parts.before ≤ b.first → IsComparing ps c d k' v (moved s)
        way_over opened even none =
            let few : length v.parts.before ≤ length w.parts.before = subst (λ (n : ℕ). length v.parts.before ≤ n) begins.first none in
            let parts : v.parts.before ≡ w.parts.before = sym (take_all (length w.parts.before) v.parts.before few) ∙ begins.before in
            let fits : IsFitting c d q.pair = subst (λ (x : PairPart). IsFitting c d x.pair) begins.part (begins.at.same even (λ i x le at. absurd (let below : i < length v.parts.before = slice_get_within v.parts.before i x at in omega (arith, below, none, le)))) in
            let knows = knows_opened ps c d one k k' (record { part = q; first = 0; next = 0; differs = false }) (moved s ∷ reverse w.open.items) (knows_moved ps c d one k s (moved s) (reverse w.open.items) refl h.knows) new part_stands more same in
            way_fits k' (knows_closed ps c d one k' (record { part = q; first = 0; next = 0; differs = false }) (moved s ∷ reverse w.open.items) knows (λ told. fits)) (λ told. fits) v opened parts asked listed (notes.1 even)

-- ---- a comparison begins

module _ (ps : List Pair) (c d : Collection) (one : SameByNumber c d) (k : Compared) (w : Walk) (h : KnowsTruly c d k) (stands : IsStanding c d w.asked) (kept : w.open.items ≡ []) where
  pub known_answer : (k' : Compared) → (Contains (pairs_of k.unfit) (kept_pair c d w.asked) → ⊥) → Contains (pairs_of k.known) (kept_pair c d w.asked) → pairs_of k'.known ≡ pairs_of k.known → pairs_of k'.unfit ≡ pairs_of k.unfit → IsAnswered ps c d k' w true
  known_answer k' nw m known unfit told = (
    knows_all ps c d one k' (knows_same ps c d one k k' [] (truly_but ps c d one k [] h) known unfit) told,
    elim (h.known (kept_pair c d w.asked) m) [ inl fits ↦ fits_kept c d one w.asked fits | inr there ↦ absurd (nw there) ],
  )

  pub unfit_answer : Contains (pairs_of k.unfit) (kept_pair c d w.asked) → IsAnswered ps c d k w false
  unfit_answer m = rw kept (truly_but ps c d one k [] h, (λ fits. (h.unfit (kept_pair c d w.asked) m).1 (kept_fits c d one w.asked fits)), λ none. absurd (none_among (pairs_of k.unfit) (kept_pair c d w.asked) none m))

  module _ (k' : Compared) (new : Contains (pairs_of k.known) (kept_pair c d w.asked) → ⊥) (more : pairs_of k'.known ≡ pairs_of k.known ++ kept_pair c d w.asked ∷ []) (same : pairs_of k'.unfit ≡ pairs_of k.unfit) where
    pub pairs_first : ArePairsOf c d (pairs_of k'.known)
    pairs_first = rw more (pairs_push c d (pairs_of k.known) (kept_pair c d w.asked) h.pairs new (kept_stands c d one w.asked stands))

    pub way_first : (q : PairPart) (v : Walk) (b : WalkStep) → q.pair ≡ w.asked → w.parts.before ≡ [] → IsBegun ps c d q w.parts.before v.parts.before b → NotesHalt c d b w.halt v.halt → v.asked ≡ w.asked → v.open ≡ w.open → v.parts.items ≡ [] → IsComparing ps c d k' v b
    way_first q v b pair none begins notes asked opened listed =
        let first : b.part.pair ≡ w.asked = ap (λ (x : PairPart). x.pair) begins.part ∙ pair in
        let knows = knows_opened ps c d one k k' b [] (truly_but ps c d one k [] h) (λ m. new (rw first at m)) (rw first stands) (rw first more) same in
        record {
          knows = rw (opened, kept) knows;
          at = subst (λ (n : ℕ). IsAtStep ps c d v.parts.before b n) (sym begins.next) begins.at;
          lead = rw (asked, opened, kept) first;
          listed = listed;
          halt = rw (opened, kept) (notes.0, λ e. tt);
        }

-- ---- frames

-- one more frame outside
pub path_more : (c d : Collection) (r : EntryPair) (s : WalkStep) (ss : List WalkStep) (q : PairPart) (f : Frame) → PathFrom c d r (s ∷ ss) q → IsPairFrame c d (two_of c d s.part.pair) q.index f → (check : SubtypeCheck) (gs : List Frame) (g : Fault) → IsWalkPath c d check q.pair gs g → IsWalkPath c d check s.part.pair (f ∷ gs) g
path_more c d r s ss q f h is check gs g path = h.1.1.leads check f is gs g path

-- ---- a pair that was added, or was there

nothing_left : (xs : List WalkStep) → length xs ≡ 0 → xs ≡ []
nothing_left [] e = refl
nothing_left (x ∷ xs) e = absurd (omega (arith, e))

pub none_popped : (xs ys : List WalkStep) → xs ≡ ys ++ [] → length ys ≡ 0 → xs ≡ []
none_popped xs ys e none = e ∙ ap (λ (zs : List WalkStep). zs ++ []) (nothing_left ys none)

module _ (old new : List EntryPair) (p : EntryPair) (answer : Result Bool AllocError) (there : answer ≡ Ok false → Contains old p) (added : answer ≡ Ok true → new ≡ old ++ p ∷ []) (same : (answer ≡ Ok true → ⊥) → new ≡ old) where
  pub add_keeps : (b : Bool) → answer ≡ Ok b → (q : EntryPair) → Contains old q → Contains new q
  add_keeps true is q m = subst (λ (xs : List EntryPair). Contains xs q) (sym (added is)) (Contains-append_left old (p ∷ []) q m)
  add_keeps false is q m = subst (λ (xs : List EntryPair). Contains xs q) (sym (same (λ e. absurd (cc (e, is))))) m

  pub add_cases : (b : Bool) → answer ≡ Ok b → (q : EntryPair) → Contains new q → Contains old q ⊎ (p ≡ q)
  add_cases true is q m = Contains-push_cases old p q (subst (λ (xs : List EntryPair). Contains xs q) (added is) m)
  add_cases false is q m = inl (subst (λ (xs : List EntryPair). Contains xs q) (same (λ e. absurd (cc (e, is)))) m)

  pub add_there : (b : Bool) → answer ≡ Ok b → Contains new p
  add_there true is = subst (λ (xs : List EntryPair). Contains xs p) (sym (added is)) (Contains-push old p)
  add_there false is = subst (λ (xs : List EntryPair). Contains xs p) (sym (same (λ e. absurd (cc (e, is))))) (there is)

-- the pairs of all steps were added
pub all_noted : (c d : Collection) → SameByNumber c d → (r : EntryPair) (k k' : Compared) (ss : List WalkStep) → pairs_of k'.known ≡ pairs_of k.known → ((p : EntryPair) → Contains (pairs_of k.unfit) p → Contains (pairs_of k'.unfit) p) → ((p : EntryPair) → Contains (pairs_of k'.unfit) p → Contains (pairs_of k.unfit) p ⊎ IsOpen c d ss p) → ((j : ℕ) (s : WalkStep) → slice_get ss j ≡ Some s → Contains (pairs_of k'.unfit) (kept_pair c d s.part.pair)) → KnowsBut [] c d k (reverse ss) → IsPathTo c d r (reverse ss) → KnowsTruly c d k'
all_noted c d one r k k' ss known kept only added h path = record {
  pairs = rw known h.pairs;
  unfit = λ p m. elim (only p m) [
    | inl old ↦ h.unfit p old
    | inr o ↦ open_unfit c d r one (reverse ss) path p (o.0, has_reverse ss o.0 o.1, o.2)
  ];
  known = λ p m. elim (h.known p (rw known at m)) [
    | inl told ↦ elim told [ inl fits ↦ inl (fits (none_in_order c d)) | inr there ↦ inr (kept p there) ]
    | inr o ↦ (let at = place_in ss o.0 (reverse_has ss o.0 o.1) in inr (subst (λ (x : EntryPair). Contains (pairs_of k'.unfit) x) o.2 (added at.0 o.0 at.1)))
  ];
}
  where
    has_reverse : (xs : List WalkStep) (s : WalkStep) → Contains xs s → Contains (reverse xs) s
    has_reverse xs s m = reverse_has (reverse xs) s (subst (λ (ys : List WalkStep). Contains ys s) (sym (reverse-reverse xs)) m)

-- ---- items

-- what is named of two items
pub named_pair : (l r : Collection) (w : Bool) (i : ℕ) (x y : ItemKind) (ms ns os : List PairPart) (q : PairPart) → w ≡ false → ms ≡ [] → AreItemsNamed l r w i x y ms ns (Ok true) → ns ≡ os ++ q ∷ [] → (os ≡ []) × (q.pair.swapped ≡ false) × AreOfItems l r x y (entries_of l r q.pair)
named_pair l r w i x y ms ns os q straight none (inl one) e = absurd (let nothing = sym none ∙ sym one.0 ∙ e in let long = ap (λ (xs : List PairPart). length xs) nothing in omega (arith, long, length-append os (q ∷ [])))
named_pair l r w i x y ms ns os q straight none (inr put) e = elim put.3 [
  | inl there ↦ absurd (let m = subst (λ (xs : List PairPart). Contains xs there.1.0) none there.1.1 in omega (arith, m.1))
  | inr new ↦ (
      let alone = rw none at new in
      let last = same_from_push [] os (record { pair = put.0; index = i }) q (sym alone ∙ e) in
      let same : put.0 ≡ q.pair = ap (λ (z : PairPart). z.pair) last.1 in
      (sym last.0, subst (λ (p : EntryPair). p.swapped ≡ false) same (put.1 ∙ straight), subst (λ (p : EntryPair). AreOfItems l r x y (entries_of l r p)) same put.2))
]

pub named_none : (l r : Collection) (w : Bool) (i : ℕ) (x y : ItemKind) (ms ns : List PairPart) → AreItemsNamed l r w i x y ms ns (Ok true) → length ns ≡ 0 → Fits (item_tree l x) (item_tree r y)
named_none l r w i x y ms ns (inl one) e = one.1
named_none l r w i x y ms ns (inr put) e = absurd (let there = put_named i put.0 ms ns put.3 in omega (arith, there.1.1, e))

module _ (l r : Collection) (x y : ItemKind) (p : EntryPair) (straight : p.swapped ≡ false) (of : AreOfItems l r x y (entries_of l r p)) where
  pub named_stands : IsStanding l r p
  named_stands = rw straight of.stand

  pub named_fits : IsFitting l r p → Fits (item_tree l x) (item_tree r y)
  named_fits fits = of.enough (rw straight at fits)

  pub named_needed : Fits (item_tree l x) (item_tree r y) → IsFitting l r p
  named_needed fits = rw straight (of.needed fits)

  pub named_explained : (check : SubtypeCheck) (e : SubtypeError) → ExplainsPair check l r (two_of l r p) e → Explains e check (item_side (item_tree l x)) (item_side (item_tree r y))
  named_explained check (Mismatch frames f) h = of.leads check frames.items f (rw straight at h)
  named_explained check Memory h = tt

  pub answer_named : (answer : Result Bool AllocError) → IfOk answer (λ b. IsTrue b ↔ IsFitting l r p) → IfOk answer (λ b. IsTrue b ↔ Fits (item_tree l x) (item_tree r y))
  answer_named (Ok b) h = ((λ t. named_fits (h.0 t)), (λ fits. h.1 (named_needed fits)))
  answer_named (Err e) h = tt

  -- it is believed to
  pub named_told : (ps : List Pair) → IsPairAmong ps l r p → MayBelieve ps l r x y → Fits (item_tree l x) (item_tree r y)
  named_told ps among may = named_fits (among_fits ps l r p named_stands among (may (left_has_keys l r x y (entries_of l r p) of) (right_has_keys l r x y (entries_of l r p) of)))

-- what is answered about the pair that is named for two items
pub asked_answer : (ps : List Pair) (l r : Collection) (x y : ItemKind) (p : EntryPair) → p.swapped ≡ false → AreOfItems l r x y (entries_of l r p) → (k : Compared) (w : Walk) → w.asked ≡ p → pairs_of k.unfit ≡ [] → (answer : Result Bool AllocError) → IfOk answer (IsAnswered ps l r k w) → IfOk answer (AreAnswered ps l r x y w)
asked_answer ps l r x y p straight of k w same none (Ok true) h = λ may. named_fits l r x y p straight of (subst (λ (q : EntryPair). IsFitting l r q) same (h (may (left_has_keys l r x y (entries_of l r p) of) (right_has_keys l r x y (entries_of l r p) of))).1)
asked_answer ps l r x y p straight of k w same none (Ok false) h = (rw same straight, rw same of, h.1, h.2 none)
asked_answer ps l r x y p straight of k w same none (Err e) h = tt
