-- Whatever steps are taken, what is remembered stays true, and imports serve what they served.
use Rattle.std.proofs.Common.{◌≡◌, List, [], Some, ap, sym, subst, ◌∙◌, inl, inr}
use Rattle.std.specs.Option.{option_map_or}
use Rattle.wac_model.specs.Text.{Text}
use Rattle.wac_model.proofs.ItemOrder.{Fits-refl, Fits-trans}
use Rattle.wac_component.specs.Collection.{Collection}
use Rattle.wac_component.specs.Key.{Key, item_keys, Each, Stands, AllStand}
use Rattle.wac_aggregator_memo.specs.Memo.{AddsPair, Remembered}
use Rattle.wac_component.specs.Reach.{stay}
use Rattle.wac_component.specs.Tree.{item_tree}
use Rattle.wac_component.specs.declared.items.ItemKind.{ItemKind}
use Rattle.wac_component.proofs.Among.{among_each, each_among}
use Rattle.wac_merge.specs.Items.{entry_item}
use Rattle.wac_merge.proofs.ItemKeys.{each_entry_item}
use Rattle.wac_aggregator_narrowing.specs.Apart.{IsKeyApart}
use Rattle.wac_aggregator_narrowing.specs.Identified.{use_names, IsCovered}
use Rattle.wac_aggregator_narrowing.specs.Imports.{NamedImports, ImportsStand, ImportsCovered, IsImportFor, ImportsFit, IsServed}
use Rattle.wac_aggregator_narrowing.specs.Narrows.{Narrows, KeepsStops, IsGoodStep}
use Rattle.wac_aggregator_narrowing.specs.Standing.{StandsFor, IsCopy}
use Rattle.wac_aggregator_narrowing.specs.State.{State, IsStateKept, IsOneWith, RunsTaking}
use Rattle.wac_aggregator_narrowing.proofs.Adding.{Narrows-refl, Narrows-trans, Narrows-all_stand}
use Rattle.wac_aggregator_narrowing.proofs.Stopping.{KeepsStops-refl, KeepsStops-trans}

-- a pair stays true
pub StandsFor-Narrows : (f c d : Collection) (ss ts : List Key) (theirs own : Key) → Narrows c ss d ts → StandsFor f c theirs own → StandsFor f d theirs own
StandsFor-Narrows f c d ss ts theirs own n h = record {
  sort = h.sort;
  theirs_stands = h.theirs_stands;
  own_stands = n.standing own h.own_stands;
  fits = λ k. Fits-trans (item_tree d (entry_item k own)) (item_tree c (entry_item k own)) (item_tree f (entry_item k theirs)) (n.fits (entry_item k own) (each_entry_item (Stands c) k own h.own_stands)) (h.fits k);
}

-- a copy stays one
pub IsCopy-step : (f c d : Collection) (ss ts : List Key) (theirs own : Key) → Narrows c ss d ts → KeepsStops c ss d ts → IsCopy f c ss theirs own → IsCopy f d ts theirs own
IsCopy-step f c d ss ts theirs own n k h = record {
  sort = h.sort;
  theirs_stands = h.theirs_stands;
  own_stands = n.standing own h.own_stands;
  apart = n.apart own h.own_stands h.apart;
  same = λ x. n.same (entry_item x own) (each_entry_item (Stands c) x own h.own_stands) (each_entry_item (IsKeyApart c ss) x own h.apart) ∙ h.same x;
  names = record {
    identifier = k.identifiers own h.own_stands ∙ h.names.identifier;
    uses = ap (λ o. option_map_or use_names o []) (n.entries own h.own_stands (λ m. h.apart own m stay)) ∙ h.names.uses;
    stops = λ t m w. h.names.stops t m (k.stops own t m h.own_stands w);
  };
}

pub ImportsStand-Narrows : (c d : Collection) (ss ts : List Key) (is : NamedImports) → Narrows c ss d ts → ImportsStand c is → ImportsStand d is
ImportsStand-Narrows c d ss ts is n h m x q = Narrows-all_stand c d ss ts n (item_keys x) (h m x q)

pub ImportsFit-Narrows : (c d : Collection) (ss ts : List Key) (is : NamedImports) → Narrows c ss d ts → ImportsStand c is → ImportsFit c is d is
ImportsFit-Narrows c d ss ts is n h m x q = record { import = x; is = q; fits = n.fits x (h m x q) }

pub IsImportFor-trans : (c d e : Collection) (is js : NamedImports) (n : Text) (x : ItemKind) → ImportsFit d is e js → IsImportFor d (is n) c x → IsImportFor e (js n) c x
IsImportFor-trans c d e is js n x fit h =
    let r = fit n h.import h.is in
    record { import = r.import; is = r.is; fits = Fits-trans (item_tree e r.import) (item_tree d h.import) (item_tree c x) r.fits h.fits }

pub ImportsFit-trans : (c d e : Collection) (is js ks : NamedImports) → ImportsFit c is d js → ImportsFit d js e ks → ImportsFit c is e ks
ImportsFit-trans c d e is js ks g h n x q = IsImportFor-trans c d e js ks n x h (g n x q)

pub ImportsFit-refl : (c : Collection) (is : NamedImports) → ImportsFit c is c is
ImportsFit-refl c is n x q = record { import = x; is = q; fits = Fits-refl (item_tree c x) }

-- what holds of the new pair and of those before holds of all
pub pair_or_before : (P : Key → Key → Type 0) (before now : Remembered) (a b : Key) → AddsPair before now a b → P a b → ((theirs own : Key) → before theirs ≡ Some own → P theirs own) → (theirs own : Key) → now theirs ≡ Some own → P theirs own
pair_or_before P before now a b adds new old theirs own is = elim (adds.only theirs own is) [
  | inl same ↦ subst (λ (x : Key). P x own) (sym same.0) (subst (λ (y : Key). P a y) (sym same.1) new)
  | inr stood ↦ old theirs own stood
]

-- all covered stay so
all_covered_on : (c d : Collection) (ss ts : List Key) → KeepsStops c ss d ts → (ks : List Key) → AllStand c ks → Each (IsCovered c ss) ks → Each (IsCovered d ts) ks
all_covered_on c d ss ts k ks st h = each_among (IsCovered d ts) ks (λ j m. k.covered j (among_each (Stands c) j ks m st) (among_each (IsCovered c ss) j ks m h))

pub IsStateKept-step : (s : State) (d : Collection) (ts : List Key) → IsGoodStep s.own s.shared d ts → IsStateKept s → IsStateKept (record s { own = d; shared = ts })
IsStateKept-step s d ts step h = record {
  good = step.good;
  imports = ImportsStand-Narrows s.own d s.shared ts s.imports step.narrows h.imports;
  imports_covered = λ n y q. all_covered_on s.own d s.shared ts step.stops (item_keys y) (h.imports n y q) (h.imports_covered n y q);
  taken = λ theirs own p. let r = h.taken theirs own p in (step.narrows.standing own r.0, step.stops.covered own r.0 r.1);
  copies = λ theirs own p. let r = h.copies theirs own p in (step.narrows.standing own r.0, step.narrows.apart own r.0 r.1);
}

pub changed_taken : (P : State → Type 0) (s t : State) → t.own ≡ s.own → t.shared ≡ s.shared → t.imports ≡ s.imports → t.copies ≡ s.copies → P (record s { taken = t.taken }) → P t
changed_taken P s t o h p r = subst P (λ i. record { own = sym o i; shared = sym h i; imports = sym p i; taken = t.taken; copies = sym r i })

pub changed_copies : (P : State → Type 0) (s t : State) → t.own ≡ s.own → t.shared ≡ s.shared → t.imports ≡ s.imports → t.taken ≡ s.taken → P (record s { copies = t.copies }) → P t
changed_copies P s t o h p q = subst P (λ i. record { own = sym o i; shared = sym h i; imports = sym p i; taken = sym q i; copies = t.copies })

module _ (IsTrue : Collection → State → Type 0) (f : Collection) where
  pub RunsTaking-refl : (s : State) → RunsTaking IsTrue f s s
  RunsTaking-refl s = record {
    kept = λ h. h;
    narrows = λ h. Narrows-refl s.own s.shared;
    stops = λ h. KeepsStops-refl s.own s.shared;
    imports = λ h. ImportsFit-refl s.own s.imports;
    truly = λ h g one t. t;
    taken = λ theirs own p. p;
    copies = λ theirs own p. p;
  }

  pub RunsTaking-trans : (s t u : State) → RunsTaking IsTrue f s t → RunsTaking IsTrue f t u → RunsTaking IsTrue f s u
  RunsTaking-trans s t u g h = record {
    kept = λ k. h.kept (g.kept k);
    narrows = λ k. Narrows-trans s.own t.own u.own s.shared t.shared u.shared (g.narrows k) (h.narrows (g.kept k));
    stops = λ k. KeepsStops-trans s.own t.own u.own s.shared t.shared u.shared (g.narrows k).standing (g.stops k) (h.stops (g.kept k));
    imports = λ k. ImportsFit-trans s.own t.own u.own s.imports t.imports u.imports (g.imports k) (h.imports (g.kept k));
    truly = λ k e one v. h.truly (g.kept k) e one (g.truly k e one v);
    taken = λ theirs own p. h.taken theirs own (g.taken theirs own p);
    copies = λ theirs own p. h.copies theirs own (g.copies theirs own p);
  }

  -- the own collection is changed by a step
  pub RunsTaking-step : (s : State) (d : Collection) (ts : List Key) → (IsStateKept s → IsGoodStep s.own s.shared d ts)
      → (IsStateKept s → (g : Collection) → IsTrue g s → IsTrue g (record s { own = d; shared = ts })) → RunsTaking IsTrue f s (record s { own = d; shared = ts })
  RunsTaking-step s d ts step true = record {
    kept = λ h. IsStateKept-step s d ts (step h) h;
    narrows = λ h. (step h).narrows;
    stops = λ h. (step h).stops;
    imports = λ h. ImportsFit-Narrows s.own d s.shared ts s.imports (step h).narrows h.imports;
    truly = λ h g one t. true h g t;
    taken = λ theirs own p. p;
    copies = λ theirs own p. p;
  }

  -- one more id was taken in
  pub RunsTaking-take : (s : State) (now : Remembered) (a b : Key) → AddsPair s.taken now a b → (IsStateKept s → Stands s.own b × IsCovered s.own s.shared b)
      → (IsStateKept s → (g : Collection) → IsOneWith f g → IsTrue g s → IsTrue g (record s { taken = now })) → RunsTaking IsTrue f s (record s { taken = now })
  RunsTaking-take s now a b adds own true = record {
    kept = λ h. record {
      good = h.good;
      imports = h.imports;
      imports_covered = h.imports_covered;
      taken = pair_or_before (λ _ z. Stands s.own z × IsCovered s.own s.shared z) s.taken now a b adds (own h) h.taken;
      copies = h.copies;
    };
    narrows = λ h. Narrows-refl s.own s.shared;
    stops = λ h. KeepsStops-refl s.own s.shared;
    imports = λ h. ImportsFit-refl s.own s.imports;
    truly = true;
    taken = adds.kept;
    copies = λ theirs own p. p;
  }

  -- one more was copied
  pub RunsTaking-copy : (s : State) (now : Remembered) (a b : Key) → AddsPair s.copies now a b → (IsStateKept s → Stands s.own b × IsKeyApart s.own s.shared b)
      → (IsStateKept s → (g : Collection) → IsOneWith f g → IsTrue g s → IsTrue g (record s { copies = now })) → RunsTaking IsTrue f s (record s { copies = now })
  RunsTaking-copy s now a b adds own true = record {
    kept = λ h. record {
      good = h.good;
      imports = h.imports;
      imports_covered = h.imports_covered;
      taken = h.taken;
      copies = pair_or_before (λ _ z. Stands s.own z × IsKeyApart s.own s.shared z) s.copies now a b adds (own h) h.copies;
    };
    narrows = λ h. Narrows-refl s.own s.shared;
    stops = λ h. KeepsStops-refl s.own s.shared;
    imports = λ h. ImportsFit-refl s.own s.imports;
    truly = true;
    taken = λ theirs own p. p;
    copies = adds.kept;
  }

  -- imports are added or narrow
  pub RunsTaking-import : (s : State) (is : NamedImports) → (IsStateKept s → ImportsStand s.own is) → (IsStateKept s → ImportsCovered s.own s.shared is) → (IsStateKept s → ImportsFit s.own s.imports s.own is) → ((g : Collection) → IsTrue g s → IsTrue g (record s { imports = is })) → RunsTaking IsTrue f s (record s { imports = is })
  RunsTaking-import s is stand covered fit true = record {
    kept = λ h. record { good = h.good; imports = stand h; imports_covered = covered h; taken = h.taken; copies = h.copies };
    narrows = λ h. Narrows-refl s.own s.shared;
    stops = λ h. KeepsStops-refl s.own s.shared;
    imports = fit;
    truly = λ h g one t. true g t;
    taken = λ theirs own p. p;
    copies = λ theirs own p. p;
  }

  -- what was served is so still
  pub served_still : (g : Collection) (s t : State) (n : Text) (x : ItemKind) → IsStateKept s → RunsTaking IsTrue f s t → IsServed s.own s.imports n g x → IsServed t.own t.imports n g x
  served_still g s t n x h r served = IsImportFor-trans g s.own t.own s.imports t.imports n x (r.imports h) served
