-- A world against itself, where what it says of names is meant as it stands.
use Rattle.std.proofs.Common.{◌≡◌, zero, Bool, true, false, cond, List, [], ◌∷◌, Contains, MatchOption, Option, Some, None, Result, Ok, Err, refl, ap, sym, ◌∙◌, subst, arith}
use Rattle.std.proofs.lemmas.List.Sums.{fold-append}
use Rattle.std.proofs.lemmas.Map.Keys.{IsDistinct-head, IsDistinct-tail}
use Rattle.std.specs.Cmp.Lexicographic.{bytes_decides, nat_list_eq_equiv}
use Rattle.std.specs.Map.{keys_of}
use Rattle.std.specs.Str.{bytes_eq}
use Rattle.indexmap.specs.IndexMap.{insert_entry, insert_all}
use Rattle.wac_model.specs.Text.{Text}
use Rattle.wac_component.specs.Collection.{Collection, WorldContent}
use Rattle.wac_component.specs.Implicit.{implicit_imports}
use Rattle.wac_component.specs.Tree.{item_tree}
use Rattle.wac_component.specs.declared.items.ItemKind.{ItemKind}
use Rattle.wac_component.specs.declared.worlds.ExternKind.{ExternKind}
use Rattle.wac_component.specs.declared.worlds.ExternKind.TheVariants.{Import, Export}
use Rattle.wac_names.specs.Pairs.{HasDistinctTexts, IsFound, IsGreatest, NoneCompatible, value_at, with_pair}
use Rattle.wac_names.proofs.PairFacts.{bytes_refl, value_put}
use Rattle.wac_targets.specs.Wanted.{NamedItems, Lacks, wanted, given, FitsAs}
use Rattle.wac_targets.specs.Parts.{not_in_target, missing, mismatched}
use Rattle.wac_targets.specs.Report.{AreMeantAsTheyStand, Misfits, IsMismatched, IsReport, IsClean, IsAnswer}
use Rattle.wac_targets.specs.declared.report.TargetValidationReport.{TargetValidationReport}
use Rattle.wac_targets.proofs.Distinct.{value_at-apart}
use Rattle.wac_model.proofs.ItemOrder.{Fits-refl}

module _ {V : Type 0} where
  -- a name that isn't put keeps its value
  put-elsewhere : (own es : List (Text × V)) (n : Text) → value_at own n ≡ None → value_at (insert_all bytes_eq es own) n ≡ value_at es n
  put-elsewhere [] es n none = refl
  put-elsewhere (p ∷ own) es n none = of (bytes_eq n p.0) refl none (put-elsewhere own (with_pair es p.0 p.1) n) where
    of : (b : Bool) → bytes_eq n p.0 ≡ b → cond b (Some p.1) (value_at own n) ≡ None → (value_at own n ≡ None → value_at (insert_all bytes_eq (with_pair es p.0 p.1) own) n ≡ value_at (with_pair es p.0 p.1) n) → value_at (insert_all bytes_eq es (p ∷ own)) n ≡ value_at es n
    of true e h rest = absurd (cc (h))
    of false e h rest = rest h ∙ (value_put es p.0 n p.1 ∙ ap (λ b. cond b (Some p.1) (value_at es n)) (nat_list_eq_equiv.symm p.0 n ∙ e))

  -- a name that is put has its value, where names are distinct
  pub put-here : (own es : List (Text × V)) (n : Text) (v : V) → HasDistinctTexts own → value_at own n ≡ Some v → value_at (insert_all bytes_eq es own) n ≡ Some v
  put-here [] es n v u at = absurd (cc (at))
  put-here (p ∷ own) es n v u at = of (bytes_eq n p.0) refl at (put-here own (with_pair es p.0 p.1) n v (IsDistinct-tail bytes_eq p.0 (keys_of own) u)) where
    of : (b : Bool) → bytes_eq n p.0 ≡ b → cond b (Some p.1) (value_at own n) ≡ Some v → (value_at own n ≡ Some v → value_at (insert_all bytes_eq (with_pair es p.0 p.1) own) n ≡ Some v) → value_at (insert_all bytes_eq es (p ∷ own)) n ≡ Some v
    of true e h rest =
        let same = (bytes_decides n p.0).0 e in
        let apart : value_at own n ≡ None = subst (λ (t : Text). value_at own t ≡ None) (sym same) (value_at-apart own p.0 (IsDistinct-head bytes_eq p.0 (keys_of own) u)) in
        put-elsewhere own (with_pair es p.0 p.1) n apart ∙ (value_put es p.0 n p.1 ∙ (ap (λ b. cond b (Some p.1) (value_at es n)) (nat_list_eq_equiv.symm p.0 n ∙ e) ∙ h))
    of false e h rest = rest h

  -- what is found at a name that is there is its value
  found-there : (ps : List (Text × V)) (n : Text) (v : V) (r : Option V) → value_at ps n ≡ Some v → IsFound ps n r → r ≡ Some v
  found-there ps n v r at f = subst (λ o. MatchOption o (MatchOption r (NoneCompatible ps n) (IsGreatest ps n)) (λ x. r ≡ Some x)) at f

  -- a list without a value at any name is empty
  no-values : (ps : List (Text × V)) → ((n : Text) (v : V) → value_at ps n ≡ Some v → ⊥) → ps ≡ []
  no-values [] none = refl
  no-values (p ∷ ps) none = absurd (none p.0 p.1 (ap (λ b. cond b (Some p.1) (value_at ps p.0)) (bytes_refl p.0)))

no-names : (xs : List Text) → ((n : Text) → Contains xs n → ⊥) → xs ≡ []
no-names [] none = refl
no-names (x ∷ xs) none = absurd (none x (zero, omega arith, refl))

module _ (c : Collection) (w : WorldContent) (meant : AreMeantAsTheyStand w) (distinct : HasDistinctTexts w.imports) where
  -- what is found is what is wanted
  given-there : (k : ExternKind) (n : Text) (b : ItemKind) → value_at (wanted c w w k) n ≡ Some b → value_at (given c w w k) n ≡ Some b
  given-there Import n b at = rw (fold-append (λ (done : NamedItems) (p : Text × ItemKind). insert_entry bytes_eq done p.0 p.1) [] (implicit_imports c w) w.imports) (put-here w.imports (insert_all bytes_eq [] (implicit_imports c w)) n b distinct at)
  given-there Export n b at = at

  nothing-lacks : (k : ExternKind) (n : Text) (b : ItemKind) → Lacks (given c w w k) (wanted c w w k) n b → ⊥
  nothing-lacks k n b l = absurd (cc (found-there (given c w w k) n b None (given-there k n b l.asked) l.found))

  fits-itself : (k : ExternKind) (n : Text) (b : ItemKind) → value_at (wanted c w w k) n ≡ Some b → FitsAs c k b b
  fits-itself Import n b at = rw (meant.imports n b at) (Fits-refl (item_tree c b))
  fits-itself Export n b at = rw (meant.exports n b at) (Fits-refl (item_tree c b))

  nothing-misfits : (k : ExternKind) (n : Text) → Misfits c w w k n → ⊥
  nothing-misfits k n m =
      let found = found-there (given c w w k) n m.b (Some m.a) (given-there k n m.b m.has.asked) m.has.found in
      let same : m.a ≡ m.b = cc (found) in
      m.no (subst (λ x. FitsAs c k x m.b) (sym same) (fits-itself k n m.b m.has.asked))

  nothing-told : (k : ExternKind) (n : Text) → IsMismatched c w w k n → ⊥
  nothing-told Export n m = nothing-misfits Export n m
  nothing-told Import n m = nothing-misfits Import n m.0

  clean-itself : (r : TargetValidationReport) → IsReport c w w r → IsClean r
  clean-itself r h = record {
    not_in_target = no-names (not_in_target r) (λ n there. let l = (h.imports_not_in_target n).0 there in nothing-lacks Import n l.0 l.1);
    missing = no-values (missing r) (λ n b there. nothing-lacks Export n b ((h.missing_exports n b).0 there));
    mismatched = no-values (mismatched r) (λ n p there. nothing-told p.0 n ((h.mismatched_types n p.0).0 (p.1, there)));
  }

  -- its answer is a yes
  pub passes-itself : (a : Result (Unit {0}) TargetValidationReport) → IsAnswer c w w a → a ≡ Ok tt
  passes-itself (Ok u) h = refl
  passes-itself (Err s) (r, report, h) = absurd (h.1 (clean-itself r report))
