-- Imports one after another, found by their names and by the classes of these.
use Rattle.std.proofs.Common.{◌≡◌, Bool, true, false, cond, List, [], ◌∷◌, Option, Some, map, refl, ap, sym, ◌∙◌, subst, if◌then◌else◌, zero, suc, arith}
use Rattle.std.proofs.lemmas.List.Elements.{Contains-append_left, Contains-append_right, Contains-push}
use Rattle.std.proofs.lemmas.Map.Views.{lookup-from_Contains}
use Rattle.std.specs.Cmp.{IsEquivalence}
use Rattle.std.specs.List.{Contains}
use Rattle.std.specs.Map.{lookup as lookup_by, keys_of}
use Rattle.std.specs.Str.{bytes_eq}
use Rattle.std.specs.Cmp.Lexicographic.{bytes_decides}
use Rattle.wac_model.specs.Text.{Text, lookup}
use Rattle.wac_component.specs.declared.items.ItemKind.{ItemKind}
use Rattle.wac_names.specs.Class.{Class, class_eq, class_of}
use Rattle.wac_names.proofs.Classes.{classes_decided}
use Rattle.wac_aggregator_imports.specs.Import.{ImportContent, ImportsContent, import_of, AreFiled}
use Rattle.wac_aggregator_imports.specs.Left.{listed_imports}

-- equality of classes is an equivalence
turned : (x y : Class) → class_eq x y ≡ class_eq y x
turned x y = at (class_eq x y) (class_eq y x) refl refl
  where
    at : (b d : Bool) → class_eq x y ≡ b → class_eq y x ≡ d → b ≡ d
    at true true p q = refl
    at false false p q = refl
    at true false p q = absurd (let is : class_eq y x ≡ true = (classes_decided y x).1 (sym ((classes_decided x y).0 p)) in cc)
    at false true p q = absurd (let is : class_eq x y ≡ true = (classes_decided x y).1 (sym ((classes_decided y x).0 q)) in cc)

pub class_equivalence : IsEquivalence class_eq
class_equivalence = record {
  refl = λ x. (classes_decided x x).1 refl;
  symm = turned;
  congr = λ x y z h. ap (λ c. class_eq c z) ((classes_decided x y).0 h);
}

abbrev ClassEntries : Type 0
ClassEntries = List (Class × ImportContent)

-- each import is under the class of its name
abbrev AllFiled : ClassEntries → Type 0
AllFiled es = (c : Class) (i : ImportContent) → Contains es (c, i) → class_of i.0 ≡ c

first : (e : Class × ImportContent) (es : ClassEntries) → Contains (e ∷ es) e
first e es = Contains-append_left (e ∷ []) es e (Contains-push [] e)

later : (e x : Class × ImportContent) (es : ClassEntries) → Contains es x → Contains (e ∷ es) x
later e x es m = Contains-append_right (e ∷ []) es x m

filed_from : (is : ImportsContent) → AreFiled is → AllFiled is.list
filed_from is h c i m = h.imports c i (lookup-from_Contains class_equivalence c i is.list h.distinct m)

-- what is found under the class of a name is found under the name, if it has that
by_name : (m : Text) (x : ItemKind) (es : ClassEntries) → AllFiled es → lookup_by (class_eq (class_of m)) es ≡ Some (m, x) → lookup bytes_eq (map (λ (e : Class × ImportContent). e.1) es) m ≡ Some x
by_name m x [] filed h = absurd (cc)
by_name m x (e ∷ es) filed h = at (class_eq (class_of m) e.0) (bytes_eq m e.1.0) refl refl h (by_name m x es (λ c i k. filed c i (later e (c, i) es k)))
  where
    rest : Option ItemKind
    rest = lookup bytes_eq (map (λ (e : Class × ImportContent). e.1) es) m

    at : (b d : Bool) → class_eq (class_of m) e.0 ≡ b → bytes_eq m e.1.0 ≡ d → cond b (Some e.1) (lookup_by (class_eq (class_of m)) es) ≡ Some (m, x) → (lookup_by (class_eq (class_of m)) es ≡ Some (m, x) → rest ≡ Some x) → (if d then Some e.1.1 else rest) ≡ Some x
    at true true p q k go = let same : e.1 ≡ (m, x) = cc in ap (λ (i : ImportContent). Some i.1) same
    at true false p q k go = absurd (let same : e.1 ≡ (m, x) = cc in let is : bytes_eq m e.1.0 ≡ true = (bytes_decides m e.1.0).1 (ap (λ (i : ImportContent). i.0) (sym same)) in cc)
    at false true p q k go = absurd (let is : class_eq (class_of m) e.0 ≡ true = (classes_decided (class_of m) e.0).1 (ap class_of ((bytes_decides m e.1.0).0 q) ∙ filed e.0 e.1 (first e es)) in cc)
    at false false p q k go = go k

-- what is found under a name is an import of that name
among : (m : Text) (x : ItemKind) (es : ClassEntries) → lookup bytes_eq (map (λ (e : Class × ImportContent). e.1) es) m ≡ Some x → (c : Class) × Contains es (c, (m, x))
among m x [] h = absurd (cc)
among m x (e ∷ es) h = at (bytes_eq m e.1.0) refl h (among m x es)
  where
    at : (b : Bool) → bytes_eq m e.1.0 ≡ b → (if b then Some e.1.1 else lookup bytes_eq (map (λ (e : Class × ImportContent). e.1) es) m) ≡ Some x → (lookup bytes_eq (map (λ (e : Class × ImportContent). e.1) es) m ≡ Some x → (c : Class) × Contains es (c, (m, x))) → (c : Class) × Contains (e ∷ es) (c, (m, x))
    at true p k rest =
        let same : e.1.1 ≡ x = cc in
        (e.0, subst (λ (i : ImportContent). Contains (e ∷ es) (e.0, i)) (ap (λ (n : Text). (n, e.1.1)) (sym ((bytes_decides m e.1.0).0 p)) ∙ ap (λ (y : ItemKind). (m, y)) same) (first e es))
    at false p k rest = let r = rest k in (r.0, later e (r.0, (m, x)) es r.1)

-- what is in the list is an import of some class
of_list : (i : ImportContent) (es : ClassEntries) → Contains (map (λ (e : Class × ImportContent). e.1) es) i → (c : Class) × Contains es (c, i)
of_list i [] m = absurd (omega (arith, m.1))
of_list i (e ∷ es) (zero, l, q) = (e.0, subst (λ (j : ImportContent). Contains (e ∷ es) (e.0, j)) q (first e es))
of_list i (e ∷ es) (suc k, l, q) = let r = of_list i es (k, omega (arith, l), q) in (r.0, later e (r.0, i) es r.1)

module _ (is : ImportsContent) (filed : AreFiled is) where
  pub listed_of : (m : Text) (x : ItemKind) → import_of is (class_of m) ≡ Some (m, x) → lookup bytes_eq (listed_imports is) m ≡ Some x
  listed_of m x h = by_name m x is.list (filed_from is filed) h

  pub of_listed : (m : Text) (x : ItemKind) → lookup bytes_eq (listed_imports is) m ≡ Some x → import_of is (class_of m) ≡ Some (m, x)
  of_listed m x h =
      let c = among m x is.list h in
      ap (import_of is) (filed_from is filed c.0 (m, x) c.1) ∙ lookup-from_Contains class_equivalence c.0 (m, x) is.list filed.distinct c.1

  -- each of the list is the import of the class of its name
  pub of_Contains : (i : ImportContent) → Contains (listed_imports is) i → import_of is (class_of i.0) ≡ Some i
  of_Contains i m =
      let c = of_list i is.list m in
      ap (import_of is) (filed_from is filed c.0 i c.1) ∙ lookup-from_Contains class_equivalence c.0 i is.list filed.distinct c.1

-- the classes of the names are those of the imports
classes : (es : ClassEntries) → AllFiled es → map class_of (keys_of (map (λ (e : Class × ImportContent). e.1) es)) ≡ keys_of es
classes [] filed = refl
classes (e ∷ es) filed =
    ap (λ c. c ∷ map class_of (keys_of (map (λ (x : Class × ImportContent). x.1) es))) (filed e.0 e.1 (first e es))
    ∙ ap (λ cs. e.0 ∷ cs) (classes es (λ c i m. filed c i (later e (c, i) es m)))

pub classes_listed : (is : ImportsContent) → AreFiled is → map class_of (keys_of (listed_imports is)) ≡ keys_of is.list
classes_listed is filed = classes is.list (filed_from is filed)
