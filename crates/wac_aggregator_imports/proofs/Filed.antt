-- Lists of imports that are filed stay so.
use Rattle.std.proofs.Common.{◌≡◌, Bool, true, false, cond, List, [], ◌∷◌, Option, Some, None, refl, ap, sym, ◌∙◌, subst, String, Global, string_bytes}
use Rattle.std.specs.List.{IsDistinct}
use Rattle.std.specs.Map.{lookup, update, keys_of}
use Rattle.std.specs.Str.{bytes_eq}
use Rattle.std.specs.Cmp.Lexicographic.{bytes_decides}
use Rattle.indexmap.specs.IndexMap.{insert_entry}
use Rattle.wac_model.specs.Text.{Text}
use Rattle.wac_component.specs.Content.{named}
use Rattle.wac_names.specs.Class.{Class, class_eq, class_of}
use Rattle.wac_names.proofs.Classes.{classes_decided}
use Rattle.std.specs.Prelude.{IsSome, OnOk, Result, Ok, Err}
use Rattle.wac_aggregator_imports.specs.Import.{ImportContent, ImportsContent, import_of, led_of, canonical, AreFiled, PutsImport, PutsName}

-- what a map finds under a text
pub lookup-named : {V : Type 0} (es : List (String Global × V)) (n : Text) → lookup (λ k. bytes_eq n (string_bytes k)) es ≡ lookup (bytes_eq n) (named (λ v. v) es)
lookup-named [] n = refl
lookup-named (e ∷ es) n = ap (λ o. cond (bytes_eq n (string_bytes e.0)) (Some e.1) o) (lookup-named es n)

abbrev string_eq : String Global → String Global → Bool
string_eq s t = bytes_eq (string_bytes s) (string_bytes t)

-- a value put under a name is put under its text
named-put : {V : Type 0} (es : List (String Global × V)) (k : String Global) (v : V) → named (λ v. v) (insert_entry string_eq es k v) ≡ insert_entry bytes_eq (named (λ v. v) es) (string_bytes k) v
named-put [] k v = refl
named-put {V} (e ∷ es) k v = at (bytes_eq (string_bytes k) (string_bytes e.0)) (named-put es k v)
  where
    at : (b : Bool) → named (λ v. v) (insert_entry string_eq es k v) ≡ insert_entry bytes_eq (named (λ v. v) es) (string_bytes k) v
        → named (λ (w : V). w) (cond b ((e.0, v) ∷ es) (e ∷ insert_entry string_eq es k v)) ≡ cond b ((string_bytes e.0, v) ∷ named (λ v. v) es) ((string_bytes e.0, e.1) ∷ insert_entry bytes_eq (named (λ v. v) es) (string_bytes k) v)
    at true h = refl
    at false h = ap (λ (l : List (Text × V)). (string_bytes e.0, e.1) ∷ l) h

same_text : (n m : Text) → bytes_eq n m ≡ true → n ≡ m
same_text n m h = (bytes_decides n m).0 h

is_same : (n m : Text) → n ≡ m → bytes_eq n m ≡ true
is_same n m h = (bytes_decides n m).1 h

-- what stands under each text, once a value was put under one
text-put : {V : Type 0} (es : List (Text × V)) (k : Text) (v : V) (x : Text) → lookup (bytes_eq x) (insert_entry bytes_eq es k v) ≡ update bytes_eq (λ y. lookup (bytes_eq y) es) k (Some v) x
text-put [] k v x = turned (bytes_eq x k) (bytes_eq k x) refl refl
  where
    turned : (b d : Bool) → bytes_eq x k ≡ b → bytes_eq k x ≡ d → cond b (Some v) None ≡ cond d (Some v) None
    turned true true p q = refl
    turned false false p q = refl
    turned true false p q = let is : bytes_eq k x ≡ true = is_same k x (sym (same_text x k p)) in absurd (cc)
    turned false true p q = let is : bytes_eq x k ≡ true = is_same x k (sym (same_text k x q)) in absurd (cc)
text-put {V} (e ∷ es) k v x = at (bytes_eq k e.0) (bytes_eq x e.0) (bytes_eq k x) refl refl refl (text-put es k v x)
  where
    at : (a b d : Bool) → bytes_eq k e.0 ≡ a → bytes_eq x e.0 ≡ b → bytes_eq k x ≡ d → lookup (bytes_eq x) (insert_entry bytes_eq es k v) ≡ cond d (Some v) (lookup (bytes_eq x) es)
        → lookup (bytes_eq x) (cond a ((e.0, v) ∷ es) (e ∷ insert_entry bytes_eq es k v)) ≡ cond d (Some v) (cond b (Some e.1) (lookup (bytes_eq x) es))
    at true true true p q r h = rw q refl
    at true false false p q r h = rw q refl
    at true true false p q r h = let is : bytes_eq k x ≡ true = is_same k x (same_text k e.0 p ∙ sym (same_text x e.0 q)) in absurd (cc)
    at true false true p q r h = let is : bytes_eq x e.0 ≡ true = is_same x e.0 (sym (same_text k x r) ∙ same_text k e.0 p) in absurd (cc)
    at false true true p q r h = let is : bytes_eq k e.0 ≡ true = is_same k e.0 (same_text k x r ∙ same_text x e.0 q) in absurd (cc)
    at false true false p q r h = rw q refl
    at false false d p q r h = rw q h

pub lookup-put : {V : Type 0} (es : List (String Global × V)) (k : String Global) (v : V) (x : Text)
    → lookup (bytes_eq x) (named (λ v. v) (insert_entry string_eq es k v)) ≡ update bytes_eq (λ y. lookup (bytes_eq y) (named (λ v. v) es)) (string_bytes k) (Some v) x
lookup-put es k v x = ap (lookup (bytes_eq x)) (named-put es k v) ∙ text-put (named (λ v. v) es) (string_bytes k) v x

pub same_class : (c d : Class) → class_eq c d ≡ true → c ≡ d
same_class c d h = (classes_decided c d).0 h

module _ (before now : ImportsContent) (filed : AreFiled before) where
  -- an import is put under the class of its name
  pub AreFiled-put : (c : Class) (i : ImportContent) → class_of i.0 ≡ c → IsDistinct class_eq (keys_of now.list) → PutsImport before now c i → now.led ≡ before.led → AreFiled now
  AreFiled-put c i of distinct puts same = record { distinct = distinct; imports = imports; led = led }
    where
      imports : (q : Class) (j : ImportContent) → import_of now q ≡ Some j → class_of j.0 ≡ q
      imports q j at = by (class_eq c q) refl (sym (puts q) ∙ at)
        where
          by : (b : Bool) → class_eq c q ≡ b → cond b (Some i) (import_of before q) ≡ Some j → class_of j.0 ≡ q
          by true e h = let j_is : i ≡ j = cc in ap (λ (x : ImportContent). class_of x.0) (sym j_is) ∙ of ∙ same_class c q e
          by false e h = filed.imports q j h

      led : (n : Text) (q : Class) → led_of now n ≡ Some q → (class_of n ≡ q) × ((j : ImportContent) × (import_of now q ≡ Some j))
      led n q at = let was = filed.led n q (ap (λ l. lookup (bytes_eq n) l) (sym same) ∙ at) in (was.0, by (class_eq c q) refl was.1)
        where
          by : (b : Bool) → class_eq c q ≡ b → (j : ImportContent) × (import_of before q ≡ Some j) → (j : ImportContent) × (import_of now q ≡ Some j)
          by true e h = (i, puts q ∙ ap (λ b. cond b (Some i) (import_of before q)) e)
          by false e h = (h.0, puts q ∙ ap (λ b. cond b (Some i) (import_of before q)) e ∙ h.1)

  -- a name leads to the import of its class
  pub AreFiled-led : (n : Text) (c : Class) (i : ImportContent) → class_of n ≡ c → import_of before c ≡ Some i → now.list ≡ before.list → PutsName before now n c → AreFiled now
  AreFiled-led n c i of found same puts = record {
    distinct = subst (λ l. IsDistinct class_eq (keys_of l)) (sym same) filed.distinct;
    imports = λ q j at. filed.imports q j (ap (λ l. lookup (class_eq q) l) (sym same) ∙ at);
    led = λ m q at. let was = by (bytes_eq n m) m q refl (sym (puts m) ∙ at) in (was.0, (was.1.0, ap (λ l. lookup (class_eq q) l) same ∙ was.1.1));
  }
    where
      by : (b : Bool) (m : Text) (q : Class) → bytes_eq n m ≡ b → cond b (Some c) (led_of before m) ≡ Some q → (class_of m ≡ q) × ((j : ImportContent) × (import_of before q ≡ Some j))
      by true m q e h = let q_is : c ≡ q = cc in (ap class_of (sym (same_text n m e)) ∙ of ∙ q_is, (i, ap (import_of before) (sym q_is) ∙ found))
      by false m q e h = filed.led m q h

-- where a name leads
pub canonical-self : (is : ImportsContent) (n : Text) → led_of is n ≡ None → n ≡ canonical is n
canonical-self is n h = rw h refl

pub canonical-led : (is : ImportsContent) (n : Text) (c : Class) (i : ImportContent) → led_of is n ≡ Some c → import_of is c ≡ Some i → i.0 ≡ canonical is n
canonical-led is n c i h found = rw h (rw found refl)

pub canonical-lost : (is : ImportsContent) (n : Text) (c : Class) → led_of is n ≡ Some c → import_of is c ≡ None → n ≡ canonical is n
canonical-lost is n c h found = rw h (rw found refl)

pub some_of : {A : Type 0} (o : Option A) → IsSome o → (a : A) × (o ≡ Some a)
some_of None h = absurd (let no : false ≡ true = h in cc)
some_of (Some a) h = (a, refl)

-- what two clauses say of a value
pub on_both : {T E : Type 0} (P Q : Type 0) (r : Result T E) → OnOk r P → OnOk r Q → OnOk r (P × Q)
on_both P Q (Ok x) p q = (p, q)
on_both P Q (Err e) p q = tt
