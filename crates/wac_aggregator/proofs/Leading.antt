-- Where names lead, before a call and after it.
use Rattle.std.proofs.Common.{◌≡◌, ◌⊎◌, inl, inr, Bool, true, false, cond, [], Option, Some, None, IsSome, refl, ap, sym, ◌∙◌, subst}
use Rattle.std.specs.Str.{bytes_eq}
use Rattle.std.specs.Cmp.Lexicographic.{bytes_decides}
use Rattle.wac_model.specs.Text.{Text, lookup}
use Rattle.wac_component.specs.declared.items.ItemKind.{ItemKind}
use Rattle.wac_names.specs.Class.{Class, class_eq, class_of}
use Rattle.wac_names.proofs.Classes.{classes_decided}
use Rattle.wac_aggregator_imports.specs.Import.{ImportContent, ImportsContent, import_of, led_of, canonical, AreFiled, PutsImport, PutsName, stays, leads, raises}
use Rattle.wac_aggregator_imports.specs.Left.{listed_imports}
use Rattle.wac_aggregator_imports.proofs.Filed.{canonical-self, canonical-led}
use Rattle.wac_aggregator_imports.proofs.Listed.{listed_of, of_listed}
use Rattle.wac_aggregator.specs.Advances.{IsImportPlaced, added, noted}
use Rattle.wac_aggregator.specs.Served.{NameLeadsTo}

pub some_is : {A : Type 0} (o : Option A) → IsSome o → (a : A) × (o ≡ Some a)
some_is None h = absurd (let no : false ≡ true = h in cc)
some_is (Some a) h = (a, refl)

same_some : {A : Type 0} (x y : A) → Some x ≡ Some y → x ≡ y
same_some x y h = cc

module _ (is : ImportsContent) (filed : AreFiled is) where
  -- then it is canonical for the name
  pub canonical-of : (n : Text) (i : ImportContent) → NameLeadsTo is n i → canonical is n ≡ i.0
  canonical-of n i h = by (led_of is n) refl h.leads
    where
      by : (o : Option Class) → led_of is n ≡ o → (n ≡ i.0) ⊎ IsSome (led_of is n) → canonical is n ≡ i.0
      by (Some q) at m =
          let on : class_of n ≡ q = (filed.led n q at).0 in
          sym (canonical-led is n q i at (ap (import_of is) (sym on) ∙ h.import))
      by None at (inl same) = sym (canonical-self is n at) ∙ same
      by None at (inr led) = absurd (let no : false ≡ true = subst (λ (o : Option Class). IsSome o) at led in cc)

  -- and found under the canonical name
  pub found-of : (n : Text) (i : ImportContent) → NameLeadsTo is n i → lookup bytes_eq (listed_imports is) (canonical is n) ≡ Some i.1
  found-of n i h =
      let on : class_of i.0 ≡ class_of n = filed.imports (class_of n) i h.import in
      ap (lookup bytes_eq (listed_imports is)) (canonical-of n i h) ∙ listed_of is filed i.0 i.1 (ap (import_of is) on ∙ h.import)

  -- the canonical name is on the track of the name
  pub canonical-track : (n : Text) → class_of (canonical is n) ≡ class_of n
  canonical-track n = by (led_of is n) refl
    where
      by : (o : Option Class) → led_of is n ≡ o → class_of (canonical is n) ≡ class_of n
      by None at = ap class_of (sym (canonical-self is n at))
      by (Some q) at =
          let was = filed.led n q at in
          ap class_of (sym (canonical-led is n q was.1.0 at was.1.1)) ∙ filed.imports q was.1.0 was.1.1 ∙ sym was.0

  -- what is found under the canonical name is where the name leads
  pub leads-from : (n : Text) (x : ItemKind) → lookup bytes_eq (listed_imports is) (canonical is n) ≡ Some x → NameLeadsTo is n (canonical is n, x)
  leads-from n x h = record { import = ap (import_of is) (sym (canonical-track n)) ∙ of_listed is filed (canonical is n) x h; leads = by (led_of is n) refl }
    where
      by : (o : Option Class) → led_of is n ≡ o → (n ≡ canonical is n) ⊎ IsSome (led_of is n)
      by None at = inl (canonical-self is n at)
      by (Some q) at = inr (rw at refl)

-- what an import placed on the track of a name leaves of the imports, and of
-- the names that are led to others
pub record PlacedAs (a taken b : ImportsContent) (name : Text) (k : ItemKind) : Type 0 where
  pub as_name : Text
  pub puts : PutsImport taken b (class_of name) (as_name, k)
  pub led : (n : Text) → IsSome (led_of a n) → IsSome (led_of b n)
  pub old : (i : ImportContent) → import_of a (class_of name) ≡ Some i → (i.0 ≡ as_name) ⊎ IsSome (led_of b i.0)
  pub new : (name ≡ as_name) ⊎ IsSome (led_of b name)
  pub quiet : (n : Text) → led_of a n ≡ None → ¬ (n ≡ name) → ((i : ImportContent) → import_of a (class_of name) ≡ Some i → ¬ (n ≡ i.0)) → led_of b n ≡ None

-- a name put among those that are led: it and those before are
module _ (a b : ImportsContent) (at : Text) (c : Class) (puts : PutsName a b at c) where
  put_led : IsSome (led_of b at)
  put_led = rw (puts at ∙ ap (λ t. cond t (Some c) (led_of a at)) ((bytes_decides at at).1 refl)) refl

  kept_led : (n : Text) → IsSome (led_of a n) → IsSome (led_of b n)
  kept_led n h = subst (λ (o : Option Class). IsSome o) (sym (puts n)) (by (bytes_eq at n))
    where
      by : (t : Bool) → IsSome (cond t (Some c) (led_of a n))
      by true = refl
      by false = h

  other_led : (n : Text) → ¬ (n ≡ at) → led_of a n ≡ None → led_of b n ≡ None
  other_led n other h = puts n ∙ by (bytes_eq at n) refl
    where
      by : (t : Bool) → bytes_eq at n ≡ t → cond t (Some c) (led_of a n) ≡ None
      by true e = absurd (other (sym ((bytes_decides at n).0 e)))
      by false e = h

led_same : (a b : ImportsContent) (n : Text) → b.led ≡ a.led → led_of b n ≡ led_of a n
led_same a b n h = ap (λ l. led_of (record { list = []; led = l }) n) h

module _ (a taken b : ImportsContent) (same : taken.led ≡ a.led) (name : Text) (k : ItemKind) where
  some_taken : (n : Text) → IsSome (led_of a n) → IsSome (led_of taken n)
  some_taken n h = subst (λ (o : Option Class). IsSome o) (sym (led_same a taken n same)) h

  none_taken : (n : Text) → led_of a n ≡ None → led_of taken n ≡ None
  none_taken n h = led_same a taken n same ∙ h

  pub placed_as : IsImportPlaced a taken b name k → PlacedAs a taken b name k
  placed_as (added before none puts led) = record {
    as_name = name;
    puts = puts;
    led = λ n h. subst (λ (o : Option Class). IsSome o) (sym (led_same taken b n led)) (some_taken n h);
    old = λ i at. absurd (let no : None ≡ Some i = sym before ∙ at in cc);
    new = inl refl;
    quiet = λ n h other not. led_same taken b n led ∙ none_taken n h;
  }
  placed_as (noted i at (stays is puts led)) = record {
    as_name = i.0;
    puts = puts;
    led = λ n h. subst (λ (o : Option Class). IsSome o) (sym (led_same taken b n led)) (some_taken n h);
    old = λ j at_j. inl (ap (λ (x : ImportContent). x.0) (same_some j i (sym at_j ∙ at)));
    new = inl is;
    quiet = λ n h other not. led_same taken b n led ∙ none_taken n h;
  }
  placed_as (noted i at (leads old puts led)) = record {
    as_name = i.0;
    puts = puts;
    led = λ n h. kept_led taken b name (class_of name) led n (some_taken n h);
    old = λ j at_j. inl (ap (λ (x : ImportContent). x.0) (same_some j i (sym at_j ∙ at)));
    new = inr (put_led taken b name (class_of name) led);
    quiet = λ n h other not. other_led taken b name (class_of name) led n other (none_taken n h);
  }
  placed_as (noted i at (raises new puts led)) = record {
    as_name = name;
    puts = puts;
    led = λ n h. kept_led taken b i.0 (class_of name) led n (some_taken n h);
    old = λ j at_j. inr (subst (λ (x : ImportContent). IsSome (led_of b x.0)) (same_some i j (sym at ∙ at_j)) (put_led taken b i.0 (class_of name) led));
    new = inl refl;
    quiet = λ n h other not. other_led taken b i.0 (class_of name) led n (not i at) (none_taken n h);
  }

-- what is put on a class stands there
pub puts_here : (before now : ImportsContent) (c : Class) (i : ImportContent) → PutsImport before now c i → import_of now c ≡ Some i
puts_here before now c i puts = puts c ∙ ap (λ t. cond t (Some i) (import_of before c)) ((classes_decided c c).1 refl)

-- once an import is placed, names lead on
module _ (a taken b : ImportsContent) (name : Text) (k : ItemKind) (p : PlacedAs a taken b name k) (keeps : (q : Class) (i : ImportContent) → import_of a q ≡ Some i → import_of taken q ≡ Some i) where
  -- what stands on the track of the name, and on each other
  pub placed_here : import_of b (class_of name) ≡ Some (p.as_name, k)
  placed_here = puts_here taken b (class_of name) (p.as_name, k) p.puts

  pub placed_other : (q : Class) → class_eq (class_of name) q ≡ false → import_of b q ≡ import_of taken q
  placed_other q e = p.puts q ∙ ap (λ t. cond t (Some (p.as_name, k)) (import_of taken q)) e

  -- a class that had an import has one
  pub placed_still : (q : Class) (i : ImportContent) → import_of taken q ≡ Some i → (j : ImportContent) × (import_of b q ≡ Some j)
  placed_still q i at = by (class_eq (class_of name) q) refl
    where
      by : (t : Bool) → class_eq (class_of name) q ≡ t → (j : ImportContent) × (import_of b q ≡ Some j)
      by true e = ((p.as_name, k), ap (import_of b) (sym ((classes_decided (class_of name) q).0 e)) ∙ placed_here)
      by false e = (i, placed_other q e ∙ at)

  pub leads-on : (n : Text) (i j : ImportContent) → NameLeadsTo a n i → import_of b (class_of n) ≡ Some j → NameLeadsTo b n j
  leads-on n i j h at = record {
    import = at;
    leads = elim h.leads [
      | inl is ↦ by (class_eq (class_of name) (class_of n)) refl is
      | inr led ↦ inr (p.led n led)
    ];
  }
    where
      by : (t : Bool) → class_eq (class_of name) (class_of n) ≡ t → n ≡ i.0 → (n ≡ j.0) ⊎ IsSome (led_of b n)
      by true e is =
          let on : class_of name ≡ class_of n = (classes_decided (class_of name) (class_of n)).0 e in
          let j_is : (p.as_name, k) ≡ j = same_some (p.as_name, k) j (sym placed_here ∙ ap (import_of b) on ∙ at) in
          elim (p.old i (ap (import_of a) on ∙ h.import)) [
            | inl m ↦ inl (is ∙ m ∙ ap (λ (x : ImportContent). x.0) j_is)
            | inr led ↦ inr (subst (λ m. IsSome (led_of b m)) (sym is) led)
          ]
      by false e is =
          let j_is : i ≡ j = same_some i j (sym (keeps (class_of n) i h.import) ∙ sym (placed_other (class_of n) e) ∙ at) in
          inl (is ∙ ap (λ (x : ImportContent). x.0) j_is)

  pub leads-new : NameLeadsTo b name (p.as_name, k)
  leads-new = record { import = placed_here; leads = p.new }

  -- a name that led to no import leads to itself, unless it is the one handed in
  pub canonical-other : AreFiled a → (n : Text) → lookup bytes_eq (listed_imports a) (canonical a n) ≡ None → ¬ (n ≡ name) → canonical b n ≡ n
  canonical-other filed n none other = sym (canonical-self b n (p.quiet n (by (led_of a n) refl) other (λ i at is. no_import i at is)))
    where
      none_at : (i : ImportContent) → NameLeadsTo a n i → ⊥
      none_at i h = let no : None ≡ Some i.1 = sym none ∙ found-of a filed n i h in cc

      by : (o : Option Class) → led_of a n ≡ o → led_of a n ≡ None
      by None at = at
      by (Some q) at = let was = filed.led n q at in absurd (none_at was.1.0 (record { import = ap (import_of a) was.0 ∙ was.1.1; leads = inr (rw at refl) }))

      no_import : (i : ImportContent) → import_of a (class_of name) ≡ Some i → n ≡ i.0 → ⊥
      no_import i at is =
          let on : class_of n ≡ class_of name = ap class_of is ∙ filed.imports (class_of name) i at in
          none_at i (record { import = ap (import_of a) on ∙ at; leads = inl is })
