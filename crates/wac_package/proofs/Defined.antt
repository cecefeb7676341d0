-- What an export defines, and the definitions among the first exports.
use Rattle.std.proofs.Common.{◌≡◌, ℕ, zero, suc, false, String, Global, string_bytes, List, [], ◌∷◌, ◌++◌, Option, Some, None, length, take, refl, sym, ap, subst, ◌∙◌, arith, inl, inr}
use Rattle.std.proofs.lemmas.Bool.{cases_Bool}
use Rattle.std.proofs.lemmas.Map.Keys.{IsDistinct-head, IsDistinct-tail}
use Rattle.std.specs.Cmp.Lexicographic.{nat_list_eq_equiv}
use Rattle.std.specs.List.{AllByRecursion, IsDistinct}
use Rattle.std.specs.Map.{keys_of, lookup}
use Rattle.std.specs.Prelude.{slice_get}
use Rattle.std.specs.Str.{bytes_eq}
use Rattle.std.specs.String.{string_eq}
use Rattle.indexmap.specs.IndexMap.{insert_entry}
use Rattle.wac_model.specs.Text.{Text}
use Rattle.wac_component.specs.Collection.{Collection, WorldContent}
use Rattle.wac_component.specs.Content.{named, types_of}
use Rattle.wac_component.specs.Id.{Id}
use Rattle.wac_component.specs.declared.items.ItemKind.{ItemKind}
use Rattle.wac_component.specs.declared.items.ItemKind.TheVariants.{«Type» as OfType}
use Rattle.wac_component.specs.declared.items.Type.TheVariants.{World as TypeWorld}
use Rattle.wac_package.specs.Definitions.{AreDefinitions, Defines, DefinesNothing, IsDefinition, defined_type}
use Rattle.wac_package.specs.InterfaceName.{IsInterfaceName}

-- a list of one element
pub one_entry : {A : Type 0} (xs : List A) (x : A) → length xs ≡ 1 → slice_get xs 0 ≡ Some x → xs ≡ x ∷ []
one_entry [] x h e = absurd (omega arith)
one_entry (y ∷ []) x h e = let same : y ≡ x = cc e in ap (λ (z : _). z ∷ []) same
one_entry (y ∷ z ∷ zs) x h e = absurd (omega arith)

one_item : (m n : Text) (i j : ItemKind) → ◌≡◌ {A = List (Text × ItemKind)} ((m, i) ∷ []) ((n, j) ∷ []) → i ≡ j
one_item m n i j e =
    let pairs : ◌≡◌ {A = Text × ItemKind} (m, i) (n, j) = cc e in
    ap (λ (p : Text × ItemKind). p.1) pairs

-- the item that stands in a definition is the one export of the world
item_of : (c : Collection) (kind item d : ItemKind) (world : Id) (content : WorldContent) (name : Text) → kind ≡ OfType (TypeWorld world)
    → slice_get c.worlds world.index ≡ Some content → content.exports ≡ (name, item) ∷ [] → (def : Defines c kind d) → item ≡ def.item
item_of c kind item d world content name k e a def =
    let worlds : def.world ≡ world = cc (def.world_type, k) in
    let entry : slice_get c.worlds world.index ≡ Some def.content = ap (λ (w : Id). slice_get c.worlds w.index) (sym worlds) ∙ def.entry in
    let same : content ≡ def.content = cc (entry, e) in
    let exports = sym a ∙ ap (λ (w : WorldContent). w.exports) same ∙ def.alone in
    one_item name def.name item def.item exports

-- what the type of a world with one export defines
pub definition_of : (c : Collection) (kind item : ItemKind) (world : Id) (content : WorldContent) (name : Text) → kind ≡ OfType (TypeWorld world)
    → slice_get c.worlds world.index ≡ Some content → content.exports ≡ (name, item) ∷ [] → IsInterfaceName name → (r : Option ItemKind) → r ≡ defined_type item → IsDefinition c kind r
definition_of c kind item world content name k e a n None r = λ d def. cc (r, ap defined_type (item_of c kind item d world content name k e a def), def.of_item)
definition_of c kind item world content name k e a n (Some d) r =
    record { world = world; content = content; name = name; item = item; world_type = k; entry = e; alone = a; interface_name = n; of_item = sym r }

module _ (c : Collection) where
  -- the definitions among one export more, which defines this
  pub definitions_more : (es ds : List (Text × ItemKind)) (i : ℕ) (e : Text × ItemKind) (d : ItemKind) → slice_get es i ≡ Some e → Defines c e.1 d
      → AreDefinitions c (take i es) ds → AreDefinitions c (take (suc i) es) (ds ++ (e.0, d) ∷ [])
  definitions_more [] ds i e d at def h = cc at
  definitions_more (x ∷ xs) ds zero e d at def h =
      let same : x ≡ e = cc at in
      inr (d, [], subst (λ (y : Text × ItemKind). Defines c y.1 d) (sym same) def, refl, rw (h, same) refl)
  definitions_more (x ∷ xs) ds (suc i) e d at def (inl h) = inl (h.0, definitions_more xs ds i e d at def h.1)
  definitions_more (x ∷ xs) ds (suc i) e d at def (inr h) =
      inr (h.0, h.1 ++ (e.0, d) ∷ [], h.2, definitions_more xs h.1 i e d at def h.3, ap (λ (l : List (Text × ItemKind)). l ++ (e.0, d) ∷ []) h.4)

  -- and among one more that defines nothing
  pub definitions_same : (es ds : List (Text × ItemKind)) (i : ℕ) (e : Text × ItemKind) → slice_get es i ≡ Some e → DefinesNothing c e.1
      → AreDefinitions c (take i es) ds → AreDefinitions c (take (suc i) es) ds
  definitions_same [] ds i e at none h = cc at
  definitions_same (x ∷ xs) ds zero e at none h =
      let same : x ≡ e = cc at in
      inl (subst (λ (y : Text × ItemKind). DefinesNothing c y.1) (sym same) none, h)
  definitions_same (x ∷ xs) ds (suc i) e at none (inl h) = inl (h.0, definitions_same xs ds i e at none h.1)
  definitions_same (x ∷ xs) ds (suc i) e at none (inr h) = inr (h.0, h.1, h.2, definitions_same xs h.1 i e at none h.3, h.4)

  all_at : (t : Text) (es : List (Text × ItemKind)) (i : ℕ) (e : Text × ItemKind) → slice_get es i ≡ Some e → AllByRecursion (λ y. bytes_eq t y ≡ false) (keys_of es)
      → bytes_eq t e.0 ≡ false
  all_at t [] i e at a = cc at
  all_at t (x ∷ xs) zero e at a = let same : x ≡ e = cc at in subst (λ (y : Text × ItemKind). bytes_eq t y.0 ≡ false) same a.0
  all_at t (x ∷ xs) (suc i) e at a = all_at t xs i e at a.1

  -- the name of an export is not among the definitions before it
  pub not_before : (es ds : List (Text × ItemKind)) (i : ℕ) (e : Text × ItemKind) → slice_get es i ≡ Some e → IsDistinct bytes_eq (keys_of es)
      → AreDefinitions c (take i es) ds → lookup (bytes_eq e.0) ds ≡ None
  not_before [] ds i e at u h = cc at
  not_before (x ∷ xs) ds zero e at u h = rw h refl
  not_before (x ∷ xs) ds (suc i) e at u (inl h) = not_before xs ds i e at (IsDistinct-tail bytes_eq x.0 (keys_of xs) u) h.1
  not_before (x ∷ xs) ds (suc i) e at u (inr h) =
      let other : bytes_eq e.0 x.0 ≡ false = nat_list_eq_equiv.symm e.0 x.0 ∙ all_at x.0 xs i e at (IsDistinct-head bytes_eq x.0 (keys_of xs) u) in
      rw h.4 (rw other (not_before xs h.1 i e at (IsDistinct-tail bytes_eq x.0 (keys_of xs) u) h.3))

  -- where all exports are looked at
  pub definitions_all : (es ds : List (Text × ItemKind)) (i : ℕ) → length es ≡ i → AreDefinitions c (take i es) ds → AreDefinitions c es ds
  definitions_all [] ds zero n h = h
  definitions_all [] ds (suc i) n h = absurd (omega arith)
  definitions_all (x ∷ xs) ds zero n h = absurd (omega arith)
  definitions_all (x ∷ xs) ds (suc i) n (inl h) = inl (h.0, definitions_all xs ds i (omega arith) h.1)
  definitions_all (x ∷ xs) ds (suc i) n (inr h) = inr (h.0, h.1, h.2, definitions_all xs h.1 i (omega arith) h.3, h.4)

  one_definition : (kind d f : ItemKind) → Defines c kind d → Defines c kind f → d ≡ f
  one_definition kind d f g h =
      let items = item_of c kind g.item f g.world g.content g.name g.world_type g.entry g.alone h in
      cc (g.of_item, h.of_item, ap defined_type items)

  -- exports have one list of definitions
  pub determined : (es ds fs : List (Text × ItemKind)) → AreDefinitions c es ds → AreDefinitions c es fs → ds ≡ fs
  determined [] ds fs g h = g ∙ sym h
  determined (e ∷ es) ds fs (inl g) (inl h) = determined es ds fs g.1 h.1
  determined (e ∷ es) ds fs (inl g) (inr h) = absurd (g.0 h.0 h.2)
  determined (e ∷ es) ds fs (inr g) (inl h) = absurd (h.0 g.0 g.2)
  determined (e ∷ es) ds fs (inr g) (inr h) =
      let rest = determined es g.1 h.1 g.3 h.3 in
      let same = one_definition e.1 g.0 h.0 g.2 h.2 in
      g.4 ∙ rw (rest, same) refl ∙ sym h.4

-- an export by its place, among the kinds
pub kind_at : (es : List (String Global × ItemKind)) (i : ℕ) (n : Text) (k : ItemKind) → slice_get (named (λ x. x) es) i ≡ Some (n, k) → slice_get (types_of es) i ≡ Some k
kind_at [] i n k at = cc at
kind_at (e ∷ es) zero n k at =
    let pairs : (string_bytes e.0, e.1) ≡ (n, k) = cc at in
    ap (λ (p : Text × ItemKind). Some p.1) pairs
kind_at (e ∷ es) (suc i) n k at = kind_at es i n k at

-- names of a map's entries are distinct as texts
all_texts : (t : String Global) (es : List (String Global × ItemKind)) → AllByRecursion (λ y. string_eq t y ≡ false) (keys_of es)
    → AllByRecursion (λ y. bytes_eq (string_bytes t) y ≡ false) (keys_of (named (λ x. x) es))
all_texts t [] a = a
all_texts t (e ∷ es) a = (a.0, all_texts t es a.1)

pub distinct_texts : (es : List (String Global × ItemKind)) → IsDistinct string_eq (keys_of es) → IsDistinct bytes_eq (keys_of (named (λ x. x) es))
unfolding IsDistinct
distinct_texts [] u = u
distinct_texts (e ∷ es) u = (all_texts e.0 es u.0, distinct_texts es u.1)

-- a new name goes last
pub named_insert : (es : List (String Global × ItemKind)) (k : String Global) (n : Text) (v : ItemKind) → string_bytes k ≡ n → lookup (bytes_eq n) (named (λ x. x) es) ≡ None
    → named (λ x. x) (insert_entry string_eq es k v) ≡ named (λ x. x) es ++ (n, v) ∷ []
named_insert [] k n v e none = rw e refl
named_insert (x ∷ es) k n v e none = elim (cases_Bool (bytes_eq n (string_bytes x.0))) [
  | inl t ↦ absurd (cc (rw t at none))
  | inr f ↦
      let test : string_eq k x.0 ≡ false = ap (λ (m : Text). bytes_eq m (string_bytes x.0)) e ∙ f in
      let rest = named_insert es k n v e (rw f at none) in
      rw (test, rest) refl
]
