-- Where a world imports all that it uses, components run in it as the trees say.
use Rattle.std.proofs.Common.{◌≡◌, ◌↔◌, Bool, true, false, cond, List, [], ◌∷◌, Option, Some, None, refl, sym, ap, subst, ◌∙◌, is_some}
use Rattle.std.proofs.lemmas.List.Sums.{fold-append}
use Rattle.std.specs.Cmp.Lexicographic.{nat_list_eq_equiv}
use Rattle.std.specs.Option.{option_map}
use Rattle.std.specs.Prelude.{IsSome, MatchOption}
use Rattle.std.specs.Str.{bytes_eq}
use Rattle.indexmap.specs.IndexMap.{insert_all, insert_entry}
use Rattle.wac_model.specs.ItemTree.{ItemTree}
use Rattle.wac_model.specs.Order.{Fits}
use Rattle.wac_model.specs.Text.{Text}
use Rattle.wac_component.specs.Collection.{Collection, WorldContent}
use Rattle.wac_component.specs.Id.{Id}
use Rattle.wac_component.specs.Implicit.{implicit_imports}
use Rattle.wac_component.specs.Items.{promoted}
use Rattle.wac_component.specs.Tree.{Externs, item_tree, items_of}
use Rattle.wac_component.specs.declared.items.ItemKind.{ItemKind}
use Rattle.wac_component.specs.declared.items.ItemKind.TheVariants.{«Type» as OfType, Component, Func, Instance, Module, Value}
use Rattle.wac_component.specs.declared.items.Type.TheVariants.{Func as TypeFunc, Interface as TypeInterface, Module as TypeModule, Resource as TypeResource, Value as TypeValue, World as TypeWorld}
use Rattle.wac_component.specs.declared.worlds.ExternKind.{ExternKind}
use Rattle.wac_component.specs.declared.worlds.ExternKind.TheVariants.{Export, Import}
use Rattle.wac_names.specs.Pairs.{HasDistinctTexts, HasText, IsFound, IsGreatest, NoneCompatible, value_at, with_pair}
use Rattle.wac_names.proofs.Finding.{finds_one}
use Rattle.wac_names.proofs.PairFacts.{value_put}
use Rattle.wac_targets.specs.Report.{Misfits, world_content_of}
use Rattle.wac_targets.specs.Wanted.{FitsAs, Has, Lacks, NamedItems, all_imports, given, wanted}
use Rattle.wac_targets.proofs.Itself.{put-here}
use Rattle.wac_wit_changes.specs.Worlds.{FindsWith, ImportsAllUsed, IsStandingWorld, RunsIn, RunsWhere, TreeRunsIn, entries_in, externs_in, promoted_tree}
use Rattle.wac_wit_changes.proofs.Found.{finds}
use Rattle.wac_wit_changes.proofs.Stable.{Fits-stable, IsStable}

-- ---- what is found among other values of the same names

module _ {V W : Type 0} (f : V → W) (ps : List (Text × V)) (qs : List (Text × W)) (at : (n : Text) → value_at qs n ≡ option_map f (value_at ps n)) where
  has-back : (n : Text) → HasText qs n → HasText ps n
  has-back n h = by (value_at ps n) (at n) h
    where
      by : (o : Option V) → value_at qs n ≡ option_map f o → IsSome (value_at qs n) → IsSome o
      by None e some = subst IsSome e some
      by (Some v) e some = refl

  greatest-mapped : (name : Text) (v : V) → IsGreatest ps name v → IsGreatest qs name (f v)
  greatest-mapped name v g = record {
    text = g.text;
    there = at g.text ∙ ap (option_map f) g.there;
    compatible = g.compatible;
    greatest = λ n h near. g.greatest n (has-back n h) near;
  }

  pub found-mapped : (name : Text) (r : Option V) → IsFound ps name r → IsFound qs name (option_map f r)
  found-mapped name r found = subst (λ (o : Option W). MatchOption o (MatchOption (option_map f r) (NoneCompatible qs name) (IsGreatest qs name)) (λ w. option_map f r ≡ Some w)) (sym (at name)) (by (value_at ps name) r found)
    where
      by : (o r : Option V) → MatchOption o (MatchOption r (NoneCompatible ps name) (IsGreatest ps name)) (λ v. r ≡ Some v)
          → MatchOption (option_map f o) (MatchOption (option_map f r) (NoneCompatible qs name) (IsGreatest qs name)) (λ w. option_map f r ≡ Some w)
      by (Some v) r same = ap (option_map f) same
      by None None none = λ n h near. none n (has-back n h) near
      by None (Some v) g = greatest-mapped name v g

-- ---- one side's names on another's

-- each name that is wanted is there, and fits, among trees
abbrev pub AllFit : List (Text × ItemTree) → List (Text × ItemTree) → (ItemTree → ItemTree → Type 0) → Type 0
AllFit gs ws R = (n : Text) (b : ItemTree) → value_at ws n ≡ Some b → FindsWith gs n (λ a. R a b)

-- nothing lacks, and nothing misfits, among entries
abbrev pub NoneLacks : NamedItems → NamedItems → Type 0
NoneLacks given wanted = (n : Text) (b : ItemKind) → Lacks given wanted n b → ⊥

abbrev pub NoneMisfits : NamedItems → NamedItems → (ItemKind → ItemKind → Type 0) → Type 0
NoneMisfits given wanted Q = (n : Text) (a b : ItemKind) → Has given wanted n a b → (Q a b → ⊥) → ⊥

module _ (f : ItemKind → ItemTree) (given wanted : NamedItems) (gs ws : List (Text × ItemTree)) (R : ItemTree → ItemTree → Type 0)
    (at_given : (n : Text) → value_at gs n ≡ option_map f (value_at given n)) (at_wanted : (n : Text) → value_at ws n ≡ option_map f (value_at wanted n)) where
  all_fit : ((x y : ItemTree) → IsStable (R x y)) → NoneLacks given wanted → NoneMisfits given wanted (λ a b. R (f a) (f b)) → AllFit gs ws R
  all_fit stable lacks misfits n b asked = by (value_at wanted n) refl (sym (at_wanted n) ∙ asked)
    where
      found : (k : ItemKind) → value_at wanted n ≡ Some k → f k ≡ b → (r : Option ItemKind) → IsFound given n r → FindsWith gs n (λ a. R a b)
      found k at same None none = absurd (lacks n k (record { asked = at; found = none }))
      found k at same (Some a) there = record {
        tree = f a;
        found = found-mapped f given gs at_given n (Some a) there;
        has = subst (λ x. R (f a) x) same (stable (f a) (f k) (misfits n a k (record { asked = at; found = there })));
      }

      by : (o : Option ItemKind) → value_at wanted n ≡ o → option_map f o ≡ Some b → FindsWith gs n (λ a. R a b)
      by None at e = absurd (cc (e))
      by (Some k) at e = let same : f k ≡ b = cc (e) in let any = finds given n in found k at same any.what any.found

  module _ (fit : AllFit gs ws R) where
    fit_at : (n : Text) (k : ItemKind) → value_at wanted n ≡ Some k → FindsWith gs n (λ a. R a (f k))
    fit_at n k at = fit n (f k) (at_wanted n ∙ ap (option_map f) at)

    none_lacks : NoneLacks given wanted
    none_lacks n k l =
        let fits = fit_at n k l.asked in
        let nothing = found-mapped f given gs at_given n None l.found in
        let same = finds_one ItemTree gs n (Some fits.tree) None fits.found nothing in absurd (cc (same))

    none_misfits : NoneMisfits given wanted (λ a b. R (f a) (f b))
    none_misfits n a k has refused =
        let fits = fit_at n k has.asked in
        let there = found-mapped f given gs at_given n (Some a) has.found in
        let one = finds_one ItemTree gs n (Some fits.tree) (Some (f a)) fits.found there in
        let same : fits.tree ≡ f a = cc (one) in
        refused (subst (λ x. R x (f k)) same fits.has)

-- ---- what a world imports

module _ {V : Type 0} where
  -- a name that isn't put keeps its value
  put-elsewhere : (own es : List (Text × V)) (n : Text) → value_at own n ≡ None → value_at (insert_all bytes_eq es own) n ≡ value_at es n
  put-elsewhere [] es n none = refl
  put-elsewhere (p ∷ own) es n none = of (bytes_eq n p.0) refl none (put-elsewhere own (with_pair es p.0 p.1) n)
    where
      of : (b : Bool) → bytes_eq n p.0 ≡ b → cond b (Some p.1) (value_at own n) ≡ None → (value_at own n ≡ None → value_at (insert_all bytes_eq (with_pair es p.0 p.1) own) n ≡ value_at (with_pair es p.0 p.1) n) → value_at (insert_all bytes_eq es (p ∷ own)) n ≡ value_at es n
      of true e h rest = absurd (cc (h))
      of false e h rest = rest h ∙ (value_put es p.0 n p.1 ∙ ap (λ b. cond b (Some p.1) (value_at es n)) (nat_list_eq_equiv.symm p.0 n ∙ e))

module _ (c : Collection) (w : WorldContent) (distinct : HasDistinctTexts w.imports) (used : ImportsAllUsed c w) where
  -- what isn't imported isn't implied
  none_implied : (n : Text) → value_at w.imports n ≡ None → value_at (implicit_imports c w) n ≡ None
  none_implied n none = by (value_at (implicit_imports c w) n) refl
    where
      by : (o : Option ItemKind) → value_at (implicit_imports c w) n ≡ o → value_at (implicit_imports c w) n ≡ None
      by None e = e
      by (Some k) e = let there = used n (ap is_some e) in let absent = ap is_some none in absurd (cc (there, absent))

  -- it has no more than its own imports
  own_imports : (n : Text) → value_at (all_imports c w) n ≡ value_at w.imports n
  own_imports n = ap (λ ps. value_at ps n) (fold-append (λ (done : NamedItems) (p : Text × ItemKind). insert_entry bytes_eq done p.0 p.1) [] (implicit_imports c w) w.imports) ∙ by (value_at w.imports n) refl
    where
      by : (o : Option ItemKind) → value_at w.imports n ≡ o → value_at (insert_all bytes_eq (insert_all bytes_eq [] (implicit_imports c w)) w.imports) n ≡ value_at w.imports n
      by (Some k) e = put-here w.imports (insert_all bytes_eq [] (implicit_imports c w)) n k distinct e ∙ sym e
      by None e = put-elsewhere w.imports (insert_all bytes_eq [] (implicit_imports c w)) n e ∙ put-elsewhere (implicit_imports c w) [] n (none_implied n e) ∙ sym e

-- ---- the trees of entries

cond-map : {V W : Type 0} (f : V → W) (b : Bool) (v : V) (o : Option V) → cond b (Some (f v)) (option_map f o) ≡ option_map f (cond b (Some v) o)
cond-map f true v o = refl
cond-map f false v o = refl

items-at : (f : ItemKind → ItemTree) (ps : NamedItems) (n : Text) → value_at (entries_in (items_of f ps)) n ≡ option_map f (value_at ps n)
items-at f [] n = refl
items-at f (p ∷ ps) n = ap (λ o. cond (bytes_eq n p.0) (Some (f p.1)) o) (items-at f ps n) ∙ cond-map f (bytes_eq n p.0) p.1 (value_at ps n)

promoted-tree : (c : Collection) (k : ItemKind) → promoted_tree (item_tree c k) ≡ item_tree c (promoted k)
promoted-tree c (OfType (TypeResource r)) = refl
promoted-tree c (OfType (TypeFunc r)) = refl
promoted-tree c (OfType (TypeValue r)) = refl
promoted-tree c (OfType (TypeInterface r)) = refl
promoted-tree c (OfType (TypeWorld r)) = refl
promoted-tree c (OfType (TypeModule r)) = refl
promoted-tree c (Func r) = refl
promoted-tree c (Instance r) = refl
promoted-tree c (Component r) = refl
promoted-tree c (Module r) = refl
promoted-tree c (Value r) = refl

-- ---- two worlds

abbrev extern_list : WorldContent → ExternKind → NamedItems
extern_list w Import = w.imports
extern_list w Export = w.exports

externs-at : (c : Collection) (id : Id) (w : WorldContent) → IsStandingWorld c id w → (k : ExternKind) (n : Text) → value_at (externs_in k (item_tree c (Component id))) n ≡ option_map (item_tree c) (value_at (extern_list w k) n)
externs-at c id w is Import n = ap (λ (x : Externs). value_at (entries_in x.imports) n) is.trees ∙ items-at (item_tree c) w.imports n
externs-at c id w is Export n = ap (λ (x : Externs). value_at (entries_in x.exports) n) is.trees ∙ items-at (item_tree c) w.exports n

-- what is given as an import is meant as an item, and so is what is wanted as an export
abbrev ImportFits : ItemTree → ItemTree → Type 0
ImportFits a b = Fits (promoted_tree a) b

abbrev ExportFits : ItemTree → ItemTree → Type 0
ExportFits a b = Fits a (promoted_tree b)

module _ (c : Collection) (component target : Id) (v w : WorldContent) (is_component : IsStandingWorld c component v) (is_target : IsStandingWorld c target w) (distinct : HasDistinctTexts w.imports) (used : ImportsAllUsed c w) where
  component_at : (k : ExternKind) (n : Text) → value_at (externs_in k (item_tree c (Component component))) n ≡ option_map (item_tree c) (value_at (extern_list v k) n)
  component_at = externs-at c component v is_component

  target_at : (k : ExternKind) (n : Text) → value_at (externs_in k (item_tree c (Component target))) n ≡ option_map (item_tree c) (value_at (extern_list w k) n)
  target_at = externs-at c target w is_target

  given_imports_at : (n : Text) → value_at (externs_in Import (item_tree c (Component target))) n ≡ option_map (item_tree c) (value_at (all_imports c w) n)
  given_imports_at n = target_at Import n ∙ ap (option_map (item_tree c)) (sym (own_imports c w distinct used n))

  fits_import : (a b : ItemKind) → FitsAs c Import a b → ImportFits (item_tree c a) (item_tree c b)
  fits_import a b = subst (λ x. Fits x (item_tree c b)) (sym (promoted-tree c a))

  import_fits : (a b : ItemKind) → ImportFits (item_tree c a) (item_tree c b) → FitsAs c Import a b
  import_fits a b = subst (λ x. Fits x (item_tree c b)) (promoted-tree c a)

  fits_export : (a b : ItemKind) → FitsAs c Export a b → ExportFits (item_tree c a) (item_tree c b)
  fits_export a b = subst (λ x. Fits (item_tree c a) x) (sym (promoted-tree c b))

  export_fits : (a b : ItemKind) → ExportFits (item_tree c a) (item_tree c b) → FitsAs c Export a b
  export_fits a b = subst (λ x. Fits (item_tree c a) x) (promoted-tree c b)

  to_trees : RunsWhere c w v → TreeRunsIn (item_tree c (Component component)) (item_tree c (Component target))
  to_trees runs = record {
    imports = all_fit (item_tree c) (all_imports c w) v.imports _ _ ImportFits given_imports_at (component_at Import) (λ x y. Fits-stable (promoted_tree x) y) (runs.there Import)
        (λ n a b has refused. runs.fits Import n (record { a = a; b = b; has = has; no = λ fits. refused (fits_import a b fits) }));
    exports = all_fit (item_tree c) v.exports w.exports _ _ ExportFits (component_at Export) (target_at Export) (λ x y. Fits-stable x (promoted_tree y)) (runs.there Export)
        (λ n a b has refused. runs.fits Export n (record { a = a; b = b; has = has; no = λ fits. refused (fits_export a b fits) }));
  }

  module _ (runs : TreeRunsIn (item_tree c (Component component)) (item_tree c (Component target))) where
    nothing_lacks : (k : ExternKind) → NoneLacks (given c w v k) (wanted c w v k)
    nothing_lacks Import = none_lacks (item_tree c) (all_imports c w) v.imports _ _ ImportFits given_imports_at (component_at Import) runs.imports
    nothing_lacks Export = none_lacks (item_tree c) v.exports w.exports _ _ ExportFits (component_at Export) (target_at Export) runs.exports

    nothing_misfits : (k : ExternKind) (n : Text) → Misfits c w v k n → ⊥
    nothing_misfits Import n m = none_misfits (item_tree c) (all_imports c w) v.imports _ _ ImportFits given_imports_at (component_at Import) runs.imports n m.a m.b m.has (λ fits. m.no (import_fits m.a m.b fits))
    nothing_misfits Export n m = none_misfits (item_tree c) v.exports w.exports _ _ ExportFits (component_at Export) (target_at Export) runs.exports n m.a m.b m.has (λ fits. m.no (export_fits m.a m.b fits))

    from_trees : RunsWhere c w v
    from_trees = record { there = nothing_lacks; fits = nothing_misfits }

  -- where the target imports all that it uses, components run in it as the trees say
  pub runs_as_trees : RunsIn c component target ↔ TreeRunsIn (item_tree c (Component component)) (item_tree c (Component target))
  runs_as_trees = (
    (λ runs. to_trees (subst (λ x. RunsWhere c w x) is_component.content (subst (λ x. RunsWhere c x (world_content_of c component)) is_target.content runs))),
    (λ runs. subst (λ x. RunsWhere c x (world_content_of c component)) (sym is_target.content) (subst (λ x. RunsWhere c w x) (sym is_component.content) (from_trees runs))),
  )
