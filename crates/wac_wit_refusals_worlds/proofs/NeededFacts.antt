-- What exports need, and which exports are listed.
use Rattle.std.proofs.Common.{◌≡◌, ◌∙◌, ℕ, Bool, true, false, cond, List, Contains, Option, Some, None, Vec, ap, refl, subst, sym, take}
use Rattle.std.specs.Prelude.{All, IsSome}
use Rattle.std.specs.Str.{bytes_eq}
use Rattle.std.specs.declared.alloc.Global.{Global}
use Rattle.std.proofs.lemmas.Slice.Eq.{bytes_eq-Decides}
use Rattle.indexmap.specs.IndexMap.{get_by_text}
use Rattle.wac_wit_refusals_worlds.proofs.Reached.{same_item, same_scope}
use Rattle.wac_model.specs.Text.{Text}
use Rattle.wac_wit_refusals_sites.specs.Judging.{Judges}
use Rattle.wac_wit_refusals_worlds.specs.NeededSteps.{AreAllWorlds, AreExports, IsExportListed, IsFoundNeed, IsFoundUnexported, IsNameListed, IsNeededFor, IsOnBothSides, IsUnlisted, KeepsListed, ListsExports, ListsWorlds, Needing, NeedsExports, NeedsSomeTwice, IsWithinWorld, NeedsLed, NeedsNext, NeedsUses, NeedsWhat, a_world_among, an_include_among, as_import, imports_of, some_export, one_of, this_item}
use Rattle.wac_wit_refusals_worlds.specs.NeededTwice.{ExportsOthers, IsNeededAsImport, IsNotExported, a_world_exports_others, an_include_brings_others, by_way_of, by_written_use, is_itself}
use Rattle.wac_wit_refusals_worlds.specs.Needs.{NeedsItem, at_once, by_way}
use Rattle.wac_wit_refusals_sites.specs.Paths.{name_of_item}
use Rattle.wac_wit_refusals_worlds.specs.declared.needs.Reached.{Reached}
use Rattle.wac_wit_refusals_worlds.specs.declared.exports.PlacedExport.{PlacedExport}
use Rattle.wac_wit_refusals_worlds.specs.declared.exports.WorldExports.{WorldExports}
use Rattle.wac_wit_refusals_sites.specs.declared.judge.Judge.{Judge}
use Rattle.wac_wit_refusals_sites.specs.declared.led.LedTo.{LedTo}
use Rattle.wac_wit_refusals_worlds.specs.declared.worlds.PlacedWorld.{PlacedWorld}
use Rattle.wac_wit_scopes.specs.Scopes.{scope_syntax}
use Rattle.wac_wit_scopes.specs.WitSources.{PackageId, ScopeSyntax, WitSources, interface_identifier}
use Rattle.wac_wit_scopes.specs.declared.scopes.ScopeItems.{ScopeItems}
use Rattle.wac_wit_syntax.specs.declared.tree.Extern.TheVariants as extern
use Rattle.wac_wit_syntax.specs.declared.tree.ExternItem.{ExternItem}
use Rattle.wac_wit_syntax.specs.declared.tree.Ident.{Ident}
use Rattle.wac_wit_syntax.specs.declared.tree.InterfaceItem.{InterfaceItem}
use Rattle.wac_wit_syntax.specs.declared.tree.Path.{Path}
use Rattle.wac_wit_syntax.specs.declared.tree.TopItem.{TopItem}
use Rattle.wac_wit_syntax.specs.declared.tree.WorldItem.{WorldItem}
use Rattle.wac_wit_refusals_worlds.specs.Includes.{NameSource, from_include, from_world}
use Rattle.wac_wit_refusals_worlds.specs.IncludeSteps.{names_of_world}
use Rattle.wac_wit_syntax.specs.declared.tree.WorldItem.TheVariants as world_item

-- what is needed by what is needed is
needs_more : (of : WitSources) (n : Needing) (u : ScopeSyntax) (r : TopItem) (v : ScopeSyntax) (s : TopItem) → IsNeededFor of n u r → NeedsItem of u r v s → IsNeededFor of n v s
needs_more of (this_item w t) u r v s h m = by_way u r v s h m
needs_more of (one_of xs) u r v s h m = record { export = h.export; among = h.among; needed = by_way_of u r v s h.needed m }
needs_more of (some_export w is) u r v s h m = record { from = h.from; export = h.export; has = h.has; needed = by_way_of u r v s h.needed m }
needs_more of (as_import w is) u r v s h m = record { from = h.from; export = h.export; has = h.has; scope = h.scope; between = h.between; needed = h.needed; imported = h.imported; leads = by_way u r v s h.leads m }

module _ (of : WitSources) (j : Judge) where
  pub needs_next : (n : Needing) (l : LedTo) → IsFoundNeed of j n l → NeedsNext of j n l
  needs_next n l h v known placed needs = record { known = known; placed = placed; needed = needs_more of n (scope_syntax l.scope) l.item.now (scope_syntax v.scope) v.item.now h.needed needs }

  pub needs_first : (l : LedTo) → NeedsNext of j (this_item (scope_syntax l.scope) l.item.now) l
  needs_first l v known placed needs = record { known = known; placed = placed; needed = at_once (scope_syntax v.scope) v.item.now needs }

  pub needs_one : (xs : List PlacedExport) (x : PlacedExport) → Contains xs x → NeedsWhat of j (one_of xs) (scope_syntax x.scope) x.item.now
  needs_one xs x among l known placed needed = record { known = known; placed = placed; needed = record { export = x; among = among; needed = needed } }

  -- what the exports need of a world that comes with another, that needs
  pub needs_some : (w p : PlacedWorld) → IsWithinWorld of w p → NeedsExports of j (some_export (scope_syntax w.scope) w.items.now) p
  needs_some w p within x there l known placed needed = record {
    known = known;
    placed = placed;
    needed = record { from = scope_syntax p.scope; export = x; has = record { items = p.items.now; within = within; there = there }; needed = needed };
  }

  -- where the path of an export leads is needed, and so is what it uses that is written there
  pub needs_led : (n : Needing) (w : ScopeSyntax) (x : ExternItem) (p : Path) → x.what ≡ extern.Path p → NeedsWhat of j n w x → NeedsLed of j n w p
  needs_led n w x p is h l known placed leads = h l known placed (is_itself p (scope_syntax l.scope) l.item.now is leads)

  pub needs_used : (n : Needing) (w : ScopeSyntax) (x : ExternItem) (name : Ident) (is : Vec InterfaceItem Global) → x.what ≡ extern.Inline name is → NeedsWhat of j n w x → NeedsUses of j n w is.items
  needs_used n w x name is what h t among i same there l known placed leads =
      h l known placed (by_written_use name is i (scope_syntax l.scope) l.item.now what (subst (λ (t : InterfaceItem). Contains is.items t) same among) there leads)

  -- what is needed by what isn't exported is needed as an import
  pub imports_next : (w : ScopeSyntax) (is : List WorldItem) (l : LedTo) → IsFoundNeed of j (some_export w is) l → IsNotExported of (scope_syntax l.scope) l.item.now (from_world w is) → NeedsNext of j (as_import w is) l
  imports_next w is l h none v known placed needs = record {
    known = known;
    placed = placed;
    needed = record {
      from = h.needed.from;
      export = h.needed.export;
      has = h.needed.has;
      scope = scope_syntax l.scope;
      between = l.item.now;
      needed = h.needed.needed;
      imported = none;
      leads = at_once (scope_syntax v.scope) v.item.now needs;
    };
  }

some_not_none : {A : Type 0} (o : Option A) → IsSome o → o ≡ None → ⊥
some_not_none None h e = let no : false ≡ true = h in absurd (cc)
some_not_none (Some x) h e = absurd (cc)

is_some_at : {A : Type 0} (o : Option A) (x : A) → o ≡ Some x → IsSome o
is_some_at None x e = absurd (cc)
is_some_at (Some y) x e = refl

-- what isn't listed isn't exported by a world whose exports are
exports_others : (of : WitSources) (e : WorldExports) (l : LedTo) (w : ScopeSyntax) (is : List WorldItem) → ListsExports of w (get_by_text e.listed) is → IsUnlisted e l → ExportsOthers of w is (scope_syntax l.scope) l.item.now
exports_others of e l w is lists absent x p there what =
    let h = lists (world_item.Export x) there.among x refl p there.there what in
    record {
      to = h.to;
      item = h.item;
      leads = h.leads;
      other = λ (same : h.to.package ≡ (scope_syntax l.scope).package) (one : name_of_item h.item ≡ name_of_item l.item.now).
          some_not_none (get_by_text e.listed (interface_identifier h.to.package h.has.name)) h.has.has
          (ap (λ (q : PackageId). get_by_text e.listed (interface_identifier q h.has.name)) same ∙ absent h.has.name (sym one ∙ h.has.named));
    }

not_among : (of : WitSources) (e : WorldExports) (l : LedTo) → ListsWorlds of (get_by_text e.listed) e.worlds.items → IsUnlisted e l → (s : NameSource) → AreAllWorlds of e.worlds.items s → IsNotExported of (scope_syntax l.scope) l.item.now s
not_among of e l lists absent _ (a_world_among p among each) =
    a_world_exports_others (scope_syntax p.scope) p.items.now (exports_others of e l (scope_syntax p.scope) p.items.now (lists p among) absent)
    (λ i inside there. not_among of e l lists absent (from_include (scope_syntax p.scope) i) (each i inside there))
not_among of e l lists absent _ (an_include_among w i p to all) = an_include_brings_others w (scope_syntax p.scope) i to.decl to.leads
    (subst (λ (js : List WorldItem). IsNotExported of (scope_syntax l.scope) l.item.now (from_world (scope_syntax p.scope) js)) (sym to.items) (not_among of e l lists absent (names_of_world p) all))

pub not_listed : (of : WitSources) (e : WorldExports) (l : LedTo) → AreExports of e → IsUnlisted e l → IsFoundUnexported of e l
not_listed of e l exports absent = not_among of e l exports.listed absent (names_of_world e.world) exports.worlds.all

-- what an export needs, is exported, and stands where what is needed as an import does
pub both_sides : (of : WitSources) (j : Judge) (e : WorldExports) (xs : List PlacedExport) (l : LedTo) → IsFoundNeed of j (one_of xs) l
    → (r : Reached) (both : IsOnBothSides of j e r l) → IsFoundNeed of j (imports_of e) both.other → AreExports of e → NeedsSomeTwice of e xs
both_sides of j e xs l needed r both imported exports =
    let scope = same_scope j both.other l both.place imported.placed needed.placed in
    let item = same_item j both.other l both.place imported.placed needed.placed in
    record {
      export = needed.needed.export;
      among = needed.needed.among;
      twice = record {
        scope = scope_syntax l.scope;
        item = l.item.now;
        needed = needed.needed.needed;
        exported = both.exported needed.placed exports;
        imported = subst (λ (p : ScopeItems × TopItem). IsNeededAsImport of (scope_syntax e.world.scope) e.world.items.now (scope_syntax p.0) p.1) (λ k. (scope k, item k)) imported.needed;
      };
    }

-- what is put under a key, and what stays
module _ (before after : Text → Option ℕ) (k : Text) (i : ℕ) (updates : (q : Text) → after q ≡ cond (bytes_eq k q) (Some i) (before q)) where
  at_key : (q : Text) (b : Bool) → bytes_eq k q ≡ b → after q ≡ cond b (Some i) (before q)
  at_key q b is = updates q ∙ ap (λ c. cond c (Some i) (before q)) is

  pub put_there : after k ≡ Some i
  put_there = at_key k true ((bytes_eq-Decides k k).1 refl)

  pub KeepsListed-put : KeepsListed before after
  KeepsListed-put q h = by (bytes_eq k q) refl
    where
      by : (b : Bool) → bytes_eq k q ≡ b → IsSome (after q)
      by true e = is_some_at (after q) i (at_key q true e)
      by false e = subst (λ (o : Option ℕ). IsSome o) (sym (at_key q false e)) h

pub listed_at : (listed : Text → Option ℕ) (p : PackageId) (t : TopItem) (name : Text) (i : ℕ) → name_of_item t ≡ Some name → listed (interface_identifier p name) ≡ Some i → IsNameListed listed p t
listed_at listed p t name i named at = record { name = name; named = named; has = is_some_at (listed (interface_identifier p name)) i at }

pub KeepsListed-same : (a : Text → Option ℕ) → KeepsListed a a
KeepsListed-same a k h = h

-- an item that is listed stays so
pub item_kept : (of : WitSources) (w : ScopeSyntax) (a b : Text → Option ℕ) → KeepsListed a b → (t : WorldItem) → IsExportListed of w a t → IsExportListed of w b t
item_kept of w a b keeps t h x is p there what =
    let l = h x is p there what in
    record { to = l.to; item = l.item; leads = l.leads; has = record { name = l.has.name; named = l.has.named; has = keeps (interface_identifier l.to.package l.has.name) l.has.has } }

-- what a world exports that is listed stays so
pub exports_kept : (of : WitSources) (w : ScopeSyntax) (is : List WorldItem) (a b : Text → Option ℕ) → KeepsListed a b → ListsExports of w a is → ListsExports of w b is
exports_kept of w is a b keeps lists t among = item_kept of w a b keeps t (lists t among)

pub KeepsListed-more : (a b c : Text → Option ℕ) → KeepsListed a b → KeepsListed b c → KeepsListed a c
KeepsListed-more a b c first second k h = second k (first k h)

-- what was listed stays so, and what the first items export is listed
pub record ListsFirst (j : Judge) (w : ScopeSyntax) (items : List WorldItem) (index : ℕ) (old new : Text → Option ℕ) : Type 0 where
  pub keeps : KeepsListed old new
  pub lists : (of : WitSources) → Judges of j → All (λ (t : WorldItem). IsExportListed of w new t) (take index items)
