-- Reports on packages are reports on the texts that these were read from.
use Rattle.std.proofs.Common.{◌≡◌, ◌↔◌, ◌⊎◌, inl, inr, List, [], ◌∷◌, Option, Some, None, Bool, true, false, cond, Contains, option_map, string_bytes, String, refl, sym, ap, subst}
use Rattle.std.proofs.lemmas.Slice.Eq.{bytes_eq-Decides}
use Rattle.std.specs.HashMap.{get_by_text}
use Rattle.std.specs.List.{AllZip}
use Rattle.std.specs.Map.{keys_of, lookup}
use Rattle.std.specs.Str.{bytes_eq}
use Rattle.std.specs.declared.alloc.Global.{Global}
use Rattle.wac_component.specs.Collection.{Collection}
use Rattle.wac_component.specs.Growth.{Extends}
use Rattle.wac_component.specs.Id.{Id}
use Rattle.wac_component.specs.Tree.{item_tree}
use Rattle.wac_component.specs.declared.items.ItemKind.TheVariants.{Component, Instance}
use Rattle.wac_component.proofs.Among.{Contains-first, Contains-later}
use Rattle.wac_types.specs.Order.{Fits}
use Rattle.wac_types.specs.Text.{Text}
use Rattle.wac_wit.specs.Read.{AreOfTexts, IsReadPackage}
use Rattle.wac_wit.specs.declared.packages.WitPackage.{WitPackage}
use Rattle.wac_wit_names.specs.declared.features.Features.{Features}
use Rattle.wac_wit_names.specs.declared.sources.SourceFile.{SourceFile}
use Rattle.wac_wit_validation_types.specs.Interfaces.{IsInterfaceTree}
use Rattle.wac_wit_validation.specs.Validated.{IsInterfaceOf, IsWorldOf}
use Rattle.wac_wit_scopes.specs.WitSources.{WitSources, sources_of}
use Rattle.wac_wit_validation_types.specs.Worlds.{IsWorldTree}
use Rattle.wac_wit_changes.specs.Comparing.{HasFitting, IsComparedInterface, IsComparedWorld, IsCounterpart, IsReportOfBoth, IsReportOfOne, IsReportOn}
use Rattle.wac_wit_changes.specs.Texts.{ComparesTexts, DenotesInterface, DenotesWorld, IsTextItem, IsTextReportOfBoth, IsTextReportOn, IsTextVerdict, IsTextWorld, IsWorldVerdict, beside, gone, world_beside, world_gone}
use Rattle.wac_wit_changes.specs.Worlds.{TreeRunsIn}
use Rattle.wac_wit_changes.specs.declared.report.ComparedItem.{ComparedItem}
use Rattle.wac_wit_changes.specs.declared.report.PackageReport.{PackageReport}
use Rattle.wac_wit_changes.specs.declared.report.Promise.{Promise}
use Rattle.wac_wit_changes.specs.declared.texts.ComparedTexts.{ComparedTexts}

-- an entry that has this name and this value
pub record HasEntry {V : Type 0} (es : List (String Global × V)) (n : Text) (v : V) : Type 0 where
  pub key : String Global
  pub among : Contains es (key, v)
  pub named : string_bytes key ≡ n

-- what a look-up finds is among the entries
pub found_entry : {V : Type 0} (es : List (String Global × V)) (n : Text) (v : V) → lookup (λ (k : String Global). bytes_eq n (string_bytes k)) es ≡ Some v → HasEntry es n v
found_entry [] n v is = absurd (cc)
found_entry {V} (e ∷ es) n v is = at (bytes_eq n (string_bytes e.0)) refl is (found_entry es n v)
  where
    at : (b : Bool) → bytes_eq n (string_bytes e.0) ≡ b → cond b (Some e.1) (lookup (λ (k : String Global). bytes_eq n (string_bytes k)) es) ≡ Some v → (lookup (λ (k : String Global). bytes_eq n (string_bytes k)) es ≡ Some v → HasEntry es n v) → HasEntry (e ∷ es) n v
    at true same found rest =
        let value : e.1 ≡ v = cc in
        record { key = e.0; among = subst (λ x. Contains (e ∷ es) (e.0, x)) value (Contains-first e es); named = sym ((bytes_eq-Decides n (string_bytes e.0)).0 same) }
    at false same found rest = let h = rest found in record { key = h.key; among = Contains-later (h.key, v) e es h.among; named = h.named }

-- where a relation leads to another one at each element of the first list
pub AllZip-leads : {A B : Type 0} (R S : A → B → Type 0) (xs : List A) (ys : List B) → ((x : A) (y : B) → Contains xs x → R x y → S x y) → AllZip R xs ys → AllZip S xs ys
AllZip-leads R S [] [] leads h = tt
AllZip-leads R S [] (y ∷ ys) leads h = absurd h
AllZip-leads R S (x ∷ xs) [] leads h = absurd h
AllZip-leads R S (x ∷ xs) (y ∷ ys) leads h = (leads x y (Contains-first x xs) h.0, AllZip-leads R S xs ys (λ z w among r. leads z w (Contains-later z x xs among) r) h.1)

-- of the keys of entries
pub AllZip-keys : {K V B : Type 0} (S : K → B → Type 0) (es : List (K × V)) (ys : List B) → AllZip (λ (e : K × V) (y : B). S e.0 y) es ys → AllZip S (keys_of es) ys
AllZip-keys S [] [] h = tt
AllZip-keys S [] (y ∷ ys) h = absurd h
AllZip-keys S (e ∷ es) [] h = absurd h
AllZip-keys S (e ∷ es) (y ∷ ys) h = (h.0, AllZip-keys S es ys h.1)

module _ (c d : Collection) (grows : Extends c d) where
  -- an interface that was read is denoted by its text still
  pub denoted_still : (of : WitSources) (p : WitPackage) (n : Text) (id : Id) → IsInterfaceOf of c (string_bytes p.name) (option_map string_bytes p.version) n id → DenotesInterface of p n (item_tree d (Instance id))
  denoted_still of p n id f = record {
    scope = f.scope;
    decl = f.decl;
    has = f.has;
    of_package = f.of_package;
    of_version = f.of_version;
    is_tree = subst (IsInterfaceTree of f.scope f.decl.items.items) (sym (grows.trees (Instance id) (f.stands, tt))) f.tree;
  }

  -- so is a world
  world_still : (of : WitSources) (p : WitPackage) (n : Text) (id : Id) → IsWorldOf of c (string_bytes p.name) (option_map string_bytes p.version) n id → DenotesWorld of p n (item_tree d (Component id))
  world_still of p n id w = record { written = w.written; is = w.is; is_tree = subst (IsWorldTree of w.written) (sym (grows.trees (Component id) (w.stands, tt))) w.tree; one = w.one }

  module _ (olds news : WitSources) (old new : WitPackage) (e : String Global × Id) (item : ComparedItem) (olds_read : IsReadPackage olds c old) (news_read : IsReadPackage news c new) where
    -- where the new package has an interface of the name
    verdict_beside : (id : Id) → get_by_text new.interfaces (string_bytes e.0) ≡ Some id → (item.problems.items ≡ []) ↔ HasFitting d new (string_bytes e.0) e.1 → IsTextVerdict news new (string_bytes e.0) (item_tree d (Instance e.1)) item
    verdict_beside id found problems =
        let entry = found_entry new.interfaces.entries (string_bytes e.0) id found in
        let read = subst (λ (t : Text). IsInterfaceOf news c (string_bytes new.name) (option_map string_bytes new.version) t id) entry.named (news_read.interfaces entry.key id entry.among) in
        beside (item_tree d (Instance id)) (denoted_still news new (string_bytes e.0) id read)
        ((λ none. let h = problems.0 none in let same : h.0 ≡ id = cc (h.1) in subst (λ (i : Id). Fits (item_tree d (Instance i)) (item_tree d (Instance e.1))) same h.2), (λ fits. problems.1 (id, found, fits)))

    verdict_at : (o : Option Id) → get_by_text new.interfaces (string_bytes e.0) ≡ o → (item.problems.items ≡ []) ↔ HasFitting d new (string_bytes e.0) e.1 → IsTextVerdict news new (string_bytes e.0) (item_tree d (Instance e.1)) item
    verdict_at None none problems = gone none (λ empty. let h = problems.0 empty in let found = h.1 in absurd (cc))
    verdict_at (Some id) found problems = verdict_beside id found problems

    -- an item about an interface is one about its text
    pub text_item : Contains old.interfaces.entries e → IsComparedInterface d new e item → IsTextItem olds news old new e.0 item
    text_item among about = record {
      sort = about.sort;
      same = about.name;
      tree = item_tree d (Instance e.1);
      denoted = denoted_still olds old (string_bytes e.0) e.1 (olds_read.interfaces e.0 e.1 among);
      verdict = verdict_at (get_by_text new.interfaces (string_bytes e.0)) refl about.problems;
    }

    -- where the new package has a world of the name, or none
    world_verdict_at : (p : Promise) (o : Option Id) → get_by_text new.worlds (string_bytes e.0) ≡ o → IsComparedWorld d new p e item → IsWorldVerdict news new p (string_bytes e.0) (item_tree d (Component e.1)) item
    world_verdict_at p None none about = world_gone none (λ empty. let h = about.problems.0 empty in let found = h.1 in absurd (cc))
    world_verdict_at p (Some id) found about =
        let entry = found_entry new.worlds.entries (string_bytes e.0) id found in
        world_beside (item_tree d (Component id)) (item_tree d (Component about.component))
        (subst (λ (t : Text). DenotesWorld news new t (item_tree d (Component id))) entry.named (world_still news new (string_bytes entry.key) id (news_read.worlds entry.key id entry.among)))
        (λ same. ap (λ (i : Id). item_tree d (Component i)) (about.own same))
        ((λ none. let h = about.problems.0 none in let same : h.0 ≡ id = cc (h.1) in subst (λ (i : Id). TreeRunsIn (item_tree d (Component about.component)) (item_tree d (Component i))) same h.2), (λ runs. about.problems.1 (id, found, runs)))

    -- and so is an item about a world
    pub text_world : (p : Promise) → Contains old.worlds.entries e → IsComparedWorld d new p e item → IsTextWorld olds news old new p e.0 item
    text_world p among about = record {
      sort = about.sort;
      same = about.name;
      tree = item_tree d (Component e.1);
      denoted = world_still olds old (string_bytes e.0) e.1 (olds_read.worlds e.0 e.1 among);
      verdict = world_verdict_at p (get_by_text new.worlds (string_bytes e.0)) refl about;
    }

  module _ (olds news : WitSources) (old : WitPackage) (olds_read : IsReadPackage olds c old) where
    text_report_of_both : (new : WitPackage) (r : PackageReport) → IsReadPackage news c new → IsReportOfBoth d old new r → IsTextReportOfBoth olds news old new r
    text_report_of_both new r read both = record {
      version = both.version;
      promise = both.promise;
      firsts = both.compared.firsts;
      about = AllZip-keys (IsTextItem olds news old new) old.interfaces.entries both.compared.firsts
          (AllZip-leads (IsComparedInterface d new) (λ (e : String Global × Id) (item : ComparedItem). IsTextItem olds news old new e.0 item) old.interfaces.entries both.compared.firsts
          (λ e item among about. text_item olds news old new e item olds_read read among about) both.compared.interfaces);
      rest = both.compared.rest;
      worlds = AllZip-keys (IsTextWorld olds news old new r.promise) old.worlds.entries both.compared.rest
          (AllZip-leads (IsComparedWorld d new r.promise) (λ (e : String Global × Id) (item : ComparedItem). IsTextWorld olds news old new r.promise e.0 item) old.worlds.entries both.compared.rest
          (λ e item among about. text_world olds news old new e item olds_read read r.promise among about) both.compared.worlds);
      all = both.compared.all;
    }

    -- a report on a package is one on its text
    pub text_report : (others : List WitPackage) (r : PackageReport) → ((new : WitPackage) → Contains others new → IsReadPackage news c new) → IsReportOn d others old r → IsTextReportOn olds news others old r
    text_report others r read on = record { name = on.name; about = by_cases on.about }
      where
        by_cases : IsReportOfOne others old r ⊎ ((new : WitPackage) × IsCounterpart others old new × IsReportOfBoth d old new r) → IsReportOfOne others old r ⊎ ((new : WitPackage) × IsCounterpart others old new × IsTextReportOfBoth olds news old new r)
        by_cases (inl one) = inl one
        by_cases (inr both) = inr (both.0, both.1, text_report_of_both both.0 r (read both.0 both.1.among) both.2)

-- what is compared of packages that were read is compared of their texts
pub texts_compared : (old new : List SourceFile) (features : Features) (c : Collection) (t : ComparedTexts) → AreOfTexts old features c t.old → AreOfTexts new features c t.new
    → Extends c t.types → AllZip (IsReportOn t.types t.new.packages.items) t.old.packages.items t.reports.items → ComparesTexts old new features t
texts_compared old new features c t olds news grows reports = record {
  old_trees = olds.documents;
  new_trees = news.documents;
  old_parsed = olds.parsed;
  new_parsed = news.parsed;
  old_all = olds.listed.all;
  new_all = news.listed.all;
  old_clear = olds.listed.clear;
  new_clear = news.listed.clear;
  each =
      let of_old = sources_of old olds.documents features in
      let of_new = sources_of new news.documents features in
      AllZip-leads (IsReportOn t.types t.new.packages.items) (IsTextReportOn of_old of_new t.new.packages.items) t.old.packages.items t.reports.items
      (λ p r among on. text_report c t.types grows of_old of_new p (olds.listed.each p among) t.new.packages.items r news.listed.each on) reports;
}
