-- Scopes that are found.
use Rattle.std.proofs.Common.{◌≡◌, ◌∙◌, ℕ, zero, suc, ◌+◌, ◌<◌, ◌≤◌, Bool, true, false, arith, cond, List, [], ◌∷◌, ◌++◌, Contains, Option, Some, None, is_some, length, map, refl, sym, ap, subst}
use Rattle.std.specs.Prelude.{◌↔◌, IfSome, IsSome, Vec, nat_eq, slice_get}
use Rattle.std.specs.declared.alloc.Global.{Global}
use Rattle.std.specs.Borrow.{Bor}
use Rattle.std.specs.List.{zip}
use borrow.Author.Count.{below_more}
use Rattle.std.proofs.lemmas.Bool.Decides.{Decides-eqb}
use Rattle.std.proofs.lemmas.List.Elements.{Contains-append_left, Contains-push}
use Rattle.std.proofs.lemmas.Option.{same_Some, slice_get_within, slice_get-get_or}
use Rattle.wac_wit_names.specs.declared.features.Features.{Features}
use Rattle.wac_wit_names.specs.declared.sources.SourceFile.{SourceFile}
use Rattle.wac_wit_syntax.specs.declared.tree.Document.{Document}
use Rattle.wac_wit_syntax.specs.declared.tree.PackageName.{PackageName}
use Rattle.wac_wit_scopes.proofs.ScopeFacts.{file_among, file_syntax}
use Rattle.wac_wit_scopes.specs.AllScopes.{AreGroupsKnown, HasAllScopes, HasFileScopes, HasGroup, HasGroupOf, HasGroups, HasScopes}
use Rattle.wac_wit_scopes.specs.Naming.{AreGroups}
use Rattle.wac_wit_scopes.specs.Scopes.{HasScope, scope_syntax}
use Rattle.wac_wit_scopes.specs.WitSources.{FileSyntax, HaveClearPackages, IsScopeOf, NameOnePackage, NamesGroup, PackageId, ScopeSyntax, a_file, a_nested, package_id, sources_of}
use Rattle.wac_wit_scopes.specs.declared.scopes.ScopeItems.{ScopeItems}

-- a file that is read, and its tree
zipped_file : (files : List SourceFile) (documents : List Document) (i : ℕ) (f : FileSyntax) → slice_get (map file_syntax (zip files documents)) i ≡ Some f
    → (s : SourceFile) × (slice_get files i ≡ Some s) × (s.group ≡ f.group) × (slice_get documents i ≡ Some f.document)
zipped_file [] documents i f h = absurd (cc)
zipped_file (a ∷ files) [] i f h = absurd (cc)
zipped_file (a ∷ files) (d ∷ documents) zero f h =
    let same = same_Some _ _ h in (a, refl, ap (λ (g : FileSyntax). g.group) same, ap (λ (g : FileSyntax). Some g.document) same)
zipped_file (a ∷ files) (d ∷ documents) (suc i) f h = zipped_file files documents i f h

-- what holds of each file before an index with its tree
module _ (files : List SourceFile) (documents : List Document) where
  abbrev pub FilesBelow : (SourceFile → Document → Type 0) → ℕ → Type 0
  FilesBelow P limit = (i : ℕ) → i < limit → (f : SourceFile) (d : Document) → slice_get files i ≡ Some f → slice_get documents i ≡ Some d → P f d

  FilesBelow-none : (P : SourceFile → Document → Type 0) → FilesBelow P 0
  FilesBelow-none P i h = absurd (omega (arith, h))

  FilesBelow-more : (P Q : SourceFile → Document → Type 0) (i : ℕ) (f : SourceFile) (d : Document) → slice_get files i ≡ Some f → slice_get documents i ≡ Some d → ((g : SourceFile) (e : Document) → P g e → Q g e) → Q f d → FilesBelow P i → FilesBelow Q (i + 1)
  FilesBelow-more P Q i f d f_at d_at keeps here all j h = below_more (λ (m : ℕ). (g : SourceFile) (e : Document) → slice_get files m ≡ Some g → slice_get documents m ≡ Some e → Q g e) i (λ m below g e g_at e_at. keeps g e (all m below g e g_at e_at))
      (λ g e g_at e_at. subst (λ (p : SourceFile × Document). Q p.0 p.1) (λ k. (same_Some f g (sym f_at ∙ g_at) k, same_Some d e (sym d_at ∙ e_at) k)) here) j h

  FilesBelow-end : (P : SourceFile → Document → Type 0) (limit : ℕ) → length documents ≤ limit → FilesBelow P limit → (i : ℕ) (f : SourceFile) (d : Document) → slice_get files i ≡ Some f → slice_get documents i ≡ Some d → P f d
  FilesBelow-end P limit past all i f d f_at d_at = all i (omega (arith, slice_get_within documents i d d_at, past)) f d f_at d_at

  -- groups that are known
  abbrev NamesKnown : (ℕ → Option (Bor PackageName)) → SourceFile → Document → Type 0
  NamesKnown known f d = HasGroupOf known f.group d

  abbrev pub HasGroupsBelow : (ℕ → Option (Bor PackageName)) → ℕ → Type 0
  HasGroupsBelow known limit = FilesBelow (NamesKnown known) limit

  pub HasGroupsBelow-more : (before after : ℕ → Option (Bor PackageName)) (i : ℕ) (f : SourceFile) (d : Document) → slice_get files i ≡ Some f → slice_get documents i ≡ Some d → ((g : ℕ) (n : PackageName) → HasGroup before g n → HasGroup after g n)
      → HasGroupOf after f.group d → HasGroupsBelow before i → HasGroupsBelow after (i + 1)
  HasGroupsBelow-more before after i f d f_at d_at keeps here all = FilesBelow-more (NamesKnown before) (NamesKnown after) i f d f_at d_at (λ g e h n is. keeps g.group n (h n is)) here all

  pub HasGroupsBelow-end : (known : ℕ → Option (Bor PackageName)) (limit : ℕ) → length documents ≤ limit → HasGroupsBelow known limit → HasGroups known files documents
  HasGroupsBelow-end known limit past all = FilesBelow-end (NamesKnown known) limit past all

  -- scopes that are found
  module _ (known : ℕ → Option (Bor PackageName)) where
    abbrev ScopesFound : List ScopeItems → SourceFile → Document → Type 0
    ScopesFound ws f d = HasFileScopes ws known f.group d

    abbrev pub HasScopesBelow : List ScopeItems → ℕ → Type 0
    HasScopesBelow ws limit = FilesBelow (ScopesFound ws) limit

    pub HasScopesBelow-none : (ws : List ScopeItems) → HasScopesBelow ws 0
    HasScopesBelow-none ws = FilesBelow-none (ScopesFound ws)

    pub HasScopesBelow-more : (before after : List ScopeItems) (i : ℕ) (f : SourceFile) (d : Document) (n : Bor PackageName) → slice_get files i ≡ Some f → slice_get documents i ≡ Some d → ((w : ScopeSyntax) → HasScope before w → HasScope after w)
        → known f.group ≡ Some n → HasScopes after n.now d → HasScopesBelow before i → HasScopesBelow after (i + 1)
    HasScopesBelow-more before after i f d n f_at d_at keeps is here all = FilesBelow-more (ScopesFound before) (ScopesFound after) i f d f_at d_at
        (λ g e h. record { package_name = h.package_name; at = h.at; scopes = record { own = keeps _ h.scopes.own; nested = λ p among. keeps _ (h.scopes.nested p among) } })
        (record { package_name = n; at = is; scopes = here }) all

    pub HasScopesBelow-end : (ws : List ScopeItems) (limit : ℕ) → length documents ≤ limit → HasScopesBelow ws limit → HasAllScopes ws known files documents
    HasScopesBelow-end ws limit past all = FilesBelow-end (ScopesFound ws) limit past all

module _ (files : List SourceFile) (documents : List Document) (features : Features) where
  pub file_read : (f : FileSyntax) → Contains (sources_of files documents features).files f → (i : ℕ) × (s : SourceFile) × (slice_get files i ≡ Some s) × (s.group ≡ f.group) × (slice_get documents i ≡ Some f.document)
  file_read f among = let h = zipped_file files documents among.0 f (slice_get-get_or _ among.0 f among.1 ∙ ap Some among.2) in (among.0, h.0, h.1, h.2, h.3)

  module _ (known : ℕ → Option (Bor PackageName)) (groups : HasGroups known files documents) where
    group_at : (f : FileSyntax) (n : PackageName) → Contains (sources_of files documents features).files f → f.document.package ≡ Some n → HasGroup known f.group n
    group_at f n among names = let r = file_read f among in subst (λ (g : ℕ). HasGroup known g n) r.3 (groups r.0 r.1 f.document r.2 r.4 n names)

    group_known : (group : ℕ) (n : PackageName) → NamesGroup (sources_of files documents features) group n → HasGroup known group n
    group_known group n h = subst (λ (g : ℕ). HasGroup known g n) h.in_group (group_at h.file n h.among h.names)

    -- where the packages of groups are known, no group has two
    pub one_package : NameOnePackage (sources_of files documents features)
    one_package group n m n_names m_names =
        let a = group_known group n n_names in
        let b = group_known group m m_names in
        sym a.same ∙ ap (λ (p : Bor PackageName). package_id p.now) (same_Some _ _ (sym a.at ∙ b.at)) ∙ b.same

    -- where each file's group has a package, it is known
    pub groups_known : HaveClearPackages (sources_of files documents features) → AreGroupsKnown known files documents
    groups_known clear i f d f_at d_at =
        let named = clear.named (record { group = f.group; document = d }) (file_among files documents features i f d f_at d_at) in
        ap is_some (group_known f.group named.0 named.1).at

  module _ (known : ℕ → Option (Bor PackageName)) (groups : HasGroups known files documents) (ws : List ScopeItems) (all : HasAllScopes ws known files documents) where
    scopes_at : (f : FileSyntax) → Contains (sources_of files documents features).files f → HasFileScopes ws known f.group f.document
    scopes_at f among = let r = file_read f among in subst (λ (g : ℕ). HasFileScopes ws known g f.document) r.3 (all r.0 r.1 f.document r.2 r.4)

    -- where the scopes of all files were found, each group has a package
    pub packages_clear : AreGroups (sources_of files documents features) known → HaveClearPackages (sources_of files documents features)
    packages_clear are = record {
      named = λ f among. let h = scopes_at f among in (h.package_name.now, are f.group h.package_name h.at);
      one = one_package known groups;
    }

    -- each scope is among those that were found
    pub scopes_found : (w : ScopeSyntax) → IsScopeOf (sources_of files documents features) w → HasScope ws w
    scopes_found _ (a_file f g n f_in g_in same names) =
        let h = scopes_at f f_in in
        let group = subst (λ (k : ℕ). HasGroup known k n) same (group_at known groups g n g_in names) in
        let one = ap (λ (m : Bor PackageName). package_id m.now) (same_Some _ _ (sym h.at ∙ group.at)) ∙ group.same in
        subst (λ (p : PackageId). HasScope ws (record { «package» = p; items = f.document.items.items })) one h.scopes.own
    scopes_found _ (a_nested f n f_in n_in) = (scopes_at f f_in).scopes.nested n n_in

  -- they were found just where all packages are clear
  pub scopes_clear : (known : ℕ → Option (Bor PackageName)) → HasGroups known files documents → AreGroups (sources_of files documents features) known
      → length files ≡ length documents → (o : Option (Vec ScopeItems Global)) → IfSome o (λ ws. HasAllScopes ws.items known files documents)
      → (length documents ≤ length files → AreGroupsKnown known files documents → IsSome o)
      → IsSome o ↔ ((length files ≡ length documents) × HaveClearPackages (sources_of files documents features))
  scopes_clear known groups are same o found clear = (λ some. (same, by o some found), λ h. clear (omega (arith, same)) (groups_known known groups h.1))
    where
      by : (o : Option (Vec ScopeItems Global)) → IsSome o → IfSome o (λ ws. HasAllScopes ws.items known files documents) → HaveClearPackages (sources_of files documents features)
      by None some all = absurd (cc)
      by (Some ws) some all = packages_clear known groups ws.items all are

-- a group whose package wasn't known
module _ (before after : ℕ → Option (Bor PackageName)) (group : ℕ) (n : Bor PackageName) (updates : (q : ℕ) → after q ≡ cond (nat_eq group q) (Some n) (before q)) where
  at_group : (g : ℕ) (b : Bool) → nat_eq group g ≡ b → after g ≡ cond b (Some n) (before g)
  at_group g b is = updates g ∙ ap (λ c. cond c (Some n) (before g)) is

  pub HasGroup-put : HasGroup after group n.now
  HasGroup-put = record { package_name = n; at = at_group group true ((Decides-eqb group group).1 refl); same = refl }

  pub HasGroup-kept : before group ≡ None → (g : ℕ) (m : PackageName) → HasGroup before g m → HasGroup after g m
  HasGroup-kept none g m h = record { package_name = h.package_name; at = by (nat_eq group g) refl; same = h.same }
    where
      by : (b : Bool) → nat_eq group g ≡ b → after g ≡ Some h.package_name
      by true e = let same : group ≡ g = (Decides-eqb group g).0 e in let no = sym none ∙ ap before same ∙ h.at in absurd (cc)
      by false e = at_group g false e ∙ h.at

-- scopes with one more
pub HasScope-push : (ws : List ScopeItems) (x : ScopeItems) (w : ScopeSyntax) → HasScope ws w → HasScope (ws ++ x ∷ []) w
HasScope-push ws x w h = record { scope = h.scope; among = Contains-append_left ws (x ∷ []) h.scope h.among; is = h.is }

pub HasScope-last : (ws : List ScopeItems) (x : ScopeItems) → HasScope (ws ++ x ∷ []) (scope_syntax x)
HasScope-last ws x = record { scope = x; among = Contains-push ws x; is = refl }
