-- Names of packages that are known, and scopes that are.
use Rattle.std.proofs.Common.{◌≡◌, ◌∙◌, ℕ, zero, suc, ◌+◌, ◌<◌, ◌≤◌, Bool, true, false, codes, cond, List, [], ◌∷◌, ◌++◌, Contains, Option, Some, None, length, get_or, map, take, refl, sym, ap, subst}
use Rattle.std.specs.Prelude.{All, IfOk, IfSome, OnOk, Result, Ok, Err, slice_get}
use Rattle.std.specs.Borrow.{Bor}
use Rattle.std.specs.List.{zip}
use Rattle.std.specs.Option.{option_map, option_copied}
use Rattle.std.specs.Str.{bytes_eq}
use Rattle.std.proofs.lemmas.List.{take_all}
use Rattle.std.proofs.lemmas.List.Elements.{All-contains, All-more, All-weaker}
use Rattle.std.proofs.lemmas.Option.{same_Some, slice_get-get_or, slice_get-map}
use Rattle.std.proofs.lemmas.Slice.Eq.{bytes_eq-Decides}
use Rattle.wac_model.specs.Text.{Text}
use Rattle.wac_wit_names.specs.declared.features.Features.{Features}
use Rattle.wac_wit_names.specs.declared.sources.SourceFile.{SourceFile}
use Rattle.wac_wit_syntax.specs.declared.tree.Document.{Document}
use Rattle.wac_wit_syntax.specs.declared.tree.PackageName.{PackageName}
use Rattle.wac_wit_syntax.specs.declared.tree.TopItem.{TopItem}
use Rattle.wac_wit_scopes.proofs.PathFacts.{contains_at}
use Rattle.wac_wit_scopes.specs.Naming.{HasFileAt, IsKnownName, KnowsAllNames, KnowsNamesOf, HasFile, common_name}
use Rattle.wac_wit_scopes.specs.WitSources.{FileSyntax, HaveOneName, IsInGroup, IsScopeAt, IsScopeOf, NamesGroup, ScopeSyntax, WitSources, a_file, a_nested, in_file, in_nested, named_there, package_id, scope_in, sources_of, version_text}
use Rattle.wac_wit_scopes.specs.declared.packages.Versions.{Versions}
use Rattle.wac_wit_scopes.specs.declared.scopes.FilePlace.{FilePlace}

module _ {A : Type 0} (xs : List A) (i : ℕ) where
  pub All-next : (P Q : A → Type 0) (x : A) → i < length xs → x ≡ get_or xs i x → ((y : A) → P y → Q y) → All P (take i xs) → Q x → All Q (take (i + 1) xs)
  All-next P Q x within at keeps all here = All-more Q xs i x within (All-weaker P Q keeps (take i xs) all) (subst Q at here)

  pub All-end : (P : A → Type 0) → length xs ≤ i → All P (take i xs) → (x : A) → Contains xs x → P x
  All-end P past all x among = All-contains P xs x (subst (All P) (take_all i xs past) all) among

-- two facts of what was done
pub on_ok_both : {T E P Q R : Type 0} (r : Result T E) → OnOk r P → OnOk r Q → (P → Q → R) → OnOk r R
on_ok_both (Ok x) p q f = f p q
on_ok_both (Err e) p q f = p

pub if_ok_both : {T E : Type 0} (r : Result T E) (P Q R : T → Type 0) → IfOk r P → IfOk r Q → ((x : T) → P x → Q x → R x) → IfOk r R
if_ok_both (Ok x) P Q R p q f = f x p q
if_ok_both (Err e) P Q R p q f = p

-- two lists side by side
slice_get-zip : {A B : Type 0} (xs : List A) (ys : List B) (i : ℕ) (x : A) (y : B) → slice_get xs i ≡ Some x → slice_get ys i ≡ Some y → slice_get (zip xs ys) i ≡ Some (x, y)
slice_get-zip [] ys i x y h k = absurd (cc)
slice_get-zip (a ∷ xs) [] i x y h k = absurd (cc)
slice_get-zip (a ∷ xs) (b ∷ ys) zero x y h k = cc
slice_get-zip (a ∷ xs) (b ∷ ys) (suc i) x y h k = slice_get-zip xs ys i x y h k

abbrev pub file_syntax : SourceFile × Document → FileSyntax
file_syntax p = record { group = p.0.group; document = p.1 }

zipped_document : (files : List SourceFile) (documents : List Document) (i : ℕ) (f : FileSyntax) → slice_get (map file_syntax (zip files documents)) i ≡ Some f → slice_get documents i ≡ Some f.document
zipped_document [] documents i f h = absurd (cc)
zipped_document (a ∷ files) [] i f h = absurd (cc)
zipped_document (a ∷ files) (d ∷ documents) zero f h = ap (λ (o : Option FileSyntax). option_map (λ (g : FileSyntax). g.document) o) h
zipped_document (a ∷ files) (d ∷ documents) (suc i) f h = zipped_document files documents i f h

module _ (files : List SourceFile) (documents : List Document) (features : Features) where
  -- a file with its tree is one that is read
  pub source_at : (i : ℕ) (f : SourceFile) (d : Document) → slice_get files i ≡ Some f → slice_get documents i ≡ Some d → slice_get (sources_of files documents features).files i ≡ Some (record { group = f.group; document = d })
  source_at i f d at tree = slice_get-map file_syntax (zip files documents) i ∙ ap (option_map file_syntax) (slice_get-zip files documents i f d at tree)

  pub file_among : (i : ℕ) (f : SourceFile) (d : Document) → slice_get files i ≡ Some f → slice_get documents i ≡ Some d → HasFile (sources_of files documents features) f.group d
  file_among i f d at tree = contains_at _ i _ (source_at i f d at tree)

  document_among : (f : FileSyntax) → Contains (sources_of files documents features).files f → Contains documents f.document
  document_among f among = contains_at documents among.0 f.document (zipped_document files documents among.0 f (slice_get-get_or _ among.0 f among.1 ∙ ap Some among.2))

  -- where the names in each tree are known, all are
  pub knows_all : (known : Text → Option Versions) → ((d : Document) → Contains documents d → KnowsNamesOf known d) → KnowsAllNames (sources_of files documents features) known
  knows_all known all _ (a_file f g n f_in g_in same names) = (n, refl, (all g.document (document_among g g_in)).own n names)
  knows_all known all _ (a_nested f n f_in n_in) = (n.name, refl, (all f.document (document_among f f_in)).nested n n_in)

pub KnowsNamesOf-kept : (known after : Text → Option Versions) (d : Document) → ((n : PackageName) → IsKnownName known n → IsKnownName after n) → KnowsNamesOf known d → KnowsNamesOf after d
KnowsNamesOf-kept known after d keeps h = record { own = λ n is. keeps n (h.own n is); nested = λ p among. keeps p.name (h.nested p among) }

common_name-same : (n p : PackageName) → HaveOneName (package_id n) (package_id p) → common_name (package_id n) ≡ common_name (package_id p)
common_name-same n p same = λ i. same.namespace i ++ codes ":" ++ same.name i

-- a package of a name of which one version is known
pub one_version : (known : Text → Option Versions) (n p : PackageName) (v : Versions) → known (common_name (package_id p)) ≡ Some v → v.is_one ≡ true → version_text v.first.now.version ≡ version_text p.version
    → IsKnownName known n → HaveOneName (package_id n) (package_id p) → package_id n ≡ package_id p
one_version known n p v at one version h same = λ i. record { namespace = same.namespace i; name = same.name i; version = versions i }
  where
    found : h.versions ≡ v
    found = same_Some _ _ (sym h.at ∙ ap known (common_name-same n p same) ∙ at)

    versions : version_text n.version ≡ version_text p.version
    versions = sym (h.same (ap (λ (u : Versions). u.is_one) found ∙ one)) ∙ ap (λ (u : Versions). version_text u.first.now.version) found ∙ version

-- a name that is put among the known ones
module _ (known after : Text → Option Versions) (p : PackageName) (k : Text) (v : Versions) (named : k ≡ common_name (package_id p))
    (updates : (q : Text) → after q ≡ cond (bytes_eq k q) (Some v) (known q)) where
  -- what was known before of the name
  abbrev pub IsKept : Bor Versions → Type 0
  IsKept w = (v.first.now ≡ w.now.first.now) × (v.is_one ≡ true → w.now.is_one ≡ true)

  at_name : (n : PackageName) (b : Bool) → bytes_eq k (common_name (package_id n)) ≡ b → after (common_name (package_id n)) ≡ cond b (Some v) (known (common_name (package_id n)))
  at_name n b is = updates (common_name (package_id n)) ∙ ap (λ c. cond c (Some v) (known (common_name (package_id n)))) is

  pub knows_package : (v.is_one ≡ true → version_text v.first.now.version ≡ version_text p.version) → IsKnownName after p
  knows_package same = record { versions = v; at = at_name p true ((bytes_eq-Decides k (common_name (package_id p))).1 named); same = same }

  pub keeps_names : (r : Option (Bor Versions)) → option_copied r ≡ known k → IfSome r IsKept → (n : PackageName) → IsKnownName known n → IsKnownName after n
  keeps_names r at from n h = by (bytes_eq k (common_name (package_id n))) refl
    where
      same : (r : Option (Bor Versions)) → option_copied r ≡ Some h.versions → IfSome r IsKept → v.is_one ≡ true → version_text v.first.now.version ≡ version_text n.version
      same None e f one = absurd (cc)
      same (Some w) e f one =
          let is : w.now ≡ h.versions = same_Some _ _ e in
          ap (λ (q : PackageName). version_text q.version) (f.0 ∙ ap (λ (u : Versions). u.first.now) is) ∙ h.same (sym (ap (λ (u : Versions). u.is_one) is) ∙ f.1 one)

      by : (b : Bool) → bytes_eq k (common_name (package_id n)) ≡ b → IsKnownName after n
      by true e = record { versions = v; at = at_name n true e; same = same r (at ∙ ap known ((bytes_eq-Decides k (common_name (package_id n))).0 e) ∙ h.at) from }
      by false e = record { versions = h.versions; at = at_name n false e ∙ h.at; same = h.same }

-- the package that a file of a group names is in it
pub group_named : (of : WitSources) (group : ℕ) (n : PackageName) → NamesGroup of group n → IsInGroup of (package_id n) group
group_named of group n names = named_there names.file n names.among names.in_group names.names refl

-- the scope of a file
pub file_scope : (of : WitSources) (place : FilePlace) (n : PackageName) (d : Document) (items : List TopItem) → HasFileAt of place d → NamesGroup of place.group n → items ≡ d.items.items → IsScopeAt of place.file (scope_in n items)
file_scope of place n d items at names same = subst (λ (ts : List TopItem). IsScopeAt of place.file (scope_in n ts)) (sym same) (in_file _ names.file n at names.among names.in_group names.names)

-- a scope of a file is one of what is read
pub scope_of_file : (of : WitSources) (i : ℕ) (w : ScopeSyntax) → IsScopeAt of i w → IsScopeOf of w
scope_of_file of i _ (in_file f g n at g_in same names) = a_file f g n (contains_at of.files i f at) g_in same names
scope_of_file of i _ (in_nested f n at n_in) = a_nested f n (contains_at of.files i f at) n_in
