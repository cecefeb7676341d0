-- What of the items of interfaces and worlds is left behind their attributes.
use Rattle.std.proofs.Common.{◌≡◌, ◌≢◌, ◌⊎◌, ℕ, ◌+◌, ◌<◌, ◌≤◌, Bool, true, false, codes, string_bytes, List, Option, Some, None, Ok, get_or, inl, inr, refl, sym, ap, ◌∙◌, subst, arith}
use Rattle.wac_model.specs.Text.{Text}
use Rattle.wac_wit_syntax.specs.Behind.{IsBodyOf, IsFuncRest, IsIncludeRest, IsNamedRest, IsUseRest, def_text}
use Rattle.wac_wit_syntax.specs.Completing.{AllBegin, AnyOf, BeforeEnd, Completes, Eats, IsListEnd, IsReadable, NotBefore, NotBeforeWord}
use Rattle.wac_wit_syntax.specs.Cursors.{source}
use Rattle.wac_wit_syntax.specs.Functions.{IsSignature, MayBeAsync}
use Rattle.wac_wit_syntax.specs.Gates.{IsGates}
use Rattle.wac_wit_syntax.specs.Interfaces.{IsAlias, IsInterfaceItem, IsRename}
use Rattle.wac_wit_syntax.specs.Lists.{IsBlock, Separated}
use Rattle.wac_wit_syntax.specs.Names.{keywords}
use Rattle.wac_wit_syntax.specs.Paths.{IsPath, IsPathRest, IsPathWith, IsSuffix}
use Rattle.wac_wit_syntax.specs.Productions.{◌▸◌, IsKind, IsName, IsNameAt, IsWord, Production, SaysWord, Source, is_keyword, token_at}
use Rattle.wac_wit_syntax.specs.Typedefs.{IsTypedef}
use Rattle.wac_wit_syntax.specs.Worlds.{AreRenames, IsExtern, IsWorldItem}
use Rattle.wac_wit_syntax.specs.declared.cursor.Cursor.{Cursor}
use Rattle.wac_wit_syntax.specs.declared.token.TokenKind.{TokenKind}
use Rattle.wac_wit_syntax.specs.declared.token.TokenKind.TheVariants.{At, CloseBrace, CloseParen, Colon, Comma, Dot, Escaped, OpenBrace, OpenParen, Semicolon, Slash, Word}
use Rattle.wac_wit_syntax.specs.declared.tree.Extern.{Extern}
use Rattle.wac_wit_syntax.specs.declared.tree.Extern.TheVariants as extern
use Rattle.wac_wit_syntax.specs.declared.tree.Gate.{Gate}
use Rattle.wac_wit_syntax.specs.declared.tree.Ident.{Ident}
use Rattle.wac_wit_syntax.specs.declared.tree.InterfaceItem.{InterfaceItem}
use Rattle.wac_wit_syntax.specs.declared.tree.InterfaceItem.TheVariants as item
use Rattle.wac_wit_syntax.specs.declared.tree.PackageName.{PackageName}
use Rattle.wac_wit_syntax.specs.declared.tree.Path.{Path}
use Rattle.wac_wit_syntax.specs.declared.tree.Rename.{Rename}
use Rattle.wac_wit_syntax.specs.declared.tree.TypeItem.{TypeItem}
use Rattle.wac_wit_syntax.specs.declared.tree.WorldItem.{WorldItem}
use Rattle.wac_wit_syntax.specs.declared.tree.WorldItem.TheVariants as of_world
use Rattle.wac_wit_syntax.specs.declared.typedefs.DefWord.{DefWord}
use Rattle.wac_wit_syntax.proofs.ItemsLeft.{apart, by_word, gates_before, keyword_no_name, name_begin, name_no_at, no_def, other_kind, same_def, signature_begins, word_for, word_no_at}

name_other : (s : Source) (i : ℕ) (n : Text) (kind : TokenKind) → Word ≢ kind → Escaped ≢ kind → IsNameAt s i n → (token_at s i).kind ≢ kind
name_other s i n kind a b (inl k) = other_kind s i Word kind k.0.0 a
name_other s i n kind a b (inr k) = other_kind s i Escaped kind k.0 b

-- ---- paths

abbrev pub PathTokens : Production
PathTokens = NotBefore At (NotBefore Colon (AnyOf IsPath))

pub path_before : (s : Source) (i j : ℕ) (kind : TokenKind) → AnyOf IsPath s i j → (token_at s j).kind ≡ kind → kind ≢ At → kind ≢ Colon → PathTokens s i j
path_before s i j kind p e a b = ((p, other_kind s j kind Colon e b), other_kind s j kind At e a)

pub suffix_longer : (v : Option Gate) (s : Source) (i j : ℕ) → IsSuffix v s i j → i ≤ j
suffix_longer None s i j h = omega arith
suffix_longer (Some v) s i j h = let a = h.1.1 in let b = h.2.4 in omega arith

path_with_longer : (p : Path) (o : Option PackageName) (s : Source) (i j : ℕ) → IsPathWith p o s i j → i < j
path_with_longer p None s i j h = let a = h.2 in omega arith
path_with_longer p (Some q) s i j h =
    let a = h.1.0.1.2 in
    let b = h.1.0.2.1.1 in
    let c = h.1.0.2.2.2 in
    let d = h.2.1.1 in
    let e = h.2.2.1.2 in
    let f = suffix_longer q.version s h.2.2.0 j h.2.2.2 in
    omega arith

pub path_longer : (p : Path) (s : Source) (i j : ℕ) → IsPath p s i j → i < j
path_longer p s i j h = path_with_longer p p.package s i j h.0

-- ---- `use`

pub use_parts : (s : Source) (i j : ℕ) → IsUseRest s i j → (IsKind Word ▸ PathTokens ▸ IsKind Dot ▸ (IsKind OpenBrace ▸ AnyOf (Separated (IsRename false)) ▸ IsKind CloseBrace) ▸ IsKind Semicolon) s i j
use_parts s i j h = (h.0, h.1, (h.2.0, path_before s h.0 h.2.0 Dot h.2.1 h.2.2.1.0 (λ e. cc) (λ e. cc), h.2.2))

pub alias_longer : (b : Bool) (a : Option Ident) (s : Source) (i j : ℕ) → IsAlias b a s i j → i ≤ j
alias_longer true (Some id) s i j h = let x = h.1.1 in let y = h.2.2 in omega arith
alias_longer false (Some id) s i j h = let x = h.1.1 in let y = h.2.2 in omega arith
alias_longer false None s i j h = omega arith
alias_longer true None s i j h = absurd h

pub renames_begin : (b : Bool) → AllBegin (IsRename b)
renames_begin b r s i j h = name_begin s r.name i h.0 j h.1 (alias_longer b r.alias s h.0 j h.2)

end_no_word : (kind : TokenKind) → IsListEnd kind → kind ≢ Word
end_no_word kind (inl e) = λ f. (let g : Comma ≡ Word = sym e ∙ f in cc)
end_no_word kind (inr (inl e)) = λ f. (let g : CloseParen ≡ Word = sym e ∙ f in cc)
end_no_word kind (inr (inr e)) = λ f. (let g : CloseBrace ≡ Word = sym e ∙ f in cc)

needless : (b : Bool) (a : Option Ident) (s : Source) (i j : ℕ) → IsAlias b a s i j → IsAlias false a s i j
needless true (Some id) s i j h = h
needless false (Some id) s i j h = h
needless false None s i j h = h
needless true None s i j h = absurd h

pub rename_parts : (b : Bool) (s : Source) (i j : ℕ) → BeforeEnd (AnyOf (IsRename b)) s i j → (AnyOf IsName ▸ NotBeforeWord (codes "as") (AnyOf (IsAlias false))) s i j
rename_parts b s i j p =
    let r : Rename = p.0.0 in
    let h = p.0.1 in
    (h.0, (r.name, h.1), ((r.alias, needless b r.alias s h.0 j h.2), λ says. end_no_word (token_at s j).kind p.1 says.0))

-- where another name is needed, it takes tokens
needed_longer : (a : Option Ident) (s : Source) (i j : ℕ) → IsAlias true a s i j → i < j
needed_longer (Some id) s i j h = let x = h.1.1 in let y = h.2.2 in omega arith
needed_longer None s i j h = absurd h

pub alias_missing : {X : Type 0} {v : X} {T : Type 0} {u : T} (c d e : Cursor) (b : Bool) (j : ℕ) → IsReadable (source c) → b ≡ true → BeforeEnd (AnyOf (IsRename b)) (source c) c.next j → Completes c d (Ok v) (AnyOf IsName)
    → Completes d e (Ok u) (NotBeforeWord (codes "as") (AnyOf (IsAlias false))) → e ≡ d → ⊥
alias_missing {X} {v} {T} {u} c d e b j cut need p name alias same =
    let q = rename_parts b (source c) c.next j p in
    let r : Rename = p.0.0 in
    let h = p.0.1 in
    let at : d ≡ record c { next = q.0 } = (name.ends cut q.0 q.1).ok in
    let one : source d ≡ source c = ap source at in
    let place : d.next ≡ q.0 = ap (λ (x : Cursor). x.next) at in
    let there : NotBeforeWord (codes "as") (AnyOf (IsAlias false)) (source d) d.next j =
    subst (λ (s : Source). NotBeforeWord (codes "as") (AnyOf (IsAlias false)) s d.next j) (sym one) (subst (λ m. NotBeforeWord (codes "as") (AnyOf (IsAlias false)) (source c) m j) (sym place) q.2) in
    let to : e ≡ record d { next = j } = (alias.ends (subst IsReadable (sym one) cut) j there).ok in
    let end : e.next ≡ j = ap (λ (x : Cursor). x.next) to in
    let stood : e.next ≡ d.next = ap (λ (x : Cursor). x.next) same in
    let more : h.0 < j = needed_longer r.alias (source c) h.0 j (subst (λ x. IsAlias x r.alias (source c) h.0 j) need h.2) in
    absurd (omega arith)

-- ---- items of interfaces

abbrev pub TypeRest : Production
TypeRest = λ s i j. (w : DefWord) × SaysWord s i (def_text w) × ((token_at s (i + 1)).kind ≢ Colon) × (IsKind Word ▸ AnyOf IsName ▸ IsBodyOf w) s i j

abbrev pub ItemRest : Production
ItemRest = λ s i j. TypeRest s i j ⊎ ((SaysWord s i (codes "use") × IsUseRest s i j) ⊎ IsFuncRest s i j)

type_rest : (t : TypeItem) (s : Source) (i j : ℕ) → IsTypedef t s i j → TypeRest s i j
type_rest t s i j h =
    let p = h.0 in
    let says : SaysWord s i (def_text (word_for t.def)) = subst (SaysWord s i) (by_word t.def) p.1.0 in
    let second : (token_at s (i + 1)).kind ≢ Colon = subst (λ k. (token_at s k).kind ≢ Colon) p.1.1 (name_other s p.0 (string_bytes t.name.name) Colon (λ e. cc) (λ e. cc) p.2.1.0) in
    (word_for t.def, says, second, (p.0, (says.0, p.1.1), (p.2.0, (t.name, p.2.1), (t.def, (p.2.2, by_word t.def)))))

type_no_at : (s : Source) (i j : ℕ) → TypeRest s i j → (token_at s i).kind ≢ At
type_no_at s i j h = word_no_at s (def_text h.0) i h.1

pub item_parts : (s : Source) (i j : ℕ) → AnyOf IsInterfaceItem s i j → (NotBefore At (AnyOf IsGates) ▸ ItemRest) s i j
item_parts s i j p = by p.0 p.1
  where
    by : (x : InterfaceItem) → IsInterfaceItem x s i j → (NotBefore At (AnyOf IsGates) ▸ ItemRest) s i j
    by (item.Use u) h = (
      h.0,
      gates_before s u.gates i h.0 h.1 (word_no_at s (codes "use") h.0 h.2.1.0),
      inr (inl (h.2.1.0, (h.2.0, (h.2.1.0.0, h.2.1.1), (h.2.2.0, (u.path, h.2.2.1), (h.2.2.2.0, h.2.2.2.1, (h.2.2.2.2.0, (h.2.2.2.2.1.0, h.2.2.2.2.1.1, (h.2.2.2.2.1.2.0, (u.names.items, h.2.2.2.2.1.2.1), h.2.2.2.2.1.2.2)), h.2.2.2.2.2)))))),
    )
    by (item.Type t) h = let r = type_rest t s h.0 j h.2 in (h.0, gates_before s t.gates i h.0 h.1 (type_no_at s h.0 j r), inl r)
    by (item.Func f) h =
        let q = h.2.0 in
        (h.0, gates_before s f.gates i h.0 h.1 (name_no_at s f.name h.0 q.0 q.1), inr (inr (q.2.0, (q.0, (f.name, q.1), q.2.1), (f.signature, q.2.2))))

-- the word with which a type begins
pub typedef_rest : (w : DefWord) (s : Source) (i j : ℕ) → SaysWord s i (def_text w) → (token_at s (i + 1)).kind ≢ Colon → ItemRest s i j → (IsKind Word ▸ AnyOf IsName ▸ IsBodyOf w) s i j
typedef_rest w s i j says second (inl h) = subst (λ v. (IsKind Word ▸ AnyOf IsName ▸ IsBodyOf v) s i j) (same_def h.0 w (sym h.1.1 ∙ says.1)) h.3
typedef_rest w s i j says second (inr (inl h)) = absurd (no_def w (codes "use") refl (sym says.1 ∙ h.0.1))
typedef_rest w s i j says second (inr (inr h)) = absurd (second (subst (λ k. (token_at s k).kind ≡ Colon) h.1.1.1.2 h.1.2.0))

use_is : is_keyword (codes "use") ≡ true
unfolding keywords
use_is = refl

pub use_rest : (s : Source) (i j : ℕ) → SaysWord s i (codes "use") → ItemRest s i j → IsUseRest s i j
use_rest s i j says (inl h) = absurd (no_def h.0 (codes "use") refl (sym h.1.1 ∙ says.1))
use_rest s i j says (inr (inl h)) = h.1
use_rest s i j says (inr (inr h)) = absurd (keyword_no_name s i (codes "use") _ use_is says h.1.1.1.0)

pub func_rest : (s : Source) (i j : ℕ) → ((w : DefWord) → SaysWord s i (def_text w) → (token_at s (i + 1)).kind ≢ Colon → ⊥) → (SaysWord s i (codes "use") → ⊥) → ItemRest s i j → IsFuncRest s i j
func_rest s i j types uses (inl h) = absurd (types h.0 h.1 h.2)
func_rest s i j types uses (inr (inl h)) = absurd (uses h.0)
func_rest s i j types uses (inr (inr h)) = h

-- ---- items of worlds

abbrev pub IsExternRest : Production
IsExternRest = IsKind Word ▸ AnyOf IsExtern

abbrev pub WorldRest : Production
WorldRest = λ s i j. TypeRest s i j ⊎ ((SaysWord s i (codes "use") × IsUseRest s i j) ⊎ ((SaysWord s i (codes "include") × IsIncludeRest s i j)
    ⊎ ((SaysWord s i (codes "import") × IsExternRest s i j) ⊎ (SaysWord s i (codes "export") × IsExternRest s i j))))

extern_item : (w : Text) (s : Source) (i k j : ℕ) (x : Extern) → IsWord w s i k → IsExtern x s k j → IsExternRest s i j
extern_item w s i k j x h g = (k, (h.0.0, h.1), (x, g))

pub world_parts : (s : Source) (i j : ℕ) → AnyOf IsWorldItem s i j → (NotBefore At (AnyOf IsGates) ▸ WorldRest) s i j
world_parts s i j p = by p.0 p.1
  where
    by : (x : WorldItem) → IsWorldItem x s i j → (NotBefore At (AnyOf IsGates) ▸ WorldRest) s i j
    by (of_world.Use u) h = (
      h.0,
      gates_before s u.gates i h.0 h.1 (word_no_at s (codes "use") h.0 h.2.1.0),
      inr (inl (h.2.1.0, (h.2.0, (h.2.1.0.0, h.2.1.1), (h.2.2.0, (u.path, h.2.2.1), (h.2.2.2.0, h.2.2.2.1, (h.2.2.2.2.0, (h.2.2.2.2.1.0, h.2.2.2.2.1.1, (h.2.2.2.2.1.2.0, (u.names.items, h.2.2.2.2.1.2.1), h.2.2.2.2.1.2.2)), h.2.2.2.2.2)))))),
    )
    by (of_world.Type t) h = let r = type_rest t s h.0 j h.2 in (h.0, gates_before s t.gates i h.0 h.1 (type_no_at s h.0 j r), inl r)
    by (of_world.Include n) h = (
      h.0,
      gates_before s n.gates i h.0 h.1 (word_no_at s (codes "include") h.0 h.2.1.0),
      inr (inr (inl (h.2.1.0, (h.2.0, (h.2.1.0.0, h.2.1.1), (h.2.2.0, (n.path, h.2.2.1), (n.renames.items, h.2.2.2)))))),
    )
    by (of_world.Import e) h =
        (h.0, gates_before s e.gates i h.0 h.1 (word_no_at s (codes "import") h.0 h.2.1.0), inr (inr (inr (inl (h.2.1.0, extern_item (codes "import") s h.0 h.2.0 j e.what h.2.1 h.2.2.0)))))
    by (of_world.Export e) h =
        (h.0, gates_before s e.gates i h.0 h.1 (word_no_at s (codes "export") h.0 h.2.1.0), inr (inr (inr (inr (h.2.1.0, extern_item (codes "export") s h.0 h.2.0 j e.what h.2.1 h.2.2.0)))))

-- the second byte tells the words of worlds from each other
second : (v w : Text) (s : Source) (i : ℕ) → get_or v 1 0 ≢ get_or w 1 0 → SaysWord s i v → SaysWord s i w → ⊥
second v w s i n a b = n (ap (λ (t : List ℕ). get_or t 1 0) (sym a.1 ∙ b.1))

pub world_typedef : (w : DefWord) (s : Source) (i j : ℕ) → SaysWord s i (def_text w) → WorldRest s i j → (IsKind Word ▸ AnyOf IsName ▸ IsBodyOf w) s i j
world_typedef w s i j says (inl h) = subst (λ v. (IsKind Word ▸ AnyOf IsName ▸ IsBodyOf v) s i j) (same_def h.0 w (sym h.1.1 ∙ says.1)) h.3
world_typedef w s i j says (inr (inl h)) = absurd (no_def w (codes "use") refl (sym says.1 ∙ h.0.1))
world_typedef w s i j says (inr (inr (inl h))) = absurd (no_def w (codes "include") refl (sym says.1 ∙ h.0.1))
world_typedef w s i j says (inr (inr (inr (inl h)))) = absurd (no_def w (codes "import") refl (sym says.1 ∙ h.0.1))
world_typedef w s i j says (inr (inr (inr (inr h)))) = absurd (no_def w (codes "export") refl (sym says.1 ∙ h.0.1))

pub world_use : (s : Source) (i j : ℕ) → SaysWord s i (codes "use") → WorldRest s i j → IsUseRest s i j
world_use s i j says (inl h) = absurd (no_def h.0 (codes "use") refl (sym h.1.1 ∙ says.1))
world_use s i j says (inr (inl h)) = h.1
world_use s i j says (inr (inr (inl h))) = absurd (second (codes "use") (codes "include") s i (λ e. absurd (omega (arith, e))) says h.0)
world_use s i j says (inr (inr (inr (inl h)))) = absurd (second (codes "use") (codes "import") s i (λ e. absurd (omega (arith, e))) says h.0)
world_use s i j says (inr (inr (inr (inr h)))) = absurd (second (codes "use") (codes "export") s i (λ e. absurd (omega (arith, e))) says h.0)

pub world_include : (s : Source) (i j : ℕ) → SaysWord s i (codes "include") → WorldRest s i j → IsIncludeRest s i j
world_include s i j says (inl h) = absurd (no_def h.0 (codes "include") refl (sym h.1.1 ∙ says.1))
world_include s i j says (inr (inl h)) = absurd (second (codes "include") (codes "use") s i (λ e. absurd (omega (arith, e))) says h.0)
world_include s i j says (inr (inr (inl h))) = h.1
world_include s i j says (inr (inr (inr (inl h)))) = absurd (second (codes "include") (codes "import") s i (λ e. absurd (omega (arith, e))) says h.0)
world_include s i j says (inr (inr (inr (inr h)))) = absurd (second (codes "include") (codes "export") s i (λ e. absurd (omega (arith, e))) says h.0)

pub world_import : (s : Source) (i j : ℕ) → SaysWord s i (codes "import") → WorldRest s i j → IsExternRest s i j
world_import s i j says (inl h) = absurd (no_def h.0 (codes "import") refl (sym h.1.1 ∙ says.1))
world_import s i j says (inr (inl h)) = absurd (second (codes "import") (codes "use") s i (λ e. absurd (omega (arith, e))) says h.0)
world_import s i j says (inr (inr (inl h))) = absurd (second (codes "import") (codes "include") s i (λ e. absurd (omega (arith, e))) says h.0)
world_import s i j says (inr (inr (inr (inl h)))) = h.1
world_import s i j says (inr (inr (inr (inr h)))) = h.1

pub world_export : (s : Source) (i j : ℕ) → SaysWord s i (codes "export") → WorldRest s i j → IsExternRest s i j
world_export s i j says (inl h) = absurd (no_def h.0 (codes "export") refl (sym h.1.1 ∙ says.1))
world_export s i j says (inr (inl h)) = absurd (second (codes "export") (codes "use") s i (λ e. absurd (omega (arith, e))) says h.0)
world_export s i j says (inr (inr (inl h))) = absurd (second (codes "export") (codes "include") s i (λ e. absurd (omega (arith, e))) says h.0)
world_export s i j says (inr (inr (inr (inl h)))) = h.1
world_export s i j says (inr (inr (inr (inr h)))) = h.1

-- none of the words comes next
pub world_none : (s : Source) (i j : ℕ) (text : Text) → ((v : Text) → SaysWord s i v → text ≡ v) → ((w : DefWord) → SaysWord s i (def_text w) → (token_at s (i + 1)).kind ≢ Colon → ⊥) → text ≢ codes "use" → text ≢ codes "include" → text ≢ codes "import"
    → text ≢ codes "export" → WorldRest s i j → ⊥
world_none s i j text is types a b c d (inl h) = types h.0 h.1 h.2
world_none s i j text is types a b c d (inr (inl h)) = a (is (codes "use") h.0)
world_none s i j text is types a b c d (inr (inr (inl h))) = b (is (codes "include") h.0)
world_none s i j text is types a b c d (inr (inr (inr (inl h)))) = c (is (codes "import") h.0)
world_none s i j text is types a b c d (inr (inr (inr (inr h)))) = d (is (codes "export") h.0)

-- ---- `include`

renames_next : (rs : List Rename) (s : Source) (i j : ℕ) → AreRenames rs s i j → ((token_at s i).kind ≡ Semicolon) ⊎ ((token_at s i).kind ≡ Word)
renames_next rs s i j (inl h) = inl h.1.0
renames_next rs s i j (inr h) = inr h.1.0.0

pub include_parts : (s : Source) (i j : ℕ) → IsIncludeRest s i j → (IsKind Word ▸ PathTokens ▸ AnyOf AreRenames) s i j
include_parts s i j h = by (renames_next h.2.2.0 s h.2.0 j h.2.2.1)
  where
    by : ((token_at s h.2.0).kind ≡ Semicolon) ⊎ ((token_at s h.2.0).kind ≡ Word) → (IsKind Word ▸ PathTokens ▸ AnyOf AreRenames) s i j
    by (inl e) = (h.0, h.1, (h.2.0, path_before s h.0 h.2.0 Semicolon h.2.1 e (λ f. cc) (λ f. cc), h.2.2))
    by (inr e) = (h.0, h.1, (h.2.0, path_before s h.0 h.2.0 Word h.2.1 e (λ f. cc) (λ f. cc), h.2.2))

pub renames_with : (s : Source) (i j : ℕ) → SaysWord s i (codes "with") → AnyOf AreRenames s i j → (IsWord (codes "with") ▸ IsKind OpenBrace ▸ AnyOf (Separated (IsRename true)) ▸ IsKind CloseBrace) s i j
renames_with s i j says p = by p.0 p.1
  where
    by : (rs : List Rename) → AreRenames rs s i j → (IsWord (codes "with") ▸ IsKind OpenBrace ▸ AnyOf (Separated (IsRename true)) ▸ IsKind CloseBrace) s i j
    by rs (inl h) = absurd (let f : Word ≡ Semicolon = sym says.0 ∙ h.1.0 in cc)
    by rs (inr h) = (h.0, h.1, (h.2.0, h.2.1, (h.2.2.0, (rs, h.2.2.1), h.2.2.2)))

pub renames_none : (c d : Cursor) (eaten : Bool) (j : ℕ) → IsReadable (source d) → Eats c d eaten (IsWord (codes "with")) → eaten ≡ false → d ≡ c → AnyOf AreRenames (source d) d.next j → IsKind Semicolon (source d) d.next j
renames_none c d eaten j cut eats off same p = by p.0 p.1
  where
    by : (rs : List Rename) → AreRenames rs (source d) d.next j → IsKind Semicolon (source d) d.next j
    by rs (inl h) = h.1
    by rs (inr h) =
        let there : IsWord (codes "with") (source c) c.next h.0 = subst (λ (x : Cursor). IsWord (codes "with") (source x) x.next h.0) same h.1 in
        absurd (let f : false ≡ true = sym off ∙ (eats (subst (λ (x : Cursor). IsReadable (source x)) same cut) h.0 there).0 in cc)

-- ---- imports and exports

abbrev pub PathRestTokens : Production
PathRestTokens = NotBefore At (NotBefore Colon IsPathRest) ▸ IsKind Semicolon

-- behind the first name: the rest of a path, or a colon and what has that name
abbrev pub ExternRest : Production
ExternRest = λ s i j. (PathRestTokens s i j × ((token_at s i).kind ≡ Colon → (token_at s (i + 2)).kind ≡ Slash))
    ⊎ ((IsKind Colon ▸ IsNamedRest) s i j × ((token_at s (i + 2)).kind ≢ Slash))

kind_at : (s : Source) (i k : ℕ) (kind : TokenKind) → k ≡ i → (token_at s k).kind ≡ kind → (token_at s i).kind ≡ kind
kind_at s i k kind e h = subst (λ m. (token_at s m).kind ≡ kind) e h

no_slash : (s : Source) (i : ℕ) (kind : TokenKind) → (token_at s i).kind ≡ kind → kind ≢ Slash → (token_at s i).kind ≢ Slash
no_slash s i kind e n = other_kind s i kind Slash e n

second_of_path : (p : Path) (o : Option PackageName) (s : Source) (i k : ℕ) → IsPathWith p o s i k → (token_at s k).kind ≡ Semicolon → (token_at s (i + 1)).kind ≢ Slash
second_of_path p None s i k h ends = no_slash s (i + 1) Semicolon (kind_at s (i + 1) k Semicolon h.2 ends) (λ e. cc)
second_of_path p (Some q) s i k h ends = no_slash s (i + 1) Colon (kind_at s (i + 1) h.1.0.0 Colon h.1.0.1.2 h.1.0.2.1.0) (λ e. cc)

second_of_signature : (b : Bool) (s : Source) (i a c : ℕ) → MayBeAsync b s i a → IsWord (codes "func") s a c → (token_at s c).kind ≡ OpenParen → (token_at s (i + 1)).kind ≢ Slash
second_of_signature true s i a c h w ends = no_slash s (i + 1) Word (kind_at s (i + 1) a Word h.1 w.0.0) (λ e. cc)
second_of_signature false s i a c h w ends = no_slash s (i + 1) OpenParen (kind_at s (i + 1) c OpenParen (let x = w.1 in omega arith) ends) (λ e. cc)

second_of_named : (s : Source) (i j : ℕ) → IsNamedRest s i j → (token_at s (i + 1)).kind ≢ Slash
second_of_named s i j (inl p) = let h = p.1.1.0 in second_of_signature p.0.is_async s i h.0 h.2.0 h.1 h.2.1 h.2.2.1.1.0
second_of_named s i j (inr (inl h)) = no_slash s (i + 1) OpenBrace (kind_at s (i + 1) h.0 OpenBrace h.1.1 h.2.1.1.0) (λ e. cc)
second_of_named s i j (inr (inr h)) = second_of_path h.1.0 h.1.0.package s i h.0 h.1.1.0 h.2.0

named_at : (s : Source) (i k j : ℕ) → IsKind Colon s i k → IsNamedRest s k j → ExternRest s i j
named_at s i k j c h = inr ((k, c, h), subst (λ m. (token_at s m).kind ≢ Slash) (let e = c.1 in omega arith) (second_of_named s k j h))

path_extern : (p : Path) (o : Option PackageName) (s : Source) (i k j : ℕ) → IsPathWith p o s i k → IsKind Semicolon s k j → (AnyOf IsName ▸ ExternRest) s i j
path_extern p None s i k j h e =
    (k, (p.name, h), inl ((k, ((inl refl, other_kind s k Semicolon Colon e.0 (λ f. cc)), other_kind s k Semicolon At e.0 (λ f. cc)), e), λ f. absurd (let g : Semicolon ≡ Colon = sym e.0 ∙ f in cc)))
path_extern p (Some q) s i k j h e =
    let m = h.1.0.0 in
    let slash : (token_at s (m + 2)).kind ≡ Slash = kind_at s (m + 2) h.0 Slash (let a = h.1.0.2.1.1 in let b = h.1.0.2.2.2 in omega arith) h.2.1.0 in (
      m,
      (q.namespace, h.1.0.1),
      inl ((k, ((inr (h.1.0.2.0, h.1.0.2.1, (h.0, (q.name, h.1.0.2.2), (h.2.0, h.2.1, (h.2.2.0, (p.name, h.2.2.1), (q.version, h.2.2.2))))), other_kind s k Semicolon Colon e.0 (λ f. cc)), other_kind s k Semicolon At e.0 (λ f. cc)), e), λ f. slash),
    )

pub extern_parts : (s : Source) (i j : ℕ) → AnyOf IsExtern s i j → (AnyOf IsName ▸ ExternRest) s i j
extern_parts s i j p = by p.0 p.1
  where
    by : (x : Extern) → IsExtern x s i j → (AnyOf IsName ▸ ExternRest) s i j
    by (extern.Path path) h = path_extern path path.package s i h.0 j h.1.0 h.2
    by (extern.Func name f) h = (h.0, (name, h.1), named_at s h.0 h.2.0 j h.2.1 (inl (f, h.2.2)))
    by (extern.Inline name items) h = (h.0, (name, h.1), named_at s h.0 h.2.0 j h.2.1 (inr (inl (h.2.2.0, h.2.2.1, (items.items, h.2.2.2)))))
    by (extern.Named name path) h = (h.0, (name, h.1), named_at s h.0 h.2.0 j h.2.1 (inr (inr (h.2.2.0, (path, h.2.2.1), h.2.2.2))))

pub path_ahead : (s : Source) (i j : ℕ) → ((token_at s i).kind ≢ Colon) ⊎ ((token_at s (i + 2)).kind ≡ Slash) → ExternRest s i j → PathRestTokens s i j
path_ahead s i j a (inl h) = h.0
path_ahead s i j (inl a) (inr h) = absurd (a h.0.1.0)
path_ahead s i j (inr a) (inr h) = absurd (h.1 a)

pub name_ahead : (s : Source) (i j : ℕ) → (token_at s i).kind ≡ Colon → (token_at s (i + 2)).kind ≢ Slash → ExternRest s i j → (IsKind Colon ▸ IsNamedRest) s i j
name_ahead s i j a b (inl h) = absurd (b (h.1 a))
name_ahead s i j a b (inr h) = h.0

func_is : is_keyword (codes "func") ≡ true
unfolding keywords
func_is = refl

async_is : is_keyword (codes "async") ≡ true
unfolding keywords
async_is = refl

interface_is : is_keyword (codes "interface") ≡ true
unfolding keywords
interface_is = refl

path_begins : (p : Path) (o : Option PackageName) (s : Source) (i j : ℕ) → IsPathWith p o s i j → (n : Text) × IsNameAt s i n
path_begins p None s i j h = (string_bytes p.name.name, h.0)
path_begins p (Some q) s i j h = (string_bytes q.namespace.name, h.1.0.1.0)

pub named_path : (s : Source) (i j : ℕ) → (AnyOf IsPath ▸ IsKind Semicolon) s i j → (n : Text) × IsNameAt s i n
named_path s i j h = path_begins h.1.0 h.1.0.package s i h.0 h.1.1.0

pub named_func : (s : Source) (i j : ℕ) → SaysWord s i (codes "func") ⊎ SaysWord s i (codes "async") → IsNamedRest s i j → AnyOf IsSignature s i j
named_func s i j says (inl h) = h
named_func s i j (inl says) (inr (inl h)) = absurd (apart (codes "func") (codes "interface") s i (λ e. absurd (omega (arith, e))) says h.1.0)
named_func s i j (inr says) (inr (inl h)) = absurd (apart (codes "async") (codes "interface") s i (λ e. absurd (omega (arith, e))) says h.1.0)
named_func s i j (inl says) (inr (inr h)) = absurd (let n = named_path s i j h in keyword_no_name s i (codes "func") n.0 func_is says n.1)
named_func s i j (inr says) (inr (inr h)) = absurd (let n = named_path s i j h in keyword_no_name s i (codes "async") n.0 async_is says n.1)

pub named_block : (s : Source) (i j : ℕ) → SaysWord s i (codes "interface") → IsNamedRest s i j → (IsWord (codes "interface") ▸ AnyOf (IsBlock IsInterfaceItem)) s i j
named_block s i j says (inl p) = by (signature_begins p.0 s i j p.1)
  where
    by : SaysWord s i (codes "func") ⊎ SaysWord s i (codes "async") → (IsWord (codes "interface") ▸ AnyOf (IsBlock IsInterfaceItem)) s i j
    by (inl a) = absurd (apart (codes "func") (codes "interface") s i (λ e. absurd (omega (arith, e))) a says)
    by (inr a) = absurd (apart (codes "async") (codes "interface") s i (λ e. absurd (omega (arith, e))) a says)
named_block s i j says (inr (inl h)) = h
named_block s i j says (inr (inr h)) = absurd (let n = named_path s i j h in keyword_no_name s i (codes "interface") n.0 interface_is says n.1)

-- neither of them: a path
pub named_other : (c d : Cursor) (func eaten : Bool) (j : ℕ) → IsReadable (source d) → (SaysWord (source c) c.next (codes "func") → func ≡ true) → (SaysWord (source c) c.next (codes "async") → func ≡ true) → func ≡ false
    → Eats c d eaten (IsWord (codes "interface")) → eaten ≡ false → d ≡ c → IsNamedRest (source d) d.next j → (AnyOf IsPath ▸ IsKind Semicolon) (source d) d.next j
named_other c d func eaten j cut f g none eats off same (inl p) = by (signature_begins p.0 (source d) d.next j p.1)
  where
    by : SaysWord (source d) d.next (codes "func") ⊎ SaysWord (source d) d.next (codes "async") → (AnyOf IsPath ▸ IsKind Semicolon) (source d) d.next j
    by (inl a) = absurd (let e : false ≡ true = sym none ∙ f (subst (λ (x : Cursor). SaysWord (source x) x.next (codes "func")) same a) in cc)
    by (inr a) = absurd (let e : false ≡ true = sym none ∙ g (subst (λ (x : Cursor). SaysWord (source x) x.next (codes "async")) same a) in cc)
named_other c d func eaten j cut f g none eats off same (inr (inl h)) =
    let there : IsWord (codes "interface") (source c) c.next h.0 = subst (λ (x : Cursor). IsWord (codes "interface") (source x) x.next h.0) same h.1 in
    absurd (let e : false ≡ true = sym off ∙ (eats (subst (λ (x : Cursor). IsReadable (source x)) same cut) h.0 there).0 in cc)
named_other c d func eaten j cut f g none eats off same (inr (inr h)) = h

pub path_ended : (s : Source) (i j : ℕ) → (AnyOf IsPath ▸ IsKind Semicolon) s i j → (PathTokens ▸ IsKind Semicolon) s i j
path_ended s i j h = (h.0, path_before s i h.0 Semicolon h.1 h.2.0 (λ e. cc) (λ e. cc), h.2)
