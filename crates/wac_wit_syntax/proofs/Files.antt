-- Files, part by part.
use Rattle.std.proofs.Common.{◌≡◌, ℕ, List, [], ◌∷◌, ◌++◌, Option, Some, None, Result, Ok, Err, IfOk, OnOk, Vec, codes, string_bytes, length, vec_len, refl, sym, ap, ◌∙◌, subst, arith}
use Rattle.std.specs.declared.alloc.Global.{Global}
use Rattle.wac_model.specs.Text.{Text}
use Rattle.wac_wit_syntax.specs.Parts.{IsRead}
use Rattle.wac_wit_syntax.specs.Cursors.{HasNoRefusal, Reads, source}
use Rattle.wac_wit_syntax.specs.Documents.{AreParts, IsDocument, IsNested, IsTopItem, MayBeNamed, Says, none, one_more, nested}
use Rattle.wac_wit_syntax.specs.Paths.{IsPackageName}
use Rattle.wac_wit_syntax.specs.Productions.{◌▸◌, IsKind, IsWord, Production, Source, token_at}
use Rattle.wac_wit_syntax.specs.declared.cursor.Cursor.{Cursor}
use Rattle.wac_wit_syntax.specs.declared.error.Fault.{Fault}
use Rattle.wac_wit_syntax.specs.declared.error.SyntaxError.{SyntaxError}
use Rattle.wac_wit_syntax.specs.declared.token.Token.{Token}
use Rattle.wac_wit_syntax.specs.declared.token.TokenKind.TheVariants.{End, Semicolon}
use Rattle.wac_wit_syntax.specs.declared.tree.Document.{Document}
use Rattle.wac_wit_syntax.specs.declared.tree.NestedPackage.{NestedPackage}
use Rattle.wac_wit_syntax.specs.declared.tree.PackageName.{PackageName}
use Rattle.wac_wit_syntax.specs.declared.tree.TopItem.{TopItem}
use Rattle.wac_wit_syntax.proofs.Covering.{reads_as, reads_nothing, reads_then}

-- a file of these parts
abbrev pub Parts : Option PackageName → List TopItem → List NestedPackage → Production
Parts name xs ps = MayBeNamed name ▸ (λ s i j. AreParts s xs ps i j)

pub one_item : (a b c : Cursor) (name : Option PackageName) (xs : List TopItem) (ps : List NestedPackage) (x : TopItem) → Reads a b (Parts name xs ps) → Reads b c (IsTopItem x) → Reads a c (Parts name (xs ++ x ∷ []) ps)
one_item a b c name xs ps x h g = reads_as (reads_then h g) (λ s i j r. (r.1.0, r.1.1, one_more x xs r.1.2 r.2))

pub one_nested : (a b c : Cursor) (name : Option PackageName) (xs : List TopItem) (ps : List NestedPackage) (p : NestedPackage) → Reads a b (Parts name xs ps) → Reads b c (IsNested p) → Reads a c (Parts name xs (ps ++ p ∷ []))
one_nested a b c name xs ps p h g = reads_as (reads_then h g) (λ s i j r. (r.1.0, r.1.1, nested p ps r.1.2 r.2))

-- before the first part
pub no_part : (c : Cursor) (xs : List TopItem) (ps : List NestedPackage) → xs ≡ [] → ps ≡ [] → Reads c c (Parts None xs ps)
no_part c xs ps d e =
    let all : Reads c c (Parts None [] []) = reads_as (reads_nothing c c refl) (λ s i j r. (j, r, none)) in
    subst (λ x. Reads c c (Parts None x ps)) (sym d) (subst (λ p. Reads c c (Parts None [] p)) (sym e) all)

snoc_some : {X : Type 0} (xs : List X) (x : X) → xs ++ x ∷ [] ≡ [] → ⊥
snoc_some [] x e = cc
snoc_some (y ∷ ys) x e = cc

no_parts : (s : Source) (xs : List TopItem) (ps : List NestedPackage) (i j : ℕ) → AreParts s xs ps i j → xs ≡ [] → ps ≡ [] → j ≡ i
no_parts s xs ps i j none d e = refl
no_parts s xs ps i j (one_more x ys h g) d e = absurd (snoc_some ys x d)
no_parts s xs ps i j (nested p qs h g) d e = absurd (snoc_some qs p e)

-- the name of its package, with which a file begins
pub named : (a b c : Cursor) (name : PackageName) → Reads a b (Parts None [] [] ▸ IsWord (codes "package") ▸ IsPackageName name) → Reads b c (IsKind Semicolon) → Reads a c (Parts (Some name) [] [])
named a b c name h g = reads_as (reads_then h g) (λ s i j r.
    let p = r.1.1 in
    let start : r.1.0 ≡ i = no_parts s [] [] p.0 r.1.0 p.2 refl refl ∙ p.1 in
    (j, (r.1.2.0, subst (λ k. IsWord (codes "package") s k r.1.2.0) start r.1.2.1, (r.0, r.1.2.2, r.2)), none))

-- a document that is read up to the end of the tokens, where nothing is refused
pub says : (text : Text) (c d : Cursor) (document : Document) → string_bytes c.text ≡ text → c.next ≡ 0 → (HasNoRefusal c → IsRead text c.tokens.items) → Reads c d (IsDocument document)
    → (token_at (source d) d.next).kind ≡ End → HasNoRefusal d → Says text document
says text c d document e zero lexed h ends quiet =
    let s : Source = record { text = text; tokens = c.tokens.items } in
    let same : source c ≡ s = ap (λ t. record { text = t; tokens = c.tokens.items }) e in
    let read : IsDocument document s 0 d.next = subst (λ i. IsDocument document s i d.next) zero (subst (λ (x : Source). IsDocument document x c.next d.next) same (h.read quiet)) in
    let end : (token_at s d.next).kind ≡ End = ap (λ (x : Source). (token_at x d.next).kind) (sym (h.same quiet ∙ same)) ∙ ends in
    (c.tokens.items, lexed (h.quiet quiet), (d.next, read, end))

no_items : {X : Type 0} (xs : List X) → length xs ≡ 0 → xs ≡ []
no_items [] e = refl
no_items (x ∷ xs) e = cc

-- a file that had nothing gets the name of its package
pub package_named : (a b c : Cursor) (d e : Document) (name : PackageName) → d.«package» ≡ None → vec_len d.items ≡ 0 → vec_len d.packages ≡ 0 → e ≡ record d { «package» = Some name }
    → Reads a b (IsDocument d ▸ IsWord (codes "package") ▸ IsPackageName name) → Reads b c (IsKind Semicolon) → Reads a c (IsDocument e)
package_named a b c d e name new x p same h g =
    let xs = no_items d.items.items (omega (arith, x, d.items.ok.0)) in
    let ps = no_items d.packages.items (omega (arith, p, d.packages.ok.0)) in
    let start : Reads a b (Parts None [] [] ▸ IsWord (codes "package") ▸ IsPackageName name) =
    subst (λ n. Reads a b (Parts n [] [] ▸ IsWord (codes "package") ▸ IsPackageName name)) new
    (subst (λ x. Reads a b (Parts d.«package» x [] ▸ IsWord (codes "package") ▸ IsPackageName name)) xs (subst (λ p. Reads a b (Parts d.«package» d.items.items p ▸ IsWord (codes "package") ▸ IsPackageName name)) ps h)) in
    let all : Reads a c (Parts (Some name) [] []) = named a b c name start g in
    let whole : Reads a c (IsDocument (record d { «package» = Some name })) = subst (λ x. Reads a c (Parts (Some name) x d.packages.items)) (sym xs) (subst (λ p. Reads a c (Parts (Some name) [] p)) (sym ps) all) in
    subst (λ (x : Document). Reads a c (IsDocument x)) (sym same) whole

-- an item more
pub item_put : (a b c : Cursor) (d e : Document) (x : TopItem) → e.«package» ≡ d.«package» → e.packages ≡ d.packages → e.items.items ≡ d.items.items ++ x ∷ [] → Reads a b (IsDocument d) → Reads b c (IsTopItem x) → Reads a c (IsDocument e)
item_put a b c d e x name ps xs h g =
    let all : Reads a c (Parts d.«package» (d.items.items ++ x ∷ []) d.packages.items) = one_item a b c d.«package» d.items.items d.packages.items x h g in
    subst (λ n. Reads a c (Parts n e.items.items e.packages.items)) (sym name)
    (subst (λ (p : Vec NestedPackage Global). Reads a c (Parts d.«package» e.items.items p.items)) (sym ps) (subst (λ x. Reads a c (Parts d.«package» x d.packages.items)) (sym xs) all))

-- a package more
pub package_put : (a b c : Cursor) (d e : Document) (p : NestedPackage) → e.«package» ≡ d.«package» → e.items ≡ d.items → e.packages.items ≡ d.packages.items ++ p ∷ [] → Reads a b (IsDocument d) → Reads b c (IsNested p) → Reads a c (IsDocument e)
package_put a b c d e p name xs ps h g =
    let all : Reads a c (Parts d.«package» d.items.items (d.packages.items ++ p ∷ [])) = one_nested a b c d.«package» d.items.items d.packages.items p h g in
    subst (λ n. Reads a c (Parts n e.items.items e.packages.items)) (sym name)
    (subst (λ (x : Vec TopItem Global). Reads a c (Parts d.«package» x.items e.packages.items)) (sym xs) (subst (λ q. Reads a c (Parts d.«package» d.items.items q)) (sym ps) all))

-- what is handed out where nothing is refused
pub parsed : (text : Text) (c d : Cursor) (tokens : List Token) (r : Result Document SyntaxError) (read : Result Document Fault) → string_bytes c.text ≡ text → c.next ≡ 0 → c.tokens.items ≡ tokens → (HasNoRefusal c → IsRead text tokens)
    → IfOk read (λ document. Reads c d (IsDocument document)) → OnOk read ((token_at (source d) d.next).kind ≡ End) → IfOk r (λ v. (read ≡ Ok v) × HasNoRefusal d) → IfOk r (λ v. Says text v)
parsed text c d tokens (Ok v) read e zero these lexed h ends out =
    let whole : Reads c d (IsDocument v) = subst (λ (x : Result Document Fault). IfOk x (λ document. Reads c d (IsDocument document))) out.0 h in
    let end : (token_at (source d) d.next).kind ≡ End = subst (λ (x : Result Document Fault). OnOk x ((token_at (source d) d.next).kind ≡ End)) out.0 ends in
    says text c d v e zero (λ q. subst (IsRead text) (sym these) (lexed q)) whole end out.1
parsed text c d tokens (Err x) read e zero these lexed h ends out = tt
