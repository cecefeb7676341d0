-- A file is read step by step, up to its end.
use Rattle.std.proofs.Common.{◌≡◌, ◌≢◌, ◌⊎◌, ℕ, ◌+◌, ◌<◌, ◌≤◌, Bool, true, false, codes, string_bytes, List, [], ◌∷◌, length, Option, Some, None, Result, Ok, Err, IfErr, OnOk, inl, inr, refl, sym, ap, ap₂, ◌∙◌, subst, arith}
use Rattle.std.specs.Str.{IsUtf8, bytes_eq}
use Rattle.std.proofs.Math.Dec.{leb}
use Rattle.std.proofs.lemmas.Bool.Decides.{leb_tells}
use Rattle.wac_model.specs.Text.{Text}
use Rattle.wac_wit_syntax.specs.Behind.{HasNoGate, HasNothing, PackageRest, TopStep}
use Rattle.wac_wit_syntax.specs.Completing.{AnyOf, Before, Begins, ComesTo, Completes, IsReadable, NotBefore}
use Rattle.wac_wit_syntax.specs.Cursors.{HasNoRefusal, source}
use Rattle.wac_wit_syntax.specs.Documents.{AreParts, IsDocument, IsNested, IsShallowText, IsTopItem, MayBeNamed, Says, nested, none, one_more}
use Rattle.wac_wit_syntax.specs.Gates.{IsGates}
use Rattle.wac_wit_syntax.specs.Lists.{InOrder, IsBlock}
use Rattle.wac_wit_syntax.specs.Paths.{IsPackageName}
use Rattle.wac_wit_syntax.specs.Productions.{◌▸◌, IsKind, Production, SaysWord, Source, token_at}
use Rattle.wac_wit_syntax.specs.declared.cursor.Cursor.{Cursor}
use Rattle.wac_wit_syntax.specs.declared.error.Fault.{Fault}
use Rattle.wac_wit_syntax.specs.declared.error.Fault.TheVariants.{Memory}
use Rattle.wac_wit_syntax.specs.declared.token.Token.{Token}
use Rattle.wac_wit_syntax.specs.declared.token.TokenKind.{TokenKind}
use Rattle.wac_wit_syntax.specs.declared.token.TokenKind.TheVariants.{At, Colon, End, OpenBrace, Semicolon, Word}
use Rattle.wac_wit_syntax.specs.declared.tree.Document.{Document}
use Rattle.wac_wit_syntax.specs.declared.tree.Gates.{Gates}
use Rattle.wac_wit_syntax.specs.declared.tree.NestedPackage.{NestedPackage}
use Rattle.wac_wit_syntax.specs.declared.tree.PackageName.{PackageName}
use Rattle.wac_wit_syntax.specs.declared.tree.TopItem.{TopItem}
use Rattle.wac_wit_syntax.proofs.CutOut.{are_cut_out}
use Rattle.wac_wit_syntax.proofs.ItemsBegin.{top_items_begin}
use Rattle.wac_wit_syntax.proofs.ItemsLeft.{not_word, other_kind, word_no_at}
use Rattle.wac_wit_syntax.proofs.Lengthening.{block_longer}
use Rattle.wac_wit_syntax.proofs.ListsLeft.{begins_no}
use Rattle.wac_wit_syntax.proofs.TopLeft.{IsRestRead, bare, gates_ahead, rest_read, top_no_package}
use Rattle.wac_wit_syntax.proofs.TypesGone.{kind_past, stays}
use Rattle.wac_wit_syntax.proofs.WorldsLeft.{suffix_longer}

-- ---- from the word `package` on

abbrev pub PackageTokens : Production
PackageTokens = NotBefore At (NotBefore Colon (AnyOf IsPackageName))

abbrev pub PackageEnd : Document → Production
PackageEnd d = λ s i j. (HasNothing d × IsKind Semicolon s i j) ⊎ AnyOf (IsBlock IsTopItem) s i j

package_before : (s : Source) (i j : ℕ) (kind : TokenKind) → AnyOf IsPackageName s i j → (token_at s j).kind ≡ kind → kind ≢ At → kind ≢ Colon → PackageTokens s i j
package_before s i j kind p e a b = ((p, other_kind s j kind Colon e b), other_kind s j kind At e a)

pub package_rest : (d : Document) (s : Source) (i j : ℕ) → PackageRest d s i j → (IsKind Word ▸ PackageTokens ▸ PackageEnd d) s i j
package_rest d s i j (inl h) = let p = h.1 in (p.0, p.1, (p.2.0, package_before s p.0 p.2.0 Semicolon p.2.1 p.2.2.0 (λ f. cc) (λ f. cc), inl (h.0, p.2.2)))
package_rest d s i j (inr h) = (h.0, h.1, (h.2.0, package_before s h.0 h.2.0 OpenBrace h.2.1 h.2.2.1.1.0 (λ f. cc) (λ f. cc), inr h.2.2))

pub package_ended : {T : Type 0} (d : Document) (c e : Cursor) (r : Result T Fault) (sees : Bool) → (HasNothing d → Completes c e r (IsKind Semicolon)) → ((token_at (source c) c.next).kind ≡ OpenBrace → sees ≡ true) → sees ≡ false → Completes c e r (PackageEnd d)
package_ended {T} d c e r sees named seen off = record { ends = λ cut j p. by cut j p }
  where
    by : IsReadable (source c) → (j : ℕ) → PackageEnd d (source c) c.next j → ComesTo j c e r
    by cut j (inl h) = (named h.0).ends cut j h.1
    by cut j (inr h) = absurd (let f : false ≡ true = sym off ∙ seen h.1.1.0 in cc)

pub package_block : (d : Document) (s : Source) (i j : ℕ) → (token_at s i).kind ≡ OpenBrace → PackageEnd d s i j → AnyOf (IsBlock IsTopItem) s i j
package_block d s i j seen (inl h) = absurd (let f : OpenBrace ≡ Semicolon = sym seen ∙ h.1.0 in cc)
package_block d s i j seen (inr h) = h

-- ---- a step

step_gates : (d : Document) (s : Source) (i j : ℕ) → TopStep d s i j → (k : ℕ) × NotBefore At (AnyOf IsGates) s i k
step_gates d s i j (inl h) = (i, (bare s i, word_no_at s (codes "package") i h.0))
step_gates d s i j (inr p) = gates_ahead p.0 s i j p.1

pub step_memory : {T : Type 0} {x : Fault} (d : Document) (c e : Cursor) (j : ℕ) → IsReadable (source c) → TopStep d (source c) c.next j → Completes {T = T} c e (Err x) (NotBefore At (AnyOf IsGates)) → x ≡ Memory
step_memory {T} {x} d c e j cut p reads = let a = step_gates d (source c) c.next j p in (reads.ends cut a.0 a.1).memory

-- a package comes next
pub record IsPackageNext (d : Document) (c e : Cursor) (g : Gates) (j : ℕ) : Type 0 where
  pub same : e ≡ record c { next = c.next }
  pub says : SaysWord (source e) e.next (codes "package")
  pub rest : PackageRest d (source e) e.next j
  pub bare : HasNoGate g

package_here : {T : Type 0} {v : T} (d : Document) (c e : Cursor) (g : Gates) (j : ℕ) → IsReadable (source c) → SaysWord (source c) c.next (codes "package") → PackageRest d (source c) c.next j
    → Completes c e (Ok v) (NotBefore At (AnyOf IsGates)) → ((token_at (source c) c.next).kind ≢ At → HasNoGate g) → IsPackageNext d c e g j
package_here {T} {v} d c e g j cut says rest reads gateless =
    let no_at = word_no_at (source c) (codes "package") c.next says in
    let at : e ≡ record c { next = c.next } = (reads.ends cut c.next (bare (source c) c.next, no_at)).ok in
    record { same = at; says = subst (λ (x : Cursor). SaysWord (source x) x.next (codes "package")) (sym at) says; rest = subst (λ (x : Cursor). PackageRest d (source x) x.next j) (sym at) rest; bare = gateless no_at }

pub package_next : {T : Type 0} {v : T} (d : Document) (c e : Cursor) (g : Gates) (j : ℕ) → IsReadable (source c) → TopStep d (source c) c.next j → Completes c e (Ok v) (NotBefore At (AnyOf IsGates)) → ((token_at (source c) c.next).kind ≢ At → HasNoGate g)
    → SaysWord (source e) e.next (codes "package") → IsPackageNext d c e g j
package_next {T} {v} d c e g j cut (inl h) reads gateless says = package_here d c e g j cut h.0 h.1 reads gateless
package_next {T} {v} d c e g j cut (inr p) reads gateless says = let h = rest_read c e g j cut p reads gateless in absurd (top_no_package g (source e) e.next j says h.rest)

pub item_next : {T : Type 0} {v : T} (d : Document) (c e : Cursor) (g : Gates) (j : ℕ) → IsReadable (source c) → TopStep d (source c) c.next j → Completes c e (Ok v) (NotBefore At (AnyOf IsGates)) → ((token_at (source c) c.next).kind ≢ At → HasNoGate g)
    → (SaysWord (source e) e.next (codes "package") → ⊥) → IsRestRead c e g j
item_next {T} {v} d c e g j cut (inl h) reads gateless other = absurd (other (package_here d c e g j cut h.0 h.1 reads gateless).says)
item_next {T} {v} d c e g j cut (inr p) reads gateless other = rest_read c e g j cut p reads gateless

equal_bytes : (v w : Text) → v ≡ w → bytes_eq w w ≡ true → bytes_eq v v ≡ true
equal_bytes v w e h = subst (λ t. bytes_eq t t ≡ true) (sym e) h

-- where the word that comes next isn't `package`
pub item_here : {T : Type 0} {v : T} (d : Document) (c e : Cursor) (g : Gates) (j : ℕ) (text w : Text) (b : Bool) → IsReadable (source c) → TopStep d (source c) c.next j → Completes c e (Ok v) (NotBefore At (AnyOf IsGates))
    → ((token_at (source c) c.next).kind ≢ At → HasNoGate g) → b ≡ bytes_eq text w → b ≡ false → (IsReadable (source e) → SaysWord (source e) e.next w → text ≡ w) → w ≡ codes "package" → IsRestRead c e g j
item_here {T} {v} d c e g j text w b cut p reads gateless eq off word is =
    let a = step_gates d (source c) c.next j p in
    let at : e ≡ record c { next = a.0 } = (reads.ends cut a.0 a.1).ok in
    let there = subst IsReadable (sym (ap source at)) cut in
    item_next d c e g j cut p reads gateless (λ says. not_word (source e) e.next text w b eq off (word there) (equal_bytes w (codes "package") is refl) (subst (SaysWord (source e) e.next) (sym is) says))

-- ---- all steps

-- an item, or a package inside the file
abbrev pub IsTopPart : TopItem ⊎ NestedPackage → Production
IsTopPart (inl x) = IsTopItem x
IsTopPart (inr p) = IsNested p

-- from the first on
turned : (s : Source) (xs : List TopItem) (ps : List NestedPackage) (i k j : ℕ) (zs : List (TopItem ⊎ NestedPackage)) → AreParts s xs ps i k → InOrder IsTopPart zs s k j → AnyOf (InOrder IsTopPart) s i j
turned s xs ps i k j zs none h = (zs, h)
turned s xs ps i k j zs (one_more x us {ps = qs} {k = m} a b) h = turned s us qs i m j (inl x ∷ zs) a (k, b, h)
turned s xs ps i k j zs (nested p {xs = us} qs {k = m} a b) h = turned s us qs i m j (inr p ∷ zs) a (k, b, h)

-- what is left where this much is read
abbrev pub DocLeft : Document → Production
DocLeft d = λ s i j. (HasNothing d × (AnyOf MayBeNamed ▸ AnyOf (InOrder IsTopPart)) s i j) ⊎ AnyOf (InOrder IsTopPart) s i j

document_left : (d : Document) (s : Source) (i j : ℕ) → HasNothing d → AnyOf IsDocument s i j → DocLeft d s i j
document_left d s i j nothing p = inl (nothing, (p.1.0, (p.0.«package», p.1.1), turned s p.0.items.items p.0.packages.items p.1.0 j j [] p.1.2 refl))

nested_step : (d : Document) (p : NestedPackage) (s : Source) (i j : ℕ) → IsNested p s i j → TopStep d s i j
nested_step d p s i j h = inl (h.1.0, inr (h.0, (h.1.0.0, h.1.1), (h.2.0, (p.name, h.2.1), (p.items.items, h.2.2))))

part_step : (d : Document) (x : TopItem ⊎ NestedPackage) (s : Source) (i j : ℕ) → IsTopPart x s i j → TopStep d s i j
part_step d (inl x) s i j h = inr (x, h)
part_step d (inr p) s i j h = nested_step d p s i j h

suffix_of_name : (p : PackageName) (s : Source) (i j : ℕ) → IsPackageName p s i j → i ≤ j
suffix_of_name p s i j h = let q = h.0 in let a = q.1.2 in let b = q.2.1.1 in let c = q.2.2.1.2 in let d = suffix_longer p.version s q.2.2.0 j q.2.2.2 in omega arith

step_begins : (d : Document) (s : Source) (i j : ℕ) → TopStep d s i j → Begins s i j
step_begins d s i j (inl (says, inl h)) = let p = h.1 in let a = p.1.1 in let b = suffix_of_name p.2.1.0 s p.0 p.2.0 p.2.1.1 in let c = p.2.2.1 in (omega arith, inl says.0)
step_begins d s i j (inl (says, inr h)) = let a = h.1.1 in let b = suffix_of_name h.2.1.0 s h.0 h.2.0 h.2.1.1 in let c = block_longer IsTopItem top_items_begin h.2.2.0 s h.2.0 j h.2.2.1 in (omega arith, inl says.0)
step_begins d s i j (inr p) = top_items_begin p.0 s i j p.1

parts_step : (d : Document) (s : Source) (i j : ℕ) (zs : List (TopItem ⊎ NestedPackage)) → InOrder IsTopPart zs s i j → (j ≡ i) ⊎ (TopStep d ▸ AnyOf (InOrder IsTopPart)) s i j
parts_step d s i j [] h = inl h
parts_step d s i j (z ∷ zs) h = inr (h.0, part_step d z s i h.0 h.1, (zs, h.2))

named_step : (d : Document) (s : Source) (i k j : ℕ) (o : Option PackageName) → HasNothing d → MayBeNamed o s i k → AnyOf (InOrder IsTopPart) s k j → (j ≡ i) ⊎ (TopStep d ▸ AnyOf (InOrder IsTopPart)) s i j
named_step d s i k j None nothing e h = parts_step d s i j h.0 (subst (λ m. InOrder IsTopPart h.0 s m j) e h.1)
named_step d s i k j (Some name) nothing n h =
    inr (k, inl (n.1.0, inl (nothing, (n.0, (n.1.0.0, n.1.1), (n.2.0, (name, n.2.1), n.2.2)))), h)

doc_step : (d : Document) (s : Source) (i j : ℕ) → DocLeft d s i j → (j ≡ i) ⊎ (TopStep d ▸ AnyOf (InOrder IsTopPart)) s i j
doc_step d s i j (inl h) = let p = h.1 in named_step d s i p.0 j p.1.0 h.0 p.1.1 p.2
doc_step d s i j (inr h) = parts_step d s i j h.0 h.1

-- where the reader stands between two steps; each has taken a token, and none began at the end
pub record IsDocTo (a c : Cursor) (d : Document) (turn j : ℕ) : Type 0 where
  pub same : c ≡ record a { next = c.next }
  pub turns : turn + a.next ≤ c.next
  pub few : turn ≤ length (source a).tokens
  pub left : DocLeft d (source a) c.next j

pub doc_start : (a : Cursor) (d : Document) (j : ℕ) → HasNothing d → AnyOf IsDocument (source a) a.next j → IsDocTo a a d 0 j
doc_start a d j nothing p = record { same = refl; turns = omega arith; few = omega arith; left = document_left d (source a) a.next j nothing p }

doc_at : (a c : Cursor) (d : Document) (turn j : ℕ) → IsDocTo a c d turn j → DocLeft d (source c) c.next j
doc_at a c d turn j h = subst (λ (s : Source). DocLeft d s c.next j) (sym (ap source h.same)) h.left

pub doc_ends : {T : Type 0} {v : T} (a c e : Cursor) (d : Document) (turn j : ℕ) → IsDocTo a c d turn j → (token_at (source c) c.next).kind ≡ End → e ≡ c → ComesTo j a e (Ok v)
doc_ends {T} {v} a c e d turn j h end same = by (doc_step d (source c) c.next j (doc_at a c d turn j h))
  where
    by : (j ≡ c.next) ⊎ (TopStep d ▸ AnyOf (InOrder IsTopPart)) (source c) c.next j → ComesTo j a e (Ok v)
    by (inl f) = record { ok = same ∙ h.same ∙ ap (λ m. record a { next = m }) (sym f); memory = tt }
    by (inr p) = absurd (begins_no (source c) c.next p.0 End (λ f. cc, λ f. cc, λ f. cc) (step_begins d (source c) c.next p.0 p.1) end)

-- a step is left
pub doc_next : (a c : Cursor) (d : Document) (turn j : ℕ) → (token_at (source a) j).kind ≡ End → IsDocTo a c d turn j → (token_at (source c) c.next).kind ≢ End → (TopStep d ▸ AnyOf (InOrder IsTopPart)) (source c) c.next j
doc_next a c d turn j end h other = by (doc_step d (source c) c.next j (doc_at a c d turn j h))
  where
    by : (j ≡ c.next) ⊎ (TopStep d ▸ AnyOf (InOrder IsTopPart)) (source c) c.next j → (TopStep d ▸ AnyOf (InOrder IsTopPart)) (source c) c.next j
    by (inl f) = absurd (other (subst (λ (s : Source). (token_at s c.next).kind ≡ End) (sym (ap source h.same)) (subst (λ m. (token_at (source a) m).kind ≡ End) f end)))
    by (inr p) = p

doc_readable : (a c : Cursor) (d : Document) (turn j : ℕ) → IsDocTo a c d turn j → IsReadable (source a) → IsReadable (source c)
doc_readable a c d turn j h cut = subst IsReadable (sym (ap source h.same)) cut

pub doc_memory : {T : Type 0} {x : Fault} (a c e : Cursor) (d : Document) (turn j : ℕ) → IsReadable (source a) → (token_at (source a) j).kind ≡ End → IsDocTo a c d turn j → (token_at (source c) c.next).kind ≢ End → Completes {T = T} c e (Err x) (TopStep d) → x ≡ Memory
doc_memory {T} {x} a c e d turn j cut end h other reads = let p = doc_next a c d turn j end h other in (reads.ends (doc_readable a c d turn j h cut) p.0 p.1).memory

before_end : (s : Source) (i : ℕ) → (token_at s i).kind ≢ End → (i < length s.tokens)
before_end s i other = by (leb_tells (length s.tokens) i)
  where
    by : ((leb (length s.tokens) i ≡ true) × (length s.tokens ≤ i)) ⊎ ((leb (length s.tokens) i ≡ false) × (i < length s.tokens)) → i < length s.tokens
    by (inl a) = absurd (other (kind_past s i a.1))
    by (inr b) = b.1

pub doc_further : {T : Type 0} {v : T} (a c e f : Cursor) (d g : Document) (turn j : ℕ) → IsReadable (source a) → (token_at (source a) j).kind ≡ End → IsDocTo a c d turn j → (token_at (source c) c.next).kind ≢ End → Completes c e (Ok v) (TopStep d) → f ≡ e
    → IsDocTo a f g (turn + 1) j
doc_further {T} {v} a c e f d g turn j cut end h other reads same =
    let p = doc_next a c d turn j end h other in
    let at : e ≡ record c { next = p.0 } = (reads.ends (doc_readable a c d turn j h cut) p.0 p.1).ok in
    let to : f ≡ record c { next = p.0 } = same ∙ at in
    let place : f.next ≡ p.0 = ap (λ (x : Cursor). x.next) to in
    let more : c.next < p.0 = (step_begins d (source c) c.next p.0 p.1).0 in
    let one : source c ≡ source a = ap source h.same in
    let below : c.next < length (source a).tokens = subst (λ (s : Source). c.next < length s.tokens) one (before_end (source c) c.next other) in
    record {
      same = stays c f p.0 to ∙ ap (λ (x : Cursor). record x { next = f.next }) h.same;
      turns = (let x = h.turns in omega arith);
      few = (let x = h.turns in omega arith);
      left = inr (subst (λ (s : Source). AnyOf (InOrder IsTopPart) s f.next j) one (subst (λ m. AnyOf (InOrder IsTopPart) (source c) m j) (sym place) p.2));
    }

-- ---- whole files

source_is : (c : Cursor) (text : Text) (tokens : List Token) → string_bytes c.text ≡ text → c.tokens.items ≡ tokens → source c ≡ record { text = text; tokens = tokens }
source_is c text tokens e f = ap₂ (λ (a : Text) (b : List Token). record { text = a; tokens = b }) e f

no_refusal : (c d : Cursor) (j : ℕ) → HasNoRefusal c → d ≡ record c { next = j } → HasNoRefusal d
no_refusal c d j h e = subst HasNoRefusal (sym e) h

ok_quiet : {T : Type 0} (c d : Cursor) (j : ℕ) (r : Result T Fault) → HasNoRefusal c → OnOk r (d ≡ record c { next = j }) → OnOk r (HasNoRefusal d)
ok_quiet c d j (Ok v) h e = no_refusal c d j h e
ok_quiet c d j (Err x) h e = tt

pub all_read : {T : Type 0} (text : Text) (document : Document) (c d : Cursor) (read : List Token) (r : Result T Fault) → (says : Says text document) → IsShallowText text → IsUtf8 text → string_bytes c.text ≡ text → c.next ≡ 0 → c.tokens.items ≡ read
    → read ≡ says.0 → HasNoRefusal c → Completes c d r (Before End (AnyOf IsDocument)) → OnOk r (HasNoRefusal d) × IfErr r (λ fault. fault ≡ Memory)
all_read {T} text document c d read r says shallow utf8 t zero items tokens quiet reads =
    let s : Source = record { text = text; tokens = says.0 } in
    let is : source c ≡ s = source_is c text says.0 t (items ∙ tokens) in
    let readable : IsReadable s = record { cut_out = are_cut_out text says.0 utf8 says.1; shallow = shallow says.0 says.1 } in
    let p : Before End (AnyOf IsDocument) s 0 says.2.0 = ((document, says.2.1), says.2.2) in
    let there : Before End (AnyOf IsDocument) (source c) c.next says.2.0 = subst (λ (x : Source). Before End (AnyOf IsDocument) x c.next says.2.0) (sym is) (subst (λ m. Before End (AnyOf IsDocument) s m says.2.0) (sym zero) p) in
    let end = reads.ends (subst IsReadable (sym is) readable) says.2.0 there in
    (ok_quiet c d says.2.0 r quiet end.ok, end.memory)

pub not_end : (c : Cursor) (sees : Bool) → ((token_at (source c) c.next).kind ≡ End → sees ≡ true) → sees ≡ false → (token_at (source c) c.next).kind ≢ End
not_end c sees seen off = λ e. (let f : false ≡ true = sym off ∙ seen e in cc)
