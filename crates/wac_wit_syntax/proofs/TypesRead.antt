-- A type, from its word to the last of its tokens.
use Rattle.std.proofs.Common.{◌≡◌, ◌-◌, ℕ, Bool, false, List, ◌∷◌, [], ◌++◌, Option, Result, Ok, Err, IfOk, IsOk, true, refl, sym, ap, ◌∙◌, subst}
use Rattle.wac_wit_syntax.specs.Cursors.{Reads, source}
use Rattle.wac_wit_syntax.specs.Productions.{IsWord, token_at}
use Rattle.wac_wit_syntax.specs.Types.{IsTypeOf}
use Rattle.wac_wit_syntax.specs.TypeParts.{Begun, IsTypeMade, Parted, Stage, next_is_type, word_text}
use Rattle.wac_wit_syntax.specs.declared.cursor.Cursor.{Cursor}
use Rattle.wac_wit_syntax.specs.declared.error.Fault.{Fault}
use Rattle.wac_wit_syntax.specs.declared.positions.Span.{Span}
use Rattle.wac_wit_syntax.specs.declared.tree.TypeExpr.{TypeExpr}
use Rattle.wac_wit_syntax.specs.declared.types.Parts.{Parts}
use Rattle.wac_wit_syntax.specs.declared.types.TypeWord.{TypeWord}
use Rattle.wac_wit_syntax.proofs.Covering.{reads_as, reads_spanning, reads_then}
use Rattle.wac_wit_syntax.proofs.TypeSteps.{with_type}

pub type_made : (c b d e : Cursor) (is_open : Bool) (w : TypeWord) (ts : List TypeExpr) (lacks : Bool) (n : Option ℕ) (start last span : Span) (r : Result TypeExpr Fault)
    → Reads c b (IsWord (word_text w)) → Reads b d (Stage is_open w ts lacks n) → is_open ≡ false → start ≡ (token_at (source c) c.next).span → last ≡ (token_at (source d) (d.next - 1)).span
    → span ≡ record { start = start.start; end = last.end } → IfOk r (λ t. IsTypeMade w ts lacks n span t) → (IsOk r → e ≡ d) → IfOk r (λ t. Reads c e (IsTypeOf t))
type_made c b d e is_open w ts lacks n start last span (Ok t) h g closed f l at made same =
    let whole = subst (λ o. Reads b d (Stage o w ts lacks n)) closed g in
    subst (λ (x : Cursor). Reads c x (IsTypeOf t)) (sym (same refl)) (reads_as (reads_spanning (reads_then h whole) start last span f l at) (λ s i j x. made s i x.0.0 j x.0.1 x.0.2 x.1))
type_made c b d e is_open w ts lacks n start last span (Err x) h g closed f l at made same = tt

-- behind the parts so far, where they are the same after a look at the next, a type is read
pub part_read : (behind d e f g : Cursor) (w : TypeWord) (p q r : Parts) (t : TypeExpr) → Reads behind d (Begun w p.types.items p.lacks_first p.length) → e ≡ d → q ≡ p → next_is_type w p.types.items p.lacks_first ≡ true
    → Reads e f (IsTypeOf t) → r.types.items ≡ q.types.items ++ t ∷ [] → r.lacks_first ≡ q.lacks_first → r.length ≡ q.length → g ≡ f → Reads behind g (Parted w r.types.items r.lacks_first r.length)
part_read behind d e f g w p q r t h same kept ty h' items lacks n at =
    let read : Reads d f (IsTypeOf t) = subst (λ (x : Cursor). Reads x f (IsTypeOf t)) same h' in
    let all = reads_as (reads_then h read) (λ s i j x. with_type w p.types.items p.lacks_first p.length t s i j ty x) in
    let ts : p.types.items ++ t ∷ [] ≡ r.types.items = sym (items ∙ ap (λ (x : Parts). x.types.items ++ t ∷ []) kept) in
    let ls : p.lacks_first ≡ r.lacks_first = sym (lacks ∙ ap (λ (x : Parts). x.lacks_first) kept) in
    let ns : p.length ≡ r.length = sym (n ∙ ap (λ (x : Parts). x.length) kept) in
    subst (λ (x : Cursor). Reads behind x (Parted w r.types.items r.lacks_first r.length)) (sym at)
    (subst (λ m. Reads behind f (Parted w r.types.items r.lacks_first m)) ns (subst (λ l. Reads behind f (Parted w r.types.items l p.length)) ls (subst (λ us. Reads behind f (Parted w us p.lacks_first p.length)) ts all)))

-- another part is read
pub part_taken : (behind f g : Cursor) (w : TypeWord) (q r : Parts) → Reads behind f (Parted w q.types.items q.lacks_first q.length) → r ≡ q → g ≡ f → Reads behind g (Parted w r.types.items r.lacks_first r.length)
part_taken behind f g w q r h same at = subst (λ (x : Cursor). Reads behind x (Parted w r.types.items r.lacks_first r.length)) (sym at) (subst (λ (p : Parts). Reads behind f (Parted w p.types.items p.lacks_first p.length)) (sym same) h)
