-- What of a file is left to be read.
use Rattle.std.proofs.Common.{◌≡◌, ◌≢◌, ◌⊎◌, ℕ, false, codes, Option, Some, None, Ok, Err, inl, inr, refl, sym, ap, ◌∙◌, subst, arith}
use Rattle.wac_model.specs.Text.{Text}
use Rattle.wac_wit_syntax.specs.Behind.{HasNoGate, IsDeclOf, IsTopUseRest, TopRest}
use Rattle.wac_wit_syntax.specs.Completing.{AnyOf, Completes, IsReadable, NotBefore, NotBeforeWord}
use Rattle.wac_wit_syntax.specs.Cursors.{source}
use Rattle.wac_wit_syntax.specs.Documents.{IsTopItem}
use Rattle.wac_wit_syntax.specs.Gates.{IsGates}
use Rattle.wac_wit_syntax.specs.Gates as gates
use Rattle.wac_wit_syntax.specs.Interfaces.{IsAlias, IsInterfaceItem}
use Rattle.wac_wit_syntax.specs.Productions.{◌▸◌, IsKind, SaysWord, Source, token_at}
use Rattle.wac_wit_syntax.specs.Worlds.{IsWorldItem}
use Rattle.wac_wit_syntax.specs.declared.cursor.Cursor.{Cursor}
use Rattle.wac_wit_syntax.specs.declared.error.Fault.{Fault}
use Rattle.wac_wit_syntax.specs.declared.error.Fault.TheVariants.{Memory}
use Rattle.wac_wit_syntax.specs.declared.token.TokenKind.TheVariants.{At, Semicolon, Word}
use Rattle.wac_wit_syntax.specs.declared.tree.Gates.{Gates}
use Rattle.wac_wit_syntax.specs.declared.tree.Ident.{Ident}
use Rattle.wac_wit_syntax.specs.declared.tree.TopItem.{TopItem}
use Rattle.wac_wit_syntax.specs.declared.tree.TopItem.TheVariants as top
use Rattle.wac_wit_syntax.proofs.ItemsLeft.{apart, gates_before, word_no_at}
use Rattle.wac_wit_syntax.proofs.WorldsLeft.{PathTokens, path_before}

alias_next : (a : Option Ident) (s : Source) (i j : ℕ) → IsAlias false a s i j → (token_at s j).kind ≡ Semicolon → ((token_at s i).kind ≡ Semicolon) ⊎ ((token_at s i).kind ≡ Word)
alias_next None s i j h ends = inl (subst (λ k. (token_at s k).kind ≡ Semicolon) h ends)
alias_next (Some id) s i j h ends = inr h.1.0.0

no_as : (s : Source) (j : ℕ) → (token_at s j).kind ≡ Semicolon → SaysWord s j (codes "as") → ⊥
no_as s j e says = let f : Semicolon ≡ Word = sym e ∙ says.0 in cc

pub top_use_parts : (s : Source) (i j : ℕ) → IsTopUseRest s i j → (IsKind Word ▸ PathTokens ▸ NotBeforeWord (codes "as") (AnyOf (IsAlias false)) ▸ IsKind Semicolon) s i j
top_use_parts s i j h = by (alias_next h.2.2.1.0 s h.2.0 h.2.2.0 h.2.2.1.1 h.2.2.2.0)
  where
    by : ((token_at s h.2.0).kind ≡ Semicolon) ⊎ ((token_at s h.2.0).kind ≡ Word) → (IsKind Word ▸ PathTokens ▸ NotBeforeWord (codes "as") (AnyOf (IsAlias false)) ▸ IsKind Semicolon) s i j
    by (inl e) = (h.0, h.1, (h.2.0, path_before s h.0 h.2.0 Semicolon h.2.1 e (λ f. cc) (λ f. cc), (h.2.2.0, (h.2.2.1, no_as s h.2.2.0 h.2.2.2.0), h.2.2.2)))
    by (inr e) = (h.0, h.1, (h.2.0, path_before s h.0 h.2.0 Word h.2.1 e (λ f. cc) (λ f. cc), (h.2.2.0, (h.2.2.1, no_as s h.2.2.0 h.2.2.2.0), h.2.2.2)))

-- ---- behind the attributes of an item of a file

pub top_interface : (g : Gates) (s : Source) (i j : ℕ) → SaysWord s i (codes "interface") → TopRest g s i j → IsDeclOf IsInterfaceItem s i j
top_interface g s i j says (inl h) = h.1
top_interface g s i j says (inr (inl h)) = absurd (apart (codes "interface") (codes "world") s i (λ e. absurd (omega (arith, e))) says h.0)
top_interface g s i j says (inr (inr h)) = absurd (apart (codes "interface") (codes "use") s i (λ e. absurd (omega (arith, e))) says h.0)

pub top_world : (g : Gates) (s : Source) (i j : ℕ) → SaysWord s i (codes "world") → TopRest g s i j → IsDeclOf IsWorldItem s i j
top_world g s i j says (inl h) = absurd (apart (codes "world") (codes "interface") s i (λ e. absurd (omega (arith, e))) says h.0)
top_world g s i j says (inr (inl h)) = h.1
top_world g s i j says (inr (inr h)) = absurd (apart (codes "world") (codes "use") s i (λ e. absurd (omega (arith, e))) says h.0)

pub top_use : (g : Gates) (s : Source) (i j : ℕ) → SaysWord s i (codes "use") → TopRest g s i j → HasNoGate g × IsTopUseRest s i j
top_use g s i j says (inl h) = absurd (apart (codes "use") (codes "interface") s i (λ e. absurd (omega (arith, e))) says h.0)
top_use g s i j says (inr (inl h)) = absurd (apart (codes "use") (codes "world") s i (λ e. absurd (omega (arith, e))) says h.0)
top_use g s i j says (inr (inr h)) = (h.1, h.2)

pub top_none : (g : Gates) (s : Source) (i j : ℕ) (text : Text) → ((v : Text) → SaysWord s i v → text ≡ v) → text ≢ codes "interface" → text ≢ codes "world" → text ≢ codes "use" → TopRest g s i j → ⊥
top_none g s i j text is a b c (inl h) = a (is (codes "interface") h.0)
top_none g s i j text is a b c (inr (inl h)) = b (is (codes "world") h.0)
top_none g s i j text is a b c (inr (inr h)) = c (is (codes "use") h.0)

pub top_no_package : (g : Gates) (s : Source) (i j : ℕ) → SaysWord s i (codes "package") → TopRest g s i j → ⊥
top_no_package g s i j says (inl h) = apart (codes "package") (codes "interface") s i (λ e. absurd (omega (arith, e))) says h.0
top_no_package g s i j says (inr (inl h)) = apart (codes "package") (codes "world") s i (λ e. absurd (omega (arith, e))) says h.0
top_no_package g s i j says (inr (inr h)) = apart (codes "package") (codes "use") s i (λ e. absurd (omega (arith, e))) says h.0

-- ---- an item of a file

-- no attributes
pub bare : (s : Source) (i : ℕ) → AnyOf IsGates s i i
bare s i = (record { docs = (token_at s i).docs; since = None; unstable = None; deprecated = None }, (gates.none, refl, inl refl))

-- the attributes, and the place behind them
pub gates_ahead : (x : TopItem) (s : Source) (i j : ℕ) → IsTopItem x s i j → (k : ℕ) × NotBefore At (AnyOf IsGates) s i k
gates_ahead (top.Use u) s i j h = (i, (bare s i, word_no_at s (codes "use") i h.1.0))
gates_ahead (top.Interface d) s i j h = (h.0, gates_before s d.gates i h.0 h.1 (word_no_at s (codes "interface") h.0 h.2.1.0))
gates_ahead (top.World d) s i j h = (h.0, gates_before s d.gates i h.0 h.1 (word_no_at s (codes "world") h.0 h.2.1.0))

rest_at : (x : TopItem) (g : Gates) (s : Source) (i j : ℕ) → (h : IsTopItem x s i j) → ((token_at s i).kind ≢ At → HasNoGate g) → TopRest g s (gates_ahead x s i j h).0 j
unfolding gates_ahead
rest_at (top.Use u) g s i j h none = inr (inr (h.1.0, none (word_no_at s (codes "use") i h.1.0), (h.0, (h.1.0.0, h.1.1), (h.2.0, (u.path, h.2.1), (h.2.2.0, (u.alias, h.2.2.1), h.2.2.2)))))
rest_at (top.Interface d) g s i j h none = let p = h.2 in inl (p.1.0, (p.0, (p.1.0.0, p.1.1), (p.2.0, (d.name, p.2.1), (d.items.items, p.2.2))))
rest_at (top.World d) g s i j h none = let p = h.2 in inr (inl (p.1.0, (p.0, (p.1.0.0, p.1.1), (p.2.0, (d.name, p.2.1), (d.items.items, p.2.2)))))

-- the attributes are read, and what stands behind them is left
pub record IsRestRead (c d : Cursor) (g : Gates) (j : ℕ) : Type 0 where
  pub place : ℕ
  pub same : d ≡ record c { next = place }
  pub rest : TopRest g (source d) d.next j

pub rest_read : {T : Type 0} {v : T} (c d : Cursor) (g : Gates) (j : ℕ) → IsReadable (source c) → AnyOf IsTopItem (source c) c.next j → Completes c d (Ok v) (NotBefore At (AnyOf IsGates)) → ((token_at (source c) c.next).kind ≢ At → HasNoGate g) → IsRestRead c d g j
rest_read {T} {v} c d g j cut p reads none =
    let a = gates_ahead p.0 (source c) c.next j p.1 in
    let at : d ≡ record c { next = a.0 } = (reads.ends cut a.0 a.1).ok in
    let place : d.next ≡ a.0 = ap (λ (x : Cursor). x.next) at in
    let there : TopRest g (source c) a.0 j = rest_at p.0 g (source c) c.next j p.1 none in
    record { place = a.0; same = at; rest = subst (λ (s : Source). TopRest g s d.next j) (sym (ap source at)) (subst (λ m. TopRest g (source c) m j) (sym place) there) }

pub gates_memory : {T : Type 0} {x : Fault} (c d : Cursor) (j : ℕ) → IsReadable (source c) → AnyOf IsTopItem (source c) c.next j → Completes {T = T} c d (Err x) (NotBefore At (AnyOf IsGates)) → x ≡ Memory
gates_memory {T} {x} c d j cut p reads = let a = gates_ahead p.0 (source c) c.next j p.1 in (reads.ends cut a.0 a.1).memory
