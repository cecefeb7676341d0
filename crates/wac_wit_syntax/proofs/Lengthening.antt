-- Each thing that stands in a list or a block takes a token, and begins with a name or an attribute.
use Rattle.std.proofs.Common.{◌≡◌, ◌⊎◌, ℕ, ◌<◌, ◌≤◌, Bool, true, false, codes, List, [], ◌∷◌, Option, Some, None, inl, inr, refl, subst, arith}
use Rattle.wac_model.specs.Text.{Text}
use Rattle.wac_wit_syntax.specs.Completing.{AllBegin, Begins}
use Rattle.wac_wit_syntax.specs.Functions.{IsFieldDecl, IsReturns, IsSignature, MayBeAsync}
use Rattle.wac_wit_syntax.specs.Gates.{AreGates, IsGate, IsGates, deprecated, none, since, unstable}
use Rattle.wac_wit_syntax.specs.GateParts.{IsGateRest}
use Rattle.wac_wit_syntax.specs.Lists.{InOrder, IsBlock, MayBeComma, Separated}
use Rattle.wac_wit_syntax.specs.Productions.{◌▸◌, IsKind, Production, Source, token_at}
use Rattle.wac_wit_syntax.specs.Typedefs.{IsMethod, IsMethodBody}
use Rattle.wac_wit_syntax.specs.declared.token.TokenKind.{TokenKind}
use Rattle.wac_wit_syntax.specs.declared.token.TokenKind.TheVariants.{At}
use Rattle.wac_wit_syntax.specs.declared.tree.Gate.{Gate}
use Rattle.wac_wit_syntax.specs.declared.tree.Gates.{Gates}
use Rattle.wac_wit_syntax.specs.declared.tree.Method.{Method}
use Rattle.wac_wit_syntax.specs.declared.tree.MethodKind.{MethodKind}
use Rattle.wac_wit_syntax.specs.declared.tree.MethodKind.TheVariants as kind
use Rattle.wac_wit_syntax.specs.declared.tree.Signature.{Signature}
use Rattle.wac_wit_syntax.specs.declared.tree.TypeExpr.{TypeExpr}
use Rattle.wac_wit_syntax.proofs.GatesLeft.{gate_rest, rest_longer}
use Rattle.wac_wit_syntax.proofs.ItemsLeft.{fields_begin, name_begin}
use Rattle.wac_wit_syntax.proofs.TypesLeft.{type_longer}

-- ---- lists and blocks

pub separated_longer : {X : Type 0} (P : X → Production) → AllBegin P → (xs : List X) (s : Source) (i j : ℕ) → Separated P xs s i j → i ≤ j
separated_longer P b [] s i j h = omega arith
separated_longer P b (x ∷ []) s i j h = by (b x s i h.0 h.1).0 h.2
  where
    by : i < h.0 → MayBeComma s h.0 j → i ≤ j
    by a (inl e) = omega arith
    by a (inr c) = let e = c.1 in omega arith
separated_longer P b (x ∷ y ∷ ys) s i j h = let a = (b x s i h.0 h.1).0 in let c = h.2.1.1 in let d = separated_longer P b (y ∷ ys) s h.2.0 j h.2.2 in omega arith

pub listed_longer : {X : Type 0} (P : X → Production) (a z : TokenKind) → AllBegin P → (xs : List X) (s : Source) (i j : ℕ) → (IsKind a ▸ Separated P xs ▸ IsKind z) s i j → i < j
listed_longer P a z b xs s i j h = let e = h.1.1 in let f = separated_longer P b xs s h.0 h.2.0 h.2.1 in let g = h.2.2.1 in omega arith

pub in_order_longer : {X : Type 0} (P : X → Production) → AllBegin P → (xs : List X) (s : Source) (i j : ℕ) → InOrder P xs s i j → i ≤ j
in_order_longer P b [] s i j h = omega arith
in_order_longer P b (x ∷ xs) s i j h = let a = (b x s i h.0 h.1).0 in let c = in_order_longer P b xs s h.0 j h.2 in omega arith

pub block_longer : {X : Type 0} (P : X → Production) → AllBegin P → (xs : List X) (s : Source) (i j : ℕ) → IsBlock P xs s i j → i < j
block_longer P b xs s i j h = let e = h.1.1 in let f = in_order_longer P b xs s h.0 h.2.0 h.2.1 in let g = h.2.2.1 in omega arith

-- ---- functions

pub returns_longer : (r : Option TypeExpr) (s : Source) (i j : ℕ) → IsReturns r s i j → i ≤ j
returns_longer None s i j h = omega arith
returns_longer (Some t) s i j h = let a = h.1.1 in let b = type_longer s t h.0 j h.2 in omega arith

async_longer : (b : Bool) (s : Source) (i j : ℕ) → MayBeAsync b s i j → i ≤ j
async_longer true s i j h = let a = h.1 in omega arith
async_longer false s i j h = omega arith

pub signature_longer : (f : Signature) (s : Source) (i j : ℕ) → IsSignature f s i j → i < j
signature_longer f s i j h =
    let p = h.1.0 in
    let a = async_longer f.is_async s i p.0 p.1 in
    let b = p.2.1.1 in
    let c = listed_longer IsFieldDecl _ _ fields_begin f.params.items s p.2.0 p.2.2.0 p.2.2.1 in
    let d = returns_longer f.returns s p.2.2.0 h.0 p.2.2.2 in
    let e = h.2.1 in
    omega arith

-- ---- attributes

behind_gate : (s : Source) (w : Text) (f : Bool) (g : Gate) (i k j : ℕ) → (i ≤ k) × ((k ≡ i) ⊎ ((token_at s i).kind ≡ At)) → IsGate w f g s k j → (i ≤ j) × ((j ≡ i) ⊎ ((token_at s i).kind ≡ At))
behind_gate s w f g i k j h b = (let m = r.1.1 in let l = rest_longer w f s r.0 j r.2 in let n = h.0 in omega arith, inr (by h.1))
  where
    r : (IsKind At ▸ IsGateRest w f) s k j
    r = gate_rest w f g s k j b

    by : (k ≡ i) ⊎ ((token_at s i).kind ≡ At) → (token_at s i).kind ≡ At
    by (inl e) = subst (λ m. (token_at s m).kind ≡ At) e r.1.0
    by (inr x) = x

gates_longer : (s : Source) (n u d : Option Gate) (i j : ℕ) → AreGates s n u d i j → (i ≤ j) × ((j ≡ i) ⊎ ((token_at s i).kind ≡ At))
gates_longer s n u d i j none = (omega arith, inl refl)
gates_longer s (Some g) u d i j (since {k = k} a b) = behind_gate s (codes "since") false g i k j (gates_longer s None u d i k a) b
gates_longer s n (Some g) d i j (unstable {k = k} a b) = behind_gate s (codes "unstable") true g i k j (gates_longer s n None d i k a) b
gates_longer s n u (Some g) i j (deprecated {k = k} a b) = behind_gate s (codes "deprecated") false g i k j (gates_longer s n u None i k a) b

-- what attributes stand before
pub gated : (s : Source) (g : Gates) (i k j : ℕ) → IsGates g s i k → Begins s k j → Begins s i j
gated s g i k j h b = by (gates_longer s g.since g.unstable g.deprecated i k h.0)
  where
    by : (i ≤ k) × ((k ≡ i) ⊎ ((token_at s i).kind ≡ At)) → Begins s i j
    by (m, inl e) = subst (λ n. Begins s n j) e b
    by (m, inr e) = (let l = b.0 in omega arith, inr (inr e))

-- ---- methods

method_begins : (k : MethodKind) (m : Method) (s : Source) (i j : ℕ) → IsMethodBody k m s i j → Begins s i j
method_begins kind.Method m s i j h = let p = h.0 in name_begin s m.name i p.0 j p.1 (let a = p.2.1.1 in let b = signature_longer m.signature s p.2.0 j p.2.2 in omega arith)
method_begins kind.Static m s i j h =
    let p = h.0 in
    name_begin s m.name i p.0 j p.1 (let a = p.2.1.1 in let c = p.2.2.1.1 in let b = signature_longer m.signature s p.2.2.0 j p.2.2.2 in omega arith)
method_begins kind.Constructor m s i j h =
    let p = h.0 in
    let q = p.1.0 in
    let a = q.1.0.1 in
    let c = listed_longer IsFieldDecl _ _ fields_begin m.signature.params.items s q.0 q.2.0 q.2.1 in
    let d = returns_longer m.signature.returns s q.2.0 p.0 q.2.2 in
    let e = p.2.1 in
    (omega arith, inl q.1.0.0.0)

pub methods_begin : AllBegin IsMethod
methods_begin m s i j h = gated s m.gates i h.0 j h.1 (method_begins m.kind m s h.0 j h.2)
