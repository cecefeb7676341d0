-- One attribute more.
use Rattle.std.proofs.Common.{◌≡◌, ℕ, Bool, true, false, codes, Option, Some, None, refl, sym, subst}
use Rattle.wac_wit_syntax.specs.Cursors.{Reads, ReadsBehind, source}
use Rattle.wac_wit_syntax.specs.Gates.{AreExclusive, AreGates, IsGateField, IsGates, none, since, unstable, deprecated}
use Rattle.wac_wit_syntax.specs.Productions.{◌▸◌, IsKind, Production, SaysWord, Source, token_at}
use Rattle.wac_wit_syntax.specs.declared.cursor.Cursor.{Cursor}
use Rattle.wac_wit_syntax.specs.declared.token.TokenKind.TheVariants.{At, CloseParen, OpenParen}
use Rattle.wac_wit_syntax.specs.declared.tree.Gate.{Gate}
use Rattle.wac_wit_syntax.specs.declared.tree.Gates.{Gates}
use Rattle.wac_wit_syntax.proofs.Covering.{reads_as, reads_nothing, reads_then}

-- these attributes, as a production
abbrev pub These : Option Gate → Option Gate → Option Gate → Production
These n u d = λ s i j. AreGates s n u d i j

-- what is read behind the `@` of an attribute
abbrev pub Put : Bool → Option Gate → Cursor → Cursor → Type 0
Put is_feature gate c d = (g : Gate) × (gate ≡ Some g) × ReadsBehind c d (IsKind OpenParen ▸ IsGateField is_feature g ▸ IsKind CloseParen)

pub no_gates : (c : Cursor) → Reads c c (These None None None)
no_gates c = reads_as (reads_nothing c c refl) (λ s i j e. subst (λ k. AreGates s None None None i k) (sym e) none)

pub no_tokens : (s : Source) (i j : ℕ) → AreGates s None None None i j → j ≡ i
no_tokens s i j none = refl

pub one_since : (first at c d : Cursor) (m n u p : Option Gate) → m ≡ None → Put false n c d → SaysWord (source c) c.next (codes "since") → Reads first at (These m u p) → Reads at c (IsKind At) → Reads first d (These n u p)
one_since first at c d m n u p e put says h a =
    let before = subst (λ x. Reads first at (These x u p)) e h in
    let all : Reads first d (These (Some put.0) u p) = reads_as (reads_then before (reads_then a (put.2 (codes "since") says))) (λ s i j r. since r.1 r.2) in
    subst (λ x. Reads first d (These x u p)) (sym put.1) all

pub one_unstable : (first at c d : Cursor) (m n o p : Option Gate) → m ≡ None → Put true n c d → SaysWord (source c) c.next (codes "unstable") → Reads first at (These o m p) → Reads at c (IsKind At) → Reads first d (These o n p)
one_unstable first at c d m n o p e put says h a =
    let before = subst (λ x. Reads first at (These o x p)) e h in
    let all : Reads first d (These o (Some put.0) p) = reads_as (reads_then before (reads_then a (put.2 (codes "unstable") says))) (λ s i j r. unstable r.1 r.2) in
    subst (λ x. Reads first d (These o x p)) (sym put.1) all

pub one_deprecated : (first at c d : Cursor) (m n o u : Option Gate) → m ≡ None → Put false n c d → SaysWord (source c) c.next (codes "deprecated") → Reads first at (These o u m) → Reads at c (IsKind At) → Reads first d (These o u n)
one_deprecated first at c d m n o u e put says h a =
    let before = subst (λ x. Reads first at (These o u x)) e h in
    let all : Reads first d (These o u (Some put.0)) = reads_as (reads_then before (reads_then a (put.2 (codes "deprecated") says))) (λ s i j r. deprecated r.1 r.2) in
    subst (λ x. Reads first d (These o u x)) (sym put.1) all

-- these are all, with the documentation before the first token
pub all_gates : (c d : Cursor) (g : Gates) → Reads c d (These g.since g.unstable g.deprecated) → g.docs ≡ (token_at (source c) c.next).docs → AreExclusive g → Reads c d (IsGates g)
all_gates c d g h docs only = record {
  quiet = h.quiet;
  same = h.same;
  read = λ q. (h.read q, docs, only);
}
