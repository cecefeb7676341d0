-- What is left of a path, of the name of a package and of what stands behind it.
use Rattle.std.proofs.Common.{◌≡◌, ◌≢◌, ℕ, Option, Some, None, inl, inr, refl, sym, subst, ◌∙◌}
use Rattle.wac_wit_syntax.specs.Completing.{AnyOf, NotBefore}
use Rattle.wac_wit_syntax.specs.Paths.{IsPackageName, IsPath, IsPathRest, IsPathWith, IsSuffix, IsVersion}
use Rattle.wac_wit_syntax.specs.Productions.{◌▸◌, IsKind, IsName, Production, Source, token_at}
use Rattle.wac_wit_syntax.specs.declared.token.TokenKind.TheVariants.{At, Colon, Slash}
use Rattle.wac_wit_syntax.specs.declared.tree.Gate.{Gate}
use Rattle.wac_wit_syntax.specs.declared.tree.PackageName.{PackageName}
use Rattle.wac_wit_syntax.specs.declared.tree.Path.{Path}

by_suffix : (s : Source) (i j : ℕ) (v : Option Gate) → (token_at s i).kind ≡ At → IsSuffix v s i j → (token_at s j).kind ≢ At → (IsKind At ▸ AnyOf IsVersion) s i j
by_suffix s i j (Some v) at h ends = (h.0, h.1, (v, h.2))
by_suffix s i j None at h ends = absurd (ends (subst (λ k. (token_at s k).kind ≡ At) (sym h) at))

pub suffixed : (s : Source) (i j : ℕ) → (token_at s i).kind ≡ At → NotBefore At (AnyOf IsSuffix) s i j → (IsKind At ▸ AnyOf IsVersion) s i j
suffixed s i j at p = by_suffix s i j p.0.0 at p.0.1 p.1

-- no colon stands before a suffix, if none stands behind it
no_colon : (s : Source) (i j : ℕ) (v : Option Gate) → IsSuffix v s i j → (token_at s j).kind ≢ Colon → (token_at s i).kind ≢ Colon
no_colon s i j None h ends = λ e. ends (subst (λ k. (token_at s k).kind ≡ Colon) (sym h) e)
no_colon s i j (Some v) h ends = λ e. (let f : At ≡ Colon = sym h.1.0 ∙ e in cc)

pub package_parts : (s : Source) (i j : ℕ) → NotBefore At (NotBefore Colon (AnyOf IsPackageName)) s i j
    → ((AnyOf IsName ▸ IsKind Colon) ▸ NotBefore Colon (AnyOf IsName) ▸ NotBefore At (AnyOf IsSuffix)) s i j
package_parts s i j p =
    let name : PackageName = p.0.0.0 in
    let h = p.0.0.1.0 in
    let first : AnyOf IsName s i h.0 = (name.namespace, h.1) in
    let second : AnyOf IsName s h.2.0 h.2.2.0 = (name.name, h.2.2.1) in
    let version : AnyOf IsSuffix s h.2.2.0 j = (name.version, h.2.2.2) in
    (h.2.0, (h.0, first, h.2.1), (h.2.2.0, (second, no_colon s h.2.2.0 j name.version h.2.2.2 p.0.1), (version, p.1)))

-- from the colon behind the first name on
abbrev pub AfterFirst : Production
AfterFirst = IsKind Colon ▸ NotBefore Colon (AnyOf IsName) ▸ IsKind Slash ▸ AnyOf IsName ▸ NotBefore At (AnyOf IsSuffix)

pub rest_parts : (s : Source) (i j : ℕ) → (token_at s i).kind ≡ Colon → NotBefore At (NotBefore Colon IsPathRest) s i j
    → AfterFirst s i j
rest_parts s i j colon p = by p.0.0
  where
    by : IsPathRest s i j → AfterFirst s i j
    by (inl e) = absurd (p.0.1 (subst (λ k. (token_at s k).kind ≡ Colon) (sym e) colon))
    by (inr h) = (h.0, h.1, (h.2.0, (h.2.1, λ e. (let f : Slash ≡ Colon = sym h.2.2.1.0 ∙ e in cc)), (h.2.2.0, h.2.2.1, (h.2.2.2.0, h.2.2.2.1, (h.2.2.2.2, p.1)))))

by_package : (s : Source) (i j : ℕ) (path : Path) (named : Option PackageName) → IsPathWith path named s i j → (AnyOf IsName ▸ IsPathRest) s i j
by_package s i j path None h = (j, (path.name, h), inl refl)
by_package s i j path (Some p) h =
    (h.1.0.0, (p.namespace, h.1.0.1), inr (h.1.0.2.0, h.1.0.2.1, (h.0, (p.name, h.1.0.2.2), (h.2.0, h.2.1, (h.2.2.0, (path.name, h.2.2.1), (p.version, h.2.2.2))))))

pub path_parts : (s : Source) (i j : ℕ) → NotBefore At (NotBefore Colon (AnyOf IsPath)) s i j → (AnyOf IsName ▸ NotBefore At (NotBefore Colon IsPathRest)) s i j
path_parts s i j p = let h = by_package s i j p.0.0.0 p.0.0.0.package p.0.0.1.0 in (h.0, h.1, ((h.2, p.0.1), p.1))
