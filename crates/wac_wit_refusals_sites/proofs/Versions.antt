-- Packages in several versions.
use Rattle.std.proofs.Common.{◌∙◌, sym}
use Rattle.wac_wit_scopes.specs.WitSources.{HaveOneName, IsOnlyVersion, IsScopeOf, PackageId, ScopeSyntax, WitSources}
use Rattle.wac_wit_refusals_sites.specs.Leading.{HasOtherVersion}

same_name : (p q n : PackageId) → HaveOneName p n → HaveOneName q n → HaveOneName p q
same_name p q n left right = record { namespace = left.namespace ∙ sym right.namespace; name = left.name ∙ sym right.name }

through : (p q n : PackageId) → HaveOneName p q → HaveOneName q n → HaveOneName p n
through p q n left right = record { namespace = left.namespace ∙ right.namespace; name = left.name ∙ right.name }

-- a package isn't the only one of its name where another version of one of that name is there
pub two_versions : (of : WitSources) (w s : ScopeSyntax) (n : PackageId) → IsOnlyVersion of w.package → IsScopeOf of s → HaveOneName s.package n → HaveOneName w.package n → HasOtherVersion of s.package → ⊥
two_versions of w s n only there s_named w_named h =
    let other = only h.other h.there (same_name h.other.package w.package n (through h.other.package s.package n h.one_name s_named) w_named) in
    let this = only s there (same_name s.package w.package n s_named w_named) in
    h.differs (other ∙ sym this)
