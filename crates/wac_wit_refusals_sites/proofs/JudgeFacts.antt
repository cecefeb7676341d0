-- Scopes that the judge knows.
use Rattle.std.proofs.Common.{◌≡◌, ℕ, ◌<◌, List, length, get_or, subst, ◌∙◌, Some, refl, sym, ap}
use Rattle.wac_wit_refusals_sites.specs.Judging.{Judges}
use Rattle.wac_wit_refusals_sites.specs.declared.judge.Judge.{Judge}
use Rattle.wac_wit_scopes.specs.Scopes.{IsKnownScope, scope_syntax}
use Rattle.wac_wit_scopes.specs.WitSources.{IsScopeAt, WitSources}
use Rattle.wac_wit_scopes.specs.declared.scopes.ScopeItems.{ScopeItems}
use Rattle.std.specs.Prelude.{slice_get}
use Rattle.std.proofs.lemmas.Option.{slice_get_read}

-- an element that is read from the same list
pub read_item : {A : Type 0} (xs ys : List A) (i : ℕ) (x : A) → ys ≡ xs → i < length ys → x ≡ get_or ys i x → slice_get xs i ≡ Some x
read_item xs ys i x same within at = ap (λ l. slice_get l i) (sym same) ∙ slice_get_read ys (length ys) i x refl within at

pub known_scope : (of : WitSources) (j : Judge) (ws : List ScopeItems) (i : ℕ) (w : ScopeItems) → Judges of j → ws ≡ j.scopes.items → i < length ws → w ≡ get_or ws i w → IsKnownScope of w
known_scope of j ws i w knows same within at = knows.known i w (read_item j.scopes.items ws i w same within at)

pub scope_at : (of : WitSources) (j : Judge) (ws : List ScopeItems) (i : ℕ) (w : ScopeItems) (file : ℕ) → Judges of j → ws ≡ j.scopes.items → i < length ws → w ≡ get_or ws i w → w.file ≡ file → IsScopeAt of file (scope_syntax w)
scope_at of j ws i w file knows same within at is = subst (λ (f : ℕ). IsScopeAt of f (scope_syntax w)) is (known_scope of j ws i w knows same within at).in_file
