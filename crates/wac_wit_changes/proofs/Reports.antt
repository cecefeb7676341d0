-- What is said of an old package, and of all of them.
use Rattle.std.proofs.Common.{◌≡◌, ℕ, ◌+◌, ◌<◌, List, [], ◌∷◌, ◌++◌, length, take, get_or, IfOk, Result, Ok, Err, string_bytes, sym, subst, ap, ◌∙◌, inr, add-one}
use Rattle.std.proofs.Math.Seq.{take-suc}
use Rattle.std.proofs.lemmas.List.{map-append}
use Rattle.std.specs.List.{AllZip}
use Rattle.wac_component.specs.Collection.{Collection}
use Rattle.wac_wit.specs.declared.packages.WitPackage.{WitPackage}
use Rattle.wac_wit_changes.specs.Comparing.{IsCounterpart, IsReportOfBoth, IsReportOn}
use Rattle.wac_wit_changes.specs.Sides.{olds_of}
use Rattle.wac_wit_changes.specs.declared.moves.Move.{Move}
use Rattle.wac_wit_changes.specs.declared.report.PackageReport.{PackageReport}
use Rattle.wac_wit_changes.proofs.Pairwise.{AllZip-one_more}

-- a report on both packages is one on the old one, beside the new one that it is compared with
pub report_beside : {E : Type 0} (types : Collection) (news : List WitPackage) (old new : WitPackage) (r : Result PackageReport E)
    → IsCounterpart news old new → IfOk r (λ x. IsReportOfBoth types old new x × (string_bytes x.name ≡ string_bytes old.name)) → IfOk r (IsReportOn types news old)
report_beside types news old new (Ok x) compared both = record { name = both.1; about = inr (new, compared, both.0) }
report_beside types news old new (Err e) compared both = tt

-- the next of a list
pub take-next : {A : Type 0} (xs : List A) (i : ℕ) (x : A) → i < length xs → x ≡ get_or xs i x → take (i + 1) xs ≡ take i xs ++ x ∷ []
take-next xs i x h e = rw add-one (take-suc xs i x h ∙ ap (λ y. take i xs ++ y ∷ []) (sym e))

-- what belongs to one more old package
pub olds_more : (moves more : List Move) (m : Move) (olds : List WitPackage) (i : ℕ) (old : WitPackage)
    → olds_of moves ≡ take i olds → more ≡ moves ++ m ∷ [] → m.old.now ≡ old → i < length olds → old ≡ get_or olds i old
    → olds_of more ≡ take (i + 1) olds
olds_more moves more m olds i old done e is h at =
    ap olds_of e ∙ map-append (λ (n : Move). n.old.now) moves (m ∷ []) ∙ ap (λ ps. ps ++ m.old.now ∷ []) done ∙ ap (λ p. take i olds ++ p ∷ []) is ∙ sym (take-next olds i old h at)

-- one more report
pub reports_more : (R : WitPackage → PackageReport → Type 0) (moves : List Move) (i : ℕ) (m : Move) (reports more : List PackageReport) (r : PackageReport)
    → AllZip R (olds_of (take i moves)) reports → R m.old.now r → more ≡ reports ++ r ∷ [] → i < length moves → m ≡ get_or moves i m
    → AllZip R (olds_of (take (i + 1) moves)) more
reports_more R moves i m reports more r done about e h at =
    subst (λ ps. AllZip R ps more) (sym (ap olds_of (take-next moves i m h at) ∙ map-append (λ (n : Move). n.old.now) (take i moves) (m ∷ [])))
    (subst (AllZip R (olds_of (take i moves) ++ m.old.now ∷ [])) (sym e) (AllZip-one_more R (olds_of (take i moves)) reports m.old.now r done about))
