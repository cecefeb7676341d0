-- Each turn takes in the document of one more file.
use Rattle.std.proofs.Common.{◌≡◌, ℕ, ◌+◌, ◌<◌, List, [], ◌∷◌, ◌++◌, length, get_or, take, string_bytes, Vec, refl, sym, ◌∙◌, ap, subst}
use Rattle.std.specs.declared.alloc.Global.{Global}
use Rattle.std.proofs.lemmas.List.{take_more}
use Rattle.std.proofs.lemmas.Slice.Zip.{all_zipped_more}
use Rattle.std.proofs.lemmas.Option.{slice_get_read}
use Rattle.wac_wit.proofs.Misread.{misread_of}
use Rattle.wac_wit_refusals.specs.Reasons.{AllRefusedFor}
use Rattle.wac_wit_syntax.specs.Faults.{LiesIn}
use Rattle.wac_wit_syntax.specs.declared.error.SyntaxError.TheVariants.{Memory}
use Rattle.wac_wit_names.specs.declared.error.WitRefusal.{WitRefusal}
use Rattle.wac_wit_names.specs.declared.sources.SourceFile.{SourceFile}
use Rattle.wac_wit_syntax.specs.Documents.{IsShallowText, Says}
use Rattle.wac_wit_syntax.specs.declared.tree.Document.{Document}
use Rattle.wac_wit_scopes.specs.Parsed.{AreParsed}
use Rattle.wac_wit.proofs.reading.parsed.Goals as goal
use Rattle.wac_wit.proofs.reading.parsed.Goals.{in-Ok+in_ok-push-in-Ok, in-Err+in_ok-push_misread-in-Err}

AreParsed-push : (fs : List SourceFile) (ds : List Document) (f : SourceFile) (d : Document) → AreParsed fs ds → Says (string_bytes f.text) d → AreParsed (fs ++ f ∷ []) (ds ++ d ∷ [])
AreParsed-push fs ds f d h s = all_zipped_more (λ (f : SourceFile) (d : Document). Says (string_bytes f.text) d) fs ds f d h s

parsed_more : (fs : List SourceFile) (ds : List Document) (i : ℕ) (f : SourceFile) (d : Document) → i < length fs → f ≡ get_or fs i f → AreParsed (take i fs) ds → Says (string_bytes f.text) d → AreParsed (take (i + 1) fs) (ds ++ d ∷ [])
parsed_more fs ds i f d below at h s =
    let one_more : take (i + 1) fs ≡ take i fs ++ f ∷ [] = take_more fs i f below ∙ ap (λ x. take i fs ++ x ∷ []) (sym at) in
    subst (λ (xs : List SourceFile). AreParsed xs (ds ++ d ∷ [])) (sym one_more) (AreParsed-push (take i fs) ds f d h s)

pub loop-index-preserved : goal.loop-index-preserved
loop-index-preserved c =
    let file = c.index-files-index.result in
    let file_at = slice_get_read c.args.files.now _ c.loop-index.index file refl c.loop-index-test.true c.index-files-index.is in
    elim c.match-parse.branch [
      | in-Ok+in_ok-push-in-Ok w ↦ record {
        read = λ right.
            let before = c.loop-index.invariant.read (sym w.is_right-is ∙ right) in
            let says : Says (string_bytes file.text) w.in-Ok.document = subst (λ t. Says t w.in-Ok.document) c.deref.ensures w.in-Ok.ensures.read in
            let items : c.match-parse.documents.items ≡ c.loop-index.documents.items ++ w.in-Ok.document ∷ [] = ap (λ (v : Vec Document Global). v.items) w.documents-is ∙ w.in_ok-push-in-Ok.ensures.items in
            subst (λ ds. AreParsed (take (c.loop-index.index + 1) c.args.files.now) ds) (sym items)
            (parsed_more c.args.files.now c.loop-index.documents.items c.loop-index.index file w.in-Ok.document c.loop-index-test.true c.index-files-index.is before says);
        refused = λ features old. subst (λ (v : Vec WitRefusal Global). AllRefusedFor c.args.files.now features v.items) (sym w.refusals-is) (c.loop-index.invariant.refused features old);
      }
      | in-Err+in_ok-push_misread-in-Err w ↦ record {
        read = λ right. let wrong = w.is_right-is in absurd (cc);
        refused = λ features old. subst (λ (v : Vec WitRefusal Global). AllRefusedFor c.args.files.now features v.items) (sym w.refusals-is)
            (w.in_ok-push_misread-in-Err.ensures c.args.files.now features
            (misread_of c.args.files.now c.loop-index.index file w.in-Err.error file_at (subst (λ t. (d : Document) → Says t d → IsShallowText t → w.in-Err.error ≡ Memory) c.deref.ensures w.in-Err.ensures.complete) (subst (λ t. LiesIn t w.in-Err.error) c.deref.ensures w.in-Err.ensures.places))
            (c.loop-index.invariant.refused features old));
      }
    ]
