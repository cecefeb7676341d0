use Rattle.std.proofs.Common.{◌∙◌, ap, subst, sym}
use Rattle.std.specs.Prelude.{Vec}
use Rattle.std.specs.declared.alloc.Global.{Global}
use Rattle.std.proofs.lemmas.Result.{IfOk-weaker}
use Rattle.wac_wit_scopes.specs.Scopes.{scope_syntax}
use Rattle.wac_wit_syntax.specs.declared.tree.WorldItem.{WorldItem}
use Rattle.wac_wit_refusals_worlds.specs.NeededSteps.{AreGiven}
use Rattle.wac_wit_refusals_worlds.specs.NeededTwice.{GivesExport, by_itself}
use Rattle.wac_wit_refusals_worlds.specs.declared.exports.PlacedExport.{PlacedExport}
use Rattle.wac_wit_refusals_sites.proofs.TypeFacts.{kept_push, none_among}
use Rattle.wac_wit_refusals_worlds.proofs.exports.exports_given.Goals.{in-Some-export_there+in_ok-push, in_default-export_there}
use Rattle.wac_wit_refusals_worlds.proofs.exports.exports_given.Goals as goal

pub returns-in-Some : goal.returns-in-Some
returns-in-Some c = IfOk-weaker c.exports_brought.result _ _ (λ xs all of knows.
    let is = c.in-Some.ensures.some of knows in
    subst (λ (t : WorldItem). AreGiven of (scope_syntax c.args.scope.now) t xs.items) (sym is.is) (all of knows is.there)) c.exports_brought.ensures

pub returns : goal.returns
returns c of knows =
    let w = scope_syntax c.args.scope.now in
    let none = none_among (λ (x : PlacedExport). GivesExport of w c.args.item.now (scope_syntax x.scope) x.item.now) c.new-exports.result.items c.new-exports.ensures.items in
    elim c.match-export_there.branch [
      | in-Some-export_there+in_ok-push m ↦
          let is = m.in-Some-export_there.ensures of knows in
          kept_push (λ (x : PlacedExport). GivesExport of w c.args.item.now (scope_syntax x.scope) x.item.now) c.new-exports.result.items c.match-export_there.exports.items _ (ap (λ (v : Vec PlacedExport Global). v.items) m.exports-is ∙ m.in_ok-push.ensures.items) none
          (subst (λ (t : WorldItem). GivesExport of w t w m.in-Some-export_there.export.now) (sym is.is) (by_itself m.in-Some-export_there.export.now is.there))
      | in_default-export_there m ↦ subst (λ (v : Vec PlacedExport Global). AreGiven of w c.args.item.now v.items) (sym m.exports-is) none
    ]
