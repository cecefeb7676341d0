use Rattle.std.proofs.Common.{◌≡◌, ◌∙◌, Some, None, subst}
use Rattle.std.specs.HashMap.{get_by_text}
use Rattle.wac_types.specs.Pairs.{IsFound}
use Rattle.wac_types.specs.Text.{Text}
use Rattle.wac_wit_changes.proofs.Counterparts.{beside_by_name, beside_none, beside_on_track}
use Rattle.wac_wit_changes.proofs.Items.{copied_none}
use Rattle.wac_wit_changes.proofs.tracks.NewPackages.counterpart.Goals as goal

pub returns-in-Some : goal.returns-in-Some
returns-in-Some c = λ news knows.
    let found = subst (IsFound knows.pairs c.deref.result.now) c.in-Some.is (c.in_ok-index.ensures knows.pairs knows.stands) in
    beside_on_track news c.args.self.now c.args.old.now knows c.in-Some.index
    (subst (λ (t : Text). IsFound knows.pairs t (Some c.in-Some.index)) (c.deref.ensures ∙ c.in_ok-version.ensures) found)

pub returns-in-Some-get : goal.returns-in-Some-get
returns-in-Some-get c = λ news knows.
    let found = subst (IsFound knows.pairs c.deref.result.now) c.in_default.is (c.in_ok-index.ensures knows.pairs knows.stands) in
    beside_by_name news c.args.self.now c.args.old.now knows c.in-Some-get.index.now
    (subst (λ (t : Text). IsFound knows.pairs t None) (c.deref.ensures ∙ c.in_ok-version.ensures) found)

pub returns : goal.returns
returns c = λ news knows.
    beside_none news c.args.self.now c.args.old.now knows
    (subst (λ (t : Text). get_by_text c.args.self.now.names t ≡ None) c.as_str.ensures.value (copied_none c.get.result _ c.get.ensures.value c.in-None.is))
