use Rattle.std.proofs.Common.{◌≡◌, ◌∙◌, false, sym, ap}
use Rattle.indexmap.specs.IndexMap.{get_by_text}
use Rattle.wac_wit_scopes.proofs.ScopeFacts.{one_version}
use Rattle.wac_wit_scopes.proofs.packages.is_alone.Goals as goal
use Rattle.wac_wit_scopes.proofs.packages.is_alone.Goals.{then-of, else-of}

pub returns-in-Some : goal.returns-in-Some
returns-in-Some c is n h same =
    let known = get_by_text c.args.versions.now in
    let at = ap known (sym (c.as_str.ensures.value ∙ c.in_ok-name.ensures)) ∙ sym c.in-Some.ensures.value in
    elim c.if-of.branch [
      | then-of w ↦ one_version known n c.args.package.now c.in-Some.of.now at w.if-of.true (w.is_same_version.ensures.0 (sym w.result-is ∙ is)) h same
      | else-of w ↦ let none : c.if-of.result ≡ false = w.result-is ∙ w.if-of.false in absurd (cc)
    ]
