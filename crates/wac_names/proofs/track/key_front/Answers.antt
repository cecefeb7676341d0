use Rattle.std.proofs.Common.{◌≡◌, arith, ◌≢◌}
use Rattle.semver.specs.Identifiers.{parts_of}
use Rattle.wac_names.proofs.Cuts.{cut_major, cut_minor, cuts_at, cuts_some, front_major, front_minor}
use Rattle.wac_names.proofs.track.key_front.Goals as goal

pub unwrap-requires : goal.unwrap-requires
unwrap-requires c = cuts_some _ _ _ (cut_major c.args.text.now (parts_of c.args.version.now) _ c.requires c.split_once.ensures.cases)

pub returns-then-version-ne0 : goal.returns-then-version-ne0
returns-then-version-ne0 c =
    let p = parts_of c.args.version.now in
    let cut = cuts_at _ c.unwrap.result _ _ (cut_major c.args.text.now p _ c.requires c.split_once.ensures.cases) c.unwrap.ensures in
    front_major c.args.text.now c.unwrap.result.0.now p c.requires cut.0 c.if-version-ne0.true

pub unwrap-requires-2 : goal.unwrap-requires-2
unwrap-requires-2 c =
    let p = parts_of c.args.version.now in
    let cut = cuts_at _ c.unwrap.result _ _ (cut_major c.args.text.now p _ c.requires c.split_once.ensures.cases) c.unwrap.ensures in
    cuts_some _ _ _ (cut_minor c.unwrap.result.1.now p _ c.requires.1 cut.1 c.split_once-2.ensures.cases)

pub returns : goal.returns
returns c =
    let p = parts_of c.args.version.now in
    let cut = cuts_at _ c.unwrap.result _ _ (cut_major c.args.text.now p _ c.requires c.split_once.ensures.cases) c.unwrap.ensures in
    let two = cuts_at _ c.unwrap-2.result _ _ (cut_minor c.unwrap.result.1.now p _ c.requires.1 cut.1 c.split_once-2.ensures.cases) c.unwrap-2.ensures in
    let zero : p.0 ≡ 0 = omega arith in
    let ne : p.1 ≢ 0 = λ e. absurd (omega arith) in
    front_minor c.args.text.now c.unwrap.result.0.now c.unwrap-2.result.0.now p c.requires cut.0 two.0 zero ne
