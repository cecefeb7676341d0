use Rattle.std.proofs.Common.{◌∙◌, Option, Some, None, arith, refl, sym}
use Rattle.std.proofs.lemmas.Str.Pattern.{split_after}
use Rattle.std.specs.Prelude.{IsSome, MatchOption}
use Rattle.semver.specs.Identifiers.{parts_of, parts_text}
use Rattle.semver.specs.Parse.{Parts}
use Rattle.semver.specs.declared.Version.{Version}
use Rattle.wac_model.specs.Text.{Text}
use Rattle.wac_names.specs.Reading.{IsNoVersionText, IsVersionText}
use Rattle.wac_names.proofs.Cuts.{cuts_at, cuts_some}
use Rattle.wac_names.proofs.Tracks.{parts_same}
use Rattle.wac_aggregator_imports.proofs.newer.track_version.Goals as goal

read_some : (r : Option Version) (text : Text) (p : Parts) → IsVersionText text p → MatchOption r (IsNoVersionText text) (λ v. IsVersionText text (parts_of v)) → IsSome r
read_some None text p h none = absurd (none p h)
read_some (Some v) text p h read = refl

pub unwrap-requires : goal.unwrap-requires
unwrap-requires c =
    let parts = c.requires.1.0 in
    let t = c.requires.1.1 in
    cuts_some c.split_once.result t.base (parts_text parts) (split_after 64 c.args.name.now t.base (parts_text parts) c.split_once.result c.split_once.ensures.cases (omega arith) t.versioned.written t.versioned.plain)

pub unwrap-requires-2 : goal.unwrap-requires-2
unwrap-requires-2 c =
    let parts = c.requires.1.0 in
    let t = c.requires.1.1 in
    let cut = cuts_at c.split_once.result c.unwrap.result t.base (parts_text parts) (split_after 64 c.args.name.now t.base (parts_text parts) c.split_once.result c.split_once.ensures.cases (omega arith) t.versioned.written t.versioned.plain) c.unwrap.ensures in
    read_some c.in_ok-version.version c.unwrap.result.1.now parts (cut.1, t.versioned.valid) c.in_ok-version.ensures.read

pub returns : goal.returns
returns c = λ key parts t.
    let cut = cuts_at c.split_once.result c.unwrap.result t.base (parts_text parts) (split_after 64 c.args.name.now t.base (parts_text parts) c.split_once.result c.split_once.ensures.cases (omega arith) t.versioned.written t.versioned.plain) c.unwrap.ensures in
    let read = rw c.unwrap-2.ensures at c.in_ok-version.ensures.read in
    parts_same (parts_of c.unwrap-2.result) parts read.1 t.versioned.valid (sym read.0 ∙ cut.1)
