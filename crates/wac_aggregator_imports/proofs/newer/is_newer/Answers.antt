use Rattle.std.proofs.Common.{Some, subst, sym}
use Rattle.std.specs.declared.cmp.Ordering.{Ordering}
use Rattle.std.specs.declared.cmp.Ordering.TheVariants.{Less, Equal, Greater}
use Rattle.std.specs.contracts.prelude.CoreOrderingPartialEq.TheImpl.{eq-value}
use Rattle.semver.specs.Identifiers.{parts_of}
use Rattle.semver.specs.Parse.{Parts}
use Rattle.wac_model.specs.Text.{Text}
use Rattle.wac_names.specs.Track.{IsTracked, IsVersionOrder}
use Rattle.wac_aggregator_imports.specs.Import.{IsNewerBy, newer, not_newer}
use Rattle.wac_aggregator_imports.proofs.newer.is_newer.Goals as goal

by_order : (a b : Text) (o : Ordering) → IsVersionOrder a b (Some o) → IsNewerBy a b (eq-value.it o Greater)
by_order a b Less h = not_newer (Some Less) h (λ e. cc)
by_order a b Equal h = not_newer (Some Equal) h (λ e. cc)
by_order a b Greater h = newer h

pub track_version-requires : goal.track_version-requires
track_version-requires c = (c.requires.0, c.requires.1)

pub track_version-requires-2 : goal.track_version-requires-2
track_version-requires-2 c = (c.requires.0, c.requires.2)

pub returns : goal.returns
returns c =
    let key = c.requires.0 in
    let one = c.in_ok-version.ensures key c.requires.1.0 c.requires.1.1 in
    let two = c.in_ok-other.ensures key c.requires.2.0 c.requires.2.1 in
    rw c.eq.ensures (by_order c.args.name.now c.args.than.now c.cmp.result (
      key,
      parts_of c.in_ok-version.version,
      parts_of c.in_ok-other.other,
      subst (λ (p : Parts). IsTracked c.args.name.now key p) (sym one) c.requires.1.1,
      subst (λ (p : Parts). IsTracked c.args.than.now key p) (sym two) c.requires.2.1,
      c.cmp.ensures,
    ))
