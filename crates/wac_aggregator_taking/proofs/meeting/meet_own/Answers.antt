use Rattle.wac_aggregator_taking.proofs.GrowLemmas.{built_if_any}
use Rattle.wac_aggregator_taking.proofs.meeting.meet_own.Goals as goal

pub returns : goal.returns
returns c =
    let builds = c.in_ok-met.ensures.builds in
    built_if_any c.args.types.now c.meet.new.types builds.origins c.args.existing c.args.new c.in_ok-met.met c.sound.ensures c.sound-2.ensures builds.only builds.ones c.in_ok-met.ensures.grows c.requires.existing c.requires.new builds.built c.in_ok-met.ensures.standing c.in_ok-met.ensures.meet c.in_ok-met.ensures.kept
