use Rattle.wac_checker.proofs.CacheGrowth.{sound_caches_stay}
use Rattle.wac_checker.proofs.laws.sound_caches_stay_sound.Goals as goal

pub returns : goal.returns
returns c = sound_caches_stay
