use Rattle.wac_component.proofs.ImplicitLemmas.{use-stands}
use Rattle.wac_script_session.proofs.imports.push_uses.Goals as goal

pub use_word-requires : goal.use_word-requires
use_word-requires c = use-stands c.args.types.now c.args.uses.now.entries c.loop-i.i c.use_at.result.1.now c.use_at.ensures c.requires
