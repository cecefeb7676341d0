use Rattle.wac_wit_refusals_types.proofs.BorrowFacts.{streamed_content}
use Rattle.wac_wit_refusals_sites.proofs.TypeFacts.{if_some_then}
use Rattle.wac_wit_refusals_types.proofs.carried.streamed_by.Goals as goal

pub returns-in-Stream : goal.returns-in-Stream
returns-in-Stream c = if_some_then _ _ c.content_of.result c.content_of.ensures (λ t w. streamed_content c.args.ty.now t.now c.in-Stream.of c.in-Stream.is w)
