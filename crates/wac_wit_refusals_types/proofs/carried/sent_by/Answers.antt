use Rattle.wac_wit_refusals_types.proofs.BorrowFacts.{sent_future, sent_stream}
use Rattle.wac_wit_refusals_sites.proofs.TypeFacts.{if_some_then}
use Rattle.wac_wit_refusals_types.proofs.carried.sent_by.Goals as goal

pub returns-in-Stream : goal.returns-in-Stream
returns-in-Stream c = if_some_then _ _ c.content_of.result c.content_of.ensures (λ t w. sent_stream c.args.ty.now t.now c.in-Stream.of c.in-Stream.is w)

pub returns-in-Future : goal.returns-in-Future
returns-in-Future c = if_some_then _ _ c.content_of-in-Future.result c.content_of-in-Future.ensures (λ t w. sent_future c.args.ty.now t.now c.in-Future.of c.in-Future.is w)
