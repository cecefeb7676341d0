-- A text is cut in one way, part by part.
use Rattle.std.proofs.Common.{None, ap, drop, sym, ◌∙◌}
use Rattle.wac_wit_syntax.specs.Parts.{first_place, tokens_of}
use Rattle.wac_wit_syntax.proofs.Cutting.{one_cut}
use Rattle.wac_wit_syntax.proofs.laws.one_reading.Goals as goal

pub returns : goal.returns
returns c = λ text ts us r s. r.tokens_are ∙ ap (tokens_of (first_place text) None) (one_cut (drop (first_place text) text) r.parts s.parts r.cut s.cut) ∙ sym s.tokens_are
