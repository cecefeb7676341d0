use Rattle.wac_wit_refusals.proofs.used.is_type_hidden.Goals as goal

pub returns-then-has_type : goal.returns-then-has_type
returns-then-has_type c = λ is of judges.
    let has = c.has_type.ensures c.if-has_type.true in
    record { item = has.0; among = has.1; gives = has.2; hidden = c.lacks_type_there.ensures is of judges }
