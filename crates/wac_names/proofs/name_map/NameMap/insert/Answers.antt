use Rattle.wac_names.proofs.Standing.{insert_answers, insert_err, insert_ok, stands_more}
use Rattle.wac_names.proofs.name_map.NameMap.insert.Goals as goal

pub returns-clause-ok : goal.returns-clause-ok
returns-clause-ok g c = λ ps s.
    let law = g.met.I.NameMapIntern.lawful c.place.new.cx in
    let more = stands_more g.met.K.Eq.laws c.args.self.now ps law c.place.ensures.extends s in
    insert_ok _ _ g.met.K.Eq.laws law c.args.self.now c.place.new.self ps c.args.name.now more c.args.item c.place.result c.place.ensures.ok

pub returns-clause-err : goal.returns-clause-err
returns-clause-err g c = λ ps s.
    let law = g.met.I.NameMapIntern.lawful c.place.new.cx in
    let more = stands_more g.met.K.Eq.laws c.args.self.now ps law c.place.ensures.extends s in
    insert_err _ _ g.met.K.Eq.laws law c.args.self.now c.place.new.self ps c.args.name.now more c.place.result c.place.ensures.err

pub returns-clause-answer : goal.returns-clause-answer
returns-clause-answer g c = λ ps s.
    let law = g.met.I.NameMapIntern.lawful c.place.new.cx in
    let more = stands_more g.met.K.Eq.laws c.args.self.now ps law c.place.ensures.extends s in
    insert_answers _ _ g.met.K.Eq.laws law c.args.self.now c.place.new.self ps c.args.name.now more c.args.allow_shadowing c.place.result c.place.ensures.answer
