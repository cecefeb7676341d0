use Rattle.std.proofs.Common.{◌≡◌, IfOk, subst}
use Rattle.wac_names.specs.Class.{Class}
use Rattle.wac_names.proofs.Classes.{class_of-alone, class_of-keyed}
use Rattle.wac_names.proofs.class.NameClass.of.Goals as goal

pub returns-in-Some : goal.returns-in-Some
returns-in-Some c =
    let key = rw c.in-Some.is at c.in_ok-key.ensures.key in
    subst (λ (d : Class). IfOk c.new.result (λ e. e ≡ d)) (class_of-keyed _ _ key) c.new.ensures

pub returns-in-None : goal.returns-in-None
returns-in-None c =
    let none = rw c.in-None.is at c.in_ok-key.ensures.key in
    subst (λ (d : Class). IfOk c.new-in-None.result (λ e. e ≡ d)) (class_of-alone _ none) c.new-in-None.ensures
