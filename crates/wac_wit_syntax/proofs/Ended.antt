-- What is answered behind the last token of an item.
use Rattle.std.proofs.Common.{◌≡◌, Result, Ok, Err, IfOk, OnOk, sym, subst}
use Rattle.wac_wit_syntax.specs.declared.error.Fault.{Fault}

-- the item that was handed on, where the token behind it is taken
pub ended_as : {T P : Type 0} (r : Result T Fault) (item : T) (Q : T → Type 0) → IfOk r (λ v. v ≡ item) → OnOk r P → (P → Q item) → IfOk r Q
ended_as (Ok v) item Q same p f = subst Q (sym same) (f p)
ended_as (Err x) item Q same p f = tt

-- what follows from an answer
pub if_ok_more : {T : Type 0} (r : Result T Fault) (P Q : T → Type 0) → IfOk r P → ((v : T) → P v → Q v) → IfOk r Q
if_ok_more (Ok v) P Q h f = f v h
if_ok_more (Err x) P Q h f = tt

pub on_ok_more : {T : Type 0} (r : Result T Fault) (P Q : Type 0) → OnOk r P → (P → Q) → OnOk r Q
on_ok_more (Ok v) P Q h f = f h
on_ok_more (Err x) P Q h f = tt
