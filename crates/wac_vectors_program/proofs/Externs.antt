-- What is put under a name stands with the rest.
use Rattle.std.proofs.Common.{List, [], ◌∷◌, Bool, true, false, cond}
use Rattle.std.specs.declared.string.String.{String}
use Rattle.std.specs.declared.alloc.Global.{Global}
use Rattle.indexmap.specs.IndexMap.{insert_entry}
use Rattle.wac_component.specs.Content.{named}
use Rattle.wac_component.specs.Key.{Key, Each, named_keys}
use Rattle.wac_component.proofs.Keys.{Each-append, Each-left, Each-right}

pub Each-inserted : {V : Type 0} (P : Key → Type 0) (f : V → List Key) (eq : String Global → String Global → Bool) (es : List (String Global × V)) (n : String Global) (v : V) → Each P (named_keys f (named (λ x. x) es)) → Each P (f v) → Each P (named_keys f (named (λ x. x) (insert_entry eq es n v)))
Each-inserted P f eq [] n v h g = Each-append P (f v) [] g tt
Each-inserted P f eq (e ∷ es) n v h g = go (eq n e.0) (Each-inserted P f eq es n v (Each-right P (f e.1) (named_keys f (named (λ x. x) es)) h) g)
  where
    go : (b : Bool) → Each P (named_keys f (named (λ x. x) (insert_entry eq es n v))) → Each P (named_keys f (named (λ x. x) (cond b ((e.0, v) ∷ es) (e ∷ insert_entry eq es n v))))
    go true rest = Each-append P (f v) (named_keys f (named (λ x. x) es)) g (Each-right P (f e.1) (named_keys f (named (λ x. x) es)) h)
    go false rest = Each-append P (f e.1) (named_keys f (named (λ x. x) (insert_entry eq es n v))) (Each-left P (f e.1) (named_keys f (named (λ x. x) es)) h) rest
