-- Ids in named things that two lists have.
use Rattle.std.proofs.Common.{List, filter}
use Rattle.std.specs.Str.{bytes_eq}
use Rattle.wac_model.specs.Text.{Text}
use Rattle.wac_core_merge.specs.Names.{is_new, with_new}
use Rattle.wac_component.specs.Key.{Key, Each, named_keys}
use Rattle.wac_component.proofs.Among.{each_append, each_filter}

-- of one list of named things, and of another under names that the first lacks
pub each_with_new : {V : Type 0} (P : Key → Type 0) (f : V → List Key) (es ts : List (Text × V)) → Each P (named_keys f es) → Each P (named_keys f ts) → Each P (named_keys f (with_new bytes_eq es ts))
each_with_new {V} P f es ts h k =
    each_append P (λ (e : Text × V). f e.1) es (filter (λ (t : Text × V). is_new bytes_eq es t.0) ts) h
    (each_filter P (λ (e : Text × V). f e.1) (λ (t : Text × V). is_new bytes_eq es t.0) ts k)
