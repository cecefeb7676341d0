-- What is answered to one list of calls in two orders, and to a call that comes after a list.
use Rattle.std.specs.Prelude.{◌≡◌, List, Contains, Result, Ok, Err}
use Rattle.wac_types.specs.Aggregated.{LeadsBelow, track_imports}
use Rattle.wac_types.specs.Aggregator.{AggregatorContent, shown}
use Rattle.wac_types.specs.Call.{Call, call_tree}
use Rattle.wac_types.specs.Class.{Class}
use Rattle.wac_types.specs.Same.{SameAt}
use Rattle.wac_types.specs.declared.AggregateAllError.{AggregateAllError}
use Rattle.wac_types.specs.declared.AggregateError.TheVariants.{Memory}

-- both are accepted, with imports on the same tracks whose trees are equal but for the order of
-- names, or both are refused; or an allocation failed in one
abbrev pub AreAnsweredAlike : Result AggregatorContent AggregateAllError → Result AggregatorContent AggregateAllError → Type 0
AreAnsweredAlike (Ok a) (Ok b) = (t : Class) → SameAt (track_imports (shown a) t) (track_imports (shown b) t)
AreAnsweredAlike (Ok a) (Err f) = f.error ≡ Memory
AreAnsweredAlike (Err e) (Ok b) = e.error ≡ Memory
AreAnsweredAlike (Err e) (Err f) = Unit {0}

-- the name of each call leads to an import that fits where its item is asked for
abbrev pub AreNamesServed : List Call → AggregatorContent → Type 0
AreNamesServed calls a = (c : Call) → Contains calls c → LeadsBelow (shown a) c.name (call_tree c)
