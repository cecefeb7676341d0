-- What is handed in.
use Rattle.std.specs.Prelude.{List, Contains, map}
use Rattle.wac_model.specs.Text.{Text}
use Rattle.wac_component.specs.Collection.{Collection}
use Rattle.wac_component.specs.declared.items.ItemKind.{ItemKind}
use Rattle.wac_aggregator_narrowing.specs.State.{IsOneWith}
use Rattle.wac_aggregator_promises.specs.Call as listed
use Rattle.wac_aggregator.specs.declared.all.Call.{Call}

-- the call that hands in an item of a collection under a name
abbrev pub call_of : Text → Collection → ItemKind → listed.Call
call_of name types kind = record { name = name; types = types; kind = kind }

-- a call, with what its references refer to
abbrev pub called : Call → listed.Call
called c = call_of c.name.now c.types.now c.kind

abbrev pub handed_in : List Call → List listed.Call
handed_in calls = map called calls

-- the collection is the one of each call that has its number
abbrev pub IsOneOf : List listed.Call → Collection → Type 0
IsOneOf calls g = (c : listed.Call) → Contains calls c → IsOneWith c.types g
