-- The imports that are looked up for calls.
use Rattle.std.specs.Prelude.{List}
use Rattle.std.specs.List.{All}
use Rattle.wac_component.specs.Collection.{Collection}
use Rattle.wac_component.specs.Key.{AllStand, item_keys}
use Rattle.wac_script_session.specs.declared.imports.Provided.{Provided}

-- the items of the imports stand
abbrev pub AreProvided : Collection → List Provided → Type 0
AreProvided c provided = All (λ i. AllStand c (item_keys i.kind)) provided
