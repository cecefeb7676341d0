-- A collection from whose entry an interface was taken out.
use Rattle.std.specs.Prelude.{[], None, slice_set}
use Rattle.wac_component.specs.Id.{Id}
use Rattle.wac_component.specs.Collection.{Collection, InterfaceContent}

-- an interface that has no identifier, and uses and exports nothing
abbrev pub no_content : InterfaceContent
no_content = record { id = None; uses = []; exports = [] }

-- the collection with that at this id
abbrev pub without_content : Collection → Id → Collection
without_content c p = record c { interfaces = slice_set c.interfaces p.index no_content }
