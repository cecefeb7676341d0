-- What one word owns that is a box's pointer, or null for no box. Assumes nothing: these are definitions.
use base.Fml.{Fml, feq}
use denote.RattleType.{RattleType}
use denote.RawPtr.{Ptr, null_ptr}
use Rattle.std.specs.Box.Ownership.{box_owns}
use Rattle.std.specs.declared.alloc.Global.{Global}
use Rattle.std.specs.contracts.impls.GlobalAllocator.TheImpl.{ghosts}
use Rattle.std.specs.declared.option.Option.{Option}
use Rattle.std.specs.declared.option.Option.TheVariants.{None, Some}

module _ (R : RattleType) (a : Global) where
  -- the box of the value x at p, and nothing at null
  abbrev pub handle_owns : Ptr → Option R.Denot → Fml
  handle_owns p None = feq Ptr p null_ptr
  handle_owns p (Some x) = box_owns (ghosts.dealloc_token a) R p x
