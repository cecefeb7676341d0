-- The names that the walks of this crate cite.
pub use Rattle.std.proofs.Common.{◌≡◌, ℕ, List, [], ◌∷◌, ◌++◌, refl, sym, ap, ◌∙◌, subst, lit<}
pub use mir.Val.{Val, vptr, vcons, vnil}
pub use base.Logic.{SProp, ent, emp, id⊢}
pub use base.Fml.{ftrue}
pub use prog.Wp.{WpFn}
pub use types.Kit.{‵, raw, ◌⊛◌, at_ret, ◌$◌, ◌∵◌, !, qed, by, move, keep, drop, split, fsplit, fjoin, suffices, use0, use1, feq_i}
pub use types.Run.{stop, fld, lit, of_opd, bin, no_more, and_then, first, branches, exec, returns, enter}
pub use types.ByLocal.{alloc_all, pass_all, free_all, look_at, get, get_in, sets, sets_last, env}
pub use types.Part.{agg, sub, whole}
pub use types.Match.{live}
pub use contract.Monad.{fact, fact_i}
pub use contract.Running.{tables}
pub use denote.Exit.{yes, no}
pub use denote.RattleType.{RattleType, owns}
pub use denote.Signature.{plain, type_at}
pub use denote.RawPtr.{Ptr, block_ptr, null_ptr, ptr_val, tests_null}
pub use denote.Steps.{nothing}
pub use denote.Param.{layout}
pub use denote.Triple.Walked.{Stays, stay_dropped, walk_of, Goes-dropped}
pub use Rattle.std.proofs.alloc.Calls.{handle_tells}
pub use Rattle.std.proofs.alloc.Shapes.{after}
pub use Rattle.std.proofs.cell.Inside.{Good}
pub use Rattle.std.proofs.option.Made.{Some-of, none_of}
pub use Rattle.std.proofs.ResultValues.{and_tt}
pub use Rattle.std.proofs.raw_atomic.Walks.{proved_at, leaves}
pub use Rattle.std.specs.contracts.impls.GlobalAllocator.TheImpl.{ghosts}
pub use Rattle.std.specs.declared.option.Option.TheVariants.{None, Some}
pub use Rattle.wac_script_program.specs.contracts.dialogue.Dialogue.{the_row as R}
pub use Rattle.wac_c_calls.proofs.RawBoxes.{both, RawBox, raw_box_good, raw_box_in, raw_box_out}
pub use Rattle.wac_c_calls.proofs.Handles.{handle_cases}
