-- The names that both proofs of the allocator cite.
pub use Rattle.std.proofs.Common.{◌≡◌, ℕ, ◌+◌, ◌^◌, ◌<◌, true, false, List, [], ◌∷◌, Ok, Err, refl, w64, Bor}
pub use seplogic.Ra.Ura.{Ura}
pub use mir.Syntax.{Ty, Args, Fn, a_type, dnil, dcons}
pub use mir.Val.{Val, vunit, vbool, vint, vptr}
pub use mir.MapTy.{inst_fn}
pub use base.Logic.{SProp, ent, id⊢, never_e}
pub use base.Fml.{Lft, Share, ftrue, ffalse, fsep, flft, froom}
pub use prog.Memory.{Memory, size, align, capped, up}
pub use prog.Routine.{Routine}
pub use prog.Wp.{WpFn, Tables}
pub use types.Logic.{Logic}
pub use types.Kit.{Item, Sq, ‵, raw, ◌⊛◌, some, later, given, prop, at_ret, ◌$◌, ◌∵◌, !, qed, by, move, keep, use0, use1, use2, split, split3, join, pick, learn, fsplit, fjoin, feq_i, suffices, await, done}
pub use types.Part.{agg}
pub use types.Run.{stop, fld, addr, lit, unit_lit, of_opd, no_more, and_then, first, branches, skips, exec, returns, returns_within, enter}
pub use types.ByLocal.{alloc_all, pass_all, free_all, look_at, get, through, sets, lands_as, env}
pub use contract.BorrowLft.{◌⊑◌, ⊑_trans}
pub use contract.Monad.{Fun, fact}
unfoldable pub use contract.Running.{tables, tables_of}
pub use sound.WpLaws.{fm_of, WpFn-mono}
pub use denote.Exit.{yes}
pub use denote.RattleType.{owns}
pub use denote.Ref.{shr_vals}
pub use denote.Opens.{unhide}
pub use denote.Param.{bounded, param}
pub use denote.Plain.{uint_vals, uint_Tells}
pub use denote.RawPtr.{Ptr, block_ptr, null_ptr, ptr_val, rawptr_vals, rawptr_Tells}
pub use denote.Builtin.{usize, RawPtr, RefOf}
pub use denote.Signature.{Slot, plain, types_at}
pub use denote.Steps.{heard, nothing}
pub use denote.Triple.Call.{calls_at}
pub use denote.Triple.Clauses.{Ended, Clauses}
pub use denote.Triple.Spec.{triple_of}
pub use denote.Triple.Statement.{Triple}
pub use denote.Triple.Table.{entered, cited}
pub use denote.Triple.Walked.{Stays, stay_dropped, walk_of, ends_at, walked, Goes-dropped, walk_Meets}
pub use Rattle.std.proofs.alloc.Calls.{Al, α, seen}
