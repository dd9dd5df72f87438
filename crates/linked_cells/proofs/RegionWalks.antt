-- The abbreviations and steps that the proofs of region.rt share.
pub use Rattle.std.proofs.Common.{◌≡◌, ℕ, ◌+◌, ◌*◌, ◌/◌, ◌-◌, ◌<◌, ◌^◌, List, [], ◌∷◌, ◌++◌, length, refl, sym, ap, ◌∙◌, subst, arith, MutBor}
pub use Rattle.std.proofs.raw_atomic.Walks.{proved, proved_at}
pub use Rattle.std.specs.Prelude.{Option, Some, None, get_or, slice_set}
pub use Rattle.std.specs.Mem.{type_size}
pub use seplogic.Ra.Ura.{Ura}
pub use base.Fraction.{full_share}
pub use base.Logic.{SProp, ent, sep, never, id⊢}
pub use base.Fml.{Lft, Share, Fml, ftrue, fsep, fat, flft, fobs, froom}
pub use mir.Syntax.{Fn, Args, Ty, a_type, ty_int, named, w64}
pub use mir.MapTy.{inst_fn}
pub use mir.Val.{Val, vunit, vint, vptr, vstruct, vcons, vnil}
pub use prog.Wp.{WpFn}
pub use types.Logic.{Logic, sem}
pub use contract.Monad.{fact}
pub use contract.BorrowLft.{◌⊑◌}
pub use contract.Running.{tables}
pub use types.Kit.{Item, ⋆, ‵, raw, ◌⊛◌, some, later, prop, at_ret, Sq, Seq, Step, Goal, ◌$◌, ◌∵◌, !, qed, by, done, move, keep, drop, use1, use2, use3, split, join, fsplit, fsplit3, fjoin, fjoin3, split3, feq_i, feq_l, flt_l, flt_i, pick, await, rewrite, regoal, suffices, frame, group}
pub use types.Part.{whole, sub}
pub use types.Run.{enter, of_opd, lit, unit_lit, bin, addr, load, look, store, init, stop, fld, hop, from, no_more, and_then, assigns, assigns_last, first, blocks, exec, returns, size_lit}
pub use types.ByLocal.{alloc_all, pass_all, free_all, look_at, look_in_at, get, get_in, through, sets, sets_last, lands_as, take_at, give_at, env}
pub use denote.Builtin.{unit, usize, RefOf, RefMutOf}
pub use denote.Exit.{yes, no}
pub use denote.RattleType.{RattleType}
pub use denote.Param.{param, layout, layouts}
pub use denote.Param.Laws.{Laws, param_laws}
pub use denote.RawPtr.{Ptr, block_ptr, null_ptr, block_of, count_of, ptr_val, in_a_block}
pub use denote.Ref.{Bor, ShrRef, MutRef, shr_vals, shr_Tells, mut_vals, mut_Tells}
pub use denote.Memory.{hidden_shr, cell_at, part_at, mem}
pub use denote.Signature.{plain}
pub use denote.Opens.{hide, unhide}
pub use denote.Steps.{nothing, owned, opens, closes, tied, ties, heard, peeks, only}
pub use denote.Triple.Walked.{Stays, says, stay_dropped, stay_ref, walk_of, ends_at, Goes-dropped, Goes-ref, Goes-spent_ref}
pub use Rattle.std.proofs.VecSteps.Shapes.{after, head, arm_body}
pub use denote.Plain.{uint_vals, uint_Tells}
pub use denote.Shadow.{pure_i}
pub use types.Part.{agg}
pub use contract.Monad.{fact_use}
pub use types.Kit.{use0, Post, any_q, given, learn}
pub use types.Run.{size_word, align_word, switches_on}
pub use types.ByLocal.{get_tag, lands_last, is}
pub use types.Match.{live, vrt, in_variant}
pub use denote.Triple.Call.{calls_at, calls_at_last}
pub use denote.Triple.Table.{framed}
pub use lib.ListN.{replicate, length-replicate}
