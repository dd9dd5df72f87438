-- The kind of an object, by what it has at hand.
use Rattle.std.proofs.Common.{◌≡◌, ℕ, List, true, refl}
use Rattle.run_types.specs.declared.types.Error.{Error}
use Rattle.run_types.specs.declared.types.Item.{Item}
use Rattle.run_types.specs.declared.types.NameId.{NameId}
use Rattle.run_types.specs.declared.types.Value.{Value}
use Rattle.code_semantics.specs.Kinds as C
use Rattle.code_semantics.specs.Kinds.{Kind}
use Rattle.code_semantics.specs.declared.unit.Unit.{Unit as Code}
use Rattle.object_interp.specs.declared.types.Hand.TheVariants as H
use Rattle.object_interp.specs.declared.types.Need.TheVariants as N
use Rattle.object_interp.specs.Offers.{hand_of}
use Rattle.mesh_semantics.specs.Act.{can_step}
use Rattle.mesh_semantics.specs.Delay.{Arrival}
use Rattle.mesh_of_code.specs.Coded.{kind_of}

pub kind_send : (u : Code) (k : Kind) (to : ℕ) (m : NameId) (args : List Value) → H.At (N.Send to m args) ≡ hand_of u k → k ≡ C.Send to m args
kind_send u (C.Send b n xs) to m args h = cc
kind_send u _ to m args h = absurd (cc)

pub kind_async : (u : Code) (k : Kind) (to : ℕ) (m : NameId) (args : List Value) → H.At (N.Async to m args) ≡ hand_of u k → k ≡ C.Async to m args
kind_async u (C.Async b n xs) to m args h = cc
kind_async u _ to m args h = absurd (cc)

pub kind_write : (u : Code) (k : Kind) (item : Item) → H.At (N.Write item) ≡ hand_of u k → k ≡ C.Write item
kind_write u (C.Write i) item h = cc
kind_write u _ item h = absurd (cc)

pub kind_return : (u : Code) (k : Kind) (caller number : ℕ) (v : Value) → H.At (N.Return caller number v) ≡ hand_of u k → k ≡ C.Return caller number v
kind_return u (C.Return c n w) caller number v h = cc
kind_return u _ caller number v h = absurd (cc)

pub kind_fault : (u : Code) (k : Kind) (e : Error) → H.At (N.Fault e) ≡ hand_of u k → k ≡ C.Fault e
kind_fault u (C.Fault f) e h = cc
kind_fault u _ e h = absurd (cc)

pub kind_halted : (u : Code) (k : Kind) → H.At N.Halted ≡ hand_of u k → k ≡ C.Finished
kind_halted u C.Finished h = refl
kind_halted u _ h = absurd (cc)

-- an object that is halted cannot step
pub halted_rests : (u : Code) (k : Kind) (box : List Arrival) → H.At N.Halted ≡ hand_of u k → can_step box (kind_of k) ≡ true → ⊥
halted_rests u C.Finished box h s = absurd (cc)
halted_rests u _ box h s = absurd (cc)
