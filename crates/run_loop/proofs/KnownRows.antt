-- The rows of a sound configuration of code have rising names, and each class and method in them is in the table.
use Rattle.std.proofs.Common.{◌≡◌, ◌<◌, ℕ, zero, suc, Bool, true, false, cond, List, [], ◌∷◌, length, get_or, slice_get, Option, Some, None, refl, sym, ap, subst, arith}
use Rattle.text_scan.specs.Text.{Text}
use Rattle.run_types.specs.declared.types.Error.{Error}
use Rattle.code_semantics.specs.declared.unit.Unit.{Unit as Code}
use Rattle.code_semantics.specs.declared.unit.ClassCode.{ClassCode}
use Rattle.code_semantics.specs.Kinds as C
use Rattle.code_semantics.specs.Kinds.{code_kind}
use Rattle.code_semantics.specs.Proper.{IsProper}
use Rattle.mesh_semantics.specs.Act.{can_step}
use Rattle.mesh_semantics.specs.Config.{Config, object_of}
use Rattle.mesh_semantics.specs.Delay as D
use Rattle.mesh_semantics.specs.Delay.{Delay, Holding, arrived_at, held}
use Rattle.mesh_semantics.specs.Kind as K
use Rattle.mesh_semantics.specs.Kind.{Kind}
use Rattle.mesh_semantics.specs.Language.{Language}
use Rattle.mesh_semantics.specs.Standing as T
use Rattle.mesh_semantics.specs.Standing.{standing_by, standing_of}
use Rattle.run_types.proofs.Laws.{same_some}
use Rattle.mesh_of_code.specs.Coded.{Placed, class_number, coded, kind_of, unless_served}
use Rattle.mesh_of_code.specs.CodeInvariant.{IsOfCode, Names}
use Rattle.mesh_of_code.proofs.Laws.{kind_named, name_of, object_named}
use Rattle.wait_report.specs.declared.rows.ObjectRow.{ObjectRow}
use Rattle.wait_report.specs.Calls.{Rising, names_of}
use Rattle.wait_report.specs.KnownRows.{AreKnown, IsKnown, IsKnownAt}
use Rattle.run_loop.specs.Reports.{row_in, standing_word}
use Rattle.run_loop.specs.ReportRows.{rows_in}
use Rattle.run_loop.proofs.RowLaws.{AreAbove, DoRise, finds}

-- the names rise

module _ {S : Type 0} (g : Language S) (d : Delay) where
  all_above : (n : ℕ) (es : List (ℕ × S)) (k : ℕ) → AreAbove n es → k < length (names_of (rows_in g d es)) → n < get_or (names_of (rows_in g d es)) k 0
  all_above n [] k h l = absurd (omega (arith, l))
  all_above n (e ∷ es) zero h l = h.0
  all_above n (e ∷ es) (suc k) h l = all_above n es k h.1 (omega (arith, l))

  pub rows_rise : (es : List (ℕ × S)) → DoRise es → Rising (names_of (rows_in g d es))
  rows_rise [] r j k h l = absurd (omega (arith, l))
  rows_rise (e ∷ es) r j zero h l = absurd (omega (arith, h))
  rows_rise (e ∷ es) r zero (suc k) h l = all_above e.0 es k r.0 (omega (arith, l))
  rows_rise (e ∷ es) r (suc j) (suc k) h l = rows_rise es r.1 j k (omega (arith, h)) (omega (arith, l))

  -- a row is that of an entry
  pub row_from : (es : List (ℕ × S)) (k : ℕ) (r : ObjectRow) → slice_get (rows_in g d es) k ≡ Some r → (e : ℕ × S) × (slice_get es k ≡ Some e) × (row_in g d e ≡ r)
  row_from [] k r h = absurd (cc)
  row_from (e ∷ es) zero r h = (e, refl, same_some h)
  row_from (e ∷ es) (suc k) r h = row_from es k r h

-- what is named is known

module _ (names : List Text) where
  ready_or : (b : Bool) → IsKnown names (standing_word (cond b T.Ready T.Awaits))
  ready_or true = tt
  ready_or false = tt

  known_by : (d : Delay) (o : ℕ) (t : Option Holding) (k : Kind) → ((n : ℕ) → name_of k ≡ Some n → n < length names) → ((b m : ℕ) → k ≡ K.Waits b m → m < length names)
      → IsKnown names (standing_word (standing_by d o t k))
  known_by d o (Some (D.Due v)) k h w = tt
  known_by d o (Some D.Posted) K.Finished h w = tt
  known_by d o (Some D.Posted) K.Local h w = tt
  known_by d o (Some D.Posted) (K.Fault e) h w = tt
  known_by d o (Some D.Posted) (K.New c) h w = h c refl
  known_by d o (Some D.Posted) (K.Send b m args) h w = h m refl
  known_by d o (Some D.Posted) (K.Async b m args) h w = tt
  known_by d o (Some D.Posted) (K.Write item) h w = tt
  known_by d o (Some D.Posted) (K.Select alts) h w = tt
  known_by d o (Some D.Posted) (K.Return k v) h w = tt
  known_by d o (Some D.Posted) K.Stuck h w = tt
  known_by d o (Some D.Posted) (K.Waits b m) h w = w b m refl
  known_by d o None K.Finished h w = tt
  known_by d o None K.Local h w = tt
  known_by d o None (K.Fault e) h w = tt
  known_by d o None (K.New c) h w = tt
  known_by d o None (K.Send b m args) h w = tt
  known_by d o None (K.Async b m args) h w = tt
  known_by d o None (K.Write item) h w = tt
  known_by d o None (K.Select alts) h w = ready_or (can_step (arrived_at d o) (K.Select alts))
  known_by d o None (K.Return k v) h w = tt
  known_by d o None K.Stuck h w = tt
  known_by d o None (K.Waits b m) h w = w b m refl

  known_of : (d : Delay) (o : ℕ) (f : Option Error) (t : Option Holding) (k : Kind) → ((n : ℕ) → name_of k ≡ Some n → n < length names) → ((b m : ℕ) → k ≡ K.Waits b m → m < length names)
      → IsKnown names (standing_word (standing_of d o f t k))
  known_of d o (Some e) t k h w = tt
  known_of d o None t k h w = known_by d o t k h w

-- what code does next is no wait
no_wait : (k : C.Kind) (b m : ℕ) → kind_of k ≡ K.Waits b m → ⊥
no_wait C.Finished b m h = cc
no_wait C.Local b m h = cc
no_wait (C.Fault e) b m h = cc
no_wait (C.New c) b m h = cc
no_wait (C.Send r n args) b m h = cc
no_wait (C.Async r n args) b m h = cc
no_wait (C.Write item) b m h = cc
no_wait (C.Answer names) b m h = cc
no_wait (C.Select alts) b m h = cc
no_wait (C.Return k number v) b m h = cc

module _ (u : Code) (proper : IsProper u) (c : Config Placed) (d : Delay) (is : IsOfCode u c) where
  class_known : (o : ℕ) (x : Placed) → object_of c o ≡ Some x → (coded u).class x < length u.names
  class_known o x h =
      let of = is.of_unit o x h in
      subst (λ (k : Option ClassCode). class_number k < length u.names) (sym of.is_class) (proper.each x.object.class of.class of.is_class).name

  wait_known : (o : ℕ) (x : Placed) (b m : ℕ) → object_of c o ≡ Some x → (s : Option (ℕ × ℕ)) → x.served ≡ s → unless_served s (kind_of (code_kind u x.object)) ≡ K.Waits b m → m < length u.names
  wait_known o x b m h None e w = absurd (no_wait (code_kind u x.object) b m w)
  wait_known o x b m h (Some v) e w =
      let at = is.waits o v.0 v.1 x h e in
      let same : v.1 ≡ m = cc in
      subst (λ (n : ℕ). n < length u.names) same (object_named u proper (Names c) x.object (is.of_unit o x h) v.1 (ap (λ (k : C.Kind). name_of (kind_of k)) at.4))

  pub entry_known : (o : ℕ) (x : Placed) → object_of c o ≡ Some x → IsKnownAt u.names (row_in (coded u) d (o, x))
  entry_known o x h = (
    class_known o x h,
    known_of u.names d o x.fault (held d o) ((coded u).kind o x) (λ n e. kind_named u proper (Names c) x.object x.served (is.of_unit o x h) n e)
        (λ b m w. wait_known o x b m h x.served refl w),
  )

  pub rows_known : DoRise c.objects → AreKnown u.names (rows_in (coded u) d c.objects)
  rows_known r k row h =
      let from = row_from (coded u) d c.objects k row h in
      subst (IsKnownAt u.names) from.2 (entry_known from.0.0 from.0.1 (finds c.objects k from.0 r from.1))
