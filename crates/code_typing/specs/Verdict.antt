-- The verdict on a file, as a computation: the first heading that breaks a rule, or the first code that is not well
-- sorted.
use Rattle.std.specs.Prelude.{ℕ, zero, suc, ◌+◌, ◌^◌, ◌==◌, List, [], ◌∷◌, ◌++◌, length, map, Option, Some, None, is_some, Bool, true, false, not, ◌&&◌, nat_le, nat_lt, max, slice_get, slice_set}
use Rattle.std.specs.Prelude.{replicate, drop, is_none}
use Rattle.std.specs.List.{list_all, list_any}
use Rattle.run_types.specs.declared.types.NameId.{NameId}
use Rattle.run_types.specs.declared.types.Kind.{Kind}
use Rattle.run_types.specs.declared.types.Kind.TheVariants as K
use Rattle.text_scan.specs.Keywords.{is_name, is_string_number}
use Rattle.run_types.specs.Sorts.{Sort, IntSort, BoolSort, ClassSort, NilSort, NoSort, BrokenSort}
use Rattle.run_types.specs.Partial.{◌>>=◌, ◌>>◌, require}
use Rattle.code_semantics.specs.declared.unit.Instr.{Instr}
use Rattle.code_semantics.specs.declared.unit.Instr.TheVariants as I
use Rattle.code_semantics.specs.declared.unit.AltCode.{AltCode}
use Rattle.code_semantics.specs.declared.unit.ClassCode.{ClassCode}
use Rattle.code_semantics.specs.declared.unit.MethodCode.{MethodCode}
use Rattle.code_semantics.specs.declared.file.UnitFile.{UnitFile}
use Rattle.code_semantics.specs.declared.file.MethodKinds.{MethodKinds}
use Rattle.code_semantics.specs.ReachedPlaces.{nexts, silent_to}
use Rattle.code_semantics.specs.Step.{Numbered, method_named, class_from}
use Rattle.code_typing.specs.Sorts.{CodeScope, Declared, Stack, declared_at, scope_by, left_by}

-- equal sorts
abbrev pub sorts_equal : Sort → Sort → Bool
sorts_equal IntSort IntSort = true
sorts_equal BoolSort BoolSort = true
sorts_equal (ClassSort c) (ClassSort d) = c == d
sorts_equal NilSort NilSort = true
sorts_equal NoSort NoSort = true
sorts_equal BrokenSort BrokenSort = true
sorts_equal _ _ = false

abbrev pub stacks_equal : Stack → Stack → Bool
stacks_equal [] [] = true
stacks_equal (s ∷ ss) (t ∷ ts) = sorts_equal s t && stacks_equal ss ts
stacks_equal _ _ = false

-- for each place, the stack with which it was reached, if it was reached
abbrev pub Table : Type 0
Table = List (Option Stack)

-- a place and the stack with which it is reached
abbrev pub Visit : Type 0
Visit = ℕ × Stack

-- the places after an instruction, each with the stack after it, if it can take this stack of at most 64 sorts
abbrev pub followed : CodeScope → ℕ → Stack → Option Instr → Option (List Visit)
followed g at s None = None
followed g at s (Some i) = require (nat_le (length s) 64) >> left_by g i s >>= λ r. Some (map (λ b. (b, r)) (nexts at i))

-- continues if the two stacks are equal
abbrev pub if_equal : Bool → (Unit {0} → Option Table) → Option Table
if_equal true next = next tt
if_equal false next = None

-- continues with the visits that follow, if the instruction can take the stack
abbrev pub if_taken : Option (List Visit) → (List Visit → Option Table) → Option Table
if_taken None next = None
if_taken (Some ws) next = next ws

-- by the entry of the table at the place: no such place, a stack, or no stack yet
abbrev pub visited : Option (Option Stack) → Stack → (Unit {0} → Option Table) → Option (List Visit) → (List Visit → Option Table) → Option Table
visited None s known ws new = None
visited (Some (Some r)) s known ws new = if_equal (stacks_equal r s) known
visited (Some None) s known ws new = if_taken ws new

-- the table after these visits and all that follow from them, at most n in all; none if a place gets two stacks, or an
-- instruction cannot take its stack
abbrev pub spread : ℕ → CodeScope → List Instr → Table → List Visit → Option Table
spread zero g c t [] = Some t
spread zero g c t (v ∷ vs) = None
spread (suc n) g c t [] = Some t
spread (suc n) g c t (v ∷ vs) =
    visited (slice_get t v.0) v.1 (λ u. spread n g c t vs) (followed g v.0 v.1 (slice_get c v.0)) (λ ws. spread n g c (slice_set t v.0 (Some v.1)) (ws ++ vs))

-- one visit for each place after an instruction
abbrev pub visits : List Instr → ℕ
visits [] = 1
visits (i ∷ c) = length (nexts 0 i) + visits c

abbrev pub table_of : CodeScope → List Instr → Option Table
table_of g c = spread (visits c) g c (replicate (length c) None) ((0, []) ∷ [])

-- the greatest depth of the stacks of a table
abbrev pub most : Table → ℕ
most [] = 0
most (None ∷ t) = most t
most (Some s ∷ t) = max (length s) (most t)

abbrev pub is_own : CodeScope → NameId → Bool
is_own g m = is_some (method_named (Some g.class.code) m)

abbrev pub answers_exist : CodeScope → Option (List NameId) → Bool
answers_exist g None = true
answers_exist g (Some ms) = list_all (is_own g) ms

abbrev pub alternative_exists : CodeScope → List Instr → AltCode → Bool
alternative_exists g c a = nat_lt a.at (length c) && answers_exist g a.answer

-- each name and place of an instruction exists
abbrev pub does_exist : CodeScope → List Instr → Instr → Bool
does_exist g c (I.Jump a) = nat_lt a (length c)
does_exist g c (I.Branch a) = nat_lt a (length c)
does_exist g c (I.LoadI n) = nat_lt n g.class.code.vars
does_exist g c (I.StoreI n) = nat_lt n g.class.code.vars
does_exist g c (I.LoadT n) = nat_lt n (length g.temps)
does_exist g c (I.StoreT n) = nat_lt n (length g.temps)
does_exist g c (I.Call m) = is_own g m
does_exist g c (I.New n) = is_some (class_from 0 g.file.unit.classes n)
does_exist g c (I.Send m n) = nat_lt m.0 (length g.file.unit.names) && nat_le n 8
does_exist g c (I.Async m n) = nat_lt m.0 (length g.file.unit.names) && nat_le n 8
does_exist g c (I.WriteText s) = is_string_number g.file.unit.names s.0
does_exist g c (I.Answer ms) = list_all (is_own g) ms
does_exist g c (I.Select alts) = list_all (alternative_exists g c) alts
does_exist g c _ = true

abbrev pub is_ret : Instr → Bool
is_ret I.Ret = true
is_ret _ = false

abbrev pub is_post : Instr → Bool
is_post I.Post = true
is_post _ = false

abbrev pub is_halt : Instr → Bool
is_halt I.Halt = true
is_halt _ = false

abbrev pub is_last : (Instr → Bool) → List Instr → Bool
is_last p [] = false
is_last p (i ∷ []) = p i
is_last p (i ∷ j ∷ c) = is_last p (j ∷ c)

-- a body ends in Halt and has no Ret and no Post; a method ends in Ret and has no Halt
abbrev pub ends_right : Option Sort → List Instr → Bool
ends_right None c = is_last is_halt c && (not (list_any is_ret c) && not (list_any is_post c))
ends_right (Some s) c = is_last is_ret c && not (list_any is_halt c)

-- whether the chain of silent instructions from this place has fewer than n instructions
abbrev pub silence_ends : ℕ → List Instr → Option ℕ → Bool
silence_ends n c None = true
silence_ends zero c (Some at) = false
silence_ends (suc n) c (Some at) = silence_ends n c (silent_to at (slice_get c at))

-- no chain of silent instructions is longer than the code
abbrev pub has_no_circle : List Instr → List Instr → ℕ → Bool
has_no_circle c [] at = true
has_no_circle c (i ∷ rest) at = silence_ends (suc (length c)) c (Some at) && has_no_circle c rest (suc at)

-- the words of a frame are the number of temps plus the greatest depth of the operand stack, and no place from 2^32 on
-- is reached
abbrev pub has_table : CodeScope → ℕ → Option Table → Bool
has_table g words None = false
has_table g words (Some t) = words == length g.temps + most t && list_all is_none (drop (2 ^ 32) t)

abbrev pub is_well_sorted : CodeScope → ℕ → List Instr → Bool
is_well_sorted g words c =
    list_all (does_exist g c) c && ends_right g.value c && has_no_circle c c 0 && has_table g words (table_of g c)

abbrev pub kind_exists : UnitFile → Kind → Bool
kind_exists f K.Int = true
kind_exists f K.Bool = true
kind_exists f (K.Class c) = is_some (class_from 0 f.unit.classes c)

abbrev pub result_exists : UnitFile → Option Kind → Bool
result_exists f None = true
result_exists f (Some k) = kind_exists f k

-- the first method of the name has the place i
abbrev pub is_first : ℕ → Option Numbered → Bool
is_first i None = false
is_first i (Some r) = r.place == i

abbrev pub methods_right : UnitFile → ClassCode → ℕ → List MethodCode → List MethodKinds → Bool
methods_right f k i (m ∷ ms) (s ∷ ss) =
    is_name f.unit.names m.name.0 && is_first i (method_named (Some k) m.name) && nat_le m.params 8 && nat_le m.temps 32 && nat_le m.params m.temps
    && list_all (kind_exists f) s.temps && result_exists f s.result && methods_right f k (suc i) ms ss
methods_right f k i _ _ = true

abbrev pub is_place : ℕ → Option ℕ → Bool
is_place j None = false
is_place j (Some n) = n == j

abbrev pub heading_right : UnitFile → ℕ → Option Declared → Bool
heading_right f j None = true
heading_right f j (Some k) =
    is_name f.unit.names k.code.name.0 && is_place j (class_from 0 f.unit.classes k.code.name) && nat_lt j 256 && nat_le k.code.vars 64
    && nat_le (length k.code.methods) 64 && list_all (kind_exists f) k.kinds.vars && methods_right f k.code 0 k.code.methods k.kinds.methods

pub data Verdict : Type 0 where
  Good : Verdict
  Header : (class : ℕ) → Verdict
  Code : (class method : ℕ) → Verdict

-- continues if no fault was found so far
abbrev pub or_else : Option Verdict → (Unit {0} → Option Verdict) → Option Verdict
or_else None next = next tt
or_else (Some v) next = Some v

abbrev pub fault_if : Bool → Verdict → Option Verdict
fault_if true v = Some v
fault_if false v = None

-- the first of n headings from place j on that breaks a rule
abbrev pub bad_heading : UnitFile → ℕ → ℕ → Option Verdict
bad_heading f zero j = None
bad_heading f (suc n) j = or_else (fault_if (not (heading_right f j (declared_at f j))) (Header j)) (λ u. bad_heading f n (suc j))

-- the first method from place i on that is not well sorted
abbrev pub bad_method : UnitFile → Declared → ℕ → ℕ → List MethodCode → List MethodKinds → Option Verdict
bad_method f k j i (m ∷ ms) (s ∷ ss) =
    or_else (fault_if (not (is_well_sorted (scope_by f k (Some s)) m.frame_words m.code)) (Code j i)) (λ u. bad_method f k j (suc i) ms ss)
bad_method f k j i _ _ = None

-- the first code of the class that is not well sorted: the methods in order, and then the body
abbrev pub bad_code : UnitFile → ℕ → Option Declared → Option Verdict
bad_code f j None = None
bad_code f j (Some k) =
    or_else (bad_method f k j 0 k.code.methods k.kinds.methods)
    (λ u. fault_if (not (is_well_sorted (scope_by f k None) k.code.body.frame_words k.code.body.code)) (Code j (length k.code.methods)))

abbrev pub bad_codes : UnitFile → ℕ → ℕ → Option Verdict
bad_codes f zero j = None
bad_codes f (suc n) j = or_else (bad_code f j (declared_at f j)) (λ u. bad_codes f n (suc j))

abbrev pub good_unless : Option Verdict → Verdict
good_unless None = Good
good_unless (Some v) = v

-- the verdict on a file; a file without classes has a bad heading, of class 0
abbrev pub verdict : UnitFile → Verdict
verdict f =
    let n = length f.unit.classes in
    good_unless (or_else (fault_if (n == 0) (Header 0)) (λ u. or_else (bad_heading f n 0) (λ v. bad_codes f n 0)))
