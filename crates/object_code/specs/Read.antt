-- Readers of bytes from the front: each gives a value and the bytes that are left, or the number of bytes from the
-- first bad byte to the end.
use Rattle.std.specs.Prelude.{ℕ, zero, suc, List, [], ◌∷◌, length, take, drop, Some, None, nat_le, slice_get, if◌then◌else◌}
use Rattle.std.specs.Int.{w32, from_be_bytes}
use Rattle.text_scan.specs.Text.{Text}

pub data Read (A : Type 0) : Type 0 where
  Got : (value : A) (rest : Text) → Read A
  -- 0 if the bytes end too early
  Stop : (left : ℕ) → Read A

abbrev pub Reader : Type 0 → Type 0
Reader A = Text → Read A

-- continues with the value and the bytes that are left
abbrev pub then_read : {A B : Type 0} → Read A → (A → Reader B) → Read B
then_read (Got x rest) next = next x rest
then_read (Stop left) next = Stop left

-- takes no byte
abbrev pub read_nothing : {A : Type 0} → A → Reader A
read_nothing x bs = Got x bs

-- a function of the value that is read
abbrev pub read_as : {A B : Type 0} → (A → B) → Reader A → Reader B
read_as make r bs = then_read (r bs) (λ x rest. Got (make x) rest)

-- the first byte is the number, from 0, of the reader of the rest; a byte without a reader is not allowed
abbrev pub read_by : {A : Type 0} → List (Reader A) → Reader A
read_by {A} readers [] = Stop 0
read_by {A} readers (b ∷ bs) = elim (slice_get readers b) as (λ r. Read A) [ None ↦ Stop (suc (length bs)) | Some r ↦ r bs ]

-- the byte is not allowed
abbrev pub not_allowed : {A : Type 0} → Reader A
not_allowed bs = Stop (suc (length bs))

-- a number of four bytes, high byte first
abbrev pub read_number : Reader ℕ
read_number (a ∷ b ∷ c ∷ d ∷ rest) = Got (from_be_bytes w32 (a ∷ b ∷ c ∷ d ∷ [])) rest
read_number _ = Stop 0

-- n bytes of any value
abbrev pub read_bytes : ℕ → Reader Text
read_bytes n bs = if nat_le n (length bs) then Got (take n bs) (drop n bs) else Stop 0

-- n items
abbrev pub read_items : {A : Type 0} → Reader A → ℕ → Reader (List A)
read_items r zero bs = Got [] bs
read_items r (suc n) bs = then_read (r bs) (λ x rest. read_as (λ xs. x ∷ xs) (read_items r n) rest)

-- a list: the number of its items, and the items
abbrev pub read_list : {A : Type 0} → Reader A → Reader (List A)
read_list r bs = then_read (read_number bs) (read_items r)
