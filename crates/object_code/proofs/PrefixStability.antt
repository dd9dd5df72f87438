-- A reader's answer to a long enough prefix does not depend on the bytes after it, so the bytes after the first bad byte do not matter.
use Rattle.std.proofs.Common.{◌≡◌, ◌⊎◌, inl, inr, refl, sym, ap, subst, ◌∙◌, ℕ, zero, suc, ◌+◌, ◌-◌, ◌==◌, ◌<◌, ◌≤◌, List, [], ◌∷◌, ◌++◌, length, Option, Some, None, Bool, true, false, arith, length-append, length-take-le}
use Rattle.std.specs.Prelude.{take, drop, nat_le, slice_get, if◌then◌else◌}
use Rattle.std.proofs.lemmas.List.{take-append-drop}
use Rattle.text_scan.specs.Text.{Text}
use Rattle.run_types.specs.declared.types.NameId.{NameId}
use Rattle.run_types.specs.declared.types.Op.TheVariants as O
use Rattle.run_types.specs.declared.types.Kind.{Kind}
use Rattle.run_types.specs.declared.types.Kind.TheVariants as K
use Rattle.code_semantics.specs.declared.unit.Instr.{Instr}
use Rattle.code_semantics.specs.declared.unit.Instr.TheVariants as I
use Rattle.code_semantics.specs.declared.file.UnitFile.{UnitFile}
use Rattle.object_code.specs.Read.{Read, Got, Stop, Reader, then_read, read_nothing, read_as, read_by, not_allowed, read_number, read_bytes, read_items, read_list}
use Rattle.object_code.specs.FileBytes.{head_bytes}
use Rattle.object_code.specs.Decode.{read_name, read_text, read_integer, kind_readers, read_kind, read_option, truth_readers, read_truth, operator_readers, read_operator, read_sent, read_alternative, instr_readers, read_instr, read_code, method_of, behind_outcome, behind_temps, behind_params, behind_name, read_method, class_of, behind_methods, behind_vars, behind_class_name, read_class, read_exactly, file_of, behind_names, behind_front, read_file, first_twice, Decoded, Says, BadBytes, NameTwice, unless_twice, decoded, decode}

-- how many bytes are left
abbrev pub left_of : {A : Type 0} → Read A → ℕ
left_of (Got x rest) = length rest
left_of (Stop n) = n

-- the same with more bytes behind
abbrev pub longer : {A : Type 0} → Read A → Text → Read A
longer (Got x rest) more = Got x (rest ++ more)
longer (Stop n) more = Stop (n + length more)

-- the front ends too early, and with more behind it the reader goes beyond it
abbrev pub IsEarly : {A : Type 0} → Reader A → Text → Type 0
IsEarly r front = (r front ≡ Stop 0) × ((more : Text) → left_of (r (front ++ more)) ≤ length more)

-- more behind it changes nothing
abbrev pub IsDecided : {A : Type 0} → Reader A → Text → Type 0
IsDecided r front = (more : Text) → r (front ++ more) ≡ longer (r front) more

-- a reader behind so many bytes
pub record IsSteady {A : Type 0} (k : ℕ) (r : Reader A) : Type 0 where
  pub shrinks : (bs : Text) → left_of (r bs) ≤ k + length bs
  pub steady : (front : Text) → IsEarly r front ⊎ IsDecided r front

pub nothing_steady : {A : Type 0} (k : ℕ) (x : A) → IsSteady k (read_nothing x)
nothing_steady k x = record { shrinks = λ bs. omega arith; steady = λ front. inr (λ more. refl) }

no_steady : {A : Type 0} → IsSteady {A = A} 1 not_allowed
no_steady {A} = record {
  shrinks = λ bs. omega arith;
  steady = λ front. inr (λ more. ap Stop (let l = length-append front more in let z : suc (length (front ++ more)) ≡ suc (length front) + length more = omega (arith, l) in z));
}

later : {A : Type 0} (r : Reader A) → IsSteady 0 r → IsSteady 1 r
later r f = record { shrinks = λ bs. let h = f.shrinks bs in omega (arith, h); steady = f.steady }

then_left : {A B : Type 0} (next : A → Reader B) → ((x : A) → IsSteady 0 (next x)) → (o : Read A) (n : ℕ) → left_of o ≤ n → left_of (then_read o next) ≤ n
then_left next g (Got x rest) n h = let s = (g x).shrinks rest in omega (arith, h, s)
then_left next g (Stop m) n h = h

pub then_steady : {A B : Type 0} (r : Reader A) (next : A → Reader B) → IsSteady 0 r → ((x : A) → IsSteady 0 (next x)) → IsSteady 0 (λ bs. then_read (r bs) next)
then_steady {A} {B} r next f g = record {
  shrinks = λ bs. then_left next g (r bs) (0 + length bs) (f.shrinks bs);
  steady = λ front. by front (f.steady front);
}
  where
    by : (front : Text) → IsEarly r front ⊎ IsDecided r front → IsEarly (λ bs. then_read (r bs) next) front ⊎ IsDecided (λ bs. then_read (r bs) next) front
    by front (inl e) = inl (ap (λ z. then_read z next) e.0, λ more. then_left next g (r (front ++ more)) (length more) (e.1 more))
    by front (inr d) = onward (r front) refl
      where
        onward : (o : Read A) → r front ≡ o → IsEarly (λ bs. then_read (r bs) next) front ⊎ IsDecided (λ bs. then_read (r bs) next) front
        onward (Stop n) e = inr (λ more. ap (λ z. then_read z next) (d more ∙ ap (λ z. longer z more) e) ∙ sym (ap (λ z. longer (then_read z next) more) e))
        onward (Got x mid) e = on ((g x).steady mid)
          where
            on : IsEarly (next x) mid ⊎ IsDecided (next x) mid → IsEarly (λ bs. then_read (r bs) next) front ⊎ IsDecided (λ bs. then_read (r bs) next) front
            on (inl q) =
                inl (
                  ap (λ z. then_read z next) e ∙ q.0,
                  λ more. subst (λ z. left_of z ≤ length more) (sym (ap (λ z. then_read z next) (d more ∙ ap (λ z. longer z more) e))) (q.1 more),
                )
            on (inr q) = inr (λ more. ap (λ z. then_read z next) (d more ∙ ap (λ z. longer z more) e) ∙ q more ∙ sym (ap (λ z. longer (then_read z next) more) e))

pub as_steady : {A B : Type 0} (make : A → B) (r : Reader A) → IsSteady 0 r → IsSteady 0 (read_as make r)
as_steady make r f = then_steady r (λ x rest. Got (make x) rest) f (λ x. nothing_steady 0 (make x))

-- by the byte in front
behind_byte : {A : Type 0} (q : ℕ → Reader A) (r : Reader A) → r [] ≡ Stop 0 → ((b : ℕ) (bs : Text) → r (b ∷ bs) ≡ q b bs) → ((b : ℕ) → IsSteady 1 (q b)) → IsSteady 0 r
behind_byte {A} q r n c g = record { shrinks = shrinks; steady = steady }
  where
    shrinks : (bs : Text) → left_of (r bs) ≤ 0 + length bs
    shrinks [] = subst (λ z. left_of z ≤ 0 + 0) (sym n) (omega arith)
    shrinks (b ∷ bs) = subst (λ z. left_of z ≤ 0 + suc (length bs)) (sym (c b bs)) (let h = (g b).shrinks bs in omega (arith, h))

    steady : (front : Text) → IsEarly r front ⊎ IsDecided r front
    steady [] = inl (n, λ more. let h = shrinks more in omega (arith, h))
    steady (b ∷ bs) = by ((g b).steady bs)
      where
        by : IsEarly (q b) bs ⊎ IsDecided (q b) bs → IsEarly r (b ∷ bs) ⊎ IsDecided r (b ∷ bs)
        by (inl e) = inl (c b bs ∙ e.0, λ more. subst (λ z. left_of z ≤ length more) (sym (c b (bs ++ more))) (e.1 more))
        by (inr d) = inr (λ more. c b (bs ++ more) ∙ d more ∙ ap (λ z. longer z more) (sym (c b bs)))

module _ {A : Type 0} where
  abbrev AreSteady : List (Reader A) → Type 0
  AreSteady [] = Unit {0}
  AreSteady (r ∷ rs) = IsSteady 1 r × AreSteady rs

  abbrev pub chosen : Option (Reader A) → Reader A
  chosen o bs = elim o as (λ r. Read A) [ None ↦ Stop (suc (length bs)) | Some r ↦ r bs ]

  chosen_steady : (rs : List (Reader A)) (b : ℕ) → AreSteady rs → IsSteady 1 (chosen (slice_get rs b))
  chosen_steady [] b h = no_steady
  chosen_steady (r ∷ rs) zero h = h.0
  chosen_steady (r ∷ rs) (suc b) h = chosen_steady rs b h.1

  by_steady : (rs : List (Reader A)) → AreSteady rs → IsSteady 0 (read_by rs)
  by_steady rs h = behind_byte (λ b. chosen (slice_get rs b)) (read_by rs) refl (λ b bs. refl) (λ b. chosen_steady rs b h)

-- numbers
number_left : (bs : Text) → (left_of (read_number bs) ≡ 0) ⊎ (left_of (read_number bs) + 4 ≤ length bs)
number_left [] = inl refl
number_left (a ∷ []) = inl refl
number_left (a ∷ b ∷ []) = inl refl
number_left (a ∷ b ∷ c ∷ []) = inl refl
number_left (a ∷ b ∷ c ∷ d ∷ rest) = inr (omega arith)

-- where a reader takes so many bytes or stops for want of them
few : {A : Type 0} (r : Reader A) (n : ℕ) → ((bs : Text) → (left_of (r bs) ≡ 0) ⊎ (left_of (r bs) + n ≤ length bs)) → (front : Text) → length front < n → (more : Text)
    → left_of (r (front ++ more)) ≤ length more
few r n h front lt more = by (h (front ++ more))
  where
    by : (left_of (r (front ++ more)) ≡ 0) ⊎ (left_of (r (front ++ more)) + n ≤ length (front ++ more)) → left_of (r (front ++ more)) ≤ length more
    by (inl e) = omega (arith, e)
    by (inr e) = let l = length-append front more in omega (arith, e, l, lt)

fewer : {A : Type 0} (r : Reader A) (n : ℕ) → ((bs : Text) → (left_of (r bs) ≡ 0) ⊎ (left_of (r bs) + n ≤ length bs)) → (bs : Text) → left_of (r bs) ≤ 0 + length bs
fewer r n h bs = by (h bs)
  where
    by : (left_of (r bs) ≡ 0) ⊎ (left_of (r bs) + n ≤ length bs) → left_of (r bs) ≤ 0 + length bs
    by (inl e) = omega (arith, e)
    by (inr e) = omega (arith, e)

pub number_steady : IsSteady 0 read_number
number_steady = record { shrinks = fewer read_number 4 number_left; steady = steady }
  where
    early : (front : Text) → length front < 4 → (more : Text) → left_of (read_number (front ++ more)) ≤ length more
    early = few read_number 4 number_left

    steady : (front : Text) → IsEarly read_number front ⊎ IsDecided read_number front
    steady [] = inl (refl, early [] (omega arith))
    steady (a ∷ []) = inl (refl, early (a ∷ []) (omega arith))
    steady (a ∷ b ∷ []) = inl (refl, early (a ∷ b ∷ []) (omega arith))
    steady (a ∷ b ∷ c ∷ []) = inl (refl, early (a ∷ b ∷ c ∷ []) (omega arith))
    steady (a ∷ b ∷ c ∷ d ∷ rest) = inr (λ more. refl)

integer_left : (bs : Text) → (left_of (read_integer bs) ≡ 0) ⊎ (left_of (read_integer bs) + 8 ≤ length bs)
integer_left [] = inl refl
integer_left (a ∷ []) = inl refl
integer_left (a ∷ b ∷ []) = inl refl
integer_left (a ∷ b ∷ c ∷ []) = inl refl
integer_left (a ∷ b ∷ c ∷ d ∷ []) = inl refl
integer_left (a ∷ b ∷ c ∷ d ∷ e ∷ []) = inl refl
integer_left (a ∷ b ∷ c ∷ d ∷ e ∷ f ∷ []) = inl refl
integer_left (a ∷ b ∷ c ∷ d ∷ e ∷ f ∷ g ∷ []) = inl refl
integer_left (a ∷ b ∷ c ∷ d ∷ e ∷ f ∷ g ∷ h ∷ rest) = inr (omega arith)

pub integer_steady : IsSteady 0 read_integer
integer_steady = record { shrinks = fewer read_integer 8 integer_left; steady = steady }
  where
    early : (front : Text) → length front < 8 → (more : Text) → left_of (read_integer (front ++ more)) ≤ length more
    early = few read_integer 8 integer_left

    steady : (front : Text) → IsEarly read_integer front ⊎ IsDecided read_integer front
    steady [] = inl (refl, early [] (omega arith))
    steady (a ∷ []) = inl (refl, early (a ∷ []) (omega arith))
    steady (a ∷ b ∷ []) = inl (refl, early (a ∷ b ∷ []) (omega arith))
    steady (a ∷ b ∷ c ∷ []) = inl (refl, early (a ∷ b ∷ c ∷ []) (omega arith))
    steady (a ∷ b ∷ c ∷ d ∷ []) = inl (refl, early (a ∷ b ∷ c ∷ d ∷ []) (omega arith))
    steady (a ∷ b ∷ c ∷ d ∷ e ∷ []) = inl (refl, early (a ∷ b ∷ c ∷ d ∷ e ∷ []) (omega arith))
    steady (a ∷ b ∷ c ∷ d ∷ e ∷ f ∷ []) = inl (refl, early (a ∷ b ∷ c ∷ d ∷ e ∷ f ∷ []) (omega arith))
    steady (a ∷ b ∷ c ∷ d ∷ e ∷ f ∷ g ∷ []) = inl (refl, early (a ∷ b ∷ c ∷ d ∷ e ∷ f ∷ g ∷ []) (omega arith))
    steady (a ∷ b ∷ c ∷ d ∷ e ∷ f ∷ g ∷ h ∷ rest) = inr (λ more. refl)

-- so many bytes
drop_front : (n : ℕ) (xs ys : Text) → n ≤ length xs → drop n (xs ++ ys) ≡ drop n xs ++ ys
drop_front zero xs ys h = refl
drop_front (suc n) [] ys h = absurd (omega (arith, h))
drop_front (suc n) (x ∷ xs) ys h = drop_front n xs ys (omega (arith, h))

take_front : (n : ℕ) (xs ys : Text) → n ≤ length xs → take n (xs ++ ys) ≡ take n xs
take_front zero xs ys h = refl
take_front (suc n) [] ys h = absurd (omega (arith, h))
take_front (suc n) (x ∷ xs) ys h = ap (λ z. x ∷ z) (take_front n xs ys (omega (arith, h)))

drop_less : (n : ℕ) (xs : Text) → length (drop n xs) ≤ length xs
drop_less zero xs = omega arith
drop_less (suc n) [] = omega arith
drop_less (suc n) (x ∷ xs) = let h = drop_less n xs in omega (arith, h)

drop_beyond : (n : ℕ) (xs ys : Text) → length xs < n → length (drop n (xs ++ ys)) ≤ length ys
drop_beyond n [] ys h = drop_less n ys
drop_beyond zero (x ∷ xs) ys h = absurd (omega (arith, h))
drop_beyond (suc n) (x ∷ xs) ys h = drop_beyond n xs ys (omega (arith, h))

abbrev pub told_of : ℕ → Text → Bool → Read Text
told_of n bs t = if t then Got (take n bs) (drop n bs) else Stop 0

pub bytes_steady : (n : ℕ) → IsSteady 0 (read_bytes n)
bytes_steady n = record { shrinks = λ bs. at_most bs (nat_le n (length bs)) (0 + length bs) (let h = drop_less n bs in omega (arith, h)); steady = λ front. by front (nat_le n (length front)) refl }
  where
    at_most : (bs : Text) (t : Bool) (m : ℕ) → length (drop n bs) ≤ m → left_of (told_of n bs t) ≤ m
    at_most bs true m h = h
    at_most bs false m h = omega arith

    by : (front : Text) (t : Bool) → nat_le n (length front) ≡ t → IsEarly (read_bytes n) front ⊎ IsDecided (read_bytes n) front
    by front false e =
        inl (ap (told_of n front) e, λ more. at_most (front ++ more) (nat_le n (length (front ++ more))) (length more) (drop_beyond n front more (grind (arith, e))))
    by front true e =
        let h : n ≤ length front = grind (arith, e) in
        inr (λ more.
        let l = length-append front more in
        let w : n ≤ length (front ++ more) = omega (arith, h, l) in
        let q : nat_le n (length (front ++ more)) ≡ true = grind (arith, w) in
        ap (told_of n (front ++ more)) q ∙ ap (λ z. Got z (drop n (front ++ more))) (take_front n front more h) ∙ ap (Got (take n front)) (drop_front n front more h)
        ∙ sym (ap (λ t. longer (told_of n front t) more) e))

-- items, and lists
pub items_steady : {A : Type 0} (r : Reader A) → IsSteady 0 r → (n : ℕ) → IsSteady 0 (read_items r n)
items_steady r f zero = nothing_steady 0 []
items_steady r f (suc n) =
    then_steady r (λ x rest. read_as (λ xs. x ∷ xs) (read_items r n) rest) f (λ x. as_steady (λ xs. x ∷ xs) (read_items r n) (items_steady r f n))

pub list_steady : {A : Type 0} (r : Reader A) → IsSteady 0 r → IsSteady 0 (read_list r)
list_steady r f = then_steady read_number (read_items r) number_steady (items_steady r f)

-- the parts of a file
pub name_steady : IsSteady 0 read_name
name_steady = as_steady (λ n. record { 0 = n }) read_number number_steady

pub text_steady : IsSteady 0 read_text
text_steady = then_steady read_number read_bytes number_steady bytes_steady

pub kind_steady : IsSteady 0 read_kind
kind_steady = by_steady kind_readers (no_steady, (nothing_steady 1 K.Int, (nothing_steady 1 K.Bool, (later (read_as K.Class read_name) (as_steady K.Class read_name name_steady), tt))))

pub option_steady : {A : Type 0} (r : Reader A) → IsSteady 0 r → IsSteady 0 (read_option r)
option_steady r f = by_steady (read_nothing None ∷ read_as Some r ∷ []) (nothing_steady 1 None, (later (read_as Some r) (as_steady Some r f), tt))

pub truth_steady : IsSteady 0 read_truth
truth_steady = by_steady truth_readers (nothing_steady 1 false, (nothing_steady 1 true, tt))

pub operator_steady : IsSteady 0 read_operator
operator_steady = by_steady operator_readers (
  no_steady,
  (
    nothing_steady 1 O.Add,
    (
      nothing_steady 1 O.Sub,
      (
        nothing_steady 1 O.Mul,
        (
          nothing_steady 1 O.Div,
          (
            nothing_steady 1 O.Rem,
            (
              nothing_steady 1 O.Neg,
              (
                nothing_steady 1 O.Less,
                (
                  nothing_steady 1 O.LessEq,
                  (
                    nothing_steady 1 O.More,
                    (
                      nothing_steady 1 O.MoreEq,
                      (
                        nothing_steady 1 O.Same,
                        (
                          nothing_steady 1 O.Differs,
                          (
                            nothing_steady 1 O.And,
                            (nothing_steady 1 O.Or, (nothing_steady 1 O.Not, tt)),
                          ),
                        ),
                      ),
                    ),
                  ),
                ),
              ),
            ),
          ),
        ),
      ),
    ),
  ),
)

pub sent_steady : (make : NameId → ℕ → Instr) → IsSteady 0 (read_sent make)
sent_steady make = then_steady read_name (λ m rest. read_as (make m) read_number rest) name_steady (λ m. as_steady (make m) read_number number_steady)

pub alternative_steady : IsSteady 0 read_alternative
alternative_steady =
    then_steady (read_option (read_list read_name)) (λ ns rest. read_as (λ a. record { answer = ns; at = a }) read_number rest)
    (option_steady (read_list read_name) (list_steady read_name name_steady)) (λ ns. as_steady (λ a. record { answer = ns; at = a }) read_number number_steady)

made : {A : Type 0} (make : A → Instr) (r : Reader A) → IsSteady 0 r → IsSteady 1 (read_as make r)
made make r f = later (read_as make r) (as_steady make r f)

pub instr_steady : IsSteady 0 read_instr
instr_steady = by_steady instr_readers (
  no_steady,
  (
    later read_integer integer_steady,
    (
      made I.PushBool read_truth truth_steady,
      (
        nothing_steady 1 I.PushNil,
        (
          made I.Jump read_number number_steady,
          (
            made I.LoadI read_number number_steady,
            (
              made I.LoadT read_number number_steady,
              (
                nothing_steady 1 I.SelfRef,
                (
                  made I.StoreI read_number number_steady,
                  (
                    made I.StoreT read_number number_steady,
                    (
                      made I.Oper read_operator operator_steady,
                      (
                        nothing_steady 1 I.Pop,
                        (
                          made I.Branch read_number number_steady,
                          (
                            nothing_steady 1 I.Loop,
                            (
                              made I.Call read_name name_steady,
                              (
                                nothing_steady 1 I.Ret,
                                (
                                  made I.New read_name name_steady,
                                  (
                                    later (read_sent I.Send) (sent_steady I.Send),
                                    (
                                      later (read_sent I.Async) (sent_steady I.Async),
                                      (
                                        nothing_steady 1 I.Write,
                                        (
                                          made I.WriteText read_name name_steady,
                                          (
                                            made I.Answer (read_list read_name) (list_steady read_name name_steady),
                                            (
                                              made I.Select (read_list read_alternative) (list_steady read_alternative alternative_steady),
                                              (nothing_steady 1 I.Halt, (nothing_steady 1 I.Post, tt)),
                                            ),
                                          ),
                                        ),
                                      ),
                                    ),
                                  ),
                                ),
                              ),
                            ),
                          ),
                        ),
                      ),
                    ),
                  ),
                ),
              ),
            ),
          ),
        ),
      ),
    ),
  ),
)

pub code_steady : IsSteady 0 read_code
code_steady =
    then_steady read_number (λ words rest. read_as (λ c. (words, c)) (read_list read_instr) rest) number_steady
    (λ words. as_steady (λ c. (words, c)) (read_list read_instr) (list_steady read_instr instr_steady))

-- a method, behind each of its parts
pub outcome_steady : (name : NameId) (params : ℕ) (temps : List Kind) → IsSteady 0 (behind_temps name params temps)
outcome_steady name params temps =
    then_steady (read_option read_kind) (behind_outcome name params temps) (option_steady read_kind kind_steady) (λ outcome. as_steady (method_of name params temps outcome) read_code code_steady)

pub temps_steady : (name : NameId) (params : ℕ) → IsSteady 0 (behind_params name params)
temps_steady name params = then_steady (read_list read_kind) (behind_temps name params) (list_steady read_kind kind_steady) (outcome_steady name params)

pub params_steady : (name : NameId) → IsSteady 0 (behind_name name)
params_steady name = then_steady read_number (behind_params name) number_steady (temps_steady name)

pub method_steady : IsSteady 0 read_method
method_steady = then_steady read_name behind_name name_steady params_steady

-- a class, behind each of its parts
pub methods_steady : (name : NameId) (vars : List Kind) → IsSteady 0 (behind_vars name vars)
methods_steady name vars =
    then_steady (read_list read_method) (behind_methods name vars) (list_steady read_method method_steady) (λ methods. as_steady (class_of name vars methods) read_code code_steady)

pub vars_steady : (name : NameId) → IsSteady 0 (behind_class_name name)
vars_steady name = then_steady (read_list read_kind) (behind_vars name) (list_steady read_kind kind_steady) (methods_steady name)

pub class_steady : IsSteady 0 read_class
class_steady = then_steady read_name behind_class_name name_steady vars_steady

pub exactly_steady : (hs : Text) → IsSteady 0 (read_exactly hs)
exactly_steady [] = nothing_steady 0 tt
exactly_steady (h ∷ hs) = behind_byte (λ b. on (h == b)) (read_exactly (h ∷ hs)) refl (λ b bs. refl) (λ b. by (h == b) (exactly_steady hs))
  where
    on : Bool → Reader (Unit {0})
    on t bs = if t then read_exactly hs bs else Stop (suc (length bs))

    by : (t : Bool) → IsSteady 0 (read_exactly hs) → IsSteady 1 (on t)
    by true f = later (read_exactly hs) f
    by false f = no_steady

pub classes_steady : (names : List Text) → IsSteady 0 (behind_names names)
classes_steady names = as_steady (file_of names) (read_list read_class) (list_steady read_class class_steady)

pub front_steady : (u : Unit {0}) → IsSteady 0 (behind_front u)
front_steady u = then_steady (read_list read_text) behind_names (list_steady read_text text_steady) classes_steady

pub file_steady : IsSteady 0 read_file
file_steady = then_steady (read_exactly head_bytes) behind_front (exactly_steady head_bytes) front_steady

-- where the bytes are bad
abbrev pub place : Decoded → ℕ
place (BadBytes n) = n
place _ = 0

pub twice_or : (f : UnitFile) (o : Option ℕ) (at : ℕ) → unless_twice f o ≡ BadBytes at → ⊥
twice_or f None at e = let z : Says f ≡ BadBytes at = e in cc
twice_or f (Some n) at e = let z : NameTwice n ≡ BadBytes at = e in cc

-- the first byte that is not allowed
module _ (bs : Text) (at : ℕ) (lt : at < length bs) where
  abbrev front : Text
  front = take (suc at) bs

  abbrev behind : Text
  behind = drop (suc at) bs

  whole : front ++ behind ≡ bs
  whole = take-append-drop (suc at) bs

  front_size : length front ≡ suc at
  front_size = length-take-le (suc at) bs (omega (arith, lt))

  behind_size : suc at + length behind ≡ length bs
  behind_size = let l = length-append front behind in let s = front_size in let w = ap length whole in omega (arith, l, s, w)

  -- the reader stops at the byte, or finds it behind a file
  module _ (n : ℕ) (size : n + at ≡ length bs) where
    same : n ≡ suc (length behind)
    same = let b = behind_size in omega (arith, b, size)

    left_here : (o : Read UnitFile) → read_file bs ≡ o → left_of o ≡ n → IsDecided read_file front
    left_here o e l = by (file_steady.steady front)
      where
        by : IsEarly read_file front ⊎ IsDecided read_file front → IsDecided read_file front
        by (inl q) =
            let h = subst (λ z. left_of (read_file z) ≤ length behind) whole (q.1 behind) in
            let k : left_of (read_file bs) ≡ n = ap left_of e ∙ l in
            absurd (let s = same in omega (arith, h, k, s))
        by (inr d) = d

    sizes : (more : Text) → length (front ++ more) - suc (length more) ≡ at
    sizes more = let l = length-append front more in let s = front_size in omega (arith, l, s)

    stopped : read_file bs ≡ Stop n → (more : Text) → decode (front ++ more) ≡ BadBytes at
    stopped e more = by (read_file front) refl
      where
        d : IsDecided read_file front
        d = left_here (Stop n) e refl

        by : (o : Read UnitFile) → read_file front ≡ o → decode (front ++ more) ≡ BadBytes at
        by (Got f rest) q =
            absurd (let z : Got f (rest ++ behind) ≡ Stop n = sym (ap (λ z. longer z behind) q) ∙ sym (d behind) ∙ ap read_file whole ∙ e in cc)
        by (Stop m) q =
            let z : m + length behind ≡ n = ap left_of (sym (ap (λ z. longer z behind) q) ∙ sym (d behind) ∙ ap read_file whole ∙ e) in
            let one : m ≡ 1 = (let s = same in omega (arith, z, s)) in
            ap (decoded (length (front ++ more))) (d more ∙ ap (λ z. longer z more) (q ∙ ap Stop one))
            ∙ ap BadBytes (let s = sizes more in let k : length (front ++ more) - (1 + length more) ≡ at = omega (arith, s) in k)

    found : (f : UnitFile) (b : ℕ) (rest : Text) → suc (length rest) ≡ n → read_file bs ≡ Got f (b ∷ rest) → (more : Text) → decode (front ++ more) ≡ BadBytes at
    found f b rest l e more = by (read_file front) refl
      where
        d : IsDecided read_file front
        d = left_here (Got f (b ∷ rest)) e l

        by : (o : Read UnitFile) → read_file front ≡ o → decode (front ++ more) ≡ BadBytes at
        by (Stop m) q =
            absurd (let z : Stop (m + length behind) ≡ Got f (b ∷ rest) = sym (ap (λ z. longer z behind) q) ∙ sym (d behind) ∙ ap read_file whole ∙ e in cc)
        by (Got g mid) q = one mid q (ap left_of (sym (ap (λ z. longer z behind) q) ∙ sym (d behind) ∙ ap read_file whole ∙ e))
          where
            one : (mid : Text) → read_file front ≡ Got g mid → length (mid ++ behind) ≡ suc (length rest) → decode (front ++ more) ≡ BadBytes at
            one [] q z = absurd (let s = same in omega (arith, z, s, l))
            one (c ∷ []) q z = ap (decoded (length (front ++ more))) (d more ∙ ap (λ z. longer z more) q) ∙ ap BadBytes (sizes more)
            one (c ∷ x ∷ mid) q z = absurd (let s = same in let p = length-append (c ∷ x ∷ mid) behind in omega (arith, z, s, l, p))

  -- behind it any bytes may stand: it stays the first
  pub bad_byte_stays : decode bs ≡ BadBytes at → (more : Text) → decode (take (suc at) bs ++ more) ≡ BadBytes at
  bad_byte_stays h more = by (read_file bs) refl h (file_steady.shrinks bs)
    where
      by : (o : Read UnitFile) → read_file bs ≡ o → decoded (length bs) o ≡ BadBytes at → left_of (read_file bs) ≤ 0 + length bs → decode (front ++ more) ≡ BadBytes at
      by (Stop n) e h l =
          let z : length bs - n ≡ at = ap place h in
          let k : left_of (read_file bs) ≡ n = ap left_of e in
          stopped n (omega (arith, z, k, l)) e more
      by (Got f []) e h l = absurd (twice_or f (first_twice 0 [] f.unit.names) at h)
      by (Got f (b ∷ rest)) e h l =
          let z : length bs - suc (length rest) ≡ at = ap place h in
          let k : left_of (read_file bs) ≡ suc (length rest) = ap left_of e in
          found (suc (length rest)) (omega (arith, z, k, l)) f b rest refl e more
