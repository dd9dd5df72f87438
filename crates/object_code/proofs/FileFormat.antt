-- The parts of a file: decoding inverts encoding, and encoding inverts decoding.
use Rattle.std.proofs.Common.{◌≡◌, refl, sym, ap, subst, ◌∙◌, ℕ, zero, suc, ◌<◌, ℤ, [], ◌∷◌, ◌++◌, Option, Some, None, Bool, true, false, arith}
use Rattle.std.specs.Prelude.{◌^◌, get_or, FitsSigned}
use Rattle.std.specs.Int.{w64, to_be_bytes, from_be_bytes, cast_signed, cast_unsigned}
use Rattle.std.proofs.lemmas.Nat.{from_be_bytes-to_be_bytes_8, be_bytes_8}
use Rattle.std.proofs.lemmas.Int.{to_z-of_z, of_z-to_z}
use Rattle.std.proofs.Math.Facts.{Fits-of_z, Fits-of_lt, Fits-lt-pow, sfits_to_z}
use Rattle.text_scan.specs.Text.{Text}
use Rattle.run_types.specs.declared.types.NameId.{NameId}
use Rattle.run_types.specs.declared.types.Op.{Op}
use Rattle.run_types.specs.declared.types.Op.TheVariants as O
use Rattle.run_types.specs.declared.types.Kind.{Kind}
use Rattle.run_types.specs.declared.types.Kind.TheVariants as K
use Rattle.code_semantics.specs.declared.unit.Instr.{Instr}
use Rattle.code_semantics.specs.declared.unit.Instr.TheVariants as I
use Rattle.object_code.specs.Read.{Got, Stop, Reader, read_nothing, read_as, read_number, read_list}
use Rattle.object_code.specs.FileBytes.{number_bytes, integer_bytes, name_bytes, list_bytes, kind_bytes, option_bytes, truth_byte, operator_byte, alternative_bytes, instr_bytes}
use Rattle.object_code.specs.Decode.{kind_readers, truth_readers, operator_readers, instr_readers, read_name, read_integer, read_kind, read_option, read_truth, read_operator, read_sent, read_alternative, read_instr}
use Rattle.code_semantics.specs.Shaped.{IsNumber, NameIsNumbered, KindIsNumbered, IsOptionOf, IsListOf, AlternativeIsNumbered, InstrIsNumbered}
use Rattle.object_code.proofs.Formats.{AreBytes, all_front, IsFormat, EachWrote, got_value, got_rest, number_format, name_format, list_format, as_reads, two_read, two_wrote, Wrote, no_wrote, nothing_wrote, made_wrote, by_wrote}

pub kind_format : IsFormat read_kind kind_bytes KindIsNumbered
kind_format = record { reads = reads; wrote = λ bs x rest h e. by_wrote kind_bytes KindIsNumbered kind_readers each bs x rest h e }
  where
    reads : (k : Kind) → KindIsNumbered k → (rest : Text) → read_kind (kind_bytes k ++ rest) ≡ Got k rest
    reads K.Int h rest = refl
    reads K.Bool h rest = refl
    reads (K.Class c) h rest = as_reads read_name name_bytes NameIsNumbered name_format K.Class c rest h

    each : EachWrote kind_bytes KindIsNumbered 0 kind_readers
    each = (
      no_wrote kind_bytes KindIsNumbered 0,
      (
        nothing_wrote kind_bytes KindIsNumbered 1 K.Int refl tt,
        (
          nothing_wrote kind_bytes KindIsNumbered 2 K.Bool refl tt,
          (
            made_wrote kind_bytes KindIsNumbered 3 read_name name_bytes NameIsNumbered K.Class name_format (λ c. refl) (λ c h. h),
            tt,
          ),
        ),
      ),
    )

module _ {A : Type 0} (r : Reader A) (bytes : A → Text) (P : A → Type 0) (f : IsFormat r bytes P) where
  pub option_format : IsFormat (read_option r) (option_bytes bytes) (IsOptionOf P)
  option_format = record { reads = reads; wrote = λ bs x rest h e. by_wrote (option_bytes bytes) (IsOptionOf P) (read_nothing None ∷ read_as Some r ∷ []) each bs x rest h e }
    where
      reads : (x : Option A) → IsOptionOf P x → (rest : Text) → read_option r (option_bytes bytes x ++ rest) ≡ Got x rest
      reads None h rest = refl
      reads (Some x) h rest = as_reads r bytes P f Some x rest h

      each : Wrote (option_bytes bytes) (IsOptionOf P) 0 (read_nothing None) × (Wrote (option_bytes bytes) (IsOptionOf P) 1 (read_as Some r) × Unit {0})
      each = (
        nothing_wrote (option_bytes bytes) (IsOptionOf P) 0 None refl tt,
        (made_wrote (option_bytes bytes) (IsOptionOf P) 1 r bytes P Some f (λ x. refl) (λ x h. h), tt),
      )

pub truth_format : IsFormat read_truth (λ b. truth_byte b ∷ []) (λ b. Unit {0})
truth_format = record { reads = reads; wrote = λ bs x rest h e. by_wrote (λ b. truth_byte b ∷ []) (λ b. Unit {0}) truth_readers each bs x rest h e }
  where
    reads : (b : Bool) → Unit {0} → (rest : Text) → read_truth (truth_byte b ∷ rest) ≡ Got b rest
    reads false h rest = refl
    reads true h rest = refl

    each : EachWrote (λ b. truth_byte b ∷ []) (λ b. Unit {0}) 0 truth_readers
    each = (nothing_wrote (λ b. truth_byte b ∷ []) (λ b. Unit {0}) 0 false refl tt, (nothing_wrote (λ b. truth_byte b ∷ []) (λ b. Unit {0}) 1 true refl tt, tt))

pub operator_format : IsFormat read_operator (λ op. operator_byte op ∷ []) (λ op. Unit {0})
operator_format = record { reads = reads; wrote = λ bs x rest h e. by_wrote (λ op. operator_byte op ∷ []) (λ op. Unit {0}) operator_readers each bs x rest h e }
  where
    reads : (op : Op) → Unit {0} → (rest : Text) → read_operator (operator_byte op ∷ rest) ≡ Got op rest
    reads O.Add h rest = refl
    reads O.Sub h rest = refl
    reads O.Mul h rest = refl
    reads O.Div h rest = refl
    reads O.Rem h rest = refl
    reads O.Neg h rest = refl
    reads O.Less h rest = refl
    reads O.LessEq h rest = refl
    reads O.More h rest = refl
    reads O.MoreEq h rest = refl
    reads O.Same h rest = refl
    reads O.Differs h rest = refl
    reads O.And h rest = refl
    reads O.Or h rest = refl
    reads O.Not h rest = refl

    one : (op : Op) → Wrote (λ op. operator_byte op ∷ []) (λ op. Unit {0}) (operator_byte op) (read_nothing op)
    one op = nothing_wrote (λ op. operator_byte op ∷ []) (λ op. Unit {0}) (operator_byte op) op refl tt

    each : EachWrote (λ op. operator_byte op ∷ []) (λ op. Unit {0}) 0 operator_readers
    each = (
      no_wrote (λ op. operator_byte op ∷ []) (λ op. Unit {0}) 0,
      (
        one O.Add,
        (
          one O.Sub,
          (
            one O.Mul,
            (
              one O.Div,
              (
                one O.Rem,
                (
                  one O.Neg,
                  (
                    one O.Less,
                    (
                      one O.LessEq,
                      (
                        one O.More,
                        (
                          one O.MoreEq,
                          (
                            one O.Same,
                            (
                              one O.Differs,
                              (
                                one O.And,
                                (
                                  one O.Or,
                                  (one O.Not, tt),
                                ),
                              ),
                            ),
                          ),
                        ),
                      ),
                    ),
                  ),
                ),
              ),
            ),
          ),
        ),
      ),
    )

-- an integer
get_below : (bs : Text) (i : ℕ) → AreBytes bs → get_or bs i 0 < 256
get_below [] i h = omega arith
get_below (b ∷ bs) zero h = h.0
get_below (b ∷ bs) (suc i) h = get_below bs i h.1

eight_below : (a b c d e f g h : ℕ) → AreBytes (a ∷ b ∷ c ∷ d ∷ e ∷ f ∷ g ∷ h ∷ []) → from_be_bytes w64 (a ∷ b ∷ c ∷ d ∷ e ∷ f ∷ g ∷ h ∷ []) < 2 ^ 64
eight_below a b c d e f g h p =
    let p0 = p.0 in let p1 = p.1.0 in let p2 = p.1.1.0 in let p3 = p.1.1.1.0 in let p4 = p.1.1.1.1.0 in let p5 = p.1.1.1.1.1.0 in let p6 = p.1.1.1.1.1.1.0 in let p7 = p.1.1.1.1.1.1.1.0 in
    omega (arith, p0, p1, p2, p3, p4, p5, p6, p7)

integer_read : (z : ℤ) (rest : Text) → FitsSigned w64 z → read_integer (integer_bytes z ++ rest) ≡ Got (I.PushInt z) rest
integer_read z rest h =
    ap (λ n. Got (I.PushInt (cast_signed w64 n)) rest) (from_be_bytes-to_be_bytes_8 (cast_unsigned w64 z) (Fits-lt-pow {w = w64} {n = cast_unsigned w64 z} (Fits-of_z {w = w64} {z = z} h))) ∙ ap (λ n. Got (I.PushInt n) rest) (to_z-of_z w64 z h)

integer_wrote : (bs : Text) (x : Instr) (rest : Text) → AreBytes bs → read_integer bs ≡ Got x rest → (1 ∷ bs ≡ instr_bytes x ++ rest) × InstrIsNumbered x
integer_wrote (a ∷ b ∷ c ∷ d ∷ e ∷ f ∷ g ∷ h ∷ more) x rest q r =
    let n = from_be_bytes w64 (a ∷ b ∷ c ∷ d ∷ e ∷ f ∷ g ∷ h ∷ []) in
    let hs : AreBytes (a ∷ b ∷ c ∷ d ∷ e ∷ f ∷ g ∷ h ∷ []) = all_front (λ b. b < 256) (a ∷ b ∷ c ∷ d ∷ e ∷ f ∷ g ∷ h ∷ []) more q in
    let small = eight_below a b c d e f g h hs in
    let s : I.PushInt (cast_signed w64 n) ≡ x = got_value (I.PushInt (cast_signed w64 n)) x more rest r in
    let own : to_be_bytes w64 (cast_unsigned w64 (cast_signed w64 n)) ≡ a ∷ b ∷ c ∷ d ∷ e ∷ f ∷ g ∷ h ∷ [] =
    ap (to_be_bytes w64) (of_z-to_z w64 n small) ∙ be_bytes_8 (a ∷ b ∷ c ∷ d ∷ e ∷ f ∷ g ∷ h ∷ []) n refl (λ i. get_below (a ∷ b ∷ c ∷ d ∷ e ∷ f ∷ g ∷ h ∷ []) i hs) refl in (
      ap (λ z. 1 ∷ (z ++ more)) (sym own) ∙ ap (λ z. (1 ∷ integer_bytes (cast_signed w64 n)) ++ z) (got_rest (I.PushInt (cast_signed w64 n)) x more rest r) ∙ ap (λ z. instr_bytes z ++ rest) s,
      subst InstrIsNumbered s (sfits_to_z {w = w64} {n = n} (Fits-of_lt {w = w64} {n = n} small)),
    )
integer_wrote _ x rest q r = absurd (let z : Stop 0 ≡ Got x rest = r in cc)

-- an alternative
pub alternative_format : IsFormat read_alternative alternative_bytes AlternativeIsNumbered
alternative_format = record {
  reads = λ a h rest.
      two_read (read_option (read_list read_name)) read_number (option_bytes (list_bytes name_bytes)) number_bytes (IsOptionOf (IsListOf NameIsNumbered)) IsNumber answers number_format
      (λ ns a. record { answer = ns; at = a }) a.answer a.at rest h.0 h.1;
  wrote = λ bs a rest h e.
      let t = two_wrote (read_option (read_list read_name)) read_number (option_bytes (list_bytes name_bytes)) number_bytes (IsOptionOf (IsListOf NameIsNumbered)) IsNumber answers number_format
      (λ ns a. record { answer = ns; at = a }) bs a rest h e in
      (t.3 ∙ ap (λ z. alternative_bytes z ++ rest) t.2, subst AlternativeIsNumbered t.2 (t.4, t.5));
}
  where
    answers : IsFormat (read_option (read_list read_name)) (option_bytes (list_bytes name_bytes)) (IsOptionOf (IsListOf NameIsNumbered))
    answers = option_format (read_list read_name) (list_bytes name_bytes) (IsListOf NameIsNumbered) (list_format read_name name_bytes NameIsNumbered name_format)

names_format : IsFormat (read_list read_name) (list_bytes name_bytes) (IsListOf NameIsNumbered)
names_format = list_format read_name name_bytes NameIsNumbered name_format

alternatives_format : IsFormat (read_list read_alternative) (list_bytes alternative_bytes) (IsListOf AlternativeIsNumbered)
alternatives_format = list_format read_alternative alternative_bytes AlternativeIsNumbered alternative_format

-- an instruction
pub instr_format : IsFormat read_instr instr_bytes InstrIsNumbered
instr_format = record { reads = reads; wrote = λ bs x rest h e. by_wrote instr_bytes InstrIsNumbered instr_readers each bs x rest h e }
  where
    reads : (i : Instr) → InstrIsNumbered i → (rest : Text) → read_instr (instr_bytes i ++ rest) ≡ Got i rest
    reads (I.PushInt z) h rest = integer_read z rest h
    reads (I.PushBool b) h rest = as_reads read_truth (λ b. truth_byte b ∷ []) (λ b. Unit {0}) truth_format I.PushBool b rest tt
    reads I.PushNil h rest = refl
    reads (I.Jump a) h rest = as_reads read_number number_bytes IsNumber number_format I.Jump a rest h
    reads (I.LoadI n) h rest = as_reads read_number number_bytes IsNumber number_format I.LoadI n rest h
    reads (I.LoadT n) h rest = as_reads read_number number_bytes IsNumber number_format I.LoadT n rest h
    reads I.SelfRef h rest = refl
    reads (I.StoreI n) h rest = as_reads read_number number_bytes IsNumber number_format I.StoreI n rest h
    reads (I.StoreT n) h rest = as_reads read_number number_bytes IsNumber number_format I.StoreT n rest h
    reads (I.Oper op) h rest = as_reads read_operator (λ op. operator_byte op ∷ []) (λ op. Unit {0}) operator_format I.Oper op rest tt
    reads I.Pop h rest = refl
    reads (I.Branch a) h rest = as_reads read_number number_bytes IsNumber number_format I.Branch a rest h
    reads I.Loop h rest = refl
    reads (I.Call m) h rest = as_reads read_name name_bytes NameIsNumbered name_format I.Call m rest h
    reads I.Ret h rest = refl
    reads (I.New c) h rest = as_reads read_name name_bytes NameIsNumbered name_format I.New c rest h
    reads (I.Send m n) h rest = two_read read_name read_number name_bytes number_bytes NameIsNumbered IsNumber name_format number_format I.Send m n rest h.0 h.1
    reads (I.Async m n) h rest = two_read read_name read_number name_bytes number_bytes NameIsNumbered IsNumber name_format number_format I.Async m n rest h.0 h.1
    reads I.Write h rest = refl
    reads (I.WriteText s) h rest = as_reads read_name name_bytes NameIsNumbered name_format I.WriteText s rest h
    reads (I.Answer ns) h rest = as_reads (read_list read_name) (list_bytes name_bytes) (IsListOf NameIsNumbered) names_format I.Answer ns rest h
    reads (I.Select alts) h rest = as_reads (read_list read_alternative) (list_bytes alternative_bytes) (IsListOf AlternativeIsNumbered) alternatives_format I.Select alts rest h
    reads I.Halt h rest = refl
    reads I.Post h rest = refl

    plain : (n : ℕ) (i : Instr) → instr_bytes i ≡ n ∷ [] → InstrIsNumbered i → Wrote instr_bytes InstrIsNumbered n (read_nothing i)
    plain n i b p = nothing_wrote instr_bytes InstrIsNumbered n i b p

    number : (n : ℕ) (make : ℕ → Instr) → ((a : ℕ) → instr_bytes (make a) ≡ n ∷ number_bytes a) → ((a : ℕ) → IsNumber a → InstrIsNumbered (make a)) → Wrote instr_bytes InstrIsNumbered n (read_as make read_number)
    number n make b p = made_wrote instr_bytes InstrIsNumbered n read_number number_bytes IsNumber make number_format b p

    named : (n : ℕ) (make : NameId → Instr) → ((a : NameId) → instr_bytes (make a) ≡ n ∷ name_bytes a) → ((a : NameId) → NameIsNumbered a → InstrIsNumbered (make a))
        → Wrote instr_bytes InstrIsNumbered n (read_as make read_name)
    named n make b p = made_wrote instr_bytes InstrIsNumbered n read_name name_bytes NameIsNumbered make name_format b p

    sent : (n : ℕ) (make : NameId → ℕ → Instr) → ((m : NameId) (a : ℕ) → instr_bytes (make m a) ≡ n ∷ (name_bytes m ++ number_bytes a))
        → ((m : NameId) (a : ℕ) → NameIsNumbered m → IsNumber a → InstrIsNumbered (make m a)) → Wrote instr_bytes InstrIsNumbered n (read_sent make)
    sent n make b p bs x rest h e =
        let t = two_wrote read_name read_number name_bytes number_bytes NameIsNumbered IsNumber name_format number_format make bs x rest h e in
        (ap (λ z. n ∷ z) t.3 ∙ ap (λ z. z ++ rest) (sym (b t.0 t.1)) ∙ ap (λ z. instr_bytes z ++ rest) t.2, subst InstrIsNumbered t.2 (p t.0 t.1 t.4 t.5))

    each : EachWrote instr_bytes InstrIsNumbered 0 instr_readers
    each = (
      no_wrote instr_bytes InstrIsNumbered 0,
      (
        integer_wrote,
        (
          made_wrote instr_bytes InstrIsNumbered 2 read_truth (λ b. truth_byte b ∷ []) (λ b. Unit {0}) I.PushBool truth_format (λ b. refl) (λ b h. tt),
          (
            plain 3 I.PushNil refl tt,
            (
              number 4 I.Jump (λ a. refl) (λ a h. h),
              (
                number 5 I.LoadI (λ a. refl) (λ a h. h),
                (
                  number 6 I.LoadT (λ a. refl) (λ a h. h),
                  (
                    plain 7 I.SelfRef refl tt,
                    (
                      number 8 I.StoreI (λ a. refl) (λ a h. h),
                      (
                        number 9 I.StoreT (λ a. refl) (λ a h. h),
                        (
                          made_wrote instr_bytes InstrIsNumbered 10 read_operator (λ op. operator_byte op ∷ []) (λ op. Unit {0}) I.Oper operator_format (λ op. refl) (λ op h. tt),
                          (
                            plain 11 I.Pop refl tt,
                            (
                              number 12 I.Branch (λ a. refl) (λ a h. h),
                              (
                                plain 13 I.Loop refl tt,
                                (
                                  named 14 I.Call (λ a. refl) (λ a h. h),
                                  (
                                    plain 15 I.Ret refl tt,
                                    (
                                      named 16 I.New (λ a. refl) (λ a h. h),
                                      (
                                        sent 17 I.Send (λ m a. refl) (λ m a p q. (p, q)),
                                        (
                                          sent 18 I.Async (λ m a. refl) (λ m a p q. (p, q)),
                                          (
                                            plain 19 I.Write refl tt,
                                            (
                                              named 20 I.WriteText (λ a. refl) (λ a h. h),
                                              (
                                                made_wrote instr_bytes InstrIsNumbered 21 (read_list read_name) (list_bytes name_bytes) (IsListOf NameIsNumbered) I.Answer names_format (λ ns. refl) (λ ns h. h),
                                                (
                                                  made_wrote instr_bytes InstrIsNumbered 22 (read_list read_alternative) (list_bytes alternative_bytes) (IsListOf AlternativeIsNumbered) I.Select alternatives_format (λ alts. refl) (λ alts h. h),
                                                  (plain 23 I.Halt refl tt, (plain 24 I.Post refl tt, tt)),
                                                ),
                                              ),
                                            ),
                                          ),
                                        ),
                                      ),
                                    ),
                                  ),
                                ),
                              ),
                            ),
                          ),
                        ),
                      ),
                    ),
                  ),
                ),
              ),
            ),
          ),
        ),
      ),
    )
