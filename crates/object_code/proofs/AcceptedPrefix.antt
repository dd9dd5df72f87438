-- If a reader stops, the bytes that it has read can be completed, so the bytes before the first bad byte begin a file.
use Rattle.std.proofs.Common.{◌≡◌, ◌⊎◌, inl, inr, refl, sym, ap, subst, ◌∙◌, ℕ, zero, suc, ◌+◌, ◌-◌, ◌==◌, ◌≤◌, List, [], ◌∷◌, ◌++◌, length, Some, None, Bool, true, false, arith, length-append, length-take-le}
use Rattle.std.specs.Prelude.{take, drop, nat_le, slice_get, if◌then◌else◌}
use Rattle.std.proofs.lemmas.List.{append_assoc, append-nil, take-append-drop}
use Rattle.text_scan.specs.Text.{Text}
use Rattle.run_types.specs.declared.types.NameId.{NameId}
use Rattle.run_types.specs.declared.types.Op.TheVariants as O
use Rattle.run_types.specs.declared.types.Kind.TheVariants as K
use Rattle.code_semantics.specs.declared.unit.Instr.{Instr}
use Rattle.code_semantics.specs.declared.unit.Instr.TheVariants as I
use Rattle.code_semantics.specs.declared.file.UnitFile.{UnitFile}
use Rattle.object_code.specs.Read.{Read, Got, Stop, Reader, then_read, read_nothing, read_as, read_by, not_allowed, read_number, read_bytes, read_items, read_list}
use Rattle.object_code.specs.FileBytes.{head_bytes}
use Rattle.object_code.specs.Decode.{read_name, read_text, read_integer, kind_readers, read_kind, read_option, truth_readers, read_truth, operator_readers, read_operator, read_sent, read_alternative, instr_readers, read_instr, read_code, method_of, behind_outcome, behind_temps, behind_params, behind_name, read_method, class_of, behind_methods, behind_vars, behind_class_name, read_class, read_exactly, file_of, behind_names, behind_front, read_file, first_twice, BadBytes, decoded, decode}
use Rattle.std.proofs.Math.Seq.{take-append_seam}
use Rattle.object_code.proofs.PrefixStability.{IsEarly, IsDecided, left_of, longer, IsSteady, chosen, nothing_steady, as_steady, number_steady, bytes_steady, items_steady, list_steady, name_steady, text_steady, kind_steady, option_steady, truth_steady, operator_steady, alternative_steady, instr_steady, code_steady, method_steady, class_steady, exactly_steady, outcome_steady, temps_steady, params_steady, methods_steady, vars_steady, classes_steady, front_steady, told_of, place, twice_or}
use Rattle.std.specs.Int.{w32, w64, from_be_bytes, cast_signed}
use Rattle.object_code.proofs.Formats.{got_value, got_rest, then_got}

-- the bytes before the last n begin some that are read to the end
pub record CanEnd {A : Type 0} (r : Reader A) (bs : Text) (n : ℕ) : Type 0 where
  pub before : Text
  pub behind : Text
  pub parts : bs ≡ before ++ behind
  pub size : length behind ≡ n
  pub more : Text
  pub value : A
  pub ends : r (before ++ more) ≡ Got value []

-- what is read, whatever stands behind it
pub record HasRead {A : Type 0} (r : Reader A) (bs : Text) (x : A) (rest : Text) : Type 0 where
  pub front : Text
  pub parts : bs ≡ front ++ rest
  pub says : (more : Text) → r (front ++ more) ≡ Got x more

pub record IsOpen {A : Type 0} (r : Reader A) : Type 0 where
  pub reads : (bs : Text) (x : A) (rest : Text) → r bs ≡ Got x rest → HasRead r bs x rest
  pub goes_on : (bs : Text) (n : ℕ) → r bs ≡ Stop n → CanEnd r bs n

-- a reader behind a byte, which may be the one that is not allowed
record IsChoice {A : Type 0} (r : Reader A) : Type 0 where
  reads : (bs : Text) (x : A) (rest : Text) → r bs ≡ Got x rest → HasRead r bs x rest
  goes_on : (bs : Text) (n : ℕ) → r bs ≡ Stop n → CanEnd r bs n ⊎ (n ≡ suc (length bs))

no_stop : {A : Type 0} (x : A) (rest : Text) (n : ℕ) → Got x rest ≡ Stop n → ⊥
no_stop x rest n e = let z : Got x rest ≡ Stop n = e in cc

got_it : {A : Type 0} (x y : A) (xs ys : Text) → Got x xs ≡ Got y ys → (x ≡ y) × (xs ≡ ys)
got_it x y xs ys e = (got_value x y xs ys e, got_rest x y xs ys e)

none_left : (xs : Text) → length xs ≤ 0 → xs ≡ []
none_left [] h = refl
none_left (x ∷ xs) h = absurd (omega (arith, h))

nothing_open : {A : Type 0} (x : A) → IsOpen (read_nothing x)
nothing_open x = record {
  reads = λ bs y rest e.
      let s = got_it x y bs rest e in
      record { front = []; parts = s.1; says = λ more. ap (λ z. Got z more) s.0 };
  goes_on = λ bs n e. absurd (no_stop x bs n e);
}

choice : {A : Type 0} (r : Reader A) → IsOpen r → IsChoice r
choice r f = record { reads = f.reads; goes_on = λ bs n e. inl (f.goes_on bs n e) }

no_choice : {A : Type 0} → IsChoice {A = A} not_allowed
no_choice = record {
  reads = λ bs x rest e. absurd (no_stop x rest (suc (length bs)) (sym e));
  goes_on = λ bs n e. inr (sym (ap left_of e));
}

then_open : {A B : Type 0} (r : Reader A) (next : A → Reader B) → IsSteady 0 r → ((x : A) → IsSteady 0 (next x)) → IsOpen r → ((x : A) → IsOpen (next x)) → IsOpen (λ bs. then_read (r bs) next)
then_open {A} {B} r next sr sn f g = record { reads = reads; goes_on = λ bs n e. by bs n (r bs) refl e }
  where
    reads : (bs : Text) (y : B) (rest : Text) → then_read (r bs) next ≡ Got y rest → HasRead (λ bs. then_read (r bs) next) bs y rest
    reads bs y rest e =
        let t = then_got (r bs) next y rest e in
        let a = f.reads bs t.0 t.1 t.2 in
        let b = (g t.0).reads t.1 y rest t.3 in
        record {
          front = a.front ++ b.front;
          parts = a.parts ∙ ap (λ z. a.front ++ z) b.parts ∙ sym (append_assoc a.front b.front rest);
          says = λ more. ap (λ z. then_read (r z) next) (append_assoc a.front b.front more) ∙ ap (λ z. then_read z next) (a.says (b.front ++ more)) ∙ b.says more;
        }

    -- more behind what was read to the end
    onward : (cut : Text) (x : A) (more : Text) → r cut ≡ Got x [] → r (cut ++ more) ≡ Got x more
    onward cut x more e = on (sr.steady cut)
      where
        on : IsEarly r cut ⊎ IsDecided r cut → r (cut ++ more) ≡ Got x more
        on (inl q) = absurd (no_stop x [] 0 (sym e ∙ q.0))
        on (inr d) = d more ∙ ap (λ z. longer z more) e

    -- from nothing the next can be read to the end
    from_nothing : (x : A) → (more : Text) × (y : B) × (next x more ≡ Got y [])
    from_nothing x = on (next x []) refl ((sn x).shrinks [])
      where
        on : (o : Read B) → next x [] ≡ o → left_of (next x []) ≤ 0 + 0 → (more : Text) × (y : B) × (next x more ≡ Got y [])
        on (Got y rest) e l =
            let k : left_of (next x []) ≡ length rest = ap left_of e in
            ([], y, e ∙ ap (Got y) (none_left rest (omega (arith, l, k))))
        on (Stop n) e l =
            let c = (g x).goes_on [] n e in
            (c.more, c.value, ap (λ z. next x (z ++ c.more)) (empty c.before c.behind c.parts) ∙ c.ends)
          where
            empty : (xs ys : Text) → [] ≡ xs ++ ys → [] ≡ xs
            empty [] ys e = refl
            empty (x ∷ xs) ys e = absurd (let z : [] ≡ x ∷ (xs ++ ys) = e in cc)

    by : (bs : Text) (n : ℕ) (o : Read A) → r bs ≡ o → then_read (r bs) next ≡ Stop n → CanEnd (λ bs. then_read (r bs) next) bs n
    by bs n (Stop m) e h =
        let same : m ≡ n = ap left_of (sym (ap (λ z. then_read z next) e) ∙ h) in
        let c = f.goes_on bs m e in
        let d = from_nothing c.value in
        record {
          before = c.before;
          behind = c.behind;
          parts = c.parts;
          size = c.size ∙ same;
          more = c.more ++ d.0;
          value = d.1;
          ends = ap (λ z. then_read (r z) next) (sym (append_assoc c.before c.more d.0)) ∙ ap (λ z. then_read z next) (onward (c.before ++ c.more) c.value d.0 c.ends) ∙ d.2;
        }
    by bs n (Got x mid) e h =
        let a = f.reads bs x mid e in
        let c = (g x).goes_on mid n (sym (ap (λ z. then_read z next) e) ∙ h) in
        record {
          before = a.front ++ c.before;
          behind = c.behind;
          parts = a.parts ∙ ap (λ z. a.front ++ z) c.parts ∙ sym (append_assoc a.front c.before c.behind);
          size = c.size;
          more = c.more;
          value = c.value;
          ends = ap (λ z. then_read (r z) next) (append_assoc a.front c.before c.more) ∙ ap (λ z. then_read z next) (a.says (c.before ++ c.more)) ∙ c.ends;
        }

as_open : {A B : Type 0} (make : A → B) (r : Reader A) → IsSteady 0 r → IsOpen r → IsOpen (read_as make r)
as_open make r s f = then_open r (λ x rest. Got (make x) rest) s (λ x. nothing_steady 0 (make x)) f (λ x. nothing_open (make x))

-- by the byte in front, where some bytes are read to the end
behind_open : {A : Type 0} (q : ℕ → Reader A) (r : Reader A) → r [] ≡ Stop 0 → ((b : ℕ) (bs : Text) → r (b ∷ bs) ≡ q b bs) → ((b : ℕ) → IsChoice (q b))
    → (some : Text) (value : A) → r some ≡ Got value [] → IsOpen r
behind_open {A} q r n c g some value ends = record { reads = reads; goes_on = goes_on }
  where
    reads : (bs : Text) (x : A) (rest : Text) → r bs ≡ Got x rest → HasRead r bs x rest
    reads [] x rest e = absurd (no_stop x rest 0 (sym e ∙ n))
    reads (b ∷ bs) x rest e =
        let h = (g b).reads bs x rest (sym (c b bs) ∙ e) in
        record { front = b ∷ h.front; parts = ap (λ z. b ∷ z) h.parts; says = λ more. c b (h.front ++ more) ∙ h.says more }

    anew : (bs : Text) (m : ℕ) → length bs ≡ m → CanEnd r bs m
    anew bs m e = record { before = []; behind = bs; parts = refl; size = e; more = some; value = value; ends = ends }

    goes_on : (bs : Text) (m : ℕ) → r bs ≡ Stop m → CanEnd r bs m
    goes_on [] m e = anew [] m (ap left_of (sym n ∙ e))
    goes_on (b ∷ bs) m e = by ((g b).goes_on bs m (sym (c b bs) ∙ e))
      where
        by : CanEnd (q b) bs m ⊎ (m ≡ suc (length bs)) → CanEnd r (b ∷ bs) m
        by (inl h) =
            record {
              before = b ∷ h.before;
              behind = h.behind;
              parts = ap (λ z. b ∷ z) h.parts;
              size = h.size;
              more = h.more;
              value = h.value;
              ends = c b (h.before ++ h.more) ∙ h.ends;
            }
        by (inr e) = anew (b ∷ bs) m (sym e)

module _ {A : Type 0} where
  abbrev AreChoices : List (Reader A) → Type 0
  AreChoices [] = Unit {0}
  AreChoices (r ∷ rs) = IsChoice r × AreChoices rs

  chosen_open : (rs : List (Reader A)) (b : ℕ) → AreChoices rs → IsChoice (chosen (slice_get rs b))
  chosen_open [] b h = no_choice
  chosen_open (r ∷ rs) zero h = h.0
  chosen_open (r ∷ rs) (suc b) h = chosen_open rs b h.1

  by_open : (rs : List (Reader A)) → AreChoices rs → (some : Text) (value : A) → read_by rs some ≡ Got value [] → IsOpen (read_by rs)
  by_open rs h some value e = behind_open (λ b. chosen (slice_get rs b)) (read_by rs) refl (λ b bs. refl) (λ b. chosen_open rs b h) some value e

-- all that there is, with bytes behind that make it enough
filled : {A : Type 0} (r : Reader A) (bs : Text) (n : ℕ) (more : Text) (x : A) → r bs ≡ Stop 0 → r bs ≡ Stop n → r (bs ++ more) ≡ Got x [] → CanEnd r bs n
filled r bs n more x z e h = record { before = bs; behind = []; parts = sym (append-nil bs); size = ap left_of (sym z ∙ e); more = more; value = x; ends = h }

number_open : IsOpen read_number
number_open = record { reads = reads; goes_on = goes_on }
  where
    reads : (bs : Text) (x : ℕ) (rest : Text) → read_number bs ≡ Got x rest → HasRead read_number bs x rest
    reads [] x rest e = absurd (no_stop x rest 0 (sym e))
    reads (a ∷ []) x rest e = absurd (no_stop x rest 0 (sym e))
    reads (a ∷ b ∷ []) x rest e = absurd (no_stop x rest 0 (sym e))
    reads (a ∷ b ∷ c ∷ []) x rest e = absurd (no_stop x rest 0 (sym e))
    reads (a ∷ b ∷ c ∷ d ∷ left) x rest e =
        let s = got_it (from_be_bytes w32 (a ∷ b ∷ c ∷ d ∷ [])) x left rest e in
        record { front = a ∷ b ∷ c ∷ d ∷ []; parts = ap (λ z. a ∷ b ∷ c ∷ d ∷ z) s.1; says = λ more. ap (λ z. Got z more) s.0 }

    goes_on : (bs : Text) (n : ℕ) → read_number bs ≡ Stop n → CanEnd read_number bs n
    goes_on [] n e = filled read_number [] n (0 ∷ 0 ∷ 0 ∷ 0 ∷ []) (from_be_bytes w32 (0 ∷ 0 ∷ 0 ∷ 0 ∷ [])) refl e refl
    goes_on (a ∷ []) n e = filled read_number (a ∷ []) n (0 ∷ 0 ∷ 0 ∷ []) (from_be_bytes w32 (a ∷ 0 ∷ 0 ∷ 0 ∷ [])) refl e refl
    goes_on (a ∷ b ∷ []) n e = filled read_number (a ∷ b ∷ []) n (0 ∷ 0 ∷ []) (from_be_bytes w32 (a ∷ b ∷ 0 ∷ 0 ∷ [])) refl e refl
    goes_on (a ∷ b ∷ c ∷ []) n e = filled read_number (a ∷ b ∷ c ∷ []) n (0 ∷ []) (from_be_bytes w32 (a ∷ b ∷ c ∷ 0 ∷ [])) refl e refl
    goes_on (a ∷ b ∷ c ∷ d ∷ left) n e = absurd (no_stop (from_be_bytes w32 (a ∷ b ∷ c ∷ d ∷ [])) left n e)

integer_open : IsOpen read_integer
integer_open = record { reads = reads; goes_on = goes_on }
  where
    reads : (bs : Text) (x : Instr) (rest : Text) → read_integer bs ≡ Got x rest → HasRead read_integer bs x rest
    reads [] x rest q = absurd (no_stop x rest 0 (sym q))
    reads (a ∷ []) x rest q = absurd (no_stop x rest 0 (sym q))
    reads (a ∷ b ∷ []) x rest q = absurd (no_stop x rest 0 (sym q))
    reads (a ∷ b ∷ c ∷ []) x rest q = absurd (no_stop x rest 0 (sym q))
    reads (a ∷ b ∷ c ∷ d ∷ []) x rest q = absurd (no_stop x rest 0 (sym q))
    reads (a ∷ b ∷ c ∷ d ∷ e ∷ []) x rest q = absurd (no_stop x rest 0 (sym q))
    reads (a ∷ b ∷ c ∷ d ∷ e ∷ f ∷ []) x rest q = absurd (no_stop x rest 0 (sym q))
    reads (a ∷ b ∷ c ∷ d ∷ e ∷ f ∷ g ∷ []) x rest q = absurd (no_stop x rest 0 (sym q))
    reads (a ∷ b ∷ c ∷ d ∷ e ∷ f ∷ g ∷ h ∷ left) x rest q =
        let s = got_it (I.PushInt (cast_signed w64 (from_be_bytes w64 (a ∷ b ∷ c ∷ d ∷ e ∷ f ∷ g ∷ h ∷ [])))) x left rest q in
        record { front = a ∷ b ∷ c ∷ d ∷ e ∷ f ∷ g ∷ h ∷ []; parts = ap (λ z. a ∷ b ∷ c ∷ d ∷ e ∷ f ∷ g ∷ h ∷ z) s.1; says = λ more. ap (λ z. Got z more) s.0 }

    goes_on : (bs : Text) (n : ℕ) → read_integer bs ≡ Stop n → CanEnd read_integer bs n
    goes_on [] n q = filled read_integer [] n (0 ∷ 0 ∷ 0 ∷ 0 ∷ 0 ∷ 0 ∷ 0 ∷ 0 ∷ []) (I.PushInt (cast_signed w64 (from_be_bytes w64 (0 ∷ 0 ∷ 0 ∷ 0 ∷ 0 ∷ 0 ∷ 0 ∷ 0 ∷ [])))) refl q refl
    goes_on (a ∷ []) n q = filled read_integer (a ∷ []) n (0 ∷ 0 ∷ 0 ∷ 0 ∷ 0 ∷ 0 ∷ 0 ∷ []) (I.PushInt (cast_signed w64 (from_be_bytes w64 (a ∷ 0 ∷ 0 ∷ 0 ∷ 0 ∷ 0 ∷ 0 ∷ 0 ∷ [])))) refl q refl
    goes_on (a ∷ b ∷ []) n q = filled read_integer (a ∷ b ∷ []) n (0 ∷ 0 ∷ 0 ∷ 0 ∷ 0 ∷ 0 ∷ []) (I.PushInt (cast_signed w64 (from_be_bytes w64 (a ∷ b ∷ 0 ∷ 0 ∷ 0 ∷ 0 ∷ 0 ∷ 0 ∷ [])))) refl q refl
    goes_on (a ∷ b ∷ c ∷ []) n q = filled read_integer (a ∷ b ∷ c ∷ []) n (0 ∷ 0 ∷ 0 ∷ 0 ∷ 0 ∷ []) (I.PushInt (cast_signed w64 (from_be_bytes w64 (a ∷ b ∷ c ∷ 0 ∷ 0 ∷ 0 ∷ 0 ∷ 0 ∷ [])))) refl q refl
    goes_on (a ∷ b ∷ c ∷ d ∷ []) n q = filled read_integer (a ∷ b ∷ c ∷ d ∷ []) n (0 ∷ 0 ∷ 0 ∷ 0 ∷ []) (I.PushInt (cast_signed w64 (from_be_bytes w64 (a ∷ b ∷ c ∷ d ∷ 0 ∷ 0 ∷ 0 ∷ 0 ∷ [])))) refl q refl
    goes_on (a ∷ b ∷ c ∷ d ∷ e ∷ []) n q = filled read_integer (a ∷ b ∷ c ∷ d ∷ e ∷ []) n (0 ∷ 0 ∷ 0 ∷ []) (I.PushInt (cast_signed w64 (from_be_bytes w64 (a ∷ b ∷ c ∷ d ∷ e ∷ 0 ∷ 0 ∷ 0 ∷ [])))) refl q refl
    goes_on (a ∷ b ∷ c ∷ d ∷ e ∷ f ∷ []) n q = filled read_integer (a ∷ b ∷ c ∷ d ∷ e ∷ f ∷ []) n (0 ∷ 0 ∷ []) (I.PushInt (cast_signed w64 (from_be_bytes w64 (a ∷ b ∷ c ∷ d ∷ e ∷ f ∷ 0 ∷ 0 ∷ [])))) refl q refl
    goes_on (a ∷ b ∷ c ∷ d ∷ e ∷ f ∷ g ∷ []) n q = filled read_integer (a ∷ b ∷ c ∷ d ∷ e ∷ f ∷ g ∷ []) n (0 ∷ []) (I.PushInt (cast_signed w64 (from_be_bytes w64 (a ∷ b ∷ c ∷ d ∷ e ∷ f ∷ g ∷ 0 ∷ [])))) refl q refl
    goes_on (a ∷ b ∷ c ∷ d ∷ e ∷ f ∷ g ∷ h ∷ left) n q = absurd (no_stop (I.PushInt (cast_signed w64 (from_be_bytes w64 (a ∷ b ∷ c ∷ d ∷ e ∷ f ∷ g ∷ h ∷ [])))) left n q)

-- so many bytes
fill : (n : ℕ) (bs : Text) → length bs ≤ n → (more : Text) × (length (bs ++ more) ≡ n)
fill zero bs h = ([], ap length (append-nil bs) ∙ (omega (arith, h)))
fill (suc n) [] h = let r = fill n [] (omega arith) in (0 ∷ r.0, ap suc r.1)
fill (suc n) (b ∷ bs) h = let r = fill n bs (omega (arith, h)) in (r.0, ap suc r.1)

drop_all : (xs : Text) → drop (length xs) xs ≡ []
drop_all [] = refl
drop_all (x ∷ xs) = drop_all xs

drop_whole : (t rest : Text) → drop (length t) (t ++ rest) ≡ rest
drop_whole [] rest = refl
drop_whole (x ∷ t) rest = drop_whole t rest

bytes_open : (n : ℕ) → IsOpen (read_bytes n)
bytes_open n = record { reads = λ bs x rest e. reads bs x rest (nat_le n (length bs)) refl e; goes_on = λ bs m e. goes_on bs m (nat_le n (length bs)) refl e }
  where
    front_of : (t more : Text) → length t ≡ n → read_bytes n (t ++ more) ≡ Got t more
    front_of t more e =
        let l = length-append t more in
        let w : n ≤ length (t ++ more) = omega (arith, e, l) in
        let q : nat_le n (length (t ++ more)) ≡ true = grind (arith, w) in
        ap (told_of n (t ++ more)) q ∙ subst (λ k. Got (take k (t ++ more)) (drop k (t ++ more)) ≡ Got t more) e
        (ap (λ z. Got z (drop (length t) (t ++ more))) (take-append_seam t more) ∙ ap (Got t) (drop_whole t more))

    reads : (bs x rest : Text) (t : Bool) → nat_le n (length bs) ≡ t → read_bytes n bs ≡ Got x rest → HasRead (read_bytes n) bs x rest
    reads bs x rest false q e = absurd (no_stop x rest 0 (sym e ∙ ap (told_of n bs) q))
    reads bs x rest true q e =
        let s = got_it (take n bs) x (drop n bs) rest (sym (ap (told_of n bs) q) ∙ e) in
        let l : length x ≡ n = ap length (sym s.0) ∙ length-take-le n bs (grind (arith, q)) in
        record { front = x; parts = sym (take-append-drop n bs) ∙ ap (λ z. z ++ drop n bs) s.0 ∙ ap (λ z. x ++ z) s.1; says = λ more. front_of x more l }

    goes_on : (bs : Text) (m : ℕ) (t : Bool) → nat_le n (length bs) ≡ t → read_bytes n bs ≡ Stop m → CanEnd (read_bytes n) bs m
    goes_on bs m true q e = absurd (no_stop (take n bs) (drop n bs) m (sym (ap (told_of n bs) q) ∙ e))
    goes_on bs m false q e =
        let r = fill n bs (grind (arith, q)) in
        filled (read_bytes n) bs m r.0 (bs ++ r.0) (ap (told_of n bs) q) e (ap (read_bytes n) (sym (append-nil (bs ++ r.0))) ∙ front_of (bs ++ r.0) [] r.1)

-- items, and lists
items_open : {A : Type 0} (r : Reader A) → IsSteady 0 r → IsOpen r → (n : ℕ) → IsOpen (read_items r n)
items_open r s f zero = nothing_open []
items_open r s f (suc n) =
    then_open r (λ x rest. read_as (λ xs. x ∷ xs) (read_items r n) rest) s (λ x. as_steady (λ xs. x ∷ xs) (read_items r n) (items_steady r s n)) f
    (λ x. as_open (λ xs. x ∷ xs) (read_items r n) (items_steady r s n) (items_open r s f n))

list_open : {A : Type 0} (r : Reader A) → IsSteady 0 r → IsOpen r → IsOpen (read_list r)
list_open r s f = then_open read_number (read_items r) number_steady (items_steady r s) number_open (items_open r s f)

-- the parts of a file
name_open : IsOpen read_name
name_open = as_open (λ n. record { 0 = n }) read_number number_steady number_open

text_open : IsOpen read_text
text_open = then_open read_number read_bytes number_steady bytes_steady number_open bytes_open

names_open : IsOpen (read_list read_name)
names_open = list_open read_name name_steady name_open

made : {A B : Type 0} (make : A → B) (r : Reader A) → IsSteady 0 r → IsOpen r → IsChoice (read_as make r)
made make r s f = choice (read_as make r) (as_open make r s f)

nothing : {A : Type 0} (x : A) → IsChoice (read_nothing x)
nothing x = choice (read_nothing x) (nothing_open x)

kind_open : IsOpen read_kind
kind_open = by_open kind_readers (no_choice, (nothing K.Int, (nothing K.Bool, (made K.Class read_name name_steady name_open, tt)))) (1 ∷ []) K.Int refl

kinds_open : IsOpen (read_list read_kind)
kinds_open = list_open read_kind kind_steady kind_open

option_open : {A : Type 0} (r : Reader A) → IsSteady 0 r → IsOpen r → IsOpen (read_option r)
option_open r s f = by_open (read_nothing None ∷ read_as Some r ∷ []) (nothing None, (made Some r s f, tt)) (0 ∷ []) None refl

truth_open : IsOpen read_truth
truth_open = by_open truth_readers (nothing false, (nothing true, tt)) (0 ∷ []) false refl

operator_open : IsOpen read_operator
operator_open = by_open operator_readers (
  no_choice,
  (
    nothing O.Add,
    (
      nothing O.Sub,
      (
        nothing O.Mul,
        (
          nothing O.Div,
          (
            nothing O.Rem,
            (
              nothing O.Neg,
              (
                nothing O.Less,
                (
                  nothing O.LessEq,
                  (
                    nothing O.More,
                    (
                      nothing O.MoreEq,
                      (nothing O.Same, (nothing O.Differs, (nothing O.And, (nothing O.Or, (nothing O.Not, tt))))),
                    ),
                  ),
                ),
              ),
            ),
          ),
        ),
      ),
    ),
  ),
) (1 ∷ []) O.Add refl

sent_open : (make : NameId → ℕ → Instr) → IsOpen (read_sent make)
sent_open make =
    then_open read_name (λ m rest. read_as (make m) read_number rest) name_steady (λ m. as_steady (make m) read_number number_steady) name_open
    (λ m. as_open (make m) read_number number_steady number_open)

alternative_open : IsOpen read_alternative
alternative_open =
    then_open (read_option (read_list read_name)) (λ ns rest. read_as (λ a. record { answer = ns; at = a }) read_number rest)
    (option_steady (read_list read_name) (list_steady read_name name_steady)) (λ ns. as_steady (λ a. record { answer = ns; at = a }) read_number number_steady)
    (option_open (read_list read_name) (list_steady read_name name_steady) names_open) (λ ns. as_open (λ a. record { answer = ns; at = a }) read_number number_steady number_open)

numbered : (make : ℕ → Instr) → IsChoice (read_as make read_number)
numbered make = made make read_number number_steady number_open

named : (make : NameId → Instr) → IsChoice (read_as make read_name)
named make = made make read_name name_steady name_open

instr_open : IsOpen read_instr
instr_open = by_open instr_readers (
  no_choice,
  (
    choice read_integer integer_open,
    (
      made I.PushBool read_truth truth_steady truth_open,
      (
        nothing I.PushNil,
        (
          numbered I.Jump,
          (
            numbered I.LoadI,
            (
              numbered I.LoadT,
              (
                nothing I.SelfRef,
                (
                  numbered I.StoreI,
                  (
                    numbered I.StoreT,
                    (
                      made I.Oper read_operator operator_steady operator_open,
                      (
                        nothing I.Pop,
                        (
                          numbered I.Branch,
                          (
                            nothing I.Loop,
                            (
                              named I.Call,
                              (
                                nothing I.Ret,
                                (
                                  named I.New,
                                  (
                                    choice (read_sent I.Send) (sent_open I.Send),
                                    (
                                      choice (read_sent I.Async) (sent_open I.Async),
                                      (
                                        nothing I.Write,
                                        (
                                          named I.WriteText,
                                          (
                                            made I.Answer (read_list read_name) (list_steady read_name name_steady) names_open,
                                            (
                                              made I.Select (read_list read_alternative) (list_steady read_alternative alternative_steady) (list_open read_alternative alternative_steady alternative_open),
                                              (
                                                nothing I.Halt,
                                                (nothing I.Post, tt),
                                              ),
                                            ),
                                          ),
                                        ),
                                      ),
                                    ),
                                  ),
                                ),
                              ),
                            ),
                          ),
                        ),
                      ),
                    ),
                  ),
                ),
              ),
            ),
          ),
        ),
      ),
    ),
  ),
) (3 ∷ []) I.PushNil refl

code_open : IsOpen read_code
code_open =
    then_open read_number (λ words rest. read_as (λ c. (words, c)) (read_list read_instr) rest) number_steady
    (λ words. as_steady (λ c. (words, c)) (read_list read_instr) (list_steady read_instr instr_steady)) number_open
    (λ words. as_open (λ c. (words, c)) (read_list read_instr) (list_steady read_instr instr_steady) (list_open read_instr instr_steady instr_open))

method_open : IsOpen read_method
method_open =
    then_open read_name behind_name name_steady params_steady name_open
    (λ name. then_open read_number (behind_params name) number_steady (temps_steady name) number_open
    (λ params. then_open (read_list read_kind) (behind_temps name params) (list_steady read_kind kind_steady) (outcome_steady name params) kinds_open
    (λ temps. then_open (read_option read_kind) (behind_outcome name params temps) (option_steady read_kind kind_steady)
    (λ outcome. as_steady (method_of name params temps outcome) read_code code_steady) (option_open read_kind kind_steady kind_open)
    (λ outcome. as_open (method_of name params temps outcome) read_code code_steady code_open))))

class_open : IsOpen read_class
class_open =
    then_open read_name behind_class_name name_steady vars_steady name_open
    (λ name. then_open (read_list read_kind) (behind_vars name) (list_steady read_kind kind_steady) (methods_steady name) kinds_open
    (λ vars. then_open (read_list read_method) (behind_methods name vars) (list_steady read_method method_steady)
    (λ methods. as_steady (class_of name vars methods) read_code code_steady) (list_open read_method method_steady method_open)
    (λ methods. as_open (class_of name vars methods) read_code code_steady code_open)))

exactly_whole : (hs : Text) → read_exactly hs hs ≡ Got tt []
exactly_whole [] = refl
exactly_whole (h ∷ hs) = ap (λ t. if t then read_exactly hs hs else Stop (suc (length hs))) (let z : (h == h) ≡ true = grind arith in z) ∙ exactly_whole hs

exactly_open : (hs : Text) → IsOpen (read_exactly hs)
exactly_open [] = nothing_open tt
exactly_open (h ∷ hs) =
    behind_open (λ b. on (h == b)) (read_exactly (h ∷ hs)) refl (λ b bs. refl) (λ b. by (h == b) (exactly_open hs)) (h ∷ hs) tt (exactly_whole (h ∷ hs))
  where
    on : Bool → Reader (Unit {0})
    on t bs = if t then read_exactly hs bs else Stop (suc (length bs))

    by : (t : Bool) → IsOpen (read_exactly hs) → IsChoice (on t)
    by true f = choice (read_exactly hs) f
    by false f = no_choice

file_open : IsOpen read_file
file_open =
    then_open (read_exactly head_bytes) behind_front (exactly_steady head_bytes) front_steady (exactly_open head_bytes)
    (λ u. then_open (read_list read_text) behind_names (list_steady read_text text_steady) classes_steady (list_open read_text text_steady text_open)
    (λ names. as_open (file_of names) (read_list read_class) (list_steady read_class class_steady) (list_open read_class class_steady class_open)))

-- the bytes before the first that is not allowed begin a file
pub begins_file : (bs : Text) (at : ℕ) → decode bs ≡ BadBytes at → (more : Text) × (f : UnitFile) × (read_file (take at bs ++ more) ≡ Got f [])
begins_file bs at h = by (read_file bs) refl h
  where
    front : (xs ys : Text) (n : ℕ) → bs ≡ xs ++ ys → length ys ≡ n → length bs - n ≡ at → take at bs ≡ xs
    front xs ys n p s e =
        let l = length-append xs ys in
        let q = ap length p in
        let k : length xs ≡ at = omega (arith, l, q, s, e) in
        ap (take at) p ∙ ap (λ m. take m (xs ++ ys)) (sym k) ∙ take-append_seam xs ys

    by : (o : Read UnitFile) → read_file bs ≡ o → decoded (length bs) o ≡ BadBytes at → (more : Text) × (f : UnitFile) × (read_file (take at bs ++ more) ≡ Got f [])
    by (Stop n) e h =
        let c = file_open.goes_on bs n e in
        (c.more, c.value, ap (λ z. read_file (z ++ c.more)) (front c.before c.behind n c.parts c.size (ap place h)) ∙ c.ends)
    by (Got f []) e h = absurd (twice_or f (first_twice 0 [] f.unit.names) at h)
    by (Got f (b ∷ rest)) e h =
        let c = file_open.reads bs f (b ∷ rest) e in
        ([], f, ap (λ z. read_file (z ++ [])) (front c.front (b ∷ rest) (suc (length rest)) c.parts refl (ap place h)) ∙ c.says [])
