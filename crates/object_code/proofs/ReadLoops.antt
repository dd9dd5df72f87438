-- Reading items one after another, as a loop does; tables of names.
use Rattle.std.proofs.Common.{◌≡◌, refl, sym, ap, subst, ◌∙◌, ℕ, zero, suc, ◌+◌, ◌-◌, ◌<◌, ◌≤◌, List, [], ◌∷◌, ◌++◌, length, drop, get_or, Option, Some, None, Bool, true, false, append_assoc, slice_get, arith}
use Rattle.std.specs.Prelude.{is_some, if◌then◌else◌, ◌||◌, bytes_eq}
use Rattle.std.proofs.lemmas.List.{append-nil, at_drop_all, at_drop_more}
use Rattle.text_scan.specs.Text.{Text}
use Rattle.run_types.specs.Table.{is_among, name_of, with_text}
use Rattle.object_code.specs.declared.code_fault.Unread.{Unread}
use Rattle.object_code.specs.declared.code_fault.Unread.TheVariants as U
use Rattle.run_types.specs.declared.types.NameId.{NameId}
use Rattle.run_types.specs.declared.types.Kind.{Kind}
use Rattle.code_semantics.specs.declared.unit.Instr.{Instr}
use Rattle.code_semantics.specs.declared.unit.BodyCode.{BodyCode}
use Rattle.code_semantics.specs.declared.unit.MethodCode.{MethodCode}
use Rattle.code_semantics.specs.declared.unit.ClassCode.{ClassCode}
use Rattle.code_semantics.specs.declared.file.UnitFile.{UnitFile}
use Rattle.code_semantics.specs.declared.file.ClassKinds.{ClassKinds}
use Rattle.code_semantics.specs.declared.file.MethodKinds.{MethodKinds}
use Rattle.object_code.specs.Read.{Read, Got, Stop, Reader, then_read, read_as, read_number, read_items, read_list}
use Rattle.object_code.specs.FileBytes.{head_bytes}
use Rattle.code_semantics.specs.Pairs.{pairs}
use Rattle.object_code.specs.Decode.{behind_class_name, behind_front, behind_methods, behind_names, behind_vars, class_of, file_of, first_twice, instr_readers, read_class, read_code, read_exactly, read_file, read_instr, read_kind, read_method, read_name, read_text, seconds}
use Rattle.object_code.specs.ReadResults.{Stops, IsTable}
use Rattle.object_code.proofs.WholeFile.{firsts_pairs, seconds_pairs}

-- what was read before, and what is still read
abbrev pub with_front : {A : Type 0} → List A → Read (List A) → Read (List A)
with_front front r = then_read r (λ xs rest. Got (front ++ xs) rest)

regroup : {A : Type 0} (front : List A) (x : A) (r : Read (List A)) → with_front front (then_read r (λ xs rest. Got (x ∷ xs) rest)) ≡ with_front (front ++ x ∷ []) r
regroup front x (Got xs rest) = ap (λ zs. Got zs rest) (sym (append_assoc front (x ∷ []) xs))
regroup front x (Stop left) = refl

with_nothing : {A : Type 0} (r : Read (List A)) → with_front [] r ≡ r
with_nothing (Got xs rest) = refl
with_nothing (Stop left) = refl

module _ {A : Type 0} (r : Reader A) where
  pub list_begins : (bs : Text) (count : ℕ) (rest : Text) → read_number bs ≡ Got count rest → with_front [] (read_items r (count - 0) rest) ≡ read_list r bs
  list_begins bs count rest e =
      let k : count - 0 ≡ count = omega arith in
      with_nothing (read_items r (count - 0) rest) ∙ ap (λ n. read_items r n rest) k ∙ sym (ap (λ z. then_read z (read_items r)) e)

  unrolled : (front : List A) (count i : ℕ) (bs : Text) → i < count
      → with_front front (read_items r (count - i) bs) ≡ with_front front (then_read (r bs) (λ x rest. read_as (λ xs. x ∷ xs) (read_items r (count - (i + 1))) rest))
  unrolled front count i bs lt = let k : count - i ≡ suc (count - (i + 1)) = omega (arith, lt) in ap (λ n. with_front front (read_items r n bs)) k

  pub list_goes_on : (front : List A) (count i : ℕ) (bs : Text) (x : A) (after : Text) (total : Read (List A)) → i < count → r bs ≡ Got x after
      → with_front front (read_items r (count - i) bs) ≡ total → with_front (front ++ x ∷ []) (read_items r (count - (i + 1)) after) ≡ total
  list_goes_on front count i bs x after total lt e so_far =
      sym (
      unrolled front count i bs lt ∙ ap (λ z. with_front front (then_read z (λ x rest. read_as (λ xs. x ∷ xs) (read_items r (count - (i + 1))) rest))) e
      ∙ regroup front x (read_items r (count - (i + 1)) after)
      ) ∙ so_far

  pub list_stops : (u : Unread) (front : List A) (count i : ℕ) (bs : Text) (total : Read (List A)) → i < count → Stops u (r bs)
      → with_front front (read_items r (count - i) bs) ≡ total → Stops u total
  list_stops U.Memory front count i bs total lt e so_far = tt
  list_stops (U.BadByte left) front count i bs total lt e so_far =
      sym so_far ∙ unrolled front count i bs lt ∙ ap (λ z. with_front front (then_read z (λ x rest. read_as (λ xs. x ∷ xs) (read_items r (count - (i + 1))) rest))) e

  pub list_is_done : (front : List A) (count i : ℕ) (bs : Text) (total : Read (List A)) → count ≤ i → with_front front (read_items r (count - i) bs) ≡ total → total ≡ Got front bs
  list_is_done front count i bs total le so_far =
      let k : count - i ≡ 0 = omega (arith, le) in
      sym so_far ∙ ap (λ n. with_front front (read_items r n bs)) k ∙ ap (λ zs. Got zs bs) (append-nil front)

-- one more of two lists, side by side
pub pairs_push : {A B : Type 0} (xs : List A) (ys : List B) (x : A) (y : B) → length xs ≡ length ys → pairs (xs ++ x ∷ []) (ys ++ y ∷ []) ≡ pairs xs ys ++ (x, y) ∷ []
pairs_push [] [] x y e = refl
pairs_push [] (b ∷ ys) x y e = absurd (let z : 0 ≡ suc (length ys) = e in omega (arith, z))
pairs_push (a ∷ xs) [] x y e = absurd (let z : suc (length xs) ≡ 0 = e in omega (arith, z))
pairs_push (a ∷ xs) (b ∷ ys) x y e = ap (λ ps. (a, b) ∷ ps) (pairs_push xs ys x y (let z : suc (length xs) ≡ suc (length ys) = e in omega (arith, z)))

-- bytes before others that are read one by one
pub exactly_at : (hs : Text) (i : ℕ) (d : ℕ) (bs : Text) → i < length hs → read_exactly (drop i hs) bs ≡ read_exactly (get_or hs i d ∷ drop (i + 1) hs) bs
exactly_at hs i d bs within = at_drop_more (λ zs. read_exactly zs bs) hs i d within

pub exactly_short : (u : Unread) (hs bs rest : Text) (i : ℕ) → i < length hs → u ≡ U.BadByte 0 → rest ≡ [] → read_exactly hs bs ≡ read_exactly (drop i hs) rest → Stops u (read_exactly hs bs)
exactly_short u hs bs rest i within e nothing so_far =
    subst (λ v. Stops v (read_exactly hs bs)) (sym e) (so_far ∙ ap (read_exactly (drop i hs)) nothing ∙ exactly_at hs i 0 [] within)

pub exactly_done : (hs bs rest : Text) (i : ℕ) → length hs ≤ i → read_exactly hs bs ≡ read_exactly (drop i hs) rest → read_exactly hs bs ≡ Got tt rest
exactly_done hs bs rest i done so_far = so_far ∙ at_drop_all (λ zs. read_exactly zs rest) hs i done

-- ---- tables

-- some texts were read of a list, and are in the table
pub record HasTaken (bs rest : Text) (count i : ℕ) (names : List Text) (again : Option ℕ) : Type 0 where
  pub texts : List Text
  pub reads : with_front texts (read_items read_text (count - i) rest) ≡ read_list read_text bs
  pub table : IsTable texts names again
  pub size : length names ≤ i

one_more : (n : ℕ) (b : Bool) → (if b then Some n else None) ≡ (if b || false then Some (n + 0) else None)
one_more n true = ap Some (let z : n ≡ n + 0 = omega arith in z)
one_more n false = refl

swapped : (p q r : Bool) → ((p || q) || r) ≡ (q || (p || r))
swapped true true r = refl
swapped true false r = refl
swapped false true r = refl
swapped false false r = refl

-- a text that is added to those of a table, of which none stood twice
added : (n : ℕ) (before xs : List Text) (w : Text) → first_twice n before xs ≡ None
    → first_twice n before (xs ++ w ∷ []) ≡ (if is_among before w || is_among xs w then Some (n + length xs) else None)
added n before [] w e = one_more n (is_among before w)
added n before (x ∷ xs) w e = by (is_among before x) refl (λ h. added (suc n) (x ∷ before) xs w h)
  where
    at : Bool → List Text → Option ℕ
    at b zs = if b then Some n else first_twice (suc n) (x ∷ before) zs

    by : (b : Bool) → is_among before x ≡ b
        → (first_twice (suc n) (x ∷ before) xs ≡ None → first_twice (suc n) (x ∷ before) (xs ++ w ∷ []) ≡ (if (bytes_eq x w || is_among before w) || is_among xs w then Some (suc n + length xs) else None))
        → at (is_among before x) (xs ++ w ∷ []) ≡ (if is_among before w || (bytes_eq x w || is_among xs w) then Some (n + suc (length xs)) else None)
    by true q more = absurd (let z : Some n ≡ None = sym (ap (λ b. at b xs) q) ∙ e in cc)
    by false q more =
        let h : first_twice (suc n) (x ∷ before) xs ≡ None = sym (ap (λ b. at b xs) q) ∙ e in
        let k : suc n + length xs ≡ n + suc (length xs) = omega arith in
        ap (λ b. at b (xs ++ w ∷ [])) q ∙ more h ∙ ap (λ b. if b then Some (suc n + length xs) else None) (swapped (bytes_eq x w) (is_among before w) (is_among xs w))
        ∙ ap (λ m. if is_among before w || (bytes_eq x w || is_among xs w) then Some m else None) k

-- the first that stands twice stays the first
stays : (n : ℕ) (before xs ys : List Text) (k : ℕ) → first_twice n before xs ≡ Some k → first_twice n before (xs ++ ys) ≡ Some k
stays n before [] ys k e = absurd (let z : None ≡ Some k = e in cc)
stays n before (x ∷ xs) ys k e = by (is_among before x) refl (λ h. stays (suc n) (x ∷ before) xs ys k h)
  where
    at : Bool → List Text → Option ℕ
    at b zs = if b then Some n else first_twice (suc n) (x ∷ before) zs

    by : (b : Bool) → is_among before x ≡ b → (first_twice (suc n) (x ∷ before) xs ≡ Some k → first_twice (suc n) (x ∷ before) (xs ++ ys) ≡ Some k) → at (is_among before x) (xs ++ ys) ≡ Some k
    by true q more = ap (λ b. at b (xs ++ ys)) q ∙ sym (ap (λ b. at b xs) q) ∙ e
    by false q more = ap (λ b. at b (xs ++ ys)) q ∙ more (sym (ap (λ b. at b xs) q) ∙ e)

-- the number of a text that is there is a place of the table
among_below : (xs : List Text) (w : Text) → is_among xs w ≡ true → name_of xs w < length xs
among_below [] w e = absurd (cc)
among_below (x ∷ xs) w e = by (bytes_eq x w) refl (λ h. among_below xs w h)
  where
    number : Bool → ℕ
    number b = elim b [ true ↦ 0 | false ↦ suc (name_of xs w) ]

    by : (b : Bool) → bytes_eq x w ≡ b → (is_among xs w ≡ true → name_of xs w < length xs) → number (bytes_eq x w) < suc (length xs)
    by true q more = subst (λ n. n < suc (length xs)) (sym (ap number q)) (omega arith)
    by false q more = subst (λ n. n < suc (length xs)) (sym (ap number q)) (let h = more (sym (ap (λ b. b || is_among xs w) q) ∙ e) in omega (arith, h))

-- and that of a text that is not is none
new_is_last : (xs : List Text) (w : Text) → is_among xs w ≡ false → name_of xs w ≡ length xs
new_is_last [] w e = refl
new_is_last (x ∷ xs) w e = by (bytes_eq x w) refl (λ h. new_is_last xs w h)
  where
    number : Bool → ℕ
    number b = elim b [ true ↦ 0 | false ↦ suc (name_of xs w) ]

    by : (b : Bool) → bytes_eq x w ≡ b → (is_among xs w ≡ false → name_of xs w ≡ length xs) → number (bytes_eq x w) ≡ suc (length xs)
    by true q more = absurd (let z : true ≡ false = sym (ap (λ b. b || is_among xs w) q) ∙ e in cc)
    by false q more = ap number q ∙ ap suc (more (sym (ap (λ b. b || is_among xs w) q) ∙ e))

pub table_kept : (texts names : List Text) (w : Text) (k : ℕ) → IsTable texts names (Some k) → IsTable (texts ++ w ∷ []) names (Some k)
table_kept texts names w k t = record { first = sym (stays 0 [] texts (w ∷ []) k (sym t.first)); whole = λ e. absurd (let z : Some k ≡ None = e in cc) }

pub table_twice : (texts names more : List Text) (w : Text) → IsTable texts names None → name_of names w < length names → IsTable (texts ++ w ∷ []) more (Some (length names))
table_twice texts names more w t lt = by (is_among names w) refl
  where
    same : names ≡ texts
    same = t.whole refl

    by : (b : Bool) → is_among names w ≡ b → IsTable (texts ++ w ∷ []) more (Some (length names))
    by false q = absurd (let z = new_is_last names w q in omega (arith, z, lt))
    by true q =
        let among : is_among texts w ≡ true = sym (ap (λ ns. is_among ns w) same) ∙ q in
        let size : 0 + length texts ≡ length names = let z : length texts ≡ length names = ap length (sym same) in omega (arith, z) in
        let first : first_twice 0 [] (texts ++ w ∷ []) ≡ Some (length names) = added 0 [] texts w (sym t.first) ∙ ap (λ b. if b then Some (0 + length texts) else None) among ∙ ap Some size in
        record { first = sym first; whole = λ e. absurd (let z : Some (length names) ≡ None = e in cc) }

pub table_new : (texts names : List Text) (w : Text) → IsTable texts names None → length names ≤ name_of names w → IsTable (texts ++ w ∷ []) (with_text names w) None
table_new texts names w t le = by (is_among names w) refl
  where
    same : names ≡ texts
    same = t.whole refl

    grown : Bool → List Text
    grown b = elim b [ true ↦ names | false ↦ names ++ w ∷ [] ]

    by : (b : Bool) → is_among names w ≡ b → IsTable (texts ++ w ∷ []) (grown (is_among names w)) None
    by true q = absurd (let z = among_below names w q in omega (arith, z, le))
    by false q =
        let among : is_among texts w ≡ false = sym (ap (λ ns. is_among ns w) same) ∙ q in
        let first : first_twice 0 [] (texts ++ w ∷ []) ≡ None = added 0 [] texts w (sym t.first) ∙ ap (λ b. if b then Some (0 + length texts) else None) among in
        record { first = sym first; whole = λ e. ap grown q ∙ ap (λ ns. ns ++ w ∷ []) same }

-- by the place of a text in the table

pub table_stays : (texts names : List Text) (w : Text) (again : Option ℕ) → is_some again ≡ true → IsTable texts names again → IsTable (texts ++ w ∷ []) names again
table_stays texts names w None e t = absurd (let z : false ≡ true = e in cc)
table_stays texts names w (Some k) e t = table_kept texts names w k t

pub table_again : (texts names more : List Text) (w : Text) (again : Option ℕ) (n id : ℕ) → is_some again ≡ false → IsTable texts names again → n ≡ length names → id ≡ name_of names w → id < n
    → IsTable (texts ++ w ∷ []) more (Some n)
table_again texts names more w (Some k) n id e t size at lt = absurd (let z : true ≡ false = e in cc)
table_again texts names more w None n id e t size at lt =
    subst (λ m. IsTable (texts ++ w ∷ []) more (Some m)) (sym size) (table_twice texts names more w t (omega (arith, size, at, lt)))

pub table_grows : (texts names more : List Text) (w : Text) (again : Option ℕ) (n id : ℕ) → is_some again ≡ false → IsTable texts names again → n ≡ length names → id ≡ name_of names w → n ≤ id
    → more ≡ with_text names w → IsTable (texts ++ w ∷ []) more None
table_grows texts names more w (Some k) n id e t size at le grown = absurd (let z : true ≡ false = e in cc)
table_grows texts names more w None n id e t size at le grown =
    subst (λ ns. IsTable (texts ++ w ∷ []) ns None) (sym grown) (table_new texts names w t (omega (arith, size, at, le)))

pub taken_on : (bs rest behind text : Text) (count i : ℕ) (names more : List Text) (again next : Option ℕ) → i < count → read_text rest ≡ Got text behind → HasTaken bs rest count i names again
    → ((texts : List Text) → IsTable texts names again → IsTable (texts ++ text ∷ []) more next) → length more ≤ length names + 1 → HasTaken bs behind count (i + 1) more next
taken_on bs rest behind text count i names more again next lt e h adds size = record {
  texts = h.texts ++ text ∷ [];
  reads = list_goes_on read_text h.texts count i rest text behind (read_list read_text bs) lt e h.reads;
  table = adds h.texts h.table;
  size = let z = h.size in omega (arith, z, size);
}

pub taken_all : (bs rest : Text) (count i : ℕ) (names : List Text) (again : Option ℕ) → count ≤ i → HasTaken bs rest count i names again
    → (texts : List Text) × (read_list read_text bs ≡ Got texts rest) × IsTable texts names again
taken_all bs rest count i names again le h = (h.texts, list_is_done read_text h.texts count i rest (read_list read_text bs) le h.reads, h.table)

-- ---- wholes of parts

pub class_taken : (bs a b c d : Text) (name : NameId) (vars same : List Kind) (ms : List MethodCode) (ss : List MethodKinds) (body : BodyCode) → read_name bs ≡ Got name a
    → read_list read_kind a ≡ Got vars b → read_list read_method b ≡ Got (pairs ms ss) c → length ms ≡ length ss → read_code c ≡ Got (body.frame_words, body.code) d → same ≡ vars
    → read_class bs ≡ Got (record { name = name; vars = length same; methods = ms; body = body }, record { vars = vars; methods = ss }) d
class_taken bs a b c d name vars same ms ss body e f g many h equal =
    ap (λ z. then_read z behind_class_name) e ∙ ap (λ z. then_read z (behind_vars name)) f ∙ ap (λ z. then_read z (behind_methods name vars)) g
    ∙ ap (λ z. then_read z (λ x rest. Got (class_of name vars (pairs ms ss) x) rest)) h
    ∙ ap (made (length vars) (seconds (pairs ms ss))) (firsts_pairs ms ss many) ∙ ap (λ qs. made (length vars) qs ms) (seconds_pairs ms ss many)
    ∙ ap (λ n. made n ss ms) (ap length (sym equal))
  where
    made : ℕ → List MethodKinds → List MethodCode → Read (ClassCode × ClassKinds)
    made n qs ks = Got (record { name = name; vars = n; methods = ks; body = body }, record { vars = vars; methods = qs }) d

pub file_taken : (bs a b c : Text) (texts : List Text) (ks : List ClassCode) (qs : List ClassKinds) → read_exactly head_bytes bs ≡ Got tt a → read_list read_text a ≡ Got texts b
    → read_list read_class b ≡ Got (pairs ks qs) c → length ks ≡ length qs → read_file bs ≡ Got (record { unit = record { names = texts; classes = ks }; kinds = record { classes = qs } }) c
file_taken bs a b c texts ks qs e f g many =
    ap (λ z. then_read z behind_front) e ∙ ap (λ z. then_read z behind_names) f ∙ ap (λ z. then_read z (λ x rest. Got (file_of texts x) rest)) g
    ∙ ap (made (seconds (pairs ks qs))) (firsts_pairs ks qs many) ∙ ap (λ ys. made ys ks) (seconds_pairs ks qs many)
  where
    made : List ClassKinds → List ClassCode → Read UnitFile
    made ys xs = Got (record { unit = record { names = texts; classes = xs }; kinds = record { classes = ys } }) c

-- a byte that is the number of no instruction

past : {A : Type 0} (xs : List A) (i : ℕ) → length xs ≤ i → slice_get xs i ≡ None
past [] i h = refl
past (x ∷ xs) zero h = absurd (let z : suc (length xs) ≤ 0 = h in omega (arith, z))
past (x ∷ xs) (suc i) h = past xs i (let z : suc (length xs) ≤ suc i = h in omega (arith, z))

pub no_instr : (b : ℕ) (bs all : Text) → all ≡ b ∷ bs → (0 < b → 24 < b) → read_instr all ≡ Stop (length all)
no_instr b bs all e h = ap read_instr e ∙ by b h ∙ ap Stop (ap length (sym e))
  where
    chosen : Option (Reader Instr) → Read Instr
    chosen o = elim o as (λ r. Read Instr) [ None ↦ Stop (suc (length bs)) | Some r ↦ r bs ]

    by : (b : ℕ) → (0 < b → 24 < b) → read_instr (b ∷ bs) ≡ Stop (suc (length bs))
    by zero h = refl
    by (suc b) h = ap chosen (past instr_readers (suc b) (let z = h (omega arith) in omega (arith, z)))
