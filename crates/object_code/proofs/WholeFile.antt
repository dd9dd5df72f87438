-- Decoding inverts encoding for whole files, and encoding inverts decoding.
use Rattle.std.proofs.Common.{◌≡◌, refl, sym, ap, subst, ◌∙◌, ℕ, suc, ◌==◌, List, [], ◌∷◌, ◌++◌, length, Option, Some, None, Bool, true, false, arith}
use Rattle.std.specs.Prelude.{if◌then◌else◌}
use Rattle.std.specs.List.{AllByRecursion as Each}
use Rattle.std.proofs.lemmas.List.{append_assoc, append-nil}
use Rattle.text_scan.specs.Text.{Text}
use Rattle.code_semantics.specs.declared.unit.Instr.{Instr}
use Rattle.code_semantics.specs.declared.unit.MethodCode.{MethodCode}
use Rattle.code_semantics.specs.declared.unit.ClassCode.{ClassCode}
use Rattle.code_semantics.specs.declared.file.UnitFile.{UnitFile}
use Rattle.code_semantics.specs.declared.file.ClassKinds.{ClassKinds}
use Rattle.code_semantics.specs.declared.file.MethodKinds.{MethodKinds}
use Rattle.object_code.specs.Read.{Read, Got, Stop, read_number, read_list}
use Rattle.object_code.specs.FileBytes.{number_bytes, name_bytes, list_bytes, text_bytes, kind_bytes, option_bytes, instr_bytes, code_bytes, method_bytes, class_bytes, head_bytes, file_bytes}
use Rattle.code_semantics.specs.Shaped.{AreShapedMethods, AreShapedClasses, IsShaped, IsNumber, IsListOf, IsShortText, NameIsNumbered, KindIsNumbered, IsOptionOf, InstrIsNumbered, CodeIsNumbered, MethodIsWritable, ClassIsWritable, IsWritable}
use Rattle.code_semantics.specs.Pairs.{pairs}
use Rattle.object_code.specs.Decode.{read_name, read_text, read_kind, read_option, read_instr, read_code, method_of, behind_outcome, behind_temps, behind_params, behind_name, read_method, firsts, seconds, class_of, behind_methods, behind_vars, behind_class_name, read_class, read_exactly, file_of, behind_names, behind_front, read_file, first_twice, Decoded, Says, BadBytes, NameTwice, unless_twice, decoded, decode}
use Rattle.object_code.proofs.Formats.{AreBytes, IsFormat, got_rest, then_got, left_bytes, seq, number_format, name_format, list_format, text_format, as_reads, two_read, two_wrote, AreOf, Takes, took_wrote, part_takes, last_takes}
use Rattle.object_code.proofs.FileFormat.{kind_format, option_format, instr_format}

-- pairs of two lists, and back
pub firsts_pairs : {A B : Type 0} (xs : List A) (ys : List B) → length xs ≡ length ys → firsts (pairs xs ys) ≡ xs
firsts_pairs [] [] e = refl
firsts_pairs [] (y ∷ ys) e = refl
firsts_pairs (x ∷ xs) [] e = absurd (let z : suc (length xs) ≡ 0 = e in omega (arith, z))
firsts_pairs (x ∷ xs) (y ∷ ys) e = ap (λ z. x ∷ z) (firsts_pairs xs ys (let z : suc (length xs) ≡ suc (length ys) = e in omega (arith, z)))

pub seconds_pairs : {A B : Type 0} (xs : List A) (ys : List B) → length xs ≡ length ys → seconds (pairs xs ys) ≡ ys
seconds_pairs [] [] e = refl
seconds_pairs [] (y ∷ ys) e = absurd (let z : 0 ≡ suc (length ys) = e in omega (arith, z))
seconds_pairs (x ∷ xs) [] e = refl
seconds_pairs (x ∷ xs) (y ∷ ys) e = ap (λ z. y ∷ z) (seconds_pairs xs ys (let z : suc (length xs) ≡ suc (length ys) = e in omega (arith, z)))

pub pairs_of : {A B : Type 0} (ps : List (A × B)) → pairs (firsts ps) (seconds ps) ≡ ps
pairs_of [] = refl
pairs_of (p ∷ ps) = ap (λ z. p ∷ z) (pairs_of ps)

pub as_many : {A B : Type 0} (ps : List (A × B)) → length (firsts ps) ≡ length (seconds ps)
as_many [] = refl
as_many (p ∷ ps) = ap suc (as_many ps)

kinds_format : IsFormat (read_list read_kind) (list_bytes kind_bytes) (IsListOf KindIsNumbered)
kinds_format = list_format read_kind kind_bytes KindIsNumbered kind_format

-- code and the words of its frames
object_code : IsFormat read_code (λ c. code_bytes c.0 c.1) (λ c. CodeIsNumbered c.0 c.1)
object_code = record {
  reads = λ c h rest.
      two_read read_number (read_list read_instr) number_bytes (list_bytes instr_bytes) IsNumber (IsListOf InstrIsNumbered) number_format (list_format read_instr instr_bytes InstrIsNumbered instr_format)
      (λ words c. (words, c)) c.0 c.1 rest h.0 h.1;
  wrote = λ bs c rest h e.
      let t = two_wrote read_number (read_list read_instr) number_bytes (list_bytes instr_bytes) IsNumber (IsListOf InstrIsNumbered) number_format
      (list_format read_instr instr_bytes InstrIsNumbered instr_format) (λ words c. (words, c)) bs c rest h e in
      (t.3 ∙ ap (λ (z : ℕ × List Instr). code_bytes z.0 z.1 ++ rest) t.2, subst (λ (z : ℕ × List Instr). CodeIsNumbered z.0 z.1) t.2 (t.4, t.5));
}

outcome_format : IsFormat (read_option read_kind) (option_bytes kind_bytes) (IsOptionOf KindIsNumbered)
outcome_format = option_format read_kind kind_bytes KindIsNumbered kind_format

-- a method
pub method_format : IsFormat read_method method_bytes MethodIsWritable
method_format = record { reads = reads; wrote = took_wrote read_method method_bytes MethodIsWritable taken }
  where
    reads : (m : MethodCode × MethodKinds) → MethodIsWritable m → (rest : Text) → read_method (method_bytes m ++ rest) ≡ Got m rest
    reads m h rest =
        let code = code_bytes m.0.frame_words m.0.code in
        let outcome = option_bytes kind_bytes m.1.result in
        let temps = list_bytes kind_bytes m.1.temps in
        let params = number_bytes m.0.params in
        seq read_name behind_name (name_bytes m.0.name) (params ++ (temps ++ (outcome ++ code))) m.0.name m rest (λ more. name_format.reads m.0.name h.0 more)
        (seq read_number (behind_params m.0.name) params (temps ++ (outcome ++ code)) m.0.params m rest (λ more. number_format.reads m.0.params h.1 more)
        (seq (read_list read_kind) (behind_temps m.0.name m.0.params) temps (outcome ++ code) m.1.temps m rest (λ more. kinds_format.reads m.1.temps h.3 more)
        (seq (read_option read_kind) (behind_outcome m.0.name m.0.params m.1.temps) outcome code m.1.result m rest (λ more. outcome_format.reads m.1.result h.4 more)
        (as_reads read_code (λ c. code_bytes c.0 c.1) (λ c. CodeIsNumbered c.0 c.1) object_code (method_of m.0.name m.0.params m.1.temps m.1.result) (m.0.frame_words, m.0.code) rest h.5
        ∙ ap (λ z. Got z rest) (own m h.2)))))
      where
        own : (m : MethodCode × MethodKinds) → m.0.temps ≡ length m.1.temps → method_of m.0.name m.0.params m.1.temps m.1.result (m.0.frame_words, m.0.code) ≡ m
        own m e = ap (λ n. (record m.0 { temps = n }, m.1)) (sym e)

    taken : Takes read_method (AreOf method_bytes MethodIsWritable)
    taken =
        part_takes read_name name_bytes NameIsNumbered name_format _ behind_name (λ n hn.
        part_takes read_number number_bytes IsNumber number_format _ (behind_params n) (λ p hp.
        part_takes (read_list read_kind) (list_bytes kind_bytes) (IsListOf KindIsNumbered) kinds_format _ (behind_temps n p) (λ t ht.
        part_takes (read_option read_kind) (option_bytes kind_bytes) (IsOptionOf KindIsNumbered) outcome_format _ (behind_outcome n p t) (λ o ho.
        last_takes read_code (λ c. code_bytes c.0 c.1) (λ c. CodeIsNumbered c.0 c.1) object_code _ (method_of n p t o) (λ c hc.
        record { same = refl; kept = (hn, hp, refl, ht, ho, hc) })))))

methods_format : IsFormat (read_list read_method) (list_bytes method_bytes) (IsListOf MethodIsWritable)
methods_format = list_format read_method method_bytes MethodIsWritable method_format

-- a class
pub class_format : IsFormat read_class class_bytes ClassIsWritable
class_format = record { reads = reads; wrote = took_wrote read_class class_bytes ClassIsWritable taken }
  where
    reads : (k : ClassCode × ClassKinds) → ClassIsWritable k → (rest : Text) → read_class (class_bytes k ++ rest) ≡ Got k rest
    reads k h rest =
        let code = code_bytes k.0.body.frame_words k.0.body.code in
        let methods = list_bytes method_bytes (pairs k.0.methods k.1.methods) in
        let vars = list_bytes kind_bytes k.1.vars in
        seq read_name behind_class_name (name_bytes k.0.name) (vars ++ (methods ++ code)) k.0.name k rest (λ more. name_format.reads k.0.name h.0 more)
        (seq (read_list read_kind) (behind_vars k.0.name) vars (methods ++ code) k.1.vars k rest (λ more. kinds_format.reads k.1.vars h.2 more)
        (seq (read_list read_method) (behind_methods k.0.name k.1.vars) methods code (pairs k.0.methods k.1.methods) k rest (λ more. methods_format.reads (pairs k.0.methods k.1.methods) h.4 more)
        (as_reads read_code (λ c. code_bytes c.0 c.1) (λ c. CodeIsNumbered c.0 c.1) object_code (class_of k.0.name k.1.vars (pairs k.0.methods k.1.methods))
        (k.0.body.frame_words, k.0.body.code) rest h.5 ∙ ap (λ z. Got z rest) (own k h.1 h.3))))
      where
        own : (k : ClassCode × ClassKinds) → k.0.vars ≡ length k.1.vars → length k.0.methods ≡ length k.1.methods
            → class_of k.0.name k.1.vars (pairs k.0.methods k.1.methods) (k.0.body.frame_words, k.0.body.code) ≡ k
        own k e l =
            ap (λ n. (record k.0 { vars = n; methods = firsts (pairs k.0.methods k.1.methods) }, record k.1 { methods = seconds (pairs k.0.methods k.1.methods) })) (sym e)
            ∙ ap (λ ms. (record k.0 { methods = ms }, record k.1 { methods = seconds (pairs k.0.methods k.1.methods) })) (firsts_pairs k.0.methods k.1.methods l)
            ∙ ap (λ ss. (k.0, record k.1 { methods = ss })) (seconds_pairs k.0.methods k.1.methods l)

    taken : Takes read_class (AreOf class_bytes ClassIsWritable)
    taken =
        part_takes read_name name_bytes NameIsNumbered name_format _ behind_class_name (λ n hn.
        part_takes (read_list read_kind) (list_bytes kind_bytes) (IsListOf KindIsNumbered) kinds_format _ (behind_vars n) (λ v hv.
        part_takes (read_list read_method) (list_bytes method_bytes) (IsListOf MethodIsWritable) methods_format _ (behind_methods n v) (λ ms hm.
        last_takes read_code (λ c. code_bytes c.0 c.1) (λ c. CodeIsNumbered c.0 c.1) object_code _ (class_of n v ms) (λ c hc.
        record {
          same = ap (λ z. name_bytes n ++ (list_bytes kind_bytes v ++ (list_bytes method_bytes z ++ code_bytes c.0 c.1))) (sym (pairs_of ms));
          kept = (hn, refl, hv, as_many ms, subst (IsListOf MethodIsWritable) (sym (pairs_of ms)) hm, hc);
        }))))

all_classes : IsFormat (read_list read_class) (list_bytes class_bytes) (IsListOf ClassIsWritable)
all_classes = list_format read_class class_bytes ClassIsWritable class_format

all_names : IsFormat (read_list read_text) (list_bytes text_bytes) (IsListOf IsShortText)
all_names = list_format read_text text_bytes IsShortText text_format

-- the front of a file
head_wrote : (hs bs rest : Text) (u : Unit {0}) → read_exactly hs bs ≡ Got u rest → bs ≡ hs ++ rest
head_wrote [] bs rest u e = got_rest tt u bs rest e
head_wrote (h ∷ hs) [] rest u e = absurd (let z : Stop 0 ≡ Got u rest = e in cc)
head_wrote (h ∷ hs) (b ∷ bs) rest u e = by (h == b) refl (λ i. head_wrote hs bs rest u i)
  where
    by : (t : Bool) → (h == b) ≡ t → (read_exactly hs bs ≡ Got u rest → bs ≡ hs ++ rest) → b ∷ bs ≡ h ∷ (hs ++ rest)
    by true q more =
        let i : h ≡ b = grind (arith, q) in
        ap (λ z. z ∷ bs) (sym i) ∙ ap (λ z. h ∷ z) (more (sym (ap (λ t. if t then read_exactly hs bs else Stop (suc (length bs))) q) ∙ e))
    by false q more = absurd (let z : Stop (suc (length bs)) ≡ Got u rest = sym (ap (λ t. if t then read_exactly hs bs else Stop (suc (length bs))) q) ∙ e in cc)

-- a whole file
pub file_read : (f : UnitFile) → IsWritable f → (rest : Text) → read_file (file_bytes f ++ rest) ≡ Got f rest
file_read f h rest =
    let classes = list_bytes class_bytes (pairs f.unit.classes f.kinds.classes) in
    let names = list_bytes text_bytes f.unit.names in
    seq (read_list read_text) behind_names names classes f.unit.names f rest (λ more. all_names.reads f.unit.names h.names more)
    (as_reads (read_list read_class) (list_bytes class_bytes) (IsListOf ClassIsWritable) all_classes (file_of f.unit.names) (pairs f.unit.classes f.kinds.classes) rest h.classes
    ∙ ap (λ z. Got z rest) (own f h.count))
  where
    own : (f : UnitFile) → length f.unit.classes ≡ length f.kinds.classes → file_of f.unit.names (pairs f.unit.classes f.kinds.classes) ≡ f
    own f l =
        ap (λ ks. record { unit = record { names = f.unit.names; classes = ks }; kinds = record { classes = seconds (pairs f.unit.classes f.kinds.classes) } }) (firsts_pairs f.unit.classes f.kinds.classes l)
        ∙ ap (λ qs. record { unit = f.unit; kinds = record { classes = qs } }) (seconds_pairs f.unit.classes f.kinds.classes l)

behind_taken : Takes (behind_front tt) (λ taken f. AreOf file_bytes IsWritable (head_bytes ++ taken) f)
behind_taken =
    part_takes (read_list read_text) (list_bytes text_bytes) (IsListOf IsShortText) all_names _ behind_names (λ n hn.
    last_takes (read_list read_class) (list_bytes class_bytes) (IsListOf ClassIsWritable) all_classes _ (file_of n) (λ ks hk.
    record {
      same = ap (λ z. head_bytes ++ (list_bytes text_bytes n ++ list_bytes class_bytes z)) (sym (pairs_of ks));
      kept = record { names = hn; count = as_many ks; classes = subst (IsListOf ClassIsWritable) (sym (pairs_of ks)) hk };
    }))

pub file_wrote : (bs : Text) (f : UnitFile) (rest : Text) → AreBytes bs → read_file bs ≡ Got f rest → (bs ≡ file_bytes f ++ rest) × IsWritable f
file_wrote bs f rest h e =
    let u = then_got (read_exactly head_bytes bs) behind_front f rest e in
    let front = head_wrote head_bytes bs u.1 u.0 u.2 in
    behind u.1 front (behind_taken.took u.1 f rest (left_bytes bs head_bytes u.1 h front) u.3)
  where
    behind : (mid : Text) → bs ≡ head_bytes ++ mid → ((taken : Text) × (mid ≡ taken ++ rest) × AreOf file_bytes IsWritable (head_bytes ++ taken) f) → (bs ≡ file_bytes f ++ rest) × IsWritable f
    behind mid e t = (e ∙ ap (λ z. head_bytes ++ z) t.1 ∙ sym (append_assoc head_bytes t.0 rest) ∙ ap (λ z. z ++ rest) t.2.same, t.2.kept)

-- The bytes of a file say it, unless one of its names stands twice.
pub decode_encode : (f : UnitFile) → IsWritable f → decode (file_bytes f) ≡ unless_twice f (first_twice 0 [] f.unit.names)
decode_encode f h =
    ap (decoded (length (file_bytes f))) (ap read_file (sym (append-nil (file_bytes f))) ∙ file_read f h [])

-- Bytes that say a file are its bytes, and it is one that has bytes.
pub encode_decode : (bs : Text) (f : UnitFile) → AreBytes bs → decode bs ≡ Says f → (bs ≡ file_bytes f) × IsWritable f × (first_twice 0 [] f.unit.names ≡ None)
encode_decode bs f h e = by (read_file bs) refl e
  where
    by : (r : Read UnitFile) → read_file bs ≡ r → decoded (length bs) r ≡ Says f → (bs ≡ file_bytes f) × IsWritable f × (first_twice 0 [] f.unit.names ≡ None)
    by (Stop n) q i = absurd (let z : BadBytes _ ≡ Says f = i in cc)
    by (Got g (b ∷ rest)) q i = absurd (let z : BadBytes _ ≡ Says f = i in cc)
    by (Got g []) q i = once (first_twice 0 [] g.unit.names) refl i
      where
        file_or : UnitFile → Decoded → UnitFile
        file_or d (Says f) = f
        file_or d _ = d

        once : (o : Option ℕ) → first_twice 0 [] g.unit.names ≡ o → unless_twice g o ≡ Says f → (bs ≡ file_bytes f) × IsWritable f × (first_twice 0 [] f.unit.names ≡ None)
        once (Some n) p j = absurd (let z : NameTwice n ≡ Says f = j in cc)
        once None p j =
            let s : g ≡ f = ap (file_or g) j in
            let w = file_wrote bs g [] h q in
            subst (λ (z : UnitFile). (bs ≡ file_bytes z) × IsWritable z × (first_twice 0 [] z.unit.names ≡ None)) s (w.0 ∙ append-nil (file_bytes g), w.1, p)

-- a file that has bytes is shaped
shaped_methods : (ms : List MethodCode) (ss : List MethodKinds) → length ms ≡ length ss → Each MethodIsWritable (pairs ms ss) → AreShapedMethods ms ss
shaped_methods [] [] l h = tt
shaped_methods [] (s ∷ ss) l h = absurd (let z : 0 ≡ suc (length ss) = l in omega (arith, z))
shaped_methods (m ∷ ms) [] l h = absurd (let z : suc (length ms) ≡ 0 = l in omega (arith, z))
shaped_methods (m ∷ ms) (s ∷ ss) l h = (h.0.2, shaped_methods ms ss (let z : suc (length ms) ≡ suc (length ss) = l in omega (arith, z)) h.1)

shaped_classes : (ks : List ClassCode) (qs : List ClassKinds) → length ks ≡ length qs → Each ClassIsWritable (pairs ks qs) → AreShapedClasses ks qs
shaped_classes [] [] l h = tt
shaped_classes [] (q ∷ qs) l h = absurd (let z : 0 ≡ suc (length qs) = l in omega (arith, z))
shaped_classes (k ∷ ks) [] l h = absurd (let z : suc (length ks) ≡ 0 = l in omega (arith, z))
shaped_classes (k ∷ ks) (q ∷ qs) l h =
    (h.0.1, shaped_methods k.methods q.methods h.0.3 h.0.4.1, shaped_classes ks qs (let z : suc (length ks) ≡ suc (length qs) = l in omega (arith, z)) h.1)

pub writable_is_shaped : (f : UnitFile) → IsWritable f → IsShaped f
writable_is_shaped f h = shaped_classes f.unit.classes f.kinds.classes h.count h.classes.1
