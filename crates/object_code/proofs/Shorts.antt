-- A file that can be encoded is short, and a file that is shaped, short and has the numbers of its types can be encoded.
use Rattle.std.proofs.Common.{◌≡◌, sym, subst, ◌∙◌, ℕ, suc, ◌<◌, List, [], ◌∷◌, length, get_or, Option, Some, None, arith}
use Rattle.std.specs.List.{AllByRecursion as Each}
use Rattle.text_scan.specs.Text.{Text}
use Rattle.run_types.specs.declared.types.NameId.{NameId}
use Rattle.code_semantics.specs.declared.unit.Instr.{Instr}
use Rattle.code_semantics.specs.declared.unit.Instr.TheVariants as I
use Rattle.code_semantics.specs.declared.unit.AltCode.{AltCode}
use Rattle.code_semantics.specs.declared.unit.MethodCode.{MethodCode}
use Rattle.code_semantics.specs.declared.unit.ClassCode.{ClassCode}
use Rattle.code_semantics.specs.declared.file.UnitFile.{UnitFile}
use Rattle.code_semantics.specs.declared.file.ClassKinds.{ClassKinds}
use Rattle.code_semantics.specs.declared.file.MethodKinds.{MethodKinds}
use Rattle.code_semantics.specs.Shaped.{AreShapedMethods, AreShapedClasses, IsShaped, IsNumber, IsListOf, IsOptionOf, IsShortText, NameIsNumbered, AlternativeIsNumbered, InstrIsNumbered, MethodIsWritable, ClassIsWritable, IsWritable, IsShortList, AlternativeIsShort, InstrIsShort, MethodIsShort, ClassIsShort, MethodKindsAreShort, ClassKindsAreShort, IsShort, AlternativeHasNumbers, InstrHasNumbers, MethodHasNumbers, ClassHasNumbers, MethodKindsHaveNumbers, ClassKindsHaveNumbers, HasNumbers}
use Rattle.code_semantics.specs.Pairs.{pairs}
use Rattle.object_code.specs.Decode.{decode, Says}
use Rattle.object_code.proofs.SequentialWrites.{as_many_pairs, shaped_many, shaped_methods}
use Rattle.object_code.proofs.Formats.{AreBytes}
use Rattle.object_code.proofs.WholeFile.{encode_decode, writable_is_shaped}

each_is : {X : Type 0} (P Q : X → Type 0) → ((x : X) → P x → Q x) → (xs : List X) → Each P xs → Each Q xs
each_is P Q f [] h = tt
each_is P Q f (x ∷ xs) h = (f x h.0, each_is P Q f xs h.1)

list_is : {X : Type 0} (P Q : X → Type 0) → ((x : X) → P x → Q x) → (xs : List X) → IsListOf P xs → IsListOf Q xs
list_is P Q f xs h = (h.0, each_is P Q f xs h.1)

-- what holds of each pair, of its first and of its second
each_first : {X Y : Type 0} (P : X × Y → Type 0) (Q : X → Type 0) → ((p : X × Y) → P p → Q p.0) → (xs : List X) (ys : List Y) → length xs ≡ length ys → Each P (pairs xs ys) → Each Q xs
each_first P Q f [] ys e h = tt
each_first P Q f (x ∷ xs) [] e h = absurd (let z : suc (length xs) ≡ 0 = e in omega (arith, z))
each_first P Q f (x ∷ xs) (y ∷ ys) e h = (f (x, y) h.0, each_first P Q f xs ys (let z : suc (length xs) ≡ suc (length ys) = e in omega (arith, z)) h.1)

each_second : {X Y : Type 0} (P : X × Y → Type 0) (Q : Y → Type 0) → ((p : X × Y) → P p → Q p.1) → (xs : List X) (ys : List Y) → length xs ≡ length ys → Each P (pairs xs ys) → Each Q ys
each_second P Q f xs [] e h = tt
each_second P Q f [] (y ∷ ys) e h = absurd (let z : 0 ≡ suc (length ys) = e in omega (arith, z))
each_second P Q f (x ∷ xs) (y ∷ ys) e h = (f (x, y) h.0, each_second P Q f xs ys (let z : suc (length xs) ≡ suc (length ys) = e in omega (arith, z)) h.1)

firsts_are : {X Y : Type 0} (P : X × Y → Type 0) (Q : X → Type 0) → ((p : X × Y) → P p → Q p.0) → (xs : List X) (ys : List Y) → length xs ≡ length ys → IsListOf P (pairs xs ys) → IsListOf Q xs
firsts_are P Q f xs ys e h = (subst IsNumber (as_many_pairs xs ys e) h.0, each_first P Q f xs ys e h.1)

seconds_are : {X Y : Type 0} (P : X × Y → Type 0) (Q : Y → Type 0) → ((p : X × Y) → P p → Q p.1) → (xs : List X) (ys : List Y) → length xs ≡ length ys → IsListOf P (pairs xs ys) → IsListOf Q ys
seconds_are P Q f xs ys e h = (subst IsNumber (as_many_pairs xs ys e ∙ e) h.0, each_second P Q f xs ys e h.1)

alternative_short : (a : AltCode) → AlternativeIsNumbered a → AlternativeIsShort a
alternative_short a h = by a.answer h.0
  where
    by : (o : Option (List NameId)) → IsOptionOf (IsListOf NameIsNumbered) o → IsOptionOf IsShortList o
    by None p = tt
    by (Some ns) p = p.0

instr_short : (i : Instr) → InstrIsNumbered i → InstrIsShort i
instr_short (I.Answer ns) h = h.0
instr_short (I.Select alts) h = list_is AlternativeIsNumbered AlternativeIsShort alternative_short alts h
instr_short (I.PushInt z) h = tt
instr_short (I.PushBool b) h = tt
instr_short I.PushNil h = tt
instr_short (I.Jump a) h = tt
instr_short (I.LoadI n) h = tt
instr_short (I.LoadT n) h = tt
instr_short I.SelfRef h = tt
instr_short (I.StoreI n) h = tt
instr_short (I.StoreT n) h = tt
instr_short (I.Oper op) h = tt
instr_short I.Pop h = tt
instr_short (I.Branch a) h = tt
instr_short I.Loop h = tt
instr_short (I.Call m) h = tt
instr_short I.Ret h = tt
instr_short (I.New c) h = tt
instr_short (I.Send m n) h = tt
instr_short (I.Async m n) h = tt
instr_short I.Write h = tt
instr_short (I.WriteText s) h = tt
instr_short I.Halt h = tt
instr_short I.Post h = tt

code_short : (c : List Instr) → IsListOf InstrIsNumbered c → IsListOf InstrIsShort c
code_short c h = list_is InstrIsNumbered InstrIsShort instr_short c h

method_short : (m : MethodCode × MethodKinds) → MethodIsWritable m → MethodIsShort m.0
method_short m h = code_short m.0.code h.5.1

method_kinds_short : (m : MethodCode × MethodKinds) → MethodIsWritable m → MethodKindsAreShort m.1
method_kinds_short m h = h.3.0

class_short : (k : ClassCode × ClassKinds) → ClassIsWritable k → ClassIsShort k.0
class_short k h = (firsts_are MethodIsWritable MethodIsShort method_short k.0.methods k.1.methods h.3 h.4, code_short k.0.body.code h.5.1)

class_kinds_short : (k : ClassCode × ClassKinds) → ClassIsWritable k → ClassKindsAreShort k.1
class_kinds_short k h = (h.2.0, seconds_are MethodIsWritable MethodKindsAreShort method_kinds_short k.0.methods k.1.methods h.3 h.4)

-- a file that has bytes is short
pub writable_is_short : (f : UnitFile) → IsWritable f → IsShort f
writable_is_short f w = record {
  names = list_is IsShortText IsShortList (λ t h. h.0) f.unit.names w.names;
  classes = firsts_are ClassIsWritable ClassIsShort class_short f.unit.classes f.kinds.classes w.count w.classes;
  kinds = seconds_are ClassIsWritable ClassKindsAreShort class_kinds_short f.unit.classes f.kinds.classes w.count w.classes;
}

-- bytes at each place are bytes
pub are_bytes : (bs : Text) → ((i : ℕ) → get_or bs i 0 < 256) → AreBytes bs
are_bytes [] h = tt
are_bytes (b ∷ bs) h = (h 0, are_bytes bs (λ i. h (suc i)))

-- what bytes say is shaped and short
pub said_is_shaped : (bs : Text) (f : UnitFile) → AreBytes bs → decode bs ≡ Says f → IsShaped f
said_is_shaped bs f h e = writable_is_shaped f (encode_decode bs f h e).1

pub said_is_short : (bs : Text) (f : UnitFile) → AreBytes bs → decode bs ≡ Says f → IsShort f
said_is_short bs f h e = writable_is_short f (encode_decode bs f h e).1

-- ---- and back

both : {X : Type 0} (P Q R : X → Type 0) → ((x : X) → P x → Q x → R x) → (xs : List X) → Each P xs → Each Q xs → Each R xs
both P Q R f [] p q = tt
both P Q R f (x ∷ xs) p q = (f x p.0 q.0, both P Q R f xs p.1 q.1)

alternative_numbered : (a : AltCode) → AlternativeIsShort a → AlternativeHasNumbers a → AlternativeIsNumbered a
alternative_numbered a h n = (by a.answer h n.0, n.1)
  where
    by : (o : Option (List NameId)) → IsOptionOf IsShortList o → IsOptionOf (Each NameIsNumbered) o → IsOptionOf (IsListOf NameIsNumbered) o
    by None p q = tt
    by (Some ns) p q = (p, q)

instr_numbered : (i : Instr) → InstrIsShort i → InstrHasNumbers i → InstrIsNumbered i
instr_numbered (I.Answer ns) h n = (h, n)
instr_numbered (I.Select alts) h n = (h.0, both AlternativeIsShort AlternativeHasNumbers AlternativeIsNumbered alternative_numbered alts h.1 n)
instr_numbered (I.PushInt z) h n = n
instr_numbered (I.PushBool b) h n = tt
instr_numbered I.PushNil h n = tt
instr_numbered (I.Jump a) h n = n
instr_numbered (I.LoadI v) h n = n
instr_numbered (I.LoadT v) h n = n
instr_numbered I.SelfRef h n = tt
instr_numbered (I.StoreI v) h n = n
instr_numbered (I.StoreT v) h n = n
instr_numbered (I.Oper op) h n = tt
instr_numbered I.Pop h n = tt
instr_numbered (I.Branch a) h n = n
instr_numbered I.Loop h n = tt
instr_numbered (I.Call m) h n = n
instr_numbered I.Ret h n = tt
instr_numbered (I.New c) h n = n
instr_numbered (I.Send m v) h n = n
instr_numbered (I.Async m v) h n = n
instr_numbered I.Write h n = tt
instr_numbered (I.WriteText s) h n = n
instr_numbered I.Halt h n = tt
instr_numbered I.Post h n = tt

code_numbered : (c : List Instr) → IsListOf InstrIsShort c → Each InstrHasNumbers c → IsListOf InstrIsNumbered c
code_numbered c h n = (h.0, both InstrIsShort InstrHasNumbers InstrIsNumbered instr_numbered c h.1 n)

methods_writable : (ms : List MethodCode) (ss : List MethodKinds) → AreShapedMethods ms ss → Each MethodIsShort ms → Each MethodHasNumbers ms → Each MethodKindsAreShort ss → Each MethodKindsHaveNumbers ss
    → Each MethodIsWritable (pairs ms ss)
methods_writable [] [] shaped a b c d = tt
methods_writable [] (s ∷ ss) shaped a b c d = absurd shaped
methods_writable (m ∷ ms) [] shaped a b c d = absurd shaped
methods_writable (m ∷ ms) (s ∷ ss) shaped a b c d = (
  (b.0.0, b.0.1, shaped.0, (c.0, d.0.0), d.0.1, (b.0.2, code_numbered m.code a.0 b.0.3)),
  methods_writable ms ss shaped.1 a.1 b.1 c.1 d.1,
)

classes_writable : (ks : List ClassCode) (qs : List ClassKinds) → AreShapedClasses ks qs → Each ClassIsShort ks → Each ClassHasNumbers ks → Each ClassKindsAreShort qs → Each ClassKindsHaveNumbers qs
    → Each ClassIsWritable (pairs ks qs)
classes_writable [] [] shaped a b c d = tt
classes_writable [] (q ∷ qs) shaped a b c d = absurd shaped
classes_writable (k ∷ ks) [] shaped a b c d = absurd shaped
classes_writable (k ∷ ks) (q ∷ qs) shaped a b c d =
    let many = shaped_methods k.methods q.methods shaped.1 in (
      (
        b.0.0,
        shaped.0,
        (c.0.0, d.0.0),
        many,
        (subst IsNumber (sym (as_many_pairs k.methods q.methods many)) a.0.0.0, methods_writable k.methods q.methods shaped.1 a.0.0.1 b.0.1 c.0.1.1 d.0.1),
        (b.0.2, code_numbered k.body.code a.0.1 b.0.3),
      ),
      classes_writable ks qs shaped.2 a.1 b.1 c.1 d.1,
    )

-- a file that is shaped and short, with the numbers of its types, has bytes
pub short_is_writable : (f : UnitFile) → IsShaped f → IsShort f → HasNumbers f → IsWritable f
short_is_writable f shaped short n =
    let many = shaped_many f.unit.classes f.kinds.classes shaped in
    record {
      names = (short.names.0, both IsShortList (λ t. Each (λ b. b < 256) t) IsShortText (λ t p q. (p, q)) f.unit.names short.names.1 n.names);
      count = many;
      classes = (
        subst IsNumber (sym (as_many_pairs f.unit.classes f.kinds.classes many)) short.classes.0,
        classes_writable f.unit.classes f.kinds.classes shaped short.classes.1 n.classes short.kinds.1 n.kinds,
      );
    }
