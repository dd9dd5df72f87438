-- Laws of chains of optional steps: a chain that gives a value passed each step. And laws of the tests of equality.
use Rattle.std.proofs.Common.{◌≡◌, refl, sym, ap, IsTrue, ℤ, pos, negsuc, List, [], ◌∷◌, Option, Some, None, is_some, Bool, true, false, ◌==◌, arith}
use Rattle.run_types.specs.declared.types.Error.{Error}
use Rattle.run_types.specs.declared.types.Error.TheVariants as E
use Rattle.run_types.specs.declared.types.Value.{Value}
use Rattle.run_types.specs.declared.types.Value.TheVariants as V
use Rattle.run_types.specs.Values.{is_same, is_same_int, is_same_bool}
use Rattle.run_types.specs.Partial.{◌>>=◌, ◌>>◌, require}
use Rattle.run_types.specs.Same.{are_same, error_number, is_same_item}
use Rattle.run_types.proofs.Tests.{first, second, equal, both, equals}
use Rattle.run_types.specs.declared.types.Item.{Item}
use Rattle.run_types.specs.declared.types.Item.TheVariants as I

pub same_some : {X : Type 0} {x y : X} → Some x ≡ Some y → x ≡ y
same_some e = cc

pub there_is : {X : Type 0} (o : Option X) → IsTrue (is_some o) → (x : X) × (o ≡ Some x)
there_is None h = absurd (grind (arith, h))
there_is (Some x) h = (x, refl)

-- what a chain that gives a value passed through
pub given_by : {A B : Type 0} (a : Option A) (next : A → Option B) (b : B) → (a >>= next) ≡ Some b
    → (x : A) × (a ≡ Some x) × (next x ≡ Some b)
given_by None next b e = absurd (grind (arith, e))
given_by (Some x) next b e = (x, refl, e)

pub required : {B : Type 0} (t : Bool) (next : Option B) (b : B) → (require t >> next) ≡ Some b → IsTrue t × (next ≡ Some b)
required true next b e = (refl, e)
required false next b e = absurd (grind (arith, e))

same_int : (x y : ℤ) → is_same_int x y ≡ true → x ≡ y
same_int (pos a) (pos b) h = ap pos (equal a b h)
same_int (negsuc a) (negsuc b) h = ap negsuc (equal a b h)
same_int (pos a) (negsuc b) h = absurd (grind (arith, h))
same_int (negsuc a) (pos b) h = absurd (grind (arith, h))

same_bool : (a b : Bool) → is_same_bool a b ≡ true → a ≡ b
same_bool true b h = sym h
same_bool false b h = grind (arith, h)

pub same_value : (v w : Value) → is_same v w ≡ true → v ≡ w
same_value (V.Int x) (V.Int y) h = ap V.Int (same_int x y h)
same_value (V.Bool a) (V.Bool b) h = ap V.Bool (same_bool a b h)
same_value (V.Ref m) (V.Ref n) h = ap V.Ref (equal m n h)
same_value V.Nil V.Nil h = refl
same_value _ _ h = absurd (grind (arith, h))

pub same_values : (vs ws : List Value) → are_same vs ws ≡ true → vs ≡ ws
same_values [] [] h = refl
same_values (v ∷ vs) (w ∷ ws) h = let a = same_value v w (first _ (are_same vs ws) h) in let b = same_values vs ws (second (is_same v w) _ h) in cc
same_values [] (w ∷ ws) h = absurd (grind (arith, h))
same_values (v ∷ vs) [] h = absurd (grind (arith, h))

pub same_error : (e f : Error) → (error_number e == error_number f) ≡ true → e ≡ f
same_error E.NilDestination E.NilDestination h = refl
same_error E.NilOperand E.NilOperand h = refl
same_error E.Overflow E.Overflow h = refl
same_error E.ZeroDivisor E.ZeroDivisor h = refl
same_error E.NoOpenGuard E.NoOpenGuard h = refl
same_error _ _ h = absurd (grind (arith, h))

int_itself : (x : ℤ) → is_same_int x x ≡ true
int_itself (pos n) = equals n
int_itself (negsuc n) = equals n

bool_itself : (b : Bool) → is_same_bool b b ≡ true
bool_itself true = refl
bool_itself false = refl

pub value_itself : (v : Value) → is_same v v ≡ true
value_itself (V.Int x) = int_itself x
value_itself (V.Bool b) = bool_itself b
value_itself (V.Ref n) = equals n
value_itself V.Nil = refl

pub values_itself : (vs : List Value) → are_same vs vs ≡ true
values_itself [] = refl
values_itself (v ∷ vs) = both (is_same v v) (are_same vs vs) (value_itself v) (values_itself vs)

pub item_itself : (i : Item) → is_same_item i i ≡ true
item_itself (I.Value v) = value_itself v
item_itself (I.Text s) = equals s.0

pub error_itself : (e : Error) → (error_number e == error_number e) ≡ true
error_itself e = equals (error_number e)
