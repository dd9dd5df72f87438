-- Variables by name, and by number.
use Rattle.std.proofs.Common.{◌≡◌, refl, sym, ap, ◌∙◌, ℕ, suc, ◌==◌, List, [], ◌∷◌, ◌++◌, length, Some, None, Bool, true, false, arith}
use Rattle.std.specs.Prelude.{slice_set, if◌then◌else◌, take}
use Rattle.run_types.specs.declared.types.Value.{Value}
use Rattle.run_types.specs.declared.types.Value.TheVariants as V
use Rattle.pool_syntax.specs.declared.tree.Var.{Var}
use Rattle.pool_syntax.specs.Terms.{Store, MethodTree}
use Rattle.pool_syntax.specs.Typing.{contains}
use Rattle.pool_relation.specs.Reducible.{set_value}
use Rattle.pool_relation.specs.Action.{value_of, nil_store, bind, temps_of}
use Rattle.run_types.specs.Operands.{nth, padded}
use Rattle.pool_compile.specs.Code.{number_of, names_of}
use Rattle.pool_compile.specs.StandsFor.{keys, values}

-- a variable that is there has its number's value
abbrev pub IsFound : Store → ℕ → Value → Type 0
IsFound t n v = (contains (keys t) n ≡ true) × (nth (values t) (number_of (keys t) n) ≡ v)

found_by : (q : Bool) (b : ℕ × Value) (bs : Store) (n : ℕ) (v : Value) → (b.0 == n) ≡ q → (value_of bs n ≡ Some v → IsFound bs n v)
    → (if q then Some b.1 else value_of bs n) ≡ Some v → IsFound (b ∷ bs) n v
found_by true b bs n v e more h = let f : b.1 ≡ v = grind (arith, h) in (rw e refl, rw e f)
found_by false b bs n v e more h = let m = more h in (rw e m.0, rw e m.1)

pub found : (t : Store) (n : ℕ) (v : Value) → value_of t n ≡ Some v → IsFound t n v
found [] n v h = absurd (grind (arith, h))
found (b ∷ bs) n v h = found_by (b.0 == n) b bs n v refl (found bs n v) h

absent_by : (q : Bool) (b : ℕ × Value) (bs : Store) (n : ℕ) → (b.0 == n) ≡ q → (value_of bs n ≡ None → contains (keys bs) n ≡ false)
    → (if q then Some b.1 else value_of bs n) ≡ None → contains (keys (b ∷ bs)) n ≡ false
absent_by true b bs n e more h = absurd (grind (arith, h))
absent_by false b bs n e more h = rw e (more h)

-- a variable that is not there has no name there
pub absent : (t : Store) (n : ℕ) → value_of t n ≡ None → contains (keys t) n ≡ false
absent [] n h = refl
absent (b ∷ bs) n h = absent_by (b.0 == n) b bs n refl (absent bs n) h

set_absent_by : (q : Bool) (b : ℕ × Value) (bs : Store) (n : ℕ) (v : Value) → (b.0 == n) ≡ q → (value_of bs n ≡ None → set_value bs n v ≡ bs)
    → (if q then Some b.1 else value_of bs n) ≡ None → (if q then (n, v) ∷ bs else b ∷ set_value bs n v) ≡ b ∷ bs
set_absent_by true b bs n v e more h = absurd (grind (arith, h))
set_absent_by false b bs n v e more h = ap (λ l. b ∷ l) (more h)

pub set_absent : (t : Store) (n : ℕ) (v : Value) → value_of t n ≡ None → set_value t n v ≡ t
set_absent [] n v h = refl
set_absent (b ∷ bs) n v h = set_absent_by (b.0 == n) b bs n v refl (set_absent bs n v) h

set_by : (q : Bool) (b : ℕ × Value) (bs : Store) (n : ℕ) (v w : Value) → (b.0 == n) ≡ q
    → (value_of bs n ≡ Some w → slice_set (values bs) (number_of (keys bs) n) v ≡ values (set_value bs n v))
    → (if q then Some b.1 else value_of bs n) ≡ Some w
    → slice_set (b.1 ∷ values bs) (if q then 0 else suc (number_of (keys bs) n)) v ≡ values (if q then (n, v) ∷ bs else b ∷ set_value bs n v)
set_by true b bs n v w e more h = refl
set_by false b bs n v w e more h = ap (λ l. b.1 ∷ l) (more h)

-- an assignment by number is the assignment by name
pub set_found : (t : Store) (n : ℕ) (v w : Value) → value_of t n ≡ Some w → slice_set (values t) (number_of (keys t) n) v ≡ values (set_value t n v)
set_found [] n v w h = absurd (grind (arith, h))
set_found (b ∷ bs) n v w h = set_by (b.0 == n) b bs n v w refl (set_found bs n v w) h

-- the temps of a method as it begins
pub nil_keys : (vs : List Var) → keys (nil_store vs) ≡ names_of vs
nil_keys [] = refl
nil_keys (v ∷ vs) = ap (λ l. v.name.0 ∷ l) (nil_keys vs)

keys_append : (a b : Store) → keys (a ++ b) ≡ keys a ++ keys b
keys_append [] b = refl
keys_append (x ∷ a) b = ap (λ l. x.0 ∷ l) (keys_append a b)

names_append : (a b : List Var) → names_of (a ++ b) ≡ names_of a ++ names_of b
names_append [] b = refl
names_append (x ∷ a) b = ap (λ l. x.name.0 ∷ l) (names_append a b)

bind_keys : (vs : List Var) (args : List Value) → keys (bind vs args) ≡ names_of vs
bind_keys [] args = refl
bind_keys (v ∷ vs) [] = nil_keys (v ∷ vs)
bind_keys (v ∷ vs) (x ∷ args) = ap (λ l. v.name.0 ∷ l) (bind_keys vs args)

pub temps_keys : (m : MethodTree) (args : List Value) → keys (temps_of m args) ≡ names_of (m.params ++ m.locals)
temps_keys m args =
    keys_append (bind m.params args) (nil_store m.locals) ∙ ap (λ l. l ++ keys (nil_store m.locals)) (bind_keys m.params args)
    ∙ ap (λ l. names_of m.params ++ l) (nil_keys m.locals) ∙ sym (names_append m.params m.locals)

pub nil_values : (vs : List Var) → values (nil_store vs) ≡ padded (length vs) []
nil_values [] = refl
nil_values (v ∷ vs) = ap (λ l. V.Nil ∷ l) (nil_values vs)

nil_append : (a b : List Var) → values (nil_store a ++ nil_store b) ≡ padded (length (a ++ b)) []
nil_append [] b = nil_values b
nil_append (x ∷ a) b = ap (λ l. V.Nil ∷ l) (nil_append a b)

-- parameters with their values, a missing one nil and a further one dropped, and locals that are nil
pub temps_values : (ps ls : List Var) (args : List Value) → values (bind ps args ++ nil_store ls) ≡ padded (length (ps ++ ls)) (take (length ps) args)
temps_values [] ls [] = nil_values ls
temps_values [] ls (x ∷ args) = nil_values ls
temps_values (p ∷ ps) ls [] = nil_append (p ∷ ps) ls
temps_values (p ∷ ps) ls (x ∷ args) = ap (λ l. x ∷ l) (temps_values ps ls args)
