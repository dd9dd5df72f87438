-- A class, a method and their parts.
use Rattle.std.proofs.Common.{◌≡◌, refl, ap, ◌∙◌, ℕ, zero, suc, ◌<◌, ◌^◌, List, [], ◌∷◌, ◌++◌, length, get_or, map, arith}
use Rattle.pool_syntax.specs.declared.tree.Var.{Var}
use Rattle.pool_syntax.specs.declared.tree.Method.{Method}
use Rattle.pool_syntax.specs.declared.tree.ClassDecl.{ClassDecl}
use Rattle.pool_syntax.specs.TreeOf.{class_tree, method_tree, statements_of}
use Rattle.code_semantics.specs.declared.unit.Instr.{Instr}
use Rattle.code_semantics.specs.declared.unit.MethodCode.{MethodCode}
use Rattle.code_semantics.specs.declared.unit.ClassCode.{ClassCode}
use Rattle.pool_compile.specs.Code.{body_instrs, class_code, method_code_of, names_of, statements_words}
use Rattle.pool_compile.specs.Small.{AreShort, AreShortMethods, IsShortClass, AreSmallMethods, IsSmall, IsSmallClass, IsSmallMethod}

pub small_method : (ms : List Method) (i : ℕ) (d : Method) → i < length ms → AreSmallMethods (map method_tree ms) → IsSmallMethod (method_tree (get_or ms i d))
small_method [] i d h s = absurd (omega arith)
small_method (m ∷ ms) zero d h s = s.0
small_method (m ∷ ms) (suc i) d h s = small_method ms i d (omega arith) s.1

pub small_class : (ks : List ClassDecl) (i : ℕ) (d : ClassDecl) → i < length ks → IsSmall (map class_tree ks) → IsSmallClass (class_tree (get_or ks i d))
small_class [] i d h s = absurd (omega arith)
small_class (k ∷ ks) zero d h s = s.0
small_class (k ∷ ks) (suc i) d h s = small_class ks i d (omega arith) s.1

names_length : (vs : List Var) → length (names_of vs) ≡ length vs
names_length [] = refl
names_length (v ∷ vs) = ap suc (names_length vs)

-- the code of a class from the code of its parts
pub class_is : (k : ClassDecl) (names : List ℕ) (n w : ℕ) (ms : List MethodCode) (c : List Instr) → names ≡ names_of k.vars → n ≡ length names
    → ms ≡ map (method_code_of names) (map method_tree k.methods) → w ≡ statements_words (statements_of k.body)
    → c ≡ body_instrs (record { temps = []; vars = names }) (statements_of k.body)
    → (let made : ClassCode = record { name = k.name.name; vars = n; methods = ms; body = record { frame_words = w; code = c } } in made ≡ class_code (class_tree k))
class_is k names n w ms c e f g h i =
    let vars : n ≡ length k.vars = f ∙ ap length e ∙ names_length k.vars in
    let methods : ms ≡ map (method_code_of (names_of k.vars)) (map method_tree k.methods) = g ∙ ap (λ l. map (method_code_of l) (map method_tree k.methods)) e in
    let body : c ≡ body_instrs (record { temps = []; vars = names_of k.vars }) (statements_of k.body) =
    i ∙ ap (λ l. body_instrs (record { temps = []; vars = l }) (statements_of k.body)) e in
    cc

pub short_method : (ms : List MethodCode) (m : MethodCode) → AreShortMethods ms → length m.code < 2 ^ 32 → AreShortMethods (ms ++ m ∷ [])
short_method [] m s h = (h, tt {0})
short_method (x ∷ ms) m s h = (s.0, short_method ms m s.1 h)

pub short_class : (ks : List ClassCode) (k : ClassCode) → AreShort ks → IsShortClass k → AreShort (ks ++ k ∷ [])
short_class [] k s h = (h, tt {0})
short_class (x ∷ ks) k s h = (s.0, short_class ks k s.1 h)
