-- Kinds of actions and of code, as the machine sees them.
use Rattle.std.proofs.Common.{◌≡◌, refl, sym, ap, subst, ◌∙◌, ℕ, suc, ◌+◌, ◌==◌, List, [], ◌∷◌, Option, Some, None, Bool, true, false, arith}
use Rattle.std.specs.Prelude.{map, slice_get, ◌&&◌}
use Rattle.run_types.specs.declared.types.Value.{Value}
use Rattle.run_types.specs.declared.types.Item.{Item}
use Rattle.run_types.specs.declared.types.Error.{Error}
use Rattle.pool_syntax.specs.declared.tree.Named.{Named}
use Rattle.pool_syntax.specs.Terms.{Store, Statements}
use Rattle.pool_relation.specs.Reducible.{Choice}
use Rattle.pool_relation.specs.Action as A
use Rattle.pool_relation.specs.Action.{Action}
use Rattle.run_types.specs.Values.{is_true}
use Rattle.run_types.specs.Same.{are_same}
use Rattle.run_types.proofs.Laws.{first, second, equal, same_some, same_value, same_values, same_error}
use Rattle.code_semantics.specs.Kinds as C
use Rattle.pool_compile.specs.Code.{answer_names}
use Rattle.pool_compile.specs.Follows as F
use Rattle.pool_compile.specs.Follows.{SameKind}
use Rattle.mesh_semantics.specs.Kind as K
use Rattle.mesh_semantics.specs.Kind.{Kind, is_local, makes, calls, posts, returns, waits_on, writes, fails, answers}
use Rattle.mesh_semantics.specs.Moves.{offered}
use Rattle.mesh_semantics.specs.Sound.{is_wait}
use Rattle.mesh_of_terms.specs.Terms as M
use Rattle.mesh_of_code.specs.Coded as D
use Rattle.mesh_of_code.specs.Coded.{unless_served}

-- neither at a wait nor stuck
abbrev pub calm : Action → Bool
calm (A.Waits b m) = false
calm A.Stuck = false
calm _ = true

numbers_same : (ns : List Named) → M.numbers ns ≡ D.numbers (map (λ n. n.name) ns)
numbers_same [] = refl
numbers_same (n ∷ ns) = ap (λ l. n.name.0 ∷ l) (numbers_same ns)

answer_same : (o : Option (List Named)) → M.names_of o ≡ D.answered (answer_names o)
answer_same None = refl
answer_same (Some ns) = ap Some (numbers_same ns)

alternatives_same : (cs : List Choice) → M.alternatives_of cs ≡ D.alternatives_of (map F.offered cs)
alternatives_same [] = refl
alternatives_same (c ∷ cs) =
    let a = answer_same c.answer in
    let r = alternatives_same cs in
    λ t. record { is_open = is_true c.guard; names = a t } ∷ r t

pub same_kind : (a : Action) (k : C.Kind) → SameKind a k → calm a ≡ true → M.kind_of a ≡ D.kind_of k
same_kind A.Finished k s h = sym (ap D.kind_of s)
same_kind (A.Local term vars) k s h = sym (ap D.kind_of s)
same_kind (A.Fault e) k s h = sym (ap D.kind_of s)
same_kind (A.New c) k s h = sym (ap D.kind_of s)
same_kind (A.Send b m args) k s h = sym (ap D.kind_of s)
same_kind (A.Async b m args) k s h = sym (ap D.kind_of s)
same_kind (A.Write item) k s h = sym (ap D.kind_of s)
same_kind (A.Answer names) k s h = ap (λ ns. K.Select (record { is_open = true; names = Some ns } ∷ [])) (numbers_same names) ∙ sym (ap D.kind_of s)
same_kind (A.Select cs) k s h = ap K.Select (alternatives_same cs) ∙ sym (ap D.kind_of s)
same_kind (A.Return w v) k s h = sym (ap D.kind_of s.1)
same_kind (A.Waits b m) k s h = absurd (let z : false ≡ true = h in cc)
same_kind A.Stuck k s h = absurd (let z : false ≡ true = h in cc)

-- at an error, where it is not stuck
pub fault_kind : (a : Action) (e : Error) (k : C.Kind) → SameKind a k → k ≡ C.Fault e → (a ≡ A.Stuck → ⊥) → M.kind_of a ≡ K.Fault e
fault_kind A.Finished e k s h n = absurd (let z : C.Finished ≡ C.Fault e = sym s ∙ h in cc)
fault_kind (A.Local term vars) e k s h n = absurd (let z : C.Local ≡ C.Fault e = sym s ∙ h in cc)
fault_kind (A.Fault f) e k s h n = let z : C.Fault f ≡ C.Fault e = sym s ∙ h in ap D.kind_of z
fault_kind (A.New c) e k s h n = absurd (let z = sym s ∙ h in cc)
fault_kind (A.Send b m args) e k s h n = absurd (let z = sym s ∙ h in cc)
fault_kind (A.Async b m args) e k s h n = absurd (let z = sym s ∙ h in cc)
fault_kind (A.Write item) e k s h n = absurd (let z = sym s ∙ h in cc)
fault_kind (A.Answer names) e k s h n = absurd (let z = sym s ∙ h in cc)
fault_kind (A.Select cs) e k s h n = absurd (let z = sym s ∙ h in cc)
fault_kind (A.Return w v) e k s h n = absurd (let z = sym s.1 ∙ h in cc)
fault_kind (A.Waits b m) e k s h n = absurd (let z = sym s.1 ∙ h in cc)
fault_kind A.Stuck e k s h n = absurd (n refl)

-- one that is at no wait is not served
pub free : (k : Kind) (s : Option (ℕ × ℕ)) (j : Kind) → is_wait k ≡ false → k ≡ unless_served s j → s ≡ None
free k None j h e = refl
free k (Some w) j h e = absurd (let z : true ≡ false = sym (ap is_wait e) ∙ h in cc)

-- actions from the tests of kinds
pub local_is : (a : Action) → is_local (M.kind_of a) ≡ true → (term : Statements) × (vars : Store) × (a ≡ A.Local term vars)
local_is (A.Local term vars) h = (term, vars, refl)
local_is _ h = absurd (let z : false ≡ true = h in cc)

pub makes_is : (a : Action) (k : ℕ) → makes (M.kind_of a) k ≡ true → a ≡ A.New k
makes_is (A.New c) k h = ap A.New (equal c k h)
makes_is _ k h = absurd (let z : false ≡ true = h in cc)

pub calls_is : (a : Action) (b m : ℕ) (args : List Value) → calls (M.kind_of a) b m args ≡ true → a ≡ A.Send b m args
calls_is (A.Send r n vs) b m args h =
    let i = first (r == b && n == m) (are_same vs args) h in
    let q = equal r b (first (r == b) (n == m) i) in
    let s = equal n m (second (r == b) (n == m) i) in
    let t = same_values vs args (second (r == b && n == m) (are_same vs args) h) in cc
calls_is _ b m args h = absurd (let z : false ≡ true = h in cc)

pub posts_is : (a : Action) (b m : ℕ) (args : List Value) → posts (M.kind_of a) b m args ≡ true → a ≡ A.Async b m args
posts_is (A.Async r n vs) b m args h =
    let i = first (r == b && n == m) (are_same vs args) h in
    let q = equal r b (first (r == b) (n == m) i) in
    let s = equal n m (second (r == b) (n == m) i) in
    let t = same_values vs args (second (r == b && n == m) (are_same vs args) h) in cc
posts_is _ b m args h = absurd (let z : false ≡ true = h in cc)

pub returns_is : (a : Action) (k : ℕ) (v : Value) → returns (M.kind_of a) k v ≡ true → a ≡ A.Return k v
returns_is (A.Return o w) k v h = let i = equal o k (first _ _ h) in let j = same_value w v (second (o == k) _ h) in cc
returns_is _ k v h = absurd (let z : false ≡ true = h in cc)

pub waits_at : (a : Action) (b : ℕ) → waits_on (M.kind_of a) b ≡ true → (m : ℕ) × (a ≡ A.Waits b m)
waits_at (A.Waits r m) b h = let i = equal r b h in (m, cc)
waits_at _ b h = absurd (let z : false ≡ true = h in cc)

pub writes_is : (a : Action) (item : Item) → writes (M.kind_of a) item ≡ true → (j : Item) × (a ≡ A.Write j)
writes_is (A.Write j) item h = (j, refl)
writes_is _ item h = absurd (let z : false ≡ true = h in cc)

pub fails_is : (a : Action) (e : Error) → fails (M.kind_of a) e ≡ true → a ≡ A.Fault e
fails_is (A.Fault f) e h = ap A.Fault (same_error f e h)
fails_is _ e h = absurd (let z : false ≡ true = h in cc)

-- the work of an alternative that is offered is there
chosen : (n m i : ℕ) (cs : List Choice) (names : List ℕ) → offered n (M.alternatives_of cs) m ≡ Some (i, names) → (j : ℕ) × (c : Choice) × (i ≡ n + j) × (slice_get cs j ≡ Some c)
chosen n m i [] names h = absurd (cc)
chosen n m i (c ∷ cs) names h = by (answers (record { is_open = is_true c.guard; names = M.names_of c.answer }) m) refl (chosen (n + 1) m i cs names)
  where
    by : (b : Bool) → answers (record { is_open = is_true c.guard; names = M.names_of c.answer }) m ≡ b
        → (offered (n + 1) (M.alternatives_of cs) m ≡ Some (i, names) → (j : ℕ) × (d : Choice) × (i ≡ (n + 1) + j) × (slice_get cs j ≡ Some d))
        → (j : ℕ) × (d : Choice) × (i ≡ n + j) × (slice_get (c ∷ cs) j ≡ Some d)
    by true e rest =
        let z = same_some {X = ℕ × List ℕ} {x = (n, K.answered (M.names_of c.answer))} {y = (i, names)} (rw e at h) in
        let y : n ≡ i = ap (λ (q : ℕ × List ℕ). q.0) z in
        let is : i ≡ n + 0 = omega (arith, y) in
        (0, c, is, refl)
    by false e rest =
        let r = rest (rw e at h) in
        let y : i ≡ (n + 1) + r.0 = r.2 in
        let is : i ≡ n + suc r.0 = omega (arith, y) in
        (suc r.0, r.1, is, r.3)

pub work_there : (a : Action) (m i : ℕ) (names : List ℕ) → offered 1 (K.alternatives (M.kind_of a)) m ≡ Some (i, names) → F.work_at a i ≡ Some (M.work_of a i)
work_there (A.Answer ns) m i names h = refl
work_there (A.Select cs) m i names h =
    let r = chosen 1 m i cs names h in
    let is : suc r.0 ≡ i = let y = r.2 in omega (arith, y) in by i r.0 r.1 is r.3
  where
    by : (i j : ℕ) (c : Choice) → suc j ≡ i → slice_get cs j ≡ Some c → F.work_at (A.Select cs) i ≡ Some (M.work_of (A.Select cs) i)
    by i j c e s = let z : F.work_at (A.Select cs) (suc j) ≡ Some (M.work_of (A.Select cs) (suc j)) = rw s refl in subst (λ k. F.work_at (A.Select cs) k ≡ Some (M.work_of (A.Select cs) k)) e z
work_there _ m i names h = absurd (cc)
