-- The next action of code, from the tests of transitions.
use Rattle.std.proofs.Common.{◌≡◌, refl, sym, ap, ◌∙◌, ℕ, zero, suc, ◌==◌, List, [], Option, Some, None, true, false}
use Rattle.std.specs.Prelude.{◌&&◌}
use Rattle.run_types.specs.declared.types.Value.{Value}
use Rattle.run_types.specs.declared.types.Item.{Item}
use Rattle.run_types.specs.declared.types.Error.{Error}
use Rattle.run_types.specs.Values.{is_same}
use Rattle.code_semantics.specs.Kinds as C
use Rattle.run_types.proofs.Laws.{first, second, equal, same_value, same_values, same_error}
use Rattle.mesh_semantics.specs.Act.{id}
use Rattle.run_types.specs.Same.{are_same}
use Rattle.mesh_semantics.specs.Kind as K
use Rattle.mesh_semantics.specs.Kind.{Kind, Alternative, is_local, makes, calls, posts, returns, waits_on, writes, fails, alternatives}
use Rattle.mesh_semantics.specs.Moves.{offered, numbered, can_pick}
use Rattle.mesh_of_code.specs.Coded.{kind_of, unless_served}
use Rattle.code_semantics.specs.StepInstructions.{IsChoosing}

pub local_is : (s : Option (ℕ × ℕ)) (k : C.Kind) → is_local (unless_served s (kind_of k)) ≡ true → (s ≡ None) × (k ≡ C.Local)
local_is (Some w) k h = absurd (let z : false ≡ true = h in cc)
local_is None C.Local h = (refl, refl)
local_is None _ h = absurd (let z : false ≡ true = h in cc)

pub new_is : (s : Option (ℕ × ℕ)) (k : C.Kind) (n : ℕ) → makes (unless_served s (kind_of k)) n ≡ true → (s ≡ None) × (k ≡ C.New (id n))
new_is (Some w) k n h = absurd (let z : false ≡ true = h in cc)
new_is None (C.New c) n h = (refl, ap (λ j. C.New (id j)) (equal c.0 n h))
new_is None _ n h = absurd (let z : false ≡ true = h in cc)

pub send_is : (s : Option (ℕ × ℕ)) (k : C.Kind) (b m : ℕ) (args : List Value) → calls (unless_served s (kind_of k)) b m args ≡ true → (s ≡ None) × (k ≡ C.Send b (id m) args)
send_is (Some w) k b m args h = absurd (let z : false ≡ true = h in cc)
send_is None (C.Send r n vs) b m args h =
    let i = first (r == b && n.0 == m) (are_same vs args) h in
    let q = equal r b (first (r == b) (n.0 == m) i) in
    let s : n ≡ id m = ap id (equal n.0 m (second (r == b) (n.0 == m) i)) in
    let t = same_values vs args (second (r == b && n.0 == m) (are_same vs args) h) in (refl, cc)
send_is None _ b m args h = absurd (let z : false ≡ true = h in cc)

pub async_is : (s : Option (ℕ × ℕ)) (k : C.Kind) (b m : ℕ) (args : List Value) → posts (unless_served s (kind_of k)) b m args ≡ true → (s ≡ None) × (k ≡ C.Async b (id m) args)
async_is (Some w) k b m args h = absurd (let z : false ≡ true = h in cc)
async_is None (C.Async r n vs) b m args h =
    let i = first (r == b && n.0 == m) (are_same vs args) h in
    let q = equal r b (first (r == b) (n.0 == m) i) in
    let s : n ≡ id m = ap id (equal n.0 m (second (r == b) (n.0 == m) i)) in
    let t = same_values vs args (second (r == b && n.0 == m) (are_same vs args) h) in (refl, cc)
async_is None _ b m args h = absurd (let z : false ≡ true = h in cc)

pub return_is : (s : Option (ℕ × ℕ)) (k : C.Kind) (o : ℕ) (v : Value) → returns (unless_served s (kind_of k)) o v ≡ true → (s ≡ None) × (n : ℕ) × (k ≡ C.Return o n v)
return_is (Some w) k o v h = absurd (let z : false ≡ true = h in cc)
return_is None (C.Return j n w) o v h = let i = equal j o (first (j == o) (is_same w v) h) in let t = same_value w v (second (j == o) (is_same w v) h) in (refl, n, cc)
return_is None _ o v h = absurd (let z : false ≡ true = h in cc)

pub wait_is : (s : Option (ℕ × ℕ)) (k : C.Kind) (b : ℕ) → waits_on (unless_served s (kind_of k)) b ≡ true → (m : ℕ) × (s ≡ Some (b, m))
wait_is (Some w) k b h = (w.1, ap (λ r. Some (r, w.1)) (equal w.0 b h))
wait_is None C.Finished b h = absurd (let z : false ≡ true = h in cc)
wait_is None _ b h = absurd (let z : false ≡ true = h in cc)

pub write_is : (s : Option (ℕ × ℕ)) (k : C.Kind) (item : Item) → writes (unless_served s (kind_of k)) item ≡ true → (s ≡ None) × (j : Item) × (k ≡ C.Write j)
write_is (Some w) k item h = absurd (let z : false ≡ true = h in cc)
write_is None (C.Write j) item h = (refl, j, refl)
write_is None _ item h = absurd (let z : false ≡ true = h in cc)

pub fault_is : (s : Option (ℕ × ℕ)) (k : C.Kind) (e : Error) → fails (unless_served s (kind_of k)) e ≡ true → (s ≡ None) × (k ≡ C.Fault e)
fault_is (Some w) k e h = absurd (let z : false ≡ true = h in cc)
fault_is None (C.Fault f) e h = (refl, ap C.Fault (same_error f e h))
fault_is None _ e h = absurd (let z : false ≡ true = h in cc)

-- one that has alternatives
pub record Chooses (s : Option (ℕ × ℕ)) (k : C.Kind) : Type 0 where
  pub free : s ≡ None
  pub chooses : IsChoosing k
  pub alts : List Alternative
  pub select : kind_of k ≡ K.Select alts

offers_is : (s : Option (ℕ × ℕ)) (k : C.Kind) (alts : List Alternative) → alternatives (unless_served s (kind_of k)) ≡ alts → (alts ≡ [] → ⊥) → Chooses s k
offers_is (Some w) k alts e h = absurd (h (sym e))
offers_is None (C.Answer names) alts e h = record { free = refl; chooses = tt; alts = alternatives (kind_of (C.Answer names)); select = refl }
offers_is None (C.Select os) alts e h = record { free = refl; chooses = tt; alts = alternatives (kind_of (C.Select os)); select = refl }
offers_is None _ alts e h = absurd (h (sym e))

pub offered_is : (s : Option (ℕ × ℕ)) (k : C.Kind) (m : ℕ) (v : ℕ × List ℕ) → offered 1 (alternatives (unless_served s (kind_of k))) m ≡ Some v → Chooses s k
offered_is s k m v h = offers_is s k (alternatives (unless_served s (kind_of k))) refl (λ e. let z : None ≡ Some v = sym (ap (λ a. offered 1 a m) e) ∙ h in cc)

nothing_numbered : (i : ℕ) → can_pick (numbered [] i) ≡ false
nothing_numbered zero = refl
nothing_numbered (suc i) = refl

pub pick_is : (s : Option (ℕ × ℕ)) (k : C.Kind) (i : ℕ) → can_pick (numbered (alternatives (unless_served s (kind_of k))) i) ≡ true → Chooses s k
pick_is s k i h =
    offers_is s k (alternatives (unless_served s (kind_of k))) refl (λ e. let z : false ≡ true = sym (nothing_numbered i) ∙ sym (ap (λ a. can_pick (numbered a i)) e) ∙ h in cc)
