-- An object takes part in one label only, if it is to make a local transition, write, send asynchronously, meet an
-- error or return, or if it waits.
use Rattle.std.proofs.Common.{◌≡◌, refl, sym, ap, ◌∙◌, subst, IsTrue, ℕ, List, Some, is_some, is_none, true, ◌&&◌, ◌==◌}
use Rattle.run_types.specs.declared.types.Value.{Value}
use Rattle.run_types.specs.declared.types.Item.{Item}
use Rattle.run_types.specs.declared.types.Item.TheVariants as I
use Rattle.run_types.specs.declared.types.Error.{Error}
use Rattle.run_types.specs.declared.types.NameId.{NameId}
use Rattle.run_types.specs.declared.types.Label.{Label}
use Rattle.run_types.specs.declared.types.Label.TheVariants as L
use Rattle.pool_syntax.specs.Terms.{ProgramTree}
use Rattle.run_types.specs.Same.{are_same, is_same_item}
use Rattle.run_types.proofs.Laws.{first, second, equal, given_by, required, same_some, same_value, same_values, same_error}
use Rattle.pool_relation.specs.Action as A
use Rattle.pool_relation.specs.Action.{Object, Action, action}
use Rattle.pool_relation.specs.Configuration.{Configuration, object_of}
use Rattle.pool_relation.specs.Progress.{agent}
use Rattle.pool_relation.specs.Transition.{Offer, running, local_step, makes, calls, posts, returns, waits_on, writes, fails, picked, offer, transition}

-- the other object of a label, or the same
abbrev pub partner : Label → ℕ
partner (L.Answer b o m args) = o
partner (L.Return b o v) = o
partner l = agent l

-- the labels in which an object q at this action takes part
abbrev pub Fits : Action → ℕ → Label → Type 0
Fits (A.Local term vars) q l = l ≡ L.Local q
Fits (A.Write item) q l = l ≡ L.Write q item
Fits (A.Fault e) q l = l ≡ L.Fault q e
Fits (A.New c) q l = (m : ℕ) × (k : NameId) × (k.0 ≡ c) × (l ≡ L.New q m k)
Fits (A.Async b m args) q l = (n : NameId) × (n.0 ≡ m) × (l ≡ L.Send q b n args)
Fits (A.Return k v) q l = l ≡ L.Return q k v
Fits (A.Waits b m) q l = (v : Value) × (l ≡ L.Return b q v)
Fits _ q l = Unit {0}

pub same_item : (i j : Item) → is_same_item i j ≡ true → i ≡ j
same_item (I.Value v) (I.Value w) h = ap I.Value (same_value v w h)
same_item (I.Text s) (I.Text t) h = ap (λ (n : ℕ). I.Text (record { 0 = n })) (equal s.0 t.0 h)
same_item (I.Value v) (I.Text t) h = absurd (cc)
same_item (I.Text s) (I.Value w) h = absurd (cc)

-- what each test says of the action

local_fits : (x : Object) (a : Action) (q : ℕ) (y : Object) → local_step x a ≡ Some y → Fits a q (L.Local q)
local_fits x (A.Local term vars) q y h = refl
local_fits x _ q y h = absurd (cc)

makes_fits : (a : Action) (q m : ℕ) (k : NameId) → makes a k.0 ≡ true → Fits a q (L.New q m k)
makes_fits (A.New c) q m k h = (m, k, sym (equal c k.0 h), refl)
makes_fits _ q m k h = absurd (cc)

calls_fits : (a : Action) (q b m : ℕ) (args : List Value) (l : Label) → calls a b m args ≡ true → Fits a q l
calls_fits (A.Send r n values) q b m args l h = tt
calls_fits _ q b m args l h = absurd (cc)

offer_fits : (a : Action) (q m : ℕ) (v : Offer) (l : Label) → offer a m ≡ Some v → Fits a q l
offer_fits (A.Answer names) q m v l h = tt
offer_fits (A.Select choices) q m v l h = tt
offer_fits _ q m v l h = absurd (cc)

posts_fits : (a : Action) (q b : ℕ) (n : NameId) (args : List Value) → posts a b n.0 args ≡ true → Fits a q (L.Send q b n args)
posts_fits (A.Async r m values) q b n args h =
    let both : IsTrue (r == b && m == n.0) = first (r == b && m == n.0) (are_same values args) h in
    let e : r ≡ b = equal r b (first (r == b) (m == n.0) both) in
    let f : m ≡ n.0 = equal m n.0 (second (r == b) (m == n.0) both) in
    let g : values ≡ args = same_values values args (second (r == b && m == n.0) (are_same values args) h) in
    (n, sym f, ap (λ z. L.Send q z n args) (sym e) ∙ ap (L.Send q r n) (sym g))
posts_fits _ q b n args h = absurd (cc)

returns_fits : (a : Action) (q o : ℕ) (w : Value) → returns a o w ≡ true → Fits a q (L.Return q o w)
returns_fits (A.Return k v) q o w h =
    let e : k ≡ o = equal k o (first _ _ h) in
    let f : v ≡ w = same_value v w (second (k == o) _ h) in
    ap (λ z. L.Return q z w) (sym e) ∙ ap (L.Return q k) (sym f)
returns_fits _ q o w h = absurd (cc)

waits_fits : (a : Action) (q b : ℕ) (v : Value) → waits_on a b ≡ true → Fits a q (L.Return b q v)
waits_fits (A.Waits r m) q b v h = (v, ap (λ z. L.Return z q v) (sym (equal r b h)))
waits_fits _ q b v h = absurd (cc)

writes_fits : (a : Action) (q : ℕ) (j : Item) → writes a j ≡ true → Fits a q (L.Write q j)
writes_fits (A.Write i) q j h = ap (L.Write q) (sym (same_item i j h))
writes_fits _ q j h = absurd (cc)

picked_fits : (a : Action) (q i : ℕ) (l : Label) → is_some (picked a i) ≡ true → Fits a q l
picked_fits (A.Select choices) q i l h = tt
picked_fits _ q i l h = absurd (cc)

fails_fits : (a : Action) (q : ℕ) (e : Error) → fails a e ≡ true → Fits a q (L.Fault q e)
fails_fits (A.Fault d) q e h = ap (L.Fault q) (sym (same_error d e h))
fails_fits _ q e h = absurd (cc)

module _ (p : ProgramTree) (c d : Configuration) where
  same_object : (q : ℕ) (x z : Object) → running c q ≡ Some x → running c q ≡ Some z → z ≡ x
  same_object q x z i j = same_some (sym j ∙ i)

  -- of the object that makes the transition
  pub agent_fits : (l : Label) (x : Object) → transition p c l ≡ Some d → running c (agent l) ≡ Some x → Fits (action p (agent l) x) (agent l) l
  agent_fits (L.Local o) x t r =
      let a = given_by (running c o) _ d t in
      let b = given_by (local_step a.0 (action p o a.0)) _ d a.2 in
      subst (λ z. Fits (action p o z) o (L.Local o)) (same_object o x a.0 r a.1) (local_fits a.0 (action p o a.0) o b.0 b.1)
  agent_fits (L.New o n k) x t r =
      let a = given_by (running c o) _ d t in
      let b = required (makes (action p o a.0) k.0 && is_none (object_of c n)) _ d a.2 in
      subst (λ z. Fits (action p o z) o (L.New o n k)) (same_object o x a.0 r a.1) (makes_fits (action p o a.0) o n k (first (makes (action p o a.0) k.0) (is_none (object_of c n)) b.0))
  agent_fits (L.Answer b o m args) x t r =
      let a = given_by (running c o) _ d t in
      let y = given_by (running c b) _ d a.2 in
      let q = required (calls (action p o a.0) b m.0 args) _ d y.2 in
      let v = given_by (offer (action p b y.0) m.0) _ d q.1 in
      subst (λ z. Fits (action p b z) b (L.Answer b o m args)) (same_object b x y.0 r y.1) (offer_fits (action p b y.0) b m.0 v.0 (L.Answer b o m args) v.1)
  agent_fits (L.Return b o v) x t r =
      let y = given_by (running c b) _ d t in
      let a = given_by (running c o) _ d y.2 in
      let q = required (returns (action p b y.0) o v && waits_on (action p o a.0) b) _ d a.2 in
      subst (λ z. Fits (action p b z) b (L.Return b o v)) (same_object b x y.0 r y.1)
      (returns_fits (action p b y.0) b o v (first (returns (action p b y.0) o v) (waits_on (action p o a.0) b) q.0))
  agent_fits (L.Send o b m args) x t r =
      let a = given_by (running c o) _ d t in
      let q = required (posts (action p o a.0) b m.0 args && is_some (object_of c b)) _ d a.2 in
      subst (λ z. Fits (action p o z) o (L.Send o b m args)) (same_object o x a.0 r a.1)
      (posts_fits (action p o a.0) o b m args (first (posts (action p o a.0) b m.0 args) (is_some (object_of c b)) q.0))
  agent_fits (L.Take b s m args) x t r =
      let y = given_by (running c b) _ d t in
      let v = given_by (offer (action p b y.0) m.0) _ d y.2 in
      subst (λ z. Fits (action p b z) b (L.Take b s m args)) (same_object b x y.0 r y.1) (offer_fits (action p b y.0) b m.0 v.0 (L.Take b s m args) v.1)
  agent_fits (L.Write o item) x t r =
      let a = given_by (running c o) _ d t in
      let q = required (writes (action p o a.0) item) _ d a.2 in
      subst (λ z. Fits (action p o z) o (L.Write o item)) (same_object o x a.0 r a.1) (writes_fits (action p o a.0) o item q.0)
  agent_fits (L.Pick o i) x t r =
      let a = given_by (running c o) _ d t in
      let q = given_by (picked (action p o a.0) i) _ d a.2 in
      subst (λ z. Fits (action p o z) o (L.Pick o i)) (same_object o x a.0 r a.1) (picked_fits (action p o a.0) o i (L.Pick o i) (ap is_some q.1))
  agent_fits (L.Fault o e) x t r =
      let a = given_by (running c o) _ d t in
      let q = required (fails (action p o a.0) e) _ d a.2 in
      subst (λ z. Fits (action p o z) o (L.Fault o e)) (same_object o x a.0 r a.1) (fails_fits (action p o a.0) o e q.0)

  -- of the other object
  pub partner_fits : (l : Label) (x : Object) → transition p c l ≡ Some d → running c (partner l) ≡ Some x → Fits (action p (partner l) x) (partner l) l
  partner_fits (L.Answer b o m args) x t r =
      let a = given_by (running c o) _ d t in
      let y = given_by (running c b) _ d a.2 in
      let q = required (calls (action p o a.0) b m.0 args) _ d y.2 in
      subst (λ z. Fits (action p o z) o (L.Answer b o m args)) (same_object o x a.0 r a.1) (calls_fits (action p o a.0) o b m.0 args (L.Answer b o m args) q.0)
  partner_fits (L.Return b o v) x t r =
      let y = given_by (running c b) _ d t in
      let a = given_by (running c o) _ d y.2 in
      let q = required (returns (action p b y.0) o v && waits_on (action p o a.0) b) _ d a.2 in
      subst (λ z. Fits (action p o z) o (L.Return b o v)) (same_object o x a.0 r a.1)
      (waits_fits (action p o a.0) o b v (second (returns (action p b y.0) o v) (waits_on (action p o a.0) b) q.0))
  partner_fits (L.Local o) x t r = agent_fits (L.Local o) x t r
  partner_fits (L.New o n k) x t r = agent_fits (L.New o n k) x t r
  partner_fits (L.Send o b m args) x t r = agent_fits (L.Send o b m args) x t r
  partner_fits (L.Take b s m args) x t r = agent_fits (L.Take b s m args) x t r
  partner_fits (L.Write o item) x t r = agent_fits (L.Write o item) x t r
  partner_fits (L.Pick o i) x t r = agent_fits (L.Pick o i) x t r
  partner_fits (L.Fault o e) x t r = agent_fits (L.Fault o e) x t r

-- the one label of an object for which a test holds

pub local_own : (x : Object) (a : Action) (q : ℕ) (y : Object) → local_step x a ≡ Some y → (l : Label) → Fits a q l → l ≡ L.Local q
local_own x (A.Local term vars) q y h l f = f
local_own x _ q y h l f = absurd (cc)

pub writes_own : (a : Action) (q : ℕ) (j : Item) → writes a j ≡ true → (l : Label) → Fits a q l → l ≡ L.Write q j
writes_own (A.Write i) q j h l f = f ∙ ap (L.Write q) (same_item i j h)
writes_own _ q j h l f = absurd (cc)

pub fails_own : (a : Action) (q : ℕ) (e : Error) → fails a e ≡ true → (l : Label) → Fits a q l → l ≡ L.Fault q e
fails_own (A.Fault d) q e h l f = f ∙ ap (L.Fault q) (same_error d e h)
fails_own _ q e h l f = absurd (cc)

pub posts_own : (a : Action) (q b : ℕ) (n : NameId) (args : List Value) → posts a b n.0 args ≡ true → (l : Label) → Fits a q l → l ≡ L.Send q b n args
posts_own (A.Async r m values) q b n args h l f =
    let both : IsTrue (r == b && m == n.0) = first (r == b && m == n.0) (are_same values args) h in
    let e : r ≡ b = equal r b (first (r == b) (m == n.0) both) in
    let g : m ≡ n.0 = equal m n.0 (second (r == b) (m == n.0) both) in
    let i : values ≡ args = same_values values args (second (r == b && m == n.0) (are_same values args) h) in
    let same : f.0.0 ≡ n.0 = f.1 ∙ g in
    f.2 ∙ ap (λ z. L.Send q z f.0 values) e ∙ ap (λ (z : ℕ). L.Send q b (record { 0 = z }) values) same ∙ ap (L.Send q b n) i
posts_own _ q b n args h l f = absurd (cc)

pub returns_own : (a : Action) (q o : ℕ) (w : Value) → returns a o w ≡ true → (l : Label) → Fits a q l → l ≡ L.Return q o w
returns_own (A.Return k v) q o w h l f =
    let e : k ≡ o = equal k o (first _ _ h) in
    let g : v ≡ w = same_value v w (second (k == o) _ h) in
    f ∙ ap (λ z. L.Return q z v) e ∙ ap (L.Return q o) g
returns_own _ q o w h l f = absurd (cc)

pub waits_own : (a : Action) (q b : ℕ) → waits_on a b ≡ true → (l : Label) → Fits a q l → (v : Value) × (l ≡ L.Return b q v)
waits_own (A.Waits r m) q b h l f = (f.0, f.1 ∙ ap (λ z. L.Return z q f.0) (equal r b h))
waits_own _ q b h l f = absurd (cc)

pub makes_own : (a : Action) (q : ℕ) (k : NameId) → makes a k.0 ≡ true → (l : Label) → Fits a q l → (m : ℕ) × (l ≡ L.New q m k)
makes_own (A.New c) q k h l f = (f.0, f.3 ∙ ap (λ (z : ℕ). L.New q f.0 (record { 0 = z })) (f.2 ∙ equal c k.0 h))
makes_own _ q k h l f = absurd (cc)
