-- A caught object stays caught and does not change, so it is dead.
use Rattle.std.proofs.Common.{◌≡◌, ◌≢◌, ◌⊎◌, inl, inr, refl, sym, ap, ◌∙◌, subst, ℕ, List, [], ◌∷◌, Option, Some, None, is_some, is_none, Bool, true, false, ◌&&◌, ◌||◌, ◌==◌}
use Rattle.run_types.specs.declared.types.Value.{Value}
use Rattle.run_types.specs.declared.types.Item.{Item}
use Rattle.run_types.specs.declared.types.Error.{Error}
use Rattle.run_types.specs.declared.types.Label.{Label}
use Rattle.run_types.specs.declared.types.Label.TheVariants as L
use Rattle.pool_syntax.specs.Terms.{ProgramTree, Statements}
use Rattle.run_types.specs.Same.{are_same}
use Rattle.run_types.proofs.Laws.{equal, differ, first, second, given_by, required}
use Rattle.pool_relation.specs.Action as A
use Rattle.pool_relation.specs.Action.{Object, Action, action}
use Rattle.pool_relation.specs.Configuration.{Configuration, object_of}
use Rattle.pool_relation.specs.Transition.{running, local_step, makes, calls, posts, returns, waits_on, writes, fails, picked, offer, Offer, transition, run}
use Rattle.pool_relation.proofs.Laws.{running_is}
use Rattle.search_laws.specs.Caught.{Free, Over, Calls, stance_of, stance_unless, stance_in, stance, WaitsFor, IsCaught}
use Rattle.reachability.specs.Search.{is_in_call, WaitsAt}
use Rattle.search_laws.specs.Dead.{changes, some_changes, IsDead}
use Rattle.search_laws.proofs.Dead.{unchanged}
use Rattle.search_laws.proofs.ReducedSearch.{First, first_of}

-- an object with a label of its own is free, and one whose call is answered or returns calls the other object
local_free : (x y : Object) (a : Action) → local_step x a ≡ Some y → stance_of a ≡ Free
local_free x y (A.Local term vars) h = refl
local_free x y _ h = absurd (cc)

makes_free : (a : Action) (k : ℕ) → makes a k ≡ true → stance_of a ≡ Free
makes_free (A.New c) k h = refl
makes_free _ k h = absurd (cc)

posts_free : (a : Action) (r n : ℕ) (vs : List Value) → posts a r n vs ≡ true → stance_of a ≡ Free
posts_free (A.Async b m args) r n vs h = refl
posts_free _ r n vs h = absurd (cc)

writes_free : (a : Action) (i : Item) → writes a i ≡ true → stance_of a ≡ Free
writes_free (A.Write j) i h = refl
writes_free _ i h = absurd (cc)

fails_free : (a : Action) (e : Error) → fails a e ≡ true → stance_of a ≡ Free
fails_free (A.Fault f) e h = refl
fails_free _ e h = absurd (cc)

picked_free : (a : Action) (i : ℕ) (w : Statements) → picked a i ≡ Some w → stance_of a ≡ Free
picked_free (A.Select choices) i w h = refl
picked_free _ i w h = absurd (cc)

offer_free : (a : Action) (m : ℕ) (v : Offer) → offer a m ≡ Some v → stance_of a ≡ Free
offer_free (A.Answer names) m v h = refl
offer_free (A.Select choices) m v h = refl
offer_free _ m v h = absurd (cc)

returns_free : (a : Action) (o : ℕ) (v : Value) → returns a o v ≡ true → stance_of a ≡ Free
returns_free (A.Return k w) o v h = refl
returns_free _ o v h = absurd (cc)

calls_it : (a : Action) (r n : ℕ) (vs : List Value) → calls a r n vs ≡ true → stance_of a ≡ Calls r
calls_it (A.Send b m args) r n vs h = ap Calls (equal b r (first (b == r) (m == n) (first (b == r && m == n) (are_same args vs) h)))
calls_it _ r n vs h = absurd (cc)

waits_it : (a : Action) (r : ℕ) → waits_on a r ≡ true → stance_of a ≡ Calls r
waits_it (A.Waits b m) r h = ap Calls (equal b r h)
waits_it _ r h = absurd (cc)

none : (a b : Bool) → a ≡ false → b ≡ false → (a || b) ≡ false
none false false i j = refl
none true b i j = absurd (cc)
none false true i j = absurd (cc)

-- objects of which none is free, and of which those that call call one of them
module _ (p : ProgramTree) (c : Configuration) (Held : ℕ → Type 0)
    (bound : (q : ℕ) → Held q → stance p c q ≢ Free)
    (next : (q b : ℕ) → Held q → stance p c q ≡ Calls b → Held b) where
  stands : (o : ℕ) (x : Object) → running c o ≡ Some x → stance p c o ≡ stance_of (action p o x)
  stands o x r = let a = running_is c o x r in ap (stance_in p o) a.0 ∙ ap (λ f. stance_unless f (action p o x)) a.1

  -- a free object is none of them
  apart : (o : ℕ) (x : Object) → running c o ≡ Some x → stance_of (action p o x) ≡ Free → (q : ℕ) → Held q → (o == q) ≡ false
  apart o x r f q h = differ o q (λ e. bound q h (ap (stance p c) (sym e) ∙ stands o x r ∙ f))

  -- nor is a caller of a free object
  apart_from_caller : (o b : ℕ) (x y : Object) → running c o ≡ Some x → stance_of (action p o x) ≡ Calls b → running c b ≡ Some y → stance_of (action p b y) ≡ Free → (q : ℕ) → Held q → (o == q) ≡ false
  apart_from_caller o b x y r f s g q h = differ o q (λ e. bound b (next q b h (ap (stance p c) (sym e) ∙ stands o x r ∙ f)) (stands b y s ∙ g))

  pub none_changes : (d : Configuration) (l : Label) → transition p c l ≡ Some d → (q : ℕ) → Held q → changes q l ≡ false
  none_changes d (L.Local o) t q h =
      let x = given_by (running c o) _ d t in
      let y = given_by (local_step x.0 (action p o x.0)) _ d x.2 in
      apart o x.0 x.1 (local_free x.0 y.0 (action p o x.0) y.1) q h
  none_changes d (L.New o n k) t q h =
      let x = given_by (running c o) _ d t in
      let w = required (makes (action p o x.0) k.0 && is_none (object_of c n)) _ d x.2 in
      apart o x.0 x.1 (makes_free (action p o x.0) k.0 (first (makes (action p o x.0) k.0) (is_none (object_of c n)) w.0)) q h
  none_changes d (L.Answer b o m args) t q h =
      let x = given_by (running c o) _ d t in
      let y = given_by (running c b) _ d x.2 in
      let w = required (calls (action p o x.0) b m.0 args) _ d y.2 in
      let v = given_by (offer (action p b y.0) m.0) _ d w.1 in
      let free = offer_free (action p b y.0) m.0 v.0 v.1 in
      none (b == q) (o == q) (apart b y.0 y.1 free q h) (apart_from_caller o b x.0 y.0 x.1 (calls_it (action p o x.0) b m.0 args w.0) y.1 free q h)
  none_changes d (L.Return b o v) t q h =
      let y = given_by (running c b) _ d t in
      let x = given_by (running c o) _ d y.2 in
      let w = required (returns (action p b y.0) o v && waits_on (action p o x.0) b) _ d x.2 in
      let free = returns_free (action p b y.0) o v (first (returns (action p b y.0) o v) (waits_on (action p o x.0) b) w.0) in
      let called = waits_it (action p o x.0) b (second (returns (action p b y.0) o v) (waits_on (action p o x.0) b) w.0) in
      none (b == q) (o == q) (apart b y.0 y.1 free q h) (apart_from_caller o b x.0 y.0 x.1 called y.1 free q h)
  none_changes d (L.Send o b m args) t q h =
      let x = given_by (running c o) _ d t in
      let w = required (posts (action p o x.0) b m.0 args && is_some (object_of c b)) _ d x.2 in
      apart o x.0 x.1 (posts_free (action p o x.0) b m.0 args (first (posts (action p o x.0) b m.0 args) (is_some (object_of c b)) w.0)) q h
  none_changes d (L.Take b s m args) t q h =
      let y = given_by (running c b) _ d t in
      let v = given_by (offer (action p b y.0) m.0) _ d y.2 in
      apart b y.0 y.1 (offer_free (action p b y.0) m.0 v.0 v.1) q h
  none_changes d (L.Write o item) t q h =
      let x = given_by (running c o) _ d t in
      let w = required (writes (action p o x.0) item) _ d x.2 in
      apart o x.0 x.1 (writes_free (action p o x.0) item w.0) q h
  none_changes d (L.Pick o i) t q h =
      let x = given_by (running c o) _ d t in
      let work = given_by (picked (action p o x.0) i) _ d x.2 in
      apart o x.0 x.1 (picked_free (action p o x.0) i work.0 work.1) q h
  none_changes d (L.Fault o e) t q h =
      let x = given_by (running c o) _ d t in
      let w = required (fails (action p o x.0) e) _ d x.2 in
      apart o x.0 x.1 (fails_free (action p o x.0) e w.0) q h

  pub none_moves : (d : Configuration) (l : Label) → transition p c l ≡ Some d → (q : ℕ) → Held q → object_of d q ≡ object_of c q
  none_moves d l t q h = by (object_of c q) refl
    where
      by : (x : Option Object) → object_of c q ≡ x → object_of d q ≡ object_of c q
      by None i = absurd (bound q h (ap (stance_in p q) i))
      by (Some x) i = unchanged p c q x i d l t (none_changes d l t q h) ∙ sym i

-- the objects that are caught together, and those that are over
module _ (p : ProgramTree) (c d : Configuration) (l : Label) (t : transition p c l ≡ Some d) (o : ℕ) (caught : IsCaught p c o) where
  abbrev Held : ℕ → Type 0
  Held q = (caught.these q ≡ true) ⊎ (stance p c q ≡ Over)

  bound : (q : ℕ) → Held q → stance p c q ≢ Free
  bound q (inl i) e = let w = caught.each q i in absurd (let z : Calls w.receiver ≡ Free = sym w.calls ∙ e in cc)
  bound q (inr i) e = absurd (let z : Over ≡ Free = sym i ∙ e in cc)

  next : (q b : ℕ) → Held q → stance p c q ≡ Calls b → Held b
  next q b (inl i) e =
      let w = caught.each q i in
      let z : Calls w.receiver ≡ Calls b = sym w.calls ∙ e in
      let it : w.receiver ≡ b = cc in
      subst (λ (r : ℕ). (caught.these r ≡ true) ⊎ (stance p c r ≡ Over)) it w.held
  next q b (inr i) e = absurd (let z : Over ≡ Calls b = sym i ∙ e in cc)

  same : (q : ℕ) → Held q → object_of d q ≡ object_of c q
  same q h = none_moves p c Held bound next d l t q h

  same_stance : (q : ℕ) → Held q → stance p d q ≡ stance p c q
  same_stance q h = ap (stance_in p q) (same q h)

  pub caught_stays : IsCaught p d o
  caught_stays = record { these = caught.these; one = caught.one; each = λ q i. by q i (caught.each q i) }
    where
      by : (q : ℕ) → caught.these q ≡ true → WaitsFor p c caught.these q → WaitsFor p d caught.these q
      by q i w = record { receiver = w.receiver; calls = same_stance q (inl i) ∙ w.calls; held = on w.held }
        where
          on : (caught.these w.receiver ≡ true) ⊎ (stance p c w.receiver ≡ Over) → (caught.these w.receiver ≡ true) ⊎ (stance p d w.receiver ≡ Over)
          on (inl j) = inl j
          on (inr j) = inr (same_stance w.receiver (inr j) ∙ j)

  pub unmoved : changes o l ≡ false
  unmoved = none_changes p c Held bound next d l t o (inl caught.one)

  pub caught_rests : object_of d o ≡ object_of c o
  caught_rests = same o (inl caught.one)

-- no run changes a caught object
never_changes : (p : ProgramTree) (c d : Configuration) (ls : List Label) (o : ℕ) → IsCaught p c o → run p c ls ≡ Some d → some_changes o ls ≡ false
never_changes p c d [] o caught r = refl
never_changes p c d (l ∷ ls) o caught r = by (first_of p c d l ls r) (λ e h t. never_changes p e d ls o h t)
  where
    by : First p c d l ls → ((e : Configuration) → IsCaught p e o → run p e ls ≡ Some d → some_changes o ls ≡ false) → some_changes o (l ∷ ls) ≡ false
    by f rest =
        none (changes o l) (some_changes o ls) (unmoved p c f.next l f.step o caught) (rest f.next (caught_stays p c f.next l f.step o caught) f.rest)

pub caught_waits : (p : ProgramTree) (c : Configuration) (o : ℕ) → IsCaught p c o → WaitsAt p c o
caught_waits p c o caught = let w = caught.each o caught.one in by (object_of c o) refl w.receiver w.calls
  where
    at : (x : Object) → object_of c o ≡ Some x → (f : Option Error) → x.fault ≡ f → (a : Action) → action p o x ≡ a → (b : ℕ) → stance_unless f a ≡ Calls b → WaitsAt p c o
    at x i (Some e) j a k b h = absurd (cc)
    at x i None j (A.Send r m args) k b h = record { object = x; there = i; sound = j; waits = ap is_in_call k }
    at x i None j (A.Waits r m) k b h = record { object = x; there = i; sound = j; waits = ap is_in_call k }
    at x i None j _ k b h = absurd (cc)

    by : (x : Option Object) → object_of c o ≡ x → (b : ℕ) → stance_in p o x ≡ Calls b → WaitsAt p c o
    by None i b h = absurd (cc)
    by (Some x) i b h = at x i x.fault refl (action p o x) refl b h

pub caught_is_dead : (p : ProgramTree) (c : Configuration) (o : ℕ) → IsCaught p c o → IsDead p c o
caught_is_dead p c o caught = record { waits = caught_waits p c o caught; never = λ d ls r. never_changes p c d ls o caught r }
