-- Local transitions of other objects neither make a transition possible nor prevent it. So if a record with local
-- transitions filled in stops, with those who take part at rest, no other filling leads further.
use Rattle.std.proofs.Common.{◌≡◌, ◌≢◌, ◌⊎◌, inl, inr, refl, sym, ap, subst, ◌∙◌, ℕ, List, [], ◌∷◌, Option, Some, None, true, false}
use Rattle.run_types.specs.declared.types.Label.{Label}
use Rattle.run_types.specs.declared.types.Label.TheVariants as L
use Rattle.run_types.specs.Partial.{◌>>=◌}
use Rattle.run_types.proofs.Laws.{decide, given_by, same_some}
use Rattle.pool_syntax.specs.Terms.{ProgramTree}
use Rattle.pool_relation.specs.Configuration.{Configuration}
use Rattle.pool_relation.specs.Progress.{agent}
use Rattle.pool_relation.specs.Transition.{run, transition}
use Rattle.reachability.specs.Search.{IsInOrder}
use Rattle.search_laws.proofs.Laws.{commutes, earlier, partner, sorted_after}
use Rattle.stream_check.specs.Filled.{is_local}
use Rattle.stream_check.proofs.LocalRuns.{kept_once}

-- these labels are those of local transitions of these objects
abbrev pub locals : List ℕ → List Label
locals [] = []
locals (o ∷ os) = L.Local o ∷ locals os

-- the labels that are not local
abbrev pub own : List Label → List Label
own [] = []
own (L.Local o ∷ ls) = own ls
own (l ∷ ls) = l ∷ own ls

module _ (p : ProgramTree) where
  -- local transitions lead from c to d
  pub record Rests (c d : Configuration) : Type 0 where
    pub objects : List ℕ
    pub leads : run p c (locals objects) ≡ Some d

  -- and from both to one configuration
  pub record Meet (c d : Configuration) : Type 0 where
    pub last : Configuration
    pub left : Rests c last
    pub right : Rests d last

  stays : (c : Configuration) → Rests c c
  stays c = record { objects = []; leads = refl }

  one_step : (o : ℕ) (c d e : Configuration) → transition p c (L.Local o) ≡ Some d → Rests d e → Rests c e
  one_step o c d e i r = record { objects = o ∷ r.objects; leads = ap (λ t. t >>= λ z. run p z (locals r.objects)) i ∙ r.leads }

  pub split_step : (l : Label) (ls : List Label) (c e : Configuration) → run p c (l ∷ ls) ≡ Some e → (d : Configuration) × (transition p c l ≡ Some d) × (run p d ls ≡ Some e)
  split_step l ls c e h = given_by (transition p c l) (λ z. run p z ls) e h

  chain : (os : List ℕ) (c d e : Configuration) → run p c (locals os) ≡ Some d → Rests d e → Rests c e
  chain [] c d e h r = subst (λ (z : Configuration). Rests z e) (sym (same_some h)) r
  chain (o ∷ os) c d e h r = let s = split_step (L.Local o) (locals os) c d h in one_step o c s.0 e s.1 (chain os s.0 d e s.2 r)

  both : (c d e : Configuration) → Rests c d → Rests d e → Rests c e
  both c d e a b = chain a.objects c d e a.leads b

  run_in_order : (ls : List Label) (c d : Configuration) → IsInOrder c → run p c ls ≡ Some d → IsInOrder d
  run_in_order [] c d s h = subst IsInOrder (same_some h) s
  run_in_order (l ∷ ls) c d s h = let t = split_step l ls c d h in run_in_order ls t.0 d (sorted_after p c t.0 l s t.1) t.2

  -- a local transition and another label, in either order
  either : (o : ℕ) (l : Label) (c d e : Configuration) → IsInOrder c → transition p c (L.Local o) ≡ Some e → transition p c l ≡ Some d → l ≢ L.Local o
      → (x : Configuration) × (transition p d (L.Local o) ≡ Some x) × (transition p e l ≡ Some x)
  either o l c d e s i j n = let m = commutes p c d e (L.Local o) l (record { kind = refl; sorted = s }) i j n in m.1

  -- local transitions before a label that is not local
  past : (os : List ℕ) (l : Label) (c d e : Configuration) → IsInOrder c → is_local l ≡ false → run p c (locals os) ≡ Some e → transition p c l ≡ Some d
      → (x : Configuration) × (transition p e l ≡ Some x) × Rests d x
  past [] l c d e s n h j = (d, ap (λ z. transition p z l) (sym (same_some h)) ∙ j, stays d)
  past (o ∷ os) l c d e s n h j =
      let t = split_step (L.Local o) (locals os) c e h in
      let x = either o l c d t.0 s t.1 j (other o l n) in
      let y = past os l t.0 x.0 e (sorted_after p c t.0 (L.Local o) s t.1) n t.2 x.2 in
      (y.0, y.1, one_step o d x.0 y.0 x.1 y.2)
    where
      other : (o : ℕ) (l : Label) → is_local l ≡ false → l ≢ L.Local o
      other o l n e = absurd (let z : true ≡ false = ap is_local (sym e) ∙ n in cc)

  -- one local transition beside others
  beside_one : (os : List ℕ) (o : ℕ) (c d e : Configuration) → IsInOrder c → run p c (locals os) ≡ Some e → transition p c (L.Local o) ≡ Some d → Meet d e
  beside_one [] o c d e s h j = record { last = d; left = stays d; right = record { objects = o ∷ []; leads = ap (λ z. transition p z (L.Local o) >>= λ y. Some y) (sym (same_some h)) ∙ ap (λ t. t >>= λ y. Some y) j } }
  beside_one (q ∷ os) o c d e s h j =
      let t = split_step (L.Local q) (locals os) c e h in
      by (λ b x s k i. beside_one os o b x e s k i) (decide q o) t.0 t.1 t.2
    where
      local_of : (a b : ℕ) → L.Local a ≡ L.Local b → a ≡ b
      local_of a b z = ap agent z

      by : ((b x : Configuration) → IsInOrder b → run p b (locals os) ≡ Some e → transition p b (L.Local o) ≡ Some x → Meet x e) → (q ≡ o) ⊎ (q ≢ o) → (b : Configuration) → transition p c (L.Local q) ≡ Some b
          → run p b (locals os) ≡ Some e → Meet d e
      by rest (inl i) b g k =
          let same : b ≡ d = same_some (sym g ∙ (ap (λ z. transition p c (L.Local z)) i ∙ j)) in
          record { last = e; left = record { objects = os; leads = ap (λ z. run p z (locals os)) (sym same) ∙ k }; right = stays e }
      by rest (inr n) b g k =
          let x = either q (L.Local o) c d b s g j (λ z. n (sym (local_of o q z))) in
          let m = rest b x.0 (sorted_after p c b (L.Local q) s g) k x.2 in
          record { last = m.last; left = one_step q d x.0 m.last x.1 m.left; right = m.right }

  -- local transitions beside others
  beside_all : (os ps : List ℕ) (c d e : Configuration) → IsInOrder c → run p c (locals os) ≡ Some d → run p c (locals ps) ≡ Some e → Meet d e
  beside_all [] ps c d e s h k = record { last = e; left = record { objects = ps; leads = ap (λ z. run p z (locals ps)) (sym (same_some h)) ∙ k }; right = stays e }
  beside_all (o ∷ os) ps c d e s h k =
      let t = split_step (L.Local o) (locals os) c d h in
      let m = beside_one ps o c t.0 e s k t.1 in
      let n = beside_all os m.left.objects t.0 d m.last (sorted_after p c t.0 (L.Local o) s t.1) t.2 m.left.leads in
      record { last = n.last; left = n.left; right = both e m.last n.last m.right n.right }

  meet_more : (c d e : Configuration) → IsInOrder c → Rests c d → Rests c e → Meet d e
  meet_more c d e s a b = beside_all a.objects b.objects c d e s a.leads b.leads

  turned : (c d : Configuration) → Meet c d → Meet d c
  turned c d m = record { last = m.last; left = m.right; right = m.left }

  -- one more local transition on one side
  meet_step : (o : ℕ) (c d e : Configuration) → IsInOrder c → Meet c d → transition p c (L.Local o) ≡ Some e → Meet e d
  meet_step o c d e s m i =
      let n = meet_more c e m.last s (one_step o c e e i (stays e)) m.left in
      record { last = n.last; left = n.left; right = both d m.last n.last m.right n.right }

  -- one more transition of the same label on both sides
  meet_both : (l : Label) (c d e f : Configuration) → IsInOrder c → IsInOrder d → is_local l ≡ false → Meet c d → transition p c l ≡ Some e → transition p d l ≡ Some f → Meet e f
  meet_both l c d e f s t n m i j =
      let x = past m.left.objects l c e m.last s n m.left.leads i in
      let y = past m.right.objects l d f m.last t n m.right.leads j in
      let same : y.0 ≡ x.0 = same_some (sym y.1 ∙ x.1) in
      record { last = x.0; left = x.2; right = subst (λ (z : Configuration). Rests f z) same y.2 }

  pub meets_itself : (c : Configuration) → Meet c c
  meets_itself c = record { last = c; left = stays c; right = stays c }

  -- only local labels are left
  only_local : (ys : List Label) (c d e : Configuration) → IsInOrder d → own ys ≡ [] → Meet c d → run p d ys ≡ Some e → Meet c e
  only_local [] c d e s n m h = subst (λ (z : Configuration). Meet c z) (same_some h) m
  only_local (L.Local o ∷ ys) c d e s n m h =
      let t = split_step (L.Local o) ys d e h in
      only_local ys c t.0 e (sorted_after p d t.0 (L.Local o) s t.1) n (turned t.0 c (meet_step o d c t.0 s (turned c d m) t.1)) t.2
  only_local (l ∷ ys) c d e s n m h = absurd (cc)

  heads : (l g : Label) (xs ys : List Label) → l ∷ xs ≡ g ∷ ys → (g ≡ l) × (xs ≡ ys)
  heads l g xs ys n = (cc, cc)

  -- the next label that is not local is the same on both sides
  same_next : (l g : Label) (xs ys : List Label) (c a d e f : Configuration) → IsInOrder c → IsInOrder d → is_local g ≡ false → l ∷ own xs ≡ g ∷ own ys → Meet c d → transition p c l ≡ Some a → run p a xs ≡ Some e
      → ((ys : List Label) (d f : Configuration) → IsInOrder d → own xs ≡ own ys → Meet a d → run p d ys ≡ Some f → Meet e f) → run p d (g ∷ ys) ≡ Some f → Meet e f
  same_next l g xs ys c a d e f s t not_local n m i h rest k =
      let e2 = heads l g (own xs) (own ys) n in
      let b = split_step g ys d f k in
      let j : transition p d l ≡ Some b.0 = ap (λ z. transition p d z) (sym e2.0) ∙ b.1 in
      let own_l : is_local l ≡ false = ap is_local (sym e2.0) ∙ not_local in
      rest ys b.0 f (sorted_after p d b.0 g t b.1) e2.1 (meet_both l c d a b.0 s t own_l m i j) b.2

  -- two runs with the same labels but for local ones lead to configurations that meet
  pub same_own_meet : (xs ys : List Label) (c d e f : Configuration) → IsInOrder c → IsInOrder d → own xs ≡ own ys → Meet c d → run p c xs ≡ Some e → run p d ys ≡ Some f → Meet e f
  same_own_meet [] ys c d e f s t n m h k = subst (λ (z : Configuration). Meet z f) (same_some h) (only_local ys c d f t (sym n) m k)
  same_own_meet (L.Local o ∷ xs) ys c d e f s t n m h k =
      let a = split_step (L.Local o) xs c e h in
      same_own_meet xs ys a.0 d e f (sorted_after p c a.0 (L.Local o) s a.1) t n (meet_step o c d a.0 s m a.1) a.2 k
  same_own_meet (l ∷ xs) ys c d e f s t n m h k =
      let a = split_step l xs c e h in
      on l xs c a.0 e s a.1 a.2 (λ ys d f t n m k. same_own_meet xs ys a.0 d e f (sorted_after p c a.0 l s a.1) t n m a.2 k) ys d f t n m k
    where
      on : (l : Label) (xs : List Label) (c a e : Configuration) → IsInOrder c → transition p c l ≡ Some a → run p a xs ≡ Some e
          → ((ys : List Label) (d f : Configuration) → IsInOrder d → own xs ≡ own ys → Meet a d → run p d ys ≡ Some f → Meet e f)
          → (ys : List Label) (d f : Configuration) → IsInOrder d → l ∷ own xs ≡ own ys → Meet c d → run p d ys ≡ Some f → Meet e f
      on l xs c a e s i h rest [] d f t n m k = absurd (cc)
      on l xs c a e s i h rest (L.Local o ∷ ys) d f t n m k =
          let b = split_step (L.Local o) ys d f k in
          on l xs c a e s i h rest ys b.0 f (sorted_after p d b.0 (L.Local o) t b.1) n (turned b.0 c (meet_step o d c b.0 t (turned c d m) b.1)) b.2
      on l xs c a e s i h rest (g ∷ ys) d f t n m k = same_next l g xs ys c a d e f s t refl n m i h rest k

  -- who takes part in a transition has no local one
  abbrev pub AtRest : Configuration → Label → Type 0
  AtRest d l = (transition p d (L.Local (agent l)) ≡ None) × (transition p d (L.Local (partner l)) ≡ None)

  -- then local transitions of others do not make it possible
  made_possible : (os : List ℕ) (l : Label) (d e f : Configuration) → IsInOrder d → AtRest d l → run p d (locals os) ≡ Some e → transition p e l ≡ Some f → (g : Configuration) × (transition p d l ≡ Some g)
  made_possible [] l d e f s r h j = (f, ap (λ z. transition p z l) (same_some h) ∙ j)
  made_possible (o ∷ os) l d e f s r h j =
      let t = split_step (L.Local o) (locals os) d e h in
      let after : AtRest t.0 l = (kept_once p d t.0 o (agent l) t.1 r.0, kept_once p d t.0 o (partner l) t.1 r.1) in
      let g = made_possible os l t.0 e f (sorted_after p d t.0 (L.Local o) s t.1) after t.2 j in
      earlier p d t.0 g.0 o l s t.1 g.1 (apart (agent l) o t.0 r.0 t.1) (apart (partner l) o t.0 r.1 t.1)
    where
      apart : (q o : ℕ) (e : Configuration) → transition p d (L.Local q) ≡ None → transition p d (L.Local o) ≡ Some e → q ≢ o
      apart q o e n i same = absurd (let z : None ≡ Some e = sym n ∙ (ap (λ k. transition p d (L.Local k)) same ∙ i) in cc)

  -- a transition that is impossible where those who take part are at rest is so after each run with the same labels but for
  -- local ones
  pub stays_impossible : (xs ys : List Label) (l : Label) (c d e : Configuration) → IsInOrder c → is_local l ≡ false → own xs ≡ own ys → run p c xs ≡ Some d → run p c ys ≡ Some e → AtRest d l → transition p d l ≡ None
      → transition p e l ≡ None
  stays_impossible xs ys l c d e s not_local same h k rests none = by (transition p e l) refl
    where
      by : (t : Option Configuration) → transition p e l ≡ t → transition p e l ≡ None
      by None i = i
      by (Some f) i =
          let m = same_own_meet xs ys c c d e s s same (meets_itself c) h k in
          let x = past m.right.objects l e f m.last (run_in_order ys c e s k) not_local m.right.leads i in
          let g = made_possible m.left.objects l d m.last x.0 (run_in_order xs c d s h) rests m.left.leads x.1 in
          absurd (let z : None ≡ Some g.0 = sym none ∙ g.1 in cc)
