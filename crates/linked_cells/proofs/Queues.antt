-- Queues of cells after a cell was linked in or out.
use Rattle.std.proofs.Common.{◌≡◌, ℕ, zero, suc, ◌+◌, ◌<◌, ◌≤◌, Bool, true, false, cond, eqb, List, [], ◌∷◌, ◌++◌, length, get_or, set, Option, Some, None, option_map, unwrap_or, refl, sym, ap, subst, ◌∙◌, ◌⊎◌, inl, inr, arith, append_assoc, append-nil, length-append, length-set, get_or-set_same, get_or-set_other, eq-eqb, ne_eqb, zero-add}
use Rattle.std.proofs.lemmas.Bool.{cases_eq, cases_lt}
use Rattle.std.proofs.lemmas.List.{set_past}
use Rattle.std.specs.List.{cons_option}
use denote.RawPtr.{Ptr, null_ptr}
use Rattle.linked_cells.specs.Queues.{next_of, previous_of, value_of, Trail, turned, times, joined_next, joined_previous, IsDistinct, IsQueue, SameBut, SameValues, ComesIn}
use Rattle.linked_cells.specs.declared.queue.Cell.{Cell}
use Rattle.linked_cells.specs.declared.queue.Queue.{Queue}

module _ {X : Type 0} where
  -- the values of the cells with these numbers
  abbrev pub values : List (Option (Cell X)) → List ℕ → List X
  values slots [] = []
  values slots (x ∷ xs) = cons_option (value_of slots x) (values slots xs)

-- ---- counting
pub times_here : (x : ℕ) (xs : List ℕ) → times x (x ∷ xs) ≡ 1 + times x xs
times_here x xs = ap (λ b. cond b 1 0 + times x xs) (eq-eqb x x refl)

pub times_other : (a x : ℕ) (xs : List ℕ) → (a ≡ x → ⊥) → times a (x ∷ xs) ≡ times a xs
times_other a x xs ne = ap (λ b. cond b 1 0 + times a xs) (ne_eqb a x ne) ∙ zero-add (times a xs)

pub times_more : (a x : ℕ) (xs : List ℕ) → times a xs ≤ times a (x ∷ xs)
times_more a x xs = omega arith

pub times_append : (a : ℕ) (xs ys : List ℕ) → times a (xs ++ ys) ≡ times a xs + times a ys
times_append a [] ys = sym (zero-add (times a ys))
times_append a (x ∷ xs) ys = omega (arith, times_append a xs ys)

pub times_turned : (a : ℕ) (xs : List ℕ) → times a (turned xs) ≡ times a xs
times_turned a [] = refl
times_turned a (x ∷ xs) = omega (arith, times_append a (turned xs) (x ∷ []), times_turned a xs)

-- ---- the other way round
pub turned_append : {X : Type 0} (xs ys : List X) → turned (xs ++ ys) ≡ turned ys ++ turned xs
turned_append [] ys = sym (append-nil (turned ys))
turned_append (x ∷ xs) ys = ap (λ l. l ++ x ∷ []) (turned_append xs ys) ∙ append_assoc (turned ys) (turned xs) (x ∷ [])

pub length_turned : {X : Type 0} (xs : List X) → length (turned xs) ≡ length xs
length_turned [] = refl
length_turned (x ∷ xs) = omega (arith, length-append (turned xs) (x ∷ []), length_turned xs)

-- a list that is not empty has a last item
pub last_split : {X : Type 0} (x : X) (xs : List X) → (ys : List X) × ((a : X) × (x ∷ xs ≡ ys ++ a ∷ []))
last_split x [] = ([], (x, refl))
last_split x (y ∷ xs) = let r = last_split y xs in (x ∷ r.0, (r.1.0, ap (λ l. x ∷ l) r.1.1))

-- ---- trails
pub same_some : (p q : Ptr) → Some p ≡ Some q → p ≡ q
same_some p q e = ap (λ (o : Option Ptr). unwrap_or o null_ptr) e

module _ (at : ℕ → Ptr) (g h : ℕ → Option Ptr) where
  pub trail_same : (p : Ptr) (xs : List ℕ) → ((x : ℕ) → 1 ≤ times x xs → h x ≡ g x) → Trail at g p xs → Trail at h p xs
  trail_same p [] same t = tt
  trail_same p (x ∷ xs) same t = (t.0, t.1, same x (omega (arith, times_here x xs)) ∙ t.2, trail_same t.0 xs (λ y le. same y (omega arith)) t.3)

  -- the cell c between a and ys is passed by
  pub trail_cut : (p : Ptr) (xs : List ℕ) (a c : ℕ) (ys : List ℕ) (n : Ptr) → g c ≡ Some n → h a ≡ Some n
      → ((x : ℕ) → 1 ≤ times x (xs ++ ys) → h x ≡ g x) → Trail at g p (xs ++ a ∷ c ∷ ys) → Trail at h p (xs ++ a ∷ ys)
  trail_cut p [] a c ys n at_c at_a same t =
      (n, t.1, at_a, trail_same n ys same (subst (λ (m : Ptr). Trail at g m ys) (same_some t.3.0 n (sym t.3.2 ∙ at_c)) t.3.3))
  trail_cut p (x ∷ xs) a c ys n at_c at_a same t =
      (t.0, t.1, same x (omega (arith, times_here x (xs ++ ys))) ∙ t.2, trail_cut t.0 xs a c ys n at_c at_a (λ y le. same y (omega arith)) t.3)

  -- the cell c is linked in after a
  pub trail_push : (p : Ptr) (xs : List ℕ) (a c : ℕ) (n : Ptr) → h a ≡ Some (at c) → h c ≡ Some n
      → ((x : ℕ) → 1 ≤ times x xs → h x ≡ g x) → Trail at g p (xs ++ a ∷ []) → Trail at h p (xs ++ a ∷ c ∷ [])
  trail_push p [] a c n at_a at_c same t = (at c, t.1, at_a, (n, refl, at_c, tt))
  trail_push p (x ∷ xs) a c n at_a at_c same t =
      (t.0, t.1, same x (omega (arith, times_here x xs)) ∙ t.2, trail_push t.0 xs a c n at_a at_c (λ y le. same y (omega arith)) t.3)

module _ (at : ℕ → Ptr) (g : ℕ → Option Ptr) where
  pub trail_front : (p : Ptr) (xs ys : List ℕ) → Trail at g p (xs ++ ys) → Trail at g p xs
  trail_front p [] ys t = tt
  trail_front p (x ∷ xs) ys t = (t.0, t.1, t.2, trail_front t.0 xs ys t.3)

  pub trail_rest : (p : Ptr) (c : ℕ) (ys : List ℕ) (n : Ptr) → g c ≡ Some n → Trail at g p (c ∷ ys) → Trail at g n ys
  trail_rest p c ys n at_c t = subst (λ (m : Ptr). Trail at g m ys) (same_some t.0 n (sym t.2 ∙ at_c)) t.3

  pub trail_mid : (p : Ptr) (xs : List ℕ) (c a : ℕ) (ys : List ℕ) → Trail at g p (xs ++ c ∷ a ∷ ys) → g c ≡ Some (at a)
  trail_mid p [] c a ys t = t.2 ∙ ap (λ (q : Ptr). Some q) t.3.1
  trail_mid p (x ∷ xs) c a ys t = trail_mid t.0 xs c a ys t.3

  -- each of its cells leads on
  pub trail_has : (a : ℕ) (p : Ptr) (xs : List ℕ) → 1 ≤ times a xs → Trail at g p xs → (n : Ptr) × (g a ≡ Some n)
  trail_has a p [] one t = absurd (omega (arith, one))
  trail_has a p (x ∷ xs) one t = by (cases_eq a x) (λ le. trail_has a t.0 xs le t.3)
    where
      by : (a ≡ x) ⊎ (a ≡ x → ⊥) → (1 ≤ times a xs → (n : Ptr) × (g a ≡ Some n)) → (n : Ptr) × (g a ≡ Some n)
      by (inl e) rest = (t.0, ap g e ∙ t.2)
      by (inr ne) rest = rest (omega (arith, one, times_other a x xs ne))

  pub trail_on : (p : Ptr) (xs : List ℕ) (c : ℕ) (ys : List ℕ) → Trail at g p (xs ++ c ∷ ys) → (n : Ptr) × (g c ≡ Some n)
  trail_on p [] c ys t = (t.0, t.2)
  trail_on p (x ∷ xs) c ys t = trail_on t.0 xs c ys t.3

-- ---- cells that are written
pub some_map : {A B : Type 0} (k : A → B) (o : Option A) (y : B) → option_map k o ≡ Some y → (x : A) × (o ≡ Some x)
some_map k None y e = cc
some_map k (Some x) y e = (x, refl)

pub below : {A B : Type 0} (k : A → B) (slots : List (Option A)) (i : ℕ) (y : B) → option_map k (get_or slots i None) ≡ Some y → i < length slots
below k [] i y e = cc
below k (s ∷ slots) zero y e = omega arith
below k (s ∷ slots) (suc i) y e = omega (arith, below k slots i y e)

module _ {A B : Type 0} (k : A → B) (slots : List (Option A)) (i : ℕ) where
  -- a cell is put there
  pub put_here : (v : A) → i < length slots → option_map k (get_or (set slots i (Some v)) i None) ≡ Some (k v)
  put_here v lt = ap (option_map k) (get_or-set_same slots i (Some v) None lt)

  pub put_other : (v : Option A) (x : ℕ) → (x ≡ i → ⊥) → option_map k (get_or (set slots i v) x None) ≡ option_map k (get_or slots x None)
  put_other v x ne = ap (option_map k) (get_or-set_other slots i x v None ne)

  module _ (f : A → A) where
    abbrev changed : List (Option A)
    changed = set slots i (option_map f (get_or slots i None))

    pub change_here : (y : B) → option_map k (get_or slots i None) ≡ Some y → (z : B) → ((v : A) → k (f v) ≡ z) → option_map k (get_or changed i None) ≡ Some z
    change_here y e z same =
        let v = some_map k (get_or slots i None) y e in
        ap (option_map k) (get_or-set_same slots i (option_map f (get_or slots i None)) None (below k slots i y e) ∙ ap (option_map f) v.1) ∙ ap (λ (w : B). Some w) (same v.0)

    same_mapped : ((v : A) → k (f v) ≡ k v) → (o : Option A) → option_map k (option_map f o) ≡ option_map k o
    same_mapped same None = refl
    same_mapped same (Some v) = ap (λ (w : B). Some w) (same v)

    kept_at : ((v : A) → k (f v) ≡ k v) → (i < length slots) ⊎ (length slots ≤ i) → option_map k (get_or changed i None) ≡ option_map k (get_or slots i None)
    kept_at same (inl lt) = ap (option_map k) (get_or-set_same slots i (option_map f (get_or slots i None)) None lt) ∙ same_mapped same (get_or slots i None)
    kept_at same (inr le) = ap (λ (l : List (Option A)). option_map k (get_or l i None)) (set_past slots i (option_map f (get_or slots i None)) le)

    -- what f leaves alone
    pub change_kept : ((v : A) → k (f v) ≡ k v) → (x : ℕ) → option_map k (get_or changed x None) ≡ option_map k (get_or slots x None)
    change_kept same x = by x (cases_eq x i)
      where
        by : (x : ℕ) → (x ≡ i) ⊎ (x ≡ i → ⊥) → option_map k (get_or changed x None) ≡ option_map k (get_or slots x None)
        by x (inl e) = subst (λ (j : ℕ). option_map k (get_or changed j None) ≡ option_map k (get_or slots j None)) (sym e) (kept_at same (cases_lt i (length slots)))
        by x (inr ne) = put_other (option_map f (get_or slots i None)) x ne

pub cond_false : {A : Type 0} (b : Bool) (x y : A) → b ≡ false → cond b x y ≡ y
cond_false b x y e = ap (λ (c : Bool). cond c x y) e

pub apart_from : (a : ℕ) (xs : List ℕ) (x : ℕ) → times a xs ≡ 0 → 1 ≤ times x xs → x ≡ a → ⊥
apart_from a xs x none one e = let some : 1 ≤ times a xs = subst (λ (y : ℕ). 1 ≤ times y xs) e one in omega arith

pub times_one : (a : ℕ) (zs ys : List ℕ) → times a (zs ++ a ∷ ys) ≡ times a zs + (1 + times a ys)
times_one a zs ys = times_append a zs (a ∷ ys) ∙ ap (λ k. times a zs + k) (times_here a ys)

-- where the cell before lies, if there is one
abbrev pub LiesBefore : (ℕ → Ptr) → List ℕ → Ptr → Type 0
LiesBefore at us p = (zs : List ℕ) (a : ℕ) → us ≡ zs ++ a ∷ [] → p ≡ at a

module _ {X : Type 0} (at : ℕ → Ptr) (number : Ptr → ℕ) (back : (x : ℕ) → number (at x) ≡ x)
    (fwd : Cell X → Ptr) (upd : Ptr → Cell X → Cell X) (sets : (p : Ptr) (v : Cell X) → fwd (upd p v) ≡ p) where
  abbrev Slots : Type 0
  Slots = List (Option (Cell X))

  abbrev on : Slots → ℕ → Option Ptr
  on slots i = option_map fwd (get_or slots i None)

  abbrev told : Slots → ℕ → Ptr → Slots
  told slots i p = set slots i (option_map (upd p) (get_or slots i None))

  abbrev joined : Slots → ℕ → Ptr → Ptr → Slots
  joined slots before bp fp = cond (eqb before 0) slots (told slots (number bp) fp)

  module _ (slots : Slots) (bp fp : Ptr) where
    joined_is : (zs : List ℕ) (a : ℕ) → bp ≡ at a → joined slots (length (zs ++ a ∷ [])) bp fp ≡ told slots a fp
    joined_is zs a e =
        cond_false _ slots (told slots (number bp) fp) (ne_eqb (length (zs ++ a ∷ [])) 0 (λ z. omega (arith, length-append zs (a ∷ []), z)))
        ∙ ap (λ (i : ℕ). told slots i fp) (ap number e ∙ back a)

    -- the cell c after us leaves
    abbrev Out : Ptr → ℕ → List ℕ → List ℕ → Type 0
    Out p c ys us = Trail at (on (joined slots (length us) bp fp)) (cond (eqb (length us) 0) fp p) (us ++ ys)

    out_at : (p : Ptr) (c : ℕ) (ys zs : List ℕ) (a : ℕ) → on slots c ≡ Some fp → bp ≡ at a
        → IsDistinct ((zs ++ a ∷ []) ++ c ∷ ys) → Trail at (on slots) p ((zs ++ a ∷ []) ++ c ∷ ys) → Out p c ys (zs ++ a ∷ [])
    out_at p c ys zs a at_c e distinct t =
        let t' = subst (Trail at (on slots) p) (append_assoc zs (a ∷ []) (c ∷ ys)) t in
        let d : times a ((zs ++ a ∷ []) ++ c ∷ ys) ≤ 1 = distinct a in
        let none : times a (zs ++ ys) ≡ 0 = omega (arith, d, times_append a (zs ++ a ∷ []) (c ∷ ys), times_one a zs [], times_append a zs ys, times_more a c ys) in
        let led : (n : Ptr) × (on slots a ≡ Some n) = trail_on at (on slots) p zs a (c ∷ ys) t' in
        let cut : Trail at (on (told slots a fp)) p (zs ++ a ∷ ys) =
        trail_cut at (on slots) (on (told slots a fp)) p zs a c ys fp at_c (change_here fwd slots a (upd fp) led.0 led.1 fp (sets fp))
        (λ x one. put_other fwd slots a _ x (apart_from a (zs ++ ys) x none one)) t' in
        let s_is = joined_is zs a e in
        let p_is : cond (eqb (length (zs ++ a ∷ [])) 0) fp p ≡ p = cond_false _ fp p (ne_eqb (length (zs ++ a ∷ [])) 0 (λ z. omega (arith, length-append zs (a ∷ []), z))) in
        subst (λ (s : Slots). Trail at (on s) (cond (eqb (length (zs ++ a ∷ [])) 0) fp p) ((zs ++ a ∷ []) ++ ys)) (sym s_is)
        (subst (λ (r : Ptr). Trail at (on (told slots a fp)) r ((zs ++ a ∷ []) ++ ys)) (sym p_is)
        (subst (Trail at (on (told slots a fp)) p) (sym (append_assoc zs (a ∷ []) ys)) cut))

    pub link_out : (p : Ptr) (c : ℕ) (ys us : List ℕ) → on slots c ≡ Some fp → LiesBefore at us bp
        → IsDistinct (us ++ c ∷ ys) → Trail at (on slots) p (us ++ c ∷ ys) → Out p c ys us
    link_out p c ys [] at_c near distinct t = trail_rest at (on slots) p c ys fp at_c t
    link_out p c ys (u ∷ us) at_c near distinct t =
        let r = last_split u us in let P : List ℕ → Type 0 = λ ws. IsDistinct (ws ++ c ∷ ys) → Trail at (on slots) p (ws ++ c ∷ ys) → Out p c ys ws in
        subst P (sym r.1.1) (out_at p c ys r.0 r.1.0 at_c (near r.0 r.1.0 r.1.1)) distinct t

    -- only a cell among us is changed
    pub joined_other : (us : List ℕ) (x : ℕ) → LiesBefore at us bp → times x us ≡ 0 → get_or (joined slots (length us) bp fp) x None ≡ get_or slots x None
    joined_other [] x near none = refl
    joined_other (u ∷ us) x near none =
        let r = last_split u us in let a = r.1.0 in
        let P : List ℕ → Type 0 = λ ws. times x ws ≡ 0 → get_or (joined slots (length ws) bp fp) x None ≡ get_or slots x None in
        subst P (sym r.1.1) (λ z. ap (λ (s : Slots). get_or s x None) (joined_is r.0 a (near r.0 a r.1.1))
        ∙ get_or-set_other slots a x _ None (λ e. let h : times a (r.0 ++ a ∷ []) ≡ 0 = subst (λ y. times y (r.0 ++ a ∷ []) ≡ 0) e z in omega (arith, h, times_one a r.0 []))) none

    -- what is not told stays
    pub joined_kept : {B : Type 0} (k : Cell X → B) → ((v : Cell X) → k (upd fp v) ≡ k v) → (before x : ℕ)
        → option_map k (get_or (joined slots before bp fp) x None) ≡ option_map k (get_or slots x None)
    joined_kept k same before x =
        elim (eqb before 0) as (λ b. option_map k (get_or (cond b slots (told slots (number bp) fp)) x None) ≡ option_map k (get_or slots x None))
        [ true ↦ refl | false ↦ change_kept k slots (number bp) (upd fp) same x ]

    pub joined_length : (before : ℕ) → length (joined slots before bp fp) ≡ length slots
    joined_length before =
        elim (eqb before 0) as (λ b. length (cond b slots (told slots (number bp) fp)) ≡ length slots) [ true ↦ refl | false ↦ length-set slots (number bp) _ ]

    -- the cell c comes in after us
    abbrev In : Ptr → ℕ → List ℕ → Type 0
    In p c us = Trail at (on (joined slots (length us) bp fp)) (cond (eqb (length us) 0) fp p) (us ++ c ∷ [])

    in_at : (p : Ptr) (c : ℕ) (n : Ptr) (zs : List ℕ) (a : ℕ) → on slots c ≡ Some n → fp ≡ at c → bp ≡ at a → times c (zs ++ a ∷ []) ≡ 0
        → IsDistinct (zs ++ a ∷ []) → Trail at (on slots) p (zs ++ a ∷ []) → In p c (zs ++ a ∷ [])
    in_at p c n zs a at_c f e apart distinct t =
        let d : times a (zs ++ a ∷ []) ≤ 1 = distinct a in
        let none : times a zs ≡ 0 = omega (arith, d, times_one a zs []) in
        let other : c ≡ a → ⊥ = λ i. let h : times a (zs ++ a ∷ []) ≡ 0 = subst (λ y. times y (zs ++ a ∷ []) ≡ 0) i apart in omega (arith, h, times_one a zs []) in
        let led : (m : Ptr) × (on slots a ≡ Some m) = trail_on at (on slots) p zs a [] t in
        let pushed : Trail at (on (told slots a fp)) p (zs ++ a ∷ c ∷ []) =
        trail_push at (on slots) (on (told slots a fp)) p zs a c n (change_here fwd slots a (upd fp) led.0 led.1 (at c) (λ v. sets fp v ∙ f))
        (put_other fwd slots a _ c other ∙ at_c) (λ x one. put_other fwd slots a _ x (apart_from a zs x none one)) t in
        let s_is = joined_is zs a e in
        let p_is : cond (eqb (length (zs ++ a ∷ [])) 0) fp p ≡ p = cond_false _ fp p (ne_eqb (length (zs ++ a ∷ [])) 0 (λ z. omega (arith, length-append zs (a ∷ []), z))) in
        subst (λ (s : Slots). Trail at (on s) (cond (eqb (length (zs ++ a ∷ [])) 0) fp p) ((zs ++ a ∷ []) ++ c ∷ [])) (sym s_is)
        (subst (λ (r : Ptr). Trail at (on (told slots a fp)) r ((zs ++ a ∷ []) ++ c ∷ [])) (sym p_is)
        (subst (Trail at (on (told slots a fp)) p) (sym (append_assoc zs (a ∷ []) (c ∷ []))) pushed))

    pub link_in : (p : Ptr) (c : ℕ) (n : Ptr) (us : List ℕ) → on slots c ≡ Some n → fp ≡ at c → LiesBefore at us bp → times c us ≡ 0
        → IsDistinct us → Trail at (on slots) p us → In p c us
    link_in p c n [] at_c f near apart distinct t = (n, f, at_c, tt)
    link_in p c n (u ∷ us) at_c f near apart distinct t =
        let r = last_split u us in let P : List ℕ → Type 0 = λ ws. times c ws ≡ 0 → IsDistinct ws → Trail at (on slots) p ws → In p c ws in
        subst P (sym r.1.1) (in_at p c n r.0 r.1.0 at_c f (near r.0 r.1.0 r.1.1)) apart distinct t

pub turned_turned : {X : Type 0} (xs : List X) → turned (turned xs) ≡ xs
turned_turned [] = refl
turned_turned (x ∷ xs) = turned_append (turned xs) (x ∷ []) ∙ ap (λ l. x ∷ l) (turned_turned xs)

pub turned_two : (zs : List ℕ) (a c : ℕ) (ys : List ℕ) → turned ((zs ++ a ∷ []) ++ c ∷ ys) ≡ turned ys ++ c ∷ a ∷ turned zs
turned_two zs a c ys =
    turned_append (zs ++ a ∷ []) (c ∷ ys) ∙ ap (λ l. (turned ys ++ c ∷ []) ++ l) (turned_append zs (a ∷ [])) ∙ append_assoc (turned ys) (c ∷ []) (a ∷ turned zs)

-- ---- queues
module _ {X : Type 0} where
  abbrev pub on_next : Cell X → Ptr
  on_next v = v.next

  abbrev pub on_previous : Cell X → Ptr
  on_previous v = v.previous

  abbrev pub set_next : Ptr → Cell X → Cell X
  set_next p v = record v { next = p }

  abbrev pub set_previous : Ptr → Cell X → Cell X
  set_previous p v = record v { previous = p }

module _ {X : Type 0} (at : ℕ → Ptr) (number : Ptr → ℕ) (back : (x : ℕ) → number (at x) ≡ x) where
  module _ (slots : List (Option (Cell X))) (q : Queue X) where
    -- the last of a queue lies where the queue says
    pub last_lies : (xs : List ℕ) → IsQueue at slots q xs → LiesBefore at xs q.last.ptr
    last_lies xs is zs a e = let P : List ℕ → Type 0 = λ l. Trail at (previous_of slots) q.last.ptr l in
        let t : P (a ∷ turned zs) = subst P (ap turned e ∙ turned_append zs (a ∷ [])) is.2 in t.1

    pub first_lies : (xs : List ℕ) → IsQueue at slots q xs → LiesBefore at (turned xs) q.first.ptr
    first_lies xs is zs a e = let P : List ℕ → Type 0 = λ l. Trail at (next_of slots) q.first.ptr l in
        let t : P (a ∷ turned zs) = subst P (sym (turned_turned xs) ∙ ap turned e ∙ turned_append zs (a ∷ [])) is.1 in t.1

    module _ (xs : List ℕ) (c : ℕ) (ys : List ℕ) (cell : Cell X) (held : get_or slots c None ≡ Some cell) (is : IsQueue at slots q (xs ++ c ∷ ys)) where
      pub previous_lies : LiesBefore at xs cell.previous
      previous_lies zs a e =
          let P : List ℕ → Type 0 = λ l. Trail at (previous_of slots) q.last.ptr l in
          let t : P (turned ys ++ c ∷ a ∷ turned zs) = subst P (ap (λ l. turned (l ++ c ∷ ys)) e ∙ turned_two zs a c ys) is.2 in
          same_some cell.previous (at a) (sym (ap (option_map on_previous) held) ∙ trail_mid at (previous_of slots) q.last.ptr (turned ys) c a (turned zs) t)

      pub next_lies : LiesBefore at (turned ys) cell.next
      next_lies zs a e =
          let P : List ℕ → Type 0 = λ l. Trail at (next_of slots) q.first.ptr (xs ++ c ∷ l) in
          let t : P (a ∷ turned zs) = subst P (sym (turned_turned ys) ∙ ap turned e ∙ turned_append zs (a ∷ [])) is.1 in
          same_some cell.next (at a) (sym (ap (option_map on_next) held) ∙ trail_mid at (next_of slots) q.first.ptr xs c a (turned zs) t)

      abbrev pub After1 : List (Option (Cell X))
      After1 = joined_next number slots (length xs) cell.previous cell.next

      abbrev pub After2 : List (Option (Cell X))
      After2 = joined_previous number After1 (length ys) cell.previous cell.next

      distinct_turned : IsDistinct (xs ++ c ∷ ys) → IsDistinct (turned ys ++ c ∷ turned xs)
      distinct_turned d a = let h : times a (xs ++ c ∷ ys) ≤ 1 = d a in
          omega (arith, h, times_append a xs (c ∷ ys), times_append a (turned ys) (c ∷ turned xs), times_turned a xs, times_turned a ys)

      pub queue_out : IsDistinct (xs ++ c ∷ ys) → (r : Queue X) → r.first.ptr ≡ cond (eqb (length xs) 0) cell.next q.first.ptr
          → r.last.ptr ≡ cond (eqb (length ys) 0) cell.previous q.last.ptr → r.len + 1 ≡ q.len → IsQueue at After2 r (xs ++ ys)
      queue_out d r e_first e_last e_len =
          let forward : Trail at (next_of After1) (cond (eqb (length xs) 0) cell.next q.first.ptr) (xs ++ ys) =
          link_out at number back on_next set_next (λ p v. refl) slots cell.previous cell.next q.first.ptr c ys xs (ap (option_map on_next) held) previous_lies d is.1 in
          let forward2 : Trail at (next_of After2) (cond (eqb (length xs) 0) cell.next q.first.ptr) (xs ++ ys) =
          trail_same at (next_of After1) (next_of After2) _ (xs ++ ys)
          (λ x _. joined_kept at number back on_previous set_previous (λ p v. refl) After1 cell.next cell.previous on_next (λ v. refl) (length ys) x) forward in
          let kept : (x : ℕ) → previous_of After1 x ≡ previous_of slots x =
          λ x. joined_kept at number back on_next set_next (λ p v. refl) slots cell.previous cell.next on_previous (λ v. refl) (length xs) x in
          let P : List ℕ → Type 0 = λ l. Trail at (previous_of slots) q.last.ptr l in
          let whole : P (turned ys ++ c ∷ turned xs) = subst P (turned_append xs (c ∷ ys) ∙ append_assoc (turned ys) (c ∷ []) (turned xs)) is.2 in
          let whole1 : Trail at (previous_of After1) q.last.ptr (turned ys ++ c ∷ turned xs) = trail_same at (previous_of slots) (previous_of After1) _ _ (λ x _. kept x) whole in
          let backward = link_out at number back on_previous set_previous (λ p v. refl) After1 cell.next cell.previous q.last.ptr c (turned xs) (turned ys)
          (kept c ∙ ap (option_map on_previous) held) next_lies (distinct_turned d) whole1 in
          let B : ℕ → Type 0 = λ k. Trail at (previous_of (joined_previous number After1 k cell.previous cell.next)) (cond (eqb k 0) cell.previous q.last.ptr) (turned ys ++ turned xs) in
          let backward2 : B (length ys) = subst B (length_turned ys) backward in (
            omega (arith, e_len, is.0, length-append xs (c ∷ ys), length-append xs ys),
            subst (λ (p : Ptr). Trail at (next_of After2) p (xs ++ ys)) (sym e_first) forward2,
            subst (λ (p : Ptr). Trail at (previous_of After2) p (turned (xs ++ ys))) (sym e_last)
                (subst (λ (l : List ℕ). Trail at (previous_of After2) (cond (eqb (length ys) 0) cell.previous q.last.ptr) l) (sym (turned_append xs ys)) backward2),
          )

      pub out_same : SameBut (xs ++ ys) slots After2
      out_same = (
        joined_length at number back on_previous set_previous (λ p v. refl) After1 cell.next cell.previous (length ys)
            ∙ joined_length at number back on_next set_next (λ p v. refl) slots cell.previous cell.next (length xs),
        λ x none.
            let o1 : get_or After1 x None ≡ get_or slots x None = joined_other at number back on_next set_next (λ p v. refl) slots cell.previous cell.next xs x previous_lies (omega (arith, none, times_append x xs ys)) in
            let B : ℕ → Type 0 = λ k. get_or (joined_previous number After1 k cell.previous cell.next) x None ≡ get_or After1 x None in
            let o2 : B (length ys) = subst B (length_turned ys) (joined_other at number back on_previous set_previous (λ p v. refl) After1 cell.next cell.previous (turned ys) x next_lies
            (omega (arith, none, times_append x xs ys, times_turned x ys))) in o2 ∙ o1,
      )

      pub out_values : SameValues slots After2
      out_values x =
          joined_kept at number back on_previous set_previous (λ p v. refl) After1 cell.next cell.previous (λ v. v.value) (λ v. refl) (length ys) x
          ∙ joined_kept at number back on_next set_next (λ p v. refl) slots cell.previous cell.next (λ v. v.value) (λ v. refl) (length xs) x

    module _ (xs : List ℕ) (c : ℕ) (v : X) (w : Ptr) (lt : c < length slots) (apart : times c xs ≡ 0) (distinct : IsDistinct xs) (is : IsQueue at slots q xs) where
      -- the cell as it is written first, and the cells after it, where it comes in last
      abbrev pub Last0 : List (Option (Cell X))
      Last0 = set slots c (Some (record { previous = q.last.ptr; next = w; value = v }))

      abbrev pub Last1 : List (Option (Cell X))
      Last1 = joined_next number Last0 q.len q.last.ptr (at c)

      apart_other : (x : ℕ) → 1 ≤ times x xs → x ≡ c → ⊥
      apart_other x one = apart_from c xs x apart one

      pub last_filled : (zs : List ℕ) (a : ℕ) → xs ≡ zs ++ a ∷ [] → (u : Cell X) × (get_or Last0 a None ≡ Some u)
      last_filled zs a e =
          let P : List ℕ → Type 0 = λ l. Trail at (next_of slots) q.first.ptr l in
          let t : P (zs ++ a ∷ []) = subst P e is.1 in let led = trail_on at (next_of slots) q.first.ptr zs a [] t in
          let one : 1 ≤ times a xs = subst (λ l. 1 ≤ times a l) (sym e) (omega (arith, times_one a zs [])) in
          let u = some_map on_next (get_or slots a None) led.0 led.1 in
          (u.0, get_or-set_other slots c a _ None (apart_other a one) ∙ u.1)

      pub queue_in_last : (r : Queue X) → r.first.ptr ≡ cond (eqb q.len 0) (at c) q.first.ptr → r.last.ptr ≡ at c → r.len ≡ q.len + 1 → IsQueue at Last1 r (xs ++ c ∷ [])
      queue_in_last r e_first e_last e_len =
          let forward0 : Trail at (next_of Last0) q.first.ptr xs = trail_same at (next_of slots) (next_of Last0) _ xs (λ x one. put_other on_next slots c _ x (apart_other x one)) is.1 in
          let forward = link_in at number back on_next set_next (λ p u. refl) Last0 q.last.ptr (at c) q.first.ptr c w xs
          (put_here on_next slots c (record { previous = q.last.ptr; next = w; value = v }) lt) refl (last_lies xs is) apart distinct forward0 in
          let B : ℕ → Type 0 = λ k. Trail at (next_of (joined_next number Last0 k q.last.ptr (at c))) (cond (eqb k 0) (at c) q.first.ptr) (xs ++ c ∷ []) in
          let forward2 : B q.len = subst B (sym is.0) forward in
          let kept : (x : ℕ) → previous_of Last1 x ≡ previous_of Last0 x =
          λ x. joined_kept at number back on_next set_next (λ p u. refl) Last0 q.last.ptr (at c) on_previous (λ u. refl) q.len x in
          let backward : Trail at (previous_of Last1) q.last.ptr (turned xs) =
          trail_same at (previous_of slots) (previous_of Last1) _ (turned xs) (λ x one. kept x ∙ put_other on_previous slots c _ x (apart_other x (omega (arith, one, times_turned x xs)))) is.2 in (
            omega (arith, e_len, is.0, length-append xs (c ∷ [])),
            subst (λ (p : Ptr). Trail at (next_of Last1) p (xs ++ c ∷ [])) (sym e_first) forward2,
            subst (λ (l : List ℕ). Trail at (previous_of Last1) r.last.ptr l) (sym (turned_append xs (c ∷ [])))
                (q.last.ptr, e_last, kept c ∙ put_here on_previous slots c (record { previous = q.last.ptr; next = w; value = v }) lt, backward),
          )

      pub in_last : ComesIn c v xs slots Last1
      in_last =
          let B : ℕ → ℕ → Type 0 = λ x k. get_or (joined_next number Last0 k q.last.ptr (at c)) x None ≡ get_or Last0 x None in
          let val : (x : ℕ) → value_of Last1 x ≡ value_of Last0 x = λ x. joined_kept at number back on_next set_next (λ p u. refl) Last0 q.last.ptr (at c) (λ u. u.value) (λ u. refl) q.len x in (
            (
              joined_length at number back on_next set_next (λ p u. refl) Last0 q.last.ptr (at c) q.len ∙ length-set slots c _,
              λ x none. let none' : times x xs ≡ 0 = omega arith in
                  let o : B x q.len = subst (B x) (sym is.0) (joined_other at number back on_next set_next (λ p u. refl) Last0 q.last.ptr (at c) xs x (last_lies xs is) none') in
                  o ∙ get_or-set_other slots c x _ None (λ e. let h : times c (c ∷ xs) ≡ 0 = subst (λ y. times y (c ∷ xs) ≡ 0) e none in omega (arith, h, times_here c xs)),
            ),
            val c ∙ put_here (λ (u : Cell X). u.value) slots c (record { previous = q.last.ptr; next = w; value = v }) lt,
            λ x ne. val x ∙ put_other (λ (u : Cell X). u.value) slots c _ x ne,
          )

      -- the same where it comes in first
      abbrev pub First0 : List (Option (Cell X))
      First0 = set slots c (Some (record { previous = w; next = q.first.ptr; value = v }))

      abbrev pub First1 : List (Option (Cell X))
      First1 = joined_previous number First0 q.len (at c) q.first.ptr

      apart_turned : times c (turned xs) ≡ 0
      apart_turned = times_turned c xs ∙ apart

      distinct_back : IsDistinct (turned xs)
      distinct_back a = let h : times a xs ≤ 1 = distinct a in omega (arith, h, times_turned a xs)

      pub first_filled : (zs : List ℕ) (a : ℕ) → turned xs ≡ zs ++ a ∷ [] → (u : Cell X) × (get_or First0 a None ≡ Some u)
      first_filled zs a e =
          let P : List ℕ → Type 0 = λ l. Trail at (previous_of slots) q.last.ptr l in
          let t : P (zs ++ a ∷ []) = subst P e is.2 in let led = trail_on at (previous_of slots) q.last.ptr zs a [] t in
          let one : 1 ≤ times a (turned xs) = subst (λ l. 1 ≤ times a l) (sym e) (omega (arith, times_one a zs [])) in
          let u = some_map on_previous (get_or slots a None) led.0 led.1 in
          (u.0, get_or-set_other slots c a _ None (apart_from c (turned xs) a apart_turned one) ∙ u.1)

      pub queue_in_first : (r : Queue X) → r.first.ptr ≡ at c → r.last.ptr ≡ cond (eqb q.len 0) (at c) q.last.ptr → r.len ≡ q.len + 1 → IsQueue at First1 r (c ∷ xs)
      queue_in_first r e_first e_last e_len =
          let backward0 : Trail at (previous_of First0) q.last.ptr (turned xs) =
          trail_same at (previous_of slots) (previous_of First0) _ (turned xs) (λ x one. put_other on_previous slots c _ x (apart_from c (turned xs) x apart_turned one)) is.2 in
          let backward = link_in at number back on_previous set_previous (λ p u. refl) First0 q.first.ptr (at c) q.last.ptr c w (turned xs)
          (put_here on_previous slots c (record { previous = w; next = q.first.ptr; value = v }) lt) refl (first_lies xs is) apart_turned distinct_back backward0 in
          let B : ℕ → Type 0 = λ k. Trail at (previous_of (joined_previous number First0 k (at c) q.first.ptr)) (cond (eqb k 0) (at c) q.last.ptr) (turned xs ++ c ∷ []) in
          let backward2 : B q.len = subst B (length_turned xs ∙ sym is.0) backward in
          let kept : (x : ℕ) → next_of First1 x ≡ next_of First0 x =
          λ x. joined_kept at number back on_previous set_previous (λ p u. refl) First0 q.first.ptr (at c) on_next (λ u. refl) q.len x in
          let forward : Trail at (next_of First1) q.first.ptr xs =
          trail_same at (next_of slots) (next_of First1) _ xs (λ x one. kept x ∙ put_other on_next slots c _ x (apart_other x one)) is.1 in (
            omega (arith, e_len, is.0),
            (q.first.ptr, e_first, kept c ∙ put_here on_next slots c (record { previous = w; next = q.first.ptr; value = v }) lt, forward),
            subst (λ (p : Ptr). Trail at (previous_of First1) p (turned xs ++ c ∷ [])) (sym e_last) backward2,
          )

      pub in_first : ComesIn c v xs slots First1
      in_first =
          let B : ℕ → ℕ → Type 0 = λ x k. get_or (joined_previous number First0 k (at c) q.first.ptr) x None ≡ get_or First0 x None in
          let val : (x : ℕ) → value_of First1 x ≡ value_of First0 x = λ x. joined_kept at number back on_previous set_previous (λ p u. refl) First0 q.first.ptr (at c) (λ u. u.value) (λ u. refl) q.len x in (
            (
              joined_length at number back on_previous set_previous (λ p u. refl) First0 q.first.ptr (at c) q.len ∙ length-set slots c _,
              λ x none. let none' : times x (turned xs) ≡ 0 = omega (arith, none, times_turned x xs) in
                  let o : B x q.len = subst (B x) (length_turned xs ∙ sym is.0) (joined_other at number back on_previous set_previous (λ p u. refl) First0 q.first.ptr (at c) (turned xs) x (first_lies xs is) none') in
                  o ∙ get_or-set_other slots c x _ None (λ e. let h : times c (c ∷ xs) ≡ 0 = subst (λ y. times y (c ∷ xs) ≡ 0) e none in omega (arith, h, times_here c xs)),
            ),
            val c ∙ put_here (λ (u : Cell X). u.value) slots c (record { previous = w; next = q.first.ptr; value = v }) lt,
            λ x ne. val x ∙ put_other (λ (u : Cell X). u.value) slots c _ x ne,
          )
