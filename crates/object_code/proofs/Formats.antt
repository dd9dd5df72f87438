-- A reader and a writer of one format invert each other.
use Rattle.std.proofs.Common.{◌≡◌, refl, sym, ap, subst, ◌∙◌, ℕ, zero, suc, ◌+◌, ◌<◌, List, [], ◌∷◌, ◌++◌, length, Option, Some, None, Bool, true, false, arith, length-append, length-take-le}
use Rattle.std.specs.Prelude.{take, drop, nat_le, slice_get, ◌^◌, get_or, if◌then◌else◌}
use Rattle.std.specs.Int.{w32, from_be_bytes}
use Rattle.std.specs.List.{AllByRecursion as Each}
use Rattle.std.proofs.lemmas.Nat.{from_be_bytes-to_be_bytes_4, be_bytes_4}
use Rattle.std.proofs.lemmas.List.{append_assoc, take-append-drop}
use Rattle.std.proofs.Math.Seq.{take-append_seam, drop-append_seam}
use Rattle.text_scan.specs.Text.{Text}
use Rattle.object_code.specs.Read.{Read, Got, Stop, Reader, then_read, read_nothing, read_as, read_by, not_allowed, read_number, read_bytes, read_items, read_list}
use Rattle.run_types.specs.declared.types.NameId.{NameId}
use Rattle.object_code.specs.FileBytes.{number_bytes, name_bytes, items_bytes, list_bytes, text_bytes}
use Rattle.code_semantics.specs.Shaped.{IsNumber, NameIsNumbered, IsListOf, IsShortText}
use Rattle.object_code.specs.Decode.{read_name, read_text}

-- bytes
abbrev pub AreBytes : Text → Type 0
AreBytes bs = Each (λ b. b < 256) bs

pub all_back : {X : Type 0} (P : X → Type 0) (xs ys : List X) → Each P (xs ++ ys) → Each P ys
all_back P [] ys h = h
all_back P (x ∷ xs) ys h = all_back P xs ys h.1

pub all_front : {X : Type 0} (P : X → Type 0) (xs ys : List X) → Each P (xs ++ ys) → Each P xs
all_front P [] ys h = tt
all_front P (x ∷ xs) ys h = (h.0, all_front P xs ys h.1)

-- what is left
abbrev rest_of : {A : Type 0} → Text → Read A → Text
rest_of d (Got x rest) = rest
rest_of d (Stop n) = d

abbrev value_or : {A : Type 0} → A → Read A → A
value_or d (Got x rest) = x
value_or d (Stop n) = d

pub got_value : {A : Type 0} (x y : A) (xs ys : Text) → Got x xs ≡ Got y ys → x ≡ y
got_value x y xs ys e = ap (value_or x) e

pub got_rest : {A : Type 0} (x y : A) (xs ys : Text) → Got x xs ≡ Got y ys → xs ≡ ys
got_rest x y xs ys e = ap (rest_of xs) e

pub then_got : {A B : Type 0} (r : Read A) (next : A → Reader B) (b : B) (rest : Text) → then_read r next ≡ Got b rest → (a : A) × (mid : Text) × (r ≡ Got a mid) × (next a mid ≡ Got b rest)
then_got (Got a mid) next b rest e = (a, mid, refl, e)
then_got (Stop n) next b rest e = absurd (let z : Stop n ≡ Got b rest = e in cc)

-- a reader and a writer of one format, for the values with a property
pub record IsFormat {A : Type 0} (r : Reader A) (bytes : A → Text) (P : A → Type 0) : Type 0 where
  pub reads : (x : A) → P x → (rest : Text) → r (bytes x ++ rest) ≡ Got x rest
  pub wrote : (bs : Text) (x : A) (rest : Text) → AreBytes bs → r bs ≡ Got x rest → (bs ≡ bytes x ++ rest) × P x

-- what is left of bytes is bytes
pub left_bytes : (bs xs rest : Text) → AreBytes bs → bs ≡ xs ++ rest → AreBytes rest
left_bytes bs xs rest h e = all_back (λ b. b < 256) xs rest (subst AreBytes e h)

-- one part after another
pub seq : {A B : Type 0} (r : Reader A) (next : A → Reader B) (xs ys : Text) (a : A) (b : B) (rest : Text) → ((more : Text) → r (xs ++ more) ≡ Got a more)
    → (next a (ys ++ rest) ≡ Got b rest) → then_read (r ((xs ++ ys) ++ rest)) next ≡ Got b rest
seq r next xs ys a b rest h k = ap (λ z. then_read (r z) next) (append_assoc xs ys rest) ∙ ap (λ z. then_read z next) (h (ys ++ rest)) ∙ k

-- numbers
get_below : (bs : Text) (i : ℕ) → AreBytes bs → get_or bs i 0 < 256
get_below [] i h = omega arith
get_below (b ∷ bs) zero h = h.0
get_below (b ∷ bs) (suc i) h = get_below bs i h.1

four_below : (a b c d : ℕ) → a < 256 → b < 256 → c < 256 → d < 256 → from_be_bytes w32 (a ∷ b ∷ c ∷ d ∷ []) < 2 ^ 32
four_below a b c d p q r s = omega (arith, p, q, r, s)

pub number_format : IsFormat read_number number_bytes IsNumber
number_format = record {
  reads = λ n h rest. ap (λ k. Got k rest) (from_be_bytes-to_be_bytes_4 n h);
  wrote = λ bs n rest h e. wrote bs n rest h e;
}
  where
    wrote : (bs : Text) (n : ℕ) (rest : Text) → AreBytes bs → read_number bs ≡ Got n rest → (bs ≡ number_bytes n ++ rest) × IsNumber n
    wrote (a ∷ b ∷ c ∷ d ∷ more) n rest h e =
        let v : from_be_bytes w32 (a ∷ b ∷ c ∷ d ∷ []) ≡ n = got_value _ n more rest e in
        let hs : AreBytes (a ∷ b ∷ c ∷ d ∷ []) = (h.0, (h.1.0, (h.1.1.0, (h.1.1.1.0, tt)))) in (
          ap (λ z. z ++ more) (sym (be_bytes_4 (a ∷ b ∷ c ∷ d ∷ []) n refl (λ i. get_below (a ∷ b ∷ c ∷ d ∷ []) i hs) (sym v))) ∙ ap (λ z. number_bytes n ++ z) (got_rest _ n more rest e),
          subst IsNumber v (four_below a b c d h.0 h.1.0 h.1.1.0 h.1.1.1.0),
        )
    wrote [] n rest h e = absurd (let z : Stop 0 ≡ Got n rest = e in cc)
    wrote (a ∷ []) n rest h e = absurd (let z : Stop 0 ≡ Got n rest = e in cc)
    wrote (a ∷ b ∷ []) n rest h e = absurd (let z : Stop 0 ≡ Got n rest = e in cc)
    wrote (a ∷ b ∷ c ∷ []) n rest h e = absurd (let z : Stop 0 ≡ Got n rest = e in cc)

pub name_format : IsFormat read_name name_bytes NameIsNumbered
name_format = record {
  reads = λ n h rest. ap (λ z. then_read z (λ n rest. Got (name n) rest)) (number_format.reads n.0 h rest);
  wrote = λ bs n rest h e.
      let t = then_got (read_number bs) (λ n rest. Got (name n) rest) n rest e in
      let w = number_format.wrote bs t.0 t.1 h t.2 in
      let s : name t.0 ≡ n = got_value (name t.0) n t.1 rest t.3 in
      (w.0 ∙ ap (λ (z : NameId). number_bytes z.0 ++ t.1) s ∙ ap (λ z. name_bytes n ++ z) (got_rest (name t.0) n t.1 rest t.3), subst NameIsNumbered s w.1);
}
  where
    name : ℕ → NameId
    name n = record { 0 = n }

module _ {A : Type 0} (r : Reader A) (bytes : A → Text) (P : A → Type 0) (f : IsFormat r bytes P) where
  -- something made of what is read
  pub as_reads : {B : Type 0} (make : A → B) (x : A) (rest : Text) → P x → read_as make r (bytes x ++ rest) ≡ Got (make x) rest
  as_reads make x rest h = ap (λ z. then_read z (λ x rest. Got (make x) rest)) (f.reads x h rest)

  pub as_wrote : {B : Type 0} (make : A → B) (bs : Text) (y : B) (rest : Text) → AreBytes bs → read_as make r bs ≡ Got y rest → (x : A) × (make x ≡ y) × (bs ≡ bytes x ++ rest) × P x
  as_wrote make bs y rest h e =
      let t = then_got (r bs) (λ x rest. Got (make x) rest) y rest e in
      let w = f.wrote bs t.0 t.1 h t.2 in
      (t.0, got_value (make t.0) y t.1 rest t.3, w.0 ∙ ap (λ z. bytes t.0 ++ z) (got_rest (make t.0) y t.1 rest t.3), w.1)

  items_read : (xs : List A) (rest : Text) → Each P xs → read_items r (length xs) (items_bytes bytes xs ++ rest) ≡ Got xs rest
  items_read [] rest h = refl
  items_read (x ∷ xs) rest h =
      seq r (λ x rest. read_as (λ xs. x ∷ xs) (read_items r (length xs)) rest) (bytes x) (items_bytes bytes xs) x (x ∷ xs) rest (λ more. f.reads x h.0 more)
      (ap (λ z. then_read z (λ xs rest. Got (x ∷ xs) rest)) (items_read xs rest h.1))

  items_wrote : (n : ℕ) (bs : Text) (xs : List A) (rest : Text) → AreBytes bs → read_items r n bs ≡ Got xs rest → (bs ≡ items_bytes bytes xs ++ rest) × (length xs ≡ n) × Each P xs
  items_wrote zero bs xs rest h e =
      let s : [] ≡ xs = got_value [] xs bs rest e in
      (got_rest [] xs bs rest e ∙ ap (λ z. items_bytes bytes z ++ rest) s, ap length (sym s), subst (Each P) s tt)
  items_wrote (suc n) bs xs rest h e =
      let t = then_got (r bs) (λ x rest. read_as (λ xs. x ∷ xs) (read_items r n) rest) xs rest e in
      let w = f.wrote bs t.0 t.1 h t.2 in
      let u = then_got (read_items r n t.1) (λ xs rest. Got (t.0 ∷ xs) rest) xs rest t.3 in
      let v = items_wrote n t.1 u.0 u.1 (left_bytes bs (bytes t.0) t.1 h w.0) u.2 in
      let s : t.0 ∷ u.0 ≡ xs = got_value (t.0 ∷ u.0) xs u.1 rest u.3 in (
        w.0 ∙ ap (λ z. bytes t.0 ++ z) (v.0 ∙ ap (λ z. items_bytes bytes u.0 ++ z) (got_rest (t.0 ∷ u.0) xs u.1 rest u.3)) ∙ sym (append_assoc (bytes t.0) (items_bytes bytes u.0) rest)
            ∙ ap (λ z. items_bytes bytes z ++ rest) s,
        sym (ap length s) ∙ ap suc v.1,
        subst (Each P) s (w.1, v.2),
      )

  -- a list
  pub list_format : IsFormat (read_list r) (list_bytes bytes) (IsListOf P)
  list_format = record {
    reads = λ xs h rest.
        seq read_number (read_items r) (number_bytes (length xs)) (items_bytes bytes xs) (length xs) xs rest (λ more. number_format.reads (length xs) h.0 more) (items_read xs rest h.1);
    wrote = λ bs xs rest h e.
        let t = then_got (read_number bs) (read_items r) xs rest e in
        let w = number_format.wrote bs t.0 t.1 h t.2 in
        let v = items_wrote t.0 t.1 xs rest (left_bytes bs (number_bytes t.0) t.1 h w.0) t.3 in (
          w.0 ∙ ap (λ z. number_bytes t.0 ++ z) v.0 ∙ sym (append_assoc (number_bytes t.0) (items_bytes bytes xs) rest) ∙ ap (λ n. (number_bytes n ++ items_bytes bytes xs) ++ rest) (sym v.1),
          (subst IsNumber (sym v.1) w.1, v.2),
        );
  }

-- a text
pub text_format : IsFormat read_text text_bytes IsShortText
text_format = record {
  reads = λ t h rest.
      seq read_number read_bytes (number_bytes (length t)) t (length t) t rest (λ more. number_format.reads (length t) h.0 more) (whole t rest);
  wrote = λ bs t rest h e.
      let n = then_got (read_number bs) read_bytes t rest e in
      let w = number_format.wrote bs n.0 n.1 h n.2 in
      let v = front n.0 n.1 t rest n.3 in
      let more = left_bytes bs (number_bytes n.0) n.1 h w.0 in (
        w.0 ∙ ap (λ z. number_bytes n.0 ++ z) v.0 ∙ sym (append_assoc (number_bytes n.0) t rest) ∙ ap (λ n. (number_bytes n ++ t) ++ rest) (sym v.1),
        (subst IsNumber (sym v.1) w.1, all_front (λ b. b < 256) t rest (subst AreBytes v.0 more)),
      );
}
  where
    whole : (t rest : Text) → read_bytes (length t) (t ++ rest) ≡ Got t rest
    whole t rest = by (nat_le (length t) (length (t ++ rest))) refl
      where
        by : (b : Bool) → nat_le (length t) (length (t ++ rest)) ≡ b → read_bytes (length t) (t ++ rest) ≡ Got t rest
        by true e = ap (λ b. if b then Got (take (length t) (t ++ rest)) (drop (length t) (t ++ rest)) else Stop 0) e ∙ ap (λ z. Got z (drop (length t) (t ++ rest))) (take-append_seam t rest) ∙ ap (Got t) (drop-append_seam t rest)
        by false e = absurd (let l = length-append t rest in grind (arith, e, l))

    front : (n : ℕ) (bs t rest : Text) → read_bytes n bs ≡ Got t rest → (bs ≡ t ++ rest) × (length t ≡ n)
    front n bs t rest e = by (nat_le n (length bs)) refl
      where
        by : (b : Bool) → nat_le n (length bs) ≡ b → (bs ≡ t ++ rest) × (length t ≡ n)
        by false q = absurd (let z : Stop 0 ≡ Got t rest = sym (ap (λ b. if b then Got (take n bs) (drop n bs) else Stop 0) q) ∙ e in cc)
        by true q =
            let z : Got (take n bs) (drop n bs) ≡ Got t rest = sym (ap (λ b. if b then Got (take n bs) (drop n bs) else Stop 0) q) ∙ e in
            let s = got_value (take n bs) t (drop n bs) rest z in
            (sym (take-append-drop n bs) ∙ ap (λ y. y ++ drop n bs) s ∙ ap (λ y. t ++ y) (got_rest (take n bs) t (drop n bs) rest z), ap length (sym s) ∙ length-take-le n bs (grind (arith, q)))

-- the first of several parts
pub then_wrote : {A B : Type 0} (r : Reader A) (bytes : A → Text) (P : A → Type 0) → IsFormat r bytes P → (next : A → Reader B) (bs : Text) (y : B) (rest : Text) → AreBytes bs
    → then_read (r bs) next ≡ Got y rest → (a : A) × (mid : Text) × (bs ≡ bytes a ++ mid) × P a × AreBytes mid × (next a mid ≡ Got y rest)
then_wrote r bytes P f next bs y rest h e =
    let t = then_got (r bs) next y rest e in
    let w = f.wrote bs t.0 t.1 h t.2 in
    (t.0, t.1, w.0, w.1, left_bytes bs (bytes t.0) t.1 h w.0, t.3)

-- what was taken is the bytes of the value, which has the property
pub record AreOf {A : Type 0} (bytes : A → Text) (P : A → Type 0) (taken : Text) (x : A) : Type 0 where
  pub same : taken ≡ bytes x
  pub kept : P x

-- a reader takes a text from the front and makes a value of it, and the two belong together
pub record Takes {B : Type 0} (r : Reader B) (Q : Text → B → Type 0) : Type 0 where
  pub took : (bs : Text) (y : B) (rest : Text) → AreBytes bs → r bs ≡ Got y rest → (taken : Text) × (bs ≡ taken ++ rest) × Q taken y

pub took_wrote : {A : Type 0} (r : Reader A) (bytes : A → Text) (P : A → Type 0) → Takes r (AreOf bytes P) → (bs : Text) (x : A) (rest : Text) → AreBytes bs → r bs ≡ Got x rest
    → (bs ≡ bytes x ++ rest) × P x
took_wrote r bytes P k bs x rest h e =
    let t = k.took bs x rest h e in
    (t.1 ∙ ap (λ z. z ++ rest) t.2.same, t.2.kept)

module _ {A B : Type 0} (r : Reader A) (bytes : A → Text) (P : A → Type 0) (f : IsFormat r bytes P) (Q : Text → B → Type 0) where
  -- the first of several parts
  pub part_takes : (next : A → Reader B) → ((a : A) → P a → Takes (next a) (λ taken y. Q (bytes a ++ taken) y)) → Takes (λ bs. then_read (r bs) next) Q
  part_takes next more = record { took = took }
    where
      took : (bs : Text) (y : B) (rest : Text) → AreBytes bs → then_read (r bs) next ≡ Got y rest → (taken : Text) × (bs ≡ taken ++ rest) × Q taken y
      took bs y rest h e =
          let t = then_wrote r bytes P f next bs y rest h e in
          behind t.0 t.1 t.2 ((more t.0 t.3).took t.1 y rest t.4 t.5)
        where
          behind : (a : A) (mid : Text) → bs ≡ bytes a ++ mid → ((taken : Text) × (mid ≡ taken ++ rest) × Q (bytes a ++ taken) y) → (taken : Text) × (bs ≡ taken ++ rest) × Q taken y
          behind a mid e u = (bytes a ++ u.0, e ∙ ap (λ z. bytes a ++ z) u.1 ∙ sym (append_assoc (bytes a) u.0 rest), u.2)

  -- the last of them
  pub last_takes : (make : A → B) → ((a : A) → P a → Q (bytes a) (make a)) → Takes (read_as make r) Q
  last_takes make says = record { took = took }
    where
      took : (bs : Text) (y : B) (rest : Text) → AreBytes bs → read_as make r bs ≡ Got y rest → (taken : Text) × (bs ≡ taken ++ rest) × Q taken y
      took bs y rest h e =
          let t = as_wrote r bytes P f make bs y rest h e in
          (bytes t.0, t.2, subst (Q (bytes t.0)) t.1 (says t.0 t.3))

-- two parts
module _ {A B C : Type 0} (r : Reader A) (s : Reader B) (rb : A → Text) (sb : B → Text) (P : A → Type 0) (Q : B → Type 0) (f : IsFormat r rb P) (g : IsFormat s sb Q) (make : A → B → C) where
  abbrev pub read_two : Reader C
  read_two bs = then_read (r bs) (λ a rest. read_as (make a) s rest)

  pub two_read : (a : A) (b : B) (rest : Text) → P a → Q b → read_two ((rb a ++ sb b) ++ rest) ≡ Got (make a b) rest
  two_read a b rest p q = seq r (λ a rest. read_as (make a) s rest) (rb a) (sb b) a (make a b) rest (λ more. f.reads a p more) (as_reads s sb Q g (make a) b rest q)

  pub two_wrote : (bs : Text) (c : C) (rest : Text) → AreBytes bs → read_two bs ≡ Got c rest → (a : A) × (b : B) × (make a b ≡ c) × (bs ≡ (rb a ++ sb b) ++ rest) × P a × Q b
  two_wrote bs c rest h e =
      let t = then_wrote r rb P f (λ a rest. read_as (make a) s rest) bs c rest h e in
      let u = as_wrote s sb Q g (make t.0) t.1 c rest t.4 t.5 in
      (t.0, u.0, u.1, t.2 ∙ ap (λ z. rb t.0 ++ z) u.2 ∙ sym (append_assoc (rb t.0) (sb u.0) rest), t.3, u.3)

-- by a byte in front
module _ {A : Type 0} (bytes : A → Text) (P : A → Type 0) where
  abbrev pub Wrote : ℕ → Reader A → Type 0
  Wrote n r = (bs : Text) (x : A) (rest : Text) → AreBytes bs → r bs ≡ Got x rest → (n ∷ bs ≡ bytes x ++ rest) × P x

  abbrev pub EachWrote : ℕ → List (Reader A) → Type 0
  EachWrote n [] = Unit {0}
  EachWrote n (r ∷ rs) = Wrote n r × EachWrote (suc n) rs

  pub no_wrote : (n : ℕ) → Wrote n not_allowed
  no_wrote n bs x rest h e = absurd (let z : Stop (suc (length bs)) ≡ Got x rest = e in cc)

  pub nothing_wrote : (n : ℕ) (v : A) → bytes v ≡ n ∷ [] → P v → Wrote n (read_nothing v)
  nothing_wrote n v b p bs x rest h e =
      let s = got_value v x bs rest e in (ap (λ z. n ∷ z) (got_rest v x bs rest e) ∙ ap (λ z. z ++ rest) (sym b) ∙ ap (λ z. bytes z ++ rest) s, subst P s p)

  pub made_wrote : {B : Type 0} (n : ℕ) (r : Reader B) (rb : B → Text) (Q : B → Type 0) (make : B → A) → IsFormat r rb Q → ((b : B) → bytes (make b) ≡ n ∷ rb b) → ((b : B) → Q b → P (make b))
      → Wrote n (read_as make r)
  made_wrote n r rb Q make f b p bs x rest h e =
      let t = as_wrote r rb Q f make bs x rest h e in
      (ap (λ z. n ∷ z) t.2 ∙ ap (λ z. z ++ rest) (sym (b t.0)) ∙ ap (λ z. bytes z ++ rest) t.1, subst P t.1 (p t.0 t.3))

  among : (n : ℕ) (rs : List (Reader A)) (b : ℕ) (r : Reader A) → EachWrote n rs → slice_get rs b ≡ Some r → Wrote (n + b) r
  among n [] b r h e = absurd (let z : None ≡ Some r = e in cc)
  among n (q ∷ rs) zero r h e = subst (λ (z : Reader A). Wrote (n + 0) z) (some_is q r e) (subst (λ m. Wrote m q) (let z : n ≡ n + 0 = omega arith in z) h.0)
    where
      or_this : Reader A → Option (Reader A) → Reader A
      or_this d None = d
      or_this d (Some y) = y

      some_is : (q r : Reader A) → Some q ≡ Some r → q ≡ r
      some_is q r e = ap (or_this q) e
  among n (q ∷ rs) (suc b) r h e = subst (λ m. Wrote m r) (let z : suc n + b ≡ n + suc b = omega arith in z) (among (suc n) rs b r h.1 e)

  pub by_wrote : (rs : List (Reader A)) → EachWrote 0 rs → (bs : Text) (x : A) (rest : Text) → AreBytes bs → read_by rs bs ≡ Got x rest → (bs ≡ bytes x ++ rest) × P x
  by_wrote rs h [] x rest a e = absurd (let z : Stop 0 ≡ Got x rest = e in cc)
  by_wrote rs h (b ∷ bs) x rest a e = by (slice_get rs b) refl
    where
      by : (o : Option (Reader A)) → slice_get rs b ≡ o → (b ∷ bs ≡ bytes x ++ rest) × P x
      by None q = absurd (let z : Stop (suc (length bs)) ≡ Got x rest = sym (ap (λ o. elim o as (λ r. Read A) [ None ↦ Stop (suc (length bs)) | Some r ↦ r bs ]) q) ∙ e in cc)
      by (Some r) q =
          let z : r bs ≡ Got x rest = sym (ap (λ o. elim o as (λ r. Read A) [ None ↦ Stop (suc (length bs)) | Some r ↦ r bs ]) q) ∙ e in
          let w : Wrote b r = subst (λ m. Wrote m r) (let y : 0 + b ≡ b = omega arith in y) (among 0 rs b r h q) in
          w bs x rest a.1 z
