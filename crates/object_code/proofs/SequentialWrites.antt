-- Texts that are written one after another.
use Rattle.std.proofs.Common.{◌≡◌, refl, sym, ap, ◌∙◌, ℕ, zero, suc, ◌+◌, ◌<◌, ◌≤◌, List, [], ◌∷◌, ◌++◌, length, drop, get_or, Bool, true, false, Some, subst, slice_get, arith}
use Rattle.std.specs.List.{All, AllByRecursion as Each}
use Rattle.std.proofs.lemmas.List.{at_drop_more}
use Rattle.std.proofs.lemmas.List.Elements.{All-get_or}
use Rattle.pool_outside.specs.Outside.{Rose, IsProperFront}
use Rattle.pool_outside.proofs.Laws.{cut_first, cut_second, joined, rose_later, rose_before, append_nothing}
use Rattle.text_scan.specs.Text.{Text}
use Rattle.code_semantics.specs.declared.unit.Instr.{Instr}
use Rattle.code_semantics.specs.declared.unit.MethodCode.{MethodCode}
use Rattle.code_semantics.specs.declared.unit.ClassCode.{ClassCode}
use Rattle.code_semantics.specs.declared.file.ClassKinds.{ClassKinds}
use Rattle.code_semantics.specs.declared.file.MethodKinds.{MethodKinds}
use Rattle.object_code.specs.FileBytes.{items_bytes}
use Rattle.code_semantics.specs.Shaped.{AreShapedMethods, AreShapedClasses}
use Rattle.code_semantics.specs.Pairs.{pairs}
use Rattle.object_code.specs.Listing.{line_text, lines_text}
use Rattle.run_types.specs.Table.{text_at, text_or_none}
use Rattle.object_code.specs.SinkState.{State, Writes, whole, cut, idle}

-- one text and then another
pub then : (s t : Text) (a b c : State) → Writes s a b → Writes t b c → Writes (s ++ t) a c
then s t a b c (whole o p w f) (whole o2 p2 w2 f2) = whole o p2 (joined s t _ _ _ w w2) (f2 ∙ f)
then s t a b c (whole o p w f) (cut o2 p2 h f2 r) = cut o p2 (cut_second a.written b.written c.written s t w h) (omega arith) (rose_later _ _ _ (omega arith) r)
then s t a b c (whole o p w f) (idle o2 p2 w2 f2) = absurd (cc)
then s t a b c (cut o p h f r) (whole o2 p2 w2 f2) = absurd (cc)
then s t a b c (cut o p h f r) (cut o2 p2 h2 f2 r2) = absurd (cc)
then s t a b c (cut o p h f r) (idle o2 p2 w2 f2) =
    cut o p2 (subst (IsProperFront a.written (s ++ t)) (sym w2) (cut_first a.written b.written s t h)) (omega arith) (rose_before _ _ _ r (sym f2))
then s t a b c (idle o p w f) (whole o2 p2 w2 f2) = absurd (cc)
then s t a b c (idle o p w f) (cut o2 p2 h f2 r) = absurd (cc)
then s t a b c (idle o p w f) (idle o2 p2 w2 f2) = idle o p2 (w2 ∙ w) (f2 ∙ f)

nothing_by : (a : State) (k : Bool) → a.failed ≡ k → Writes [] a a
nothing_by a true e = idle e e refl refl
nothing_by a false e = whole e e (append_nothing a.written) refl

pub nothing : (a : State) → Writes [] a a
nothing a = nothing_by a a.failed refl

-- the same text
pub same : (s t : Text) (a b : State) → s ≡ t → Writes s a b → Writes t a b
same s t a b e p = let P : Text → Type 0 = λ u. Writes u a b in subst P e p

pub meant : (s t : Text) (a b : State) → Writes s a b → s ≡ t → Writes t a b
meant s t a b p e = same s t a b e p

-- to write the rest from here is to write all from there
pub record Rests (all : Text) (from : State) (rest : Text) (here : State) : Type 0 where
  pub written : (c : State) → Writes rest here c → Writes all from c

pub rests_begin : (all : Text) (a : State) → Rests all a all a
rests_begin all a = record { written = λ c p. p }

pub rests_step : (all rest s t : Text) (a b c : State) → Rests all a rest b → rest ≡ s ++ t → Writes s b c → Rests all a t c
rests_step all rest s t a b c r e p = record { written = λ d q. r.written d (same (s ++ t) rest b d (sym e) (then s t b c d p q)) }

pub rests_end : (all rest : Text) (a b : State) → Rests all a rest b → rest ≡ [] → Writes all a b
rests_end all rest a b r e = r.written b (same [] rest b b (sym e) (nothing b))

-- what is left of the parts at a place
pub parts_at : {A : Type 0} (all : List A → Text) (part : A → Text) (xs : List A) (i : ℕ) (x : A) → i < length xs → x ≡ get_or xs i x
    → ((y : A) (ys : List A) → all (y ∷ ys) ≡ part y ++ all ys)
    → all (drop i xs) ≡ part x ++ all (drop (i + 1) xs)
parts_at all part xs i x within at unfolds =
    at_drop_more all xs i x within ∙ ap (λ y. all (y ∷ drop (i + 1) xs)) (sym at) ∙ unfolds x (drop (i + 1) xs)

-- what holds of all holds of the one at a place
pub holds_at : {A : Type 0} (P : A → Type 0) (xs : List A) (i : ℕ) (x : A) → i < length xs → x ≡ get_or xs i x → All P xs → P x
holds_at P xs i x within at h = subst P (sym at) (All-get_or P xs i x within h)

-- what a text that was written says of the end

pub front : (t : Text) (a b : State) → Writes t a b → a.failed ≡ false → b.failed ≡ true → IsProperFront a.written t b.written
front t a b (whole o p w f) g h = absurd (cc)
front t a b (cut o p l f r) g h = l
front t a b (idle o p w f) g h = absurd (cc)

pub rose : (t : Text) (a b : State) → Writes t a b → a.failed ≡ false → b.failed ≡ true → Rose a.faults b.faults
rose t a b (whole o p w f) g h = absurd (cc)
rose t a b (cut o p l f r) g h = r
rose t a b (idle o p w f) g h = absurd (cc)

pub faults : (t : Text) (a b : State) → Writes t a b → a.faults ≤ b.faults
faults t a b (whole o p w f) = omega arith
faults t a b (cut o p l f r) = f
faults t a b (idle o p w f) = omega arith

-- the same of a part that is read with a default
pub parts_read : {A : Type 0} (all : List A → Text) (part : A → Text) (xs : List A) (i : ℕ) (d : A) → i < length xs
    → ((y : A) (ys : List A) → all (y ∷ ys) ≡ part y ++ all ys)
    → all (drop i xs) ≡ part (get_or xs i d) ++ all (drop (i + 1) xs)
parts_read all part xs i d within unfolds = at_drop_more all xs i d within ∙ unfolds (get_or xs i d) (drop (i + 1) xs)

-- the text of this number
pub text_of : (names : List Text) (n : ℕ) (w : Text) → slice_get names n ≡ Some w → w ≡ text_at names n
text_of names n w e = ap text_or_none (sym e)

-- the lines at a place
pub lines_at : (names : List Text) (is : List Instr) (i : ℕ) (x : Instr) → i < length is → x ≡ get_or is i x
    → lines_text names i (drop i is) ≡ line_text names i x ++ lines_text names (i + 1) (drop (i + 1) is)
lines_at names is i x within at =
    let e : i + 1 ≡ suc i = omega arith in
    at_drop_more (lines_text names i) is i x within ∙ ap (λ y. lines_text names i (y ∷ drop (i + 1) is)) (sym at) ∙ ap (λ n. line_text names i x ++ lines_text names n (drop (i + 1) is)) (sym e)

pub no_fault : (t : Text) (a b : State) → Writes t a b → b.failed ≡ false → b.faults ≡ a.faults
no_fault t a b (whole o p w f) h = f
no_fault t a b (cut o p l f r) h = absurd (cc)
no_fault t a b (idle o p w f) h = absurd (cc)

-- what holds of each, by recursion, holds of the one at a place
pub each_at : {A : Type 0} (P : A → Type 0) (xs : List A) (i : ℕ) (d : A) → i < length xs → Each P xs → P (get_or xs i d)
each_at P [] i d within h = absurd (let z : i < 0 = within in omega (arith, z))
each_at P (x ∷ xs) zero d within h = h.0
each_at P (x ∷ xs) (suc i) d within h = each_at P xs i d (let z : suc i < suc (length xs) = within in omega (arith, z)) h.1

pub each_holds : {A : Type 0} (P : A → Type 0) (xs : List A) (i : ℕ) (x : A) → i < length xs → x ≡ get_or xs i x → Each P xs → P x
each_holds P xs i x within at h = subst P (sym at) (each_at P xs i x within h)

-- nothing is asked of each
pub each_any : {A : Type 0} (xs : List A) → Each (λ x. Unit {0}) xs
each_any [] = tt
each_any (x ∷ xs) = (tt, each_any xs)

-- the items of two lists at a place, side by side
pub pair_at : {A B : Type 0} (bytes : A × B → Text) (xs : List A) (ys : List B) (i : ℕ) (x : A) (y : B) → i < length xs → i < length ys → x ≡ get_or xs i x → y ≡ get_or ys i y
    → items_bytes bytes (pairs (drop i xs) (drop i ys)) ≡ bytes (x, y) ++ items_bytes bytes (pairs (drop (i + 1) xs) (drop (i + 1) ys))
pair_at bytes xs ys i x y p q e f =
    at_drop_more (λ zs. items_bytes bytes (pairs zs (drop i ys))) xs i x p
    ∙ at_drop_more (λ zs. items_bytes bytes (pairs (get_or xs i x ∷ drop (i + 1) xs) zs)) ys i y q
    ∙ ap (λ z. bytes (z, get_or ys i y) ++ items_bytes bytes (pairs (drop (i + 1) xs) (drop (i + 1) ys))) (sym e)
    ∙ ap (λ z. bytes (x, z) ++ items_bytes bytes (pairs (drop (i + 1) xs) (drop (i + 1) ys))) (sym f)

pub as_many_pairs : {A B : Type 0} (xs : List A) (ys : List B) → length xs ≡ length ys → length (pairs xs ys) ≡ length xs
as_many_pairs [] [] e = refl
as_many_pairs [] (y ∷ ys) e = refl
as_many_pairs (x ∷ xs) [] e = absurd (let z : suc (length xs) ≡ 0 = e in omega (arith, z))
as_many_pairs (x ∷ xs) (y ∷ ys) e = ap suc (as_many_pairs xs ys (let z : suc (length xs) ≡ suc (length ys) = e in omega (arith, z)))

-- shaped classes are as many as their kinds, and at each place so are their methods
pub shaped_many : (ks : List ClassCode) (qs : List ClassKinds) → AreShapedClasses ks qs → length ks ≡ length qs
shaped_many [] [] h = refl
shaped_many [] (q ∷ qs) h = absurd h
shaped_many (k ∷ ks) [] h = absurd h
shaped_many (k ∷ ks) (q ∷ qs) h = ap suc (shaped_many ks qs h.2)

pub shaped_methods : (ms : List MethodCode) (ss : List MethodKinds) → AreShapedMethods ms ss → length ms ≡ length ss
shaped_methods [] [] h = refl
shaped_methods [] (s ∷ ss) h = absurd h
shaped_methods (m ∷ ms) [] h = absurd h
shaped_methods (m ∷ ms) (s ∷ ss) h = ap suc (shaped_methods ms ss h.1)

shaped_at : (ks : List ClassCode) (qs : List ClassKinds) (i : ℕ) (d : ClassCode) (e : ClassKinds) → AreShapedClasses ks qs → i < length ks
    → length (get_or ks i d).methods ≡ length (get_or qs i e).methods
shaped_at [] qs i d e h within = absurd (let z : i < 0 = within in omega (arith, z))
shaped_at (k ∷ ks) [] i d e h within = absurd h
shaped_at (k ∷ ks) (q ∷ qs) zero d e h within = shaped_methods k.methods q.methods h.1
shaped_at (k ∷ ks) (q ∷ qs) (suc i) d e h within = shaped_at ks qs i d e h.2 (let z : suc i < suc (length ks) = within in omega (arith, z))

pub shaped_there : (ks : List ClassCode) (qs : List ClassKinds) (i : ℕ) (x : ClassCode) (y : ClassKinds) → AreShapedClasses ks qs → i < length ks → x ≡ get_or ks i x → y ≡ get_or qs i y
    → length x.methods ≡ length y.methods
shaped_there ks qs i x y h within e f = ap (λ (z : ClassCode). length z.methods) e ∙ shaped_at ks qs i x y h within ∙ ap (λ (z : ClassKinds). length z.methods) (sym f)

-- the text of a number, and those behind it
pub text_at_drop : {A : Type 0} (bytes : A → Text) (xs : List A) (i : ℕ) (x : A) → slice_get xs i ≡ Some x → items_bytes bytes (drop i xs) ≡ bytes x ++ items_bytes bytes (drop (i + 1) xs)
text_at_drop bytes [] i x e = absurd (cc)
text_at_drop bytes (y ∷ xs) zero x e = let z : y ≡ x = cc in ap (λ w. bytes w ++ items_bytes bytes xs) z
text_at_drop bytes (y ∷ xs) (suc i) x e = let z : suc i + 1 ≡ suc (i + 1) = omega arith in text_at_drop bytes xs i x e ∙ ap (λ n. bytes x ++ items_bytes bytes (drop n (y ∷ xs))) (sym z)

pub each_got : {A : Type 0} (P : A → Type 0) (xs : List A) (i : ℕ) (x : A) → slice_get xs i ≡ Some x → Each P xs → P x
each_got P [] i x e h = absurd (cc)
each_got P (y ∷ xs) zero x e h = let z : y ≡ x = cc in subst P z h.0
each_got P (y ∷ xs) (suc i) x e h = each_got P xs i x e h.1
