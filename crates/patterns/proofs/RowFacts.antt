-- The patterns of rows: earlier ones stay where they are, and each row tells the truth of its own.
use Rattle.std.proofs.Common.{◌≡◌, refl, sym, ap, ap₂, ◌∙◌, subst, ℕ, zero, suc, ◌+◌, ◌<◌, ◌≤◌, List, [], ◌∷◌, ◌++◌, length, Some, None, Bool, true, false, ◌&&◌, arith, append_assoc, length-append}
use Rattle.std.specs.Prelude.{nat_lt, if◌then◌else◌}
use Rattle.std.specs.List.{slice_get}
use Rattle.std.proofs.lemmas.List.{append-nil}
use Rattle.std.proofs.lemmas.Option.{slice_get_within}
use Rattle.run_types.proofs.Laws.{first, second, both}
use Rattle.patterns.specs.Patterns.{Pattern, Either, Then, Both, Repeated, is_nullable, is_void}
use Rattle.patterns.specs.Rows.{numbered, node_pattern, with_rows, is_within, is_equal, is_right, are_right, IsGrown, HasPattern}
use Rattle.patterns.specs.declared.node.Node.{Node}
use Rattle.patterns.specs.declared.node.Node.TheVariants as N
use Rattle.patterns.specs.declared.node.Row.{Row}

-- a pattern at a number that was there
pub still : (ps added : List Pattern) (n : ℕ) → n < length ps → numbered (ps ++ added) n ≡ numbered ps n
still [] added n h = absurd (omega arith)
still (p ∷ ps) added zero h = refl
still (p ∷ ps) added (suc n) h = still ps added n (omega arith)

-- the last one
pub at_end : (ps : List Pattern) (p : Pattern) → numbered (ps ++ p ∷ []) (length ps) ≡ p
at_end [] p = refl
at_end (q ∷ ps) p = at_end ps p

-- growth
pub not_grown : (ps : List Pattern) → IsGrown ps ps
not_grown ps = ([], sym (append-nil ps))

pub grown_more : (a b c : List Pattern) → IsGrown a b → IsGrown b c → IsGrown a c
grown_more a b c g h = (g.0 ++ h.0, h.1 ∙ ap (λ (x : List Pattern). x ++ h.0) g.1 ∙ append_assoc a g.0 h.0)

pub grown_still : (a b : List Pattern) (n : ℕ) → IsGrown a b → n < length a → numbered b n ≡ numbered a n
grown_still a b n g h = ap (λ (x : List Pattern). numbered x n) g.1 ∙ still a g.0 n h

pub grown_within : (a b : List Pattern) (n : ℕ) → IsGrown a b → n < length a → n < length b
grown_within a b n g h = let long = ap length g.1 in omega (arith, long, length-append a g.0)

pub grown_has : (a b : List Pattern) (n : ℕ) (p : Pattern) → IsGrown a b → HasPattern a n p → HasPattern b n p
grown_has a b n p g h = record { within = grown_within a b n g h.within; is = grown_still a b n g h.within ∙ h.is }

-- rows add patterns at the end, one each
pub added_by : (ps : List Pattern) (rs : List Row) → IsGrown ps (with_rows ps rs)
added_by ps [] = not_grown ps
added_by ps (r ∷ rs) =
    let p = node_pattern ps r.node in
    grown_more ps (ps ++ p ∷ []) (with_rows (ps ++ p ∷ []) rs) (p ∷ [], refl) (added_by (ps ++ p ∷ []) rs)

pub count_of : (ps : List Pattern) (rs : List Row) → length (with_rows ps rs) ≡ length ps + length rs
count_of ps [] = omega arith
count_of ps (r ∷ rs) = let p = node_pattern ps r.node in omega (arith, count_of (ps ++ p ∷ []) rs, length-append ps (p ∷ []))

is_less : (a b : ℕ) → nat_lt a b ≡ true → a < b
is_less a b h = grind (arith, h)

less_is : (a b : ℕ) → a < b → nat_lt a b ≡ true
less_is a b h = grind (arith, h)

less_more : (a m n : ℕ) → m ≤ n → nat_lt a m ≡ true → nat_lt a n ≡ true
less_more a m n le h = let small = is_less a m h in less_is a n (omega (arith, small, le))

both_less : (a b m n : ℕ) → m ≤ n → (nat_lt a m && nat_lt b m) ≡ true → (nat_lt a n && nat_lt b n) ≡ true
both_less a b m n le h = both (nat_lt a n) (nat_lt b n) (less_more a m n le (first (nat_lt a m) (nat_lt b m) h)) (less_more b m n le (second (nat_lt a m) (nat_lt b m) h))

pub one_below : (a b n : ℕ) → (nat_lt a n && nat_lt b n) ≡ true → a < n
one_below a b n h = is_less a n (first (nat_lt a n) (nat_lt b n) h)

pub other_below : (a b n : ℕ) → (nat_lt a n && nat_lt b n) ≡ true → b < n
other_below a b n h = is_less b n (second (nat_lt a n) (nat_lt b n) h)

pub alone_below : (a n : ℕ) → nat_lt a n ≡ true → a < n
alone_below a n h = is_less a n h

pub pair_within : (a b n : ℕ) → a < n → b < n → (nat_lt a n && nat_lt b n) ≡ true
pair_within a b n h k = both (nat_lt a n) (nat_lt b n) (less_is a n h) (less_is b n k)

pub alone_within : (a n : ℕ) → a < n → nat_lt a n ≡ true
alone_within a n h = less_is a n h

pub within_more : (m n : ℕ) (x : Node) → m ≤ n → is_within m x ≡ true → is_within n x ≡ true
within_more m n N.Never le h = refl
within_more m n N.Nothing le h = refl
within_more m n (N.One i) le h = refl
within_more m n N.Any le h = refl
within_more m n (N.Either a b) le h = both_less a b m n le h
within_more m n (N.Then a b) le h = both_less a b m n le h
within_more m n (N.Both a b) le h = both_less a b m n le h
within_more m n (N.Repeated a) le h = less_more a m n le h

-- a node with parts that were there
pub node_still : (a b : List Pattern) (x : Node) → IsGrown a b → is_within (length a) x ≡ true → node_pattern b x ≡ node_pattern a x
node_still a b N.Never g h = refl
node_still a b N.Nothing g h = refl
node_still a b (N.One i) g h = refl
node_still a b N.Any g h = refl
node_still a b (N.Either m n) g h = ap₂ Either (grown_still a b m g (one_below m n (length a) h)) (grown_still a b n g (other_below m n (length a) h))
node_still a b (N.Then m n) g h = ap₂ Then (grown_still a b m g (one_below m n (length a) h)) (grown_still a b n g (other_below m n (length a) h))
node_still a b (N.Both m n) g h = ap₂ Both (grown_still a b m g (one_below m n (length a) h)) (grown_still a b n g (other_below m n (length a) h))
node_still a b (N.Repeated m) g h = ap Repeated (grown_still a b m g (alone_below m (length a) h))

equal_bools : (a b : Bool) → is_equal a b ≡ true → a ≡ b
equal_bools true true h = refl
equal_bools true false h = absurd (let z : false ≡ true = h in cc)
equal_bools false true h = absurd (let z : false ≡ true = h in cc)
equal_bools false false h = refl

bools_equal : (a b : Bool) → a ≡ b → is_equal a b ≡ true
bools_equal true true h = refl
bools_equal true false h = absurd (cc)
bools_equal false true h = absurd (cc)
bools_equal false false h = refl

-- what a row says of its pattern among all
pub record IsRowOf (ps : List Pattern) (n : ℕ) (r : Row) : Type 0 where
  pub node : node_pattern ps r.node ≡ numbered ps n
  pub within : is_within (length ps) r.node ≡ true
  pub nullable : r.nullable ≡ is_nullable (numbered ps n)
  pub void : r.void ≡ is_void (numbered ps n)

pub row_at : (ps : List Pattern) (rs : List Row) (i n : ℕ) (r : Row) → n ≡ length ps + i → are_right ps rs ≡ true → slice_get rs i ≡ Some r → IsRowOf (with_rows ps rs) n r
row_at ps [] i n r place right there = absurd (let y : None ≡ Some r = there in cc)
row_at ps (m ∷ rs) zero n r place right there =
    let is : m ≡ r = cc in
    let p = node_pattern ps m.node in
    let here = first (is_right ps m) (are_right (ps ++ p ∷ []) rs) right in
    let flags = second (is_within (length ps) m.node) _ here in
    let inside = first (is_within (length ps) m.node) _ here in
    let all = with_rows (ps ++ p ∷ []) rs in
    let g = added_by (ps ++ p ∷ []) rs in
    let grown = added_by ps (m ∷ rs) in
    let long : length (ps ++ p ∷ []) ≡ suc (length ps) = omega (arith, length-append ps (p ∷ [])) in
    let at : numbered all n ≡ p = ap (numbered all) (omega (arith, place)) ∙ grown_still (ps ++ p ∷ []) all (length ps) g (omega (arith, long)) ∙ at_end ps p in
    let more : length ps ≤ length all = omega (arith, count_of ps (m ∷ rs)) in
    subst (λ (x : Row). IsRowOf all n x) is
    (record {
      node = node_still ps all m.node grown inside ∙ sym at;
      within = within_more (length ps) (length all) m.node more inside;
      nullable = equal_bools m.nullable (is_nullable p) (first (is_equal m.nullable (is_nullable p)) (is_equal m.void (is_void p)) flags) ∙ ap is_nullable (sym at);
      void = equal_bools m.void (is_void p) (second (is_equal m.nullable (is_nullable p)) (is_equal m.void (is_void p)) flags) ∙ ap is_void (sym at);
    })
row_at ps (m ∷ rs) (suc i) n r place right there =
    let p = node_pattern ps m.node in
    row_at (ps ++ p ∷ []) rs i n r (omega (arith, place, length-append ps (p ∷ []))) (second (is_right ps m) (are_right (ps ++ p ∷ []) rs) right) there

-- one row more
pub one_more : (ps : List Pattern) (rs : List Row) (r : Row) → with_rows ps (rs ++ r ∷ []) ≡ with_rows ps rs ++ node_pattern (with_rows ps rs) r.node ∷ []
one_more ps [] r = refl
one_more ps (m ∷ rs) r = one_more (ps ++ node_pattern ps m.node ∷ []) rs r

pub right_more : (ps : List Pattern) (rs : List Row) (r : Row) → are_right ps rs ≡ true → is_right (with_rows ps rs) r ≡ true → are_right ps (rs ++ r ∷ []) ≡ true
right_more ps [] r h k = both (is_right ps r) true k refl
right_more ps (m ∷ rs) r h k =
    let qs = ps ++ node_pattern ps m.node ∷ [] in
    both (is_right ps m) (are_right qs (rs ++ r ∷ [])) (first (is_right ps m) (are_right qs rs) h) (right_more qs rs r (second (is_right ps m) (are_right qs rs) h) k)

pub right_row : (ps : List Pattern) (r : Row) → is_within (length ps) r.node ≡ true → r.nullable ≡ is_nullable (node_pattern ps r.node) → r.void ≡ is_void (node_pattern ps r.node) → is_right ps r ≡ true
right_row ps r h n v =
    both (is_within (length ps) r.node) _ h
    (both (is_equal r.nullable (is_nullable (node_pattern ps r.node))) (is_equal r.void (is_void (node_pattern ps r.node))) (bools_equal r.nullable _ n) (bools_equal r.void _ v))

-- each number has a row
pub no_row : (ps : List Pattern) (rs : List Row) (i : ℕ) → length ps + i < length (with_rows ps rs) → slice_get rs i ≡ None → ⊥
no_row ps [] i h e = omega (arith, h)
no_row ps (r ∷ rs) zero h e = absurd (cc)
no_row ps (r ∷ rs) (suc i) h e = let p = node_pattern ps r.node in no_row (ps ++ p ∷ []) rs i (omega (arith, h, length-append ps (p ∷ []))) e

pub has_row : (rs : List Row) (n : ℕ) (r : Row) (x : Node) → are_right [] rs ≡ true → slice_get rs n ≡ Some r → r.node ≡ x → HasPattern (with_rows [] rs) n (node_pattern (with_rows [] rs) x)
has_row rs n r x right there is =
    let ps = with_rows [] rs in
    let row = row_at [] rs n n r (omega arith) right there in
    record { within = omega (arith, slice_get_within rs n r there, count_of [] rs); is = sym row.node ∙ ap (node_pattern ps) is }

-- a row that was pushed, or was not
pub kept_right : (rs new : List Row) (r : Row) (b : Bool) → new ≡ (if b then rs ++ r ∷ [] else rs) → are_right [] rs ≡ true → is_right (with_rows [] rs) r ≡ true → are_right [] new ≡ true
kept_right rs new r true is right row = ap (are_right []) is ∙ right_more [] rs r right row
kept_right rs new r false is right row = ap (are_right []) is ∙ right

pub pushed_grows : (rs new : List Row) (r : Row) → new ≡ rs ++ r ∷ [] → IsGrown (with_rows [] rs) (with_rows [] new)
pushed_grows rs new r is = (_, ap (with_rows []) is ∙ one_more [] rs r)

pub pushed_has : (rs new : List Row) (r : Row) (n : ℕ) → n ≡ length rs → new ≡ rs ++ r ∷ [] → HasPattern (with_rows [] new) n (node_pattern (with_rows [] rs) r.node)
pushed_has rs new r n last is =
    let ps = with_rows [] rs in
    let p = node_pattern ps r.node in
    let all : with_rows [] new ≡ ps ++ p ∷ [] = ap (with_rows []) is ∙ one_more [] rs r in
    let place : n ≡ length ps = omega (arith, last, count_of [] rs) in
    let long = ap length all in
    record {
      within = omega (arith, place, long, length-append ps (p ∷ []));
      is = ap (λ (x : List Pattern). numbered x n) all ∙ ap (numbered (ps ++ p ∷ [])) place ∙ at_end ps p;
    }
