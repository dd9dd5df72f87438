-- After possible lines, the last block of each object and the last line of each pair are those of the configuration that the lines lead to.
use Rattle.std.proofs.Common.{◌≡◌, ◌≢◌, refl, sym, ap, ap₂, subst, ◌∙◌, ◌⊎◌, inl, inr, IsTrue, ℕ, ◌==◌, List, [], ◌∷◌, ◌++◌, Bool, true, false, ◌&&◌, cond, if◌then◌else◌, Option, Some, None, append_assoc, append-nil, codes, arith}
use Rattle.std.specs.Prelude.{MatchOption, option_map}
use Rattle.std.specs.Option.{option_or, unwrap_or}
use Rattle.std.specs.Ordering.{is_lt, nat_cmp}
use Rattle.std.specs.declared.cmp.Ordering.{Ordering}
use Rattle.std.specs.declared.cmp.Ordering.TheVariants.{Less, Equal, Greater}
use Rattle.std.specs.FinMap.{find, is_sorted}
use Rattle.std.specs.FinMap.Entries.{below_all}
use Rattle.text_scan.specs.Text.{Text}
use Rattle.run_types.specs.Message.{Message}
use Rattle.run_types.specs.Tables.{Pair, pair_cmp}
use Rattle.run_types.specs.declared.types.Label.{Label}
use Rattle.run_types.specs.declared.types.Line.{Line}
use Rattle.run_types.proofs.Laws.{decide, differ, equals, first, given_by, same_some, second, tied, tied_pair, untied, untied_pair}
use Rattle.pool_syntax.specs.Terms.{ProgramTree}
use Rattle.pool_relation.specs.Action.{Object}
use Rattle.pool_relation.specs.Configuration.{Configuration, messages_of, object_of, put_object}
use Rattle.pool_relation.specs.Transition.{last_class, run, start}
use Rattle.pool_relation.proofs.Laws.{Put, New, Old, put_cases, objects_in_order, messages_in_order}
use Rattle.mesh_semantics.specs.Record.{labels, labels_of}
use Rattle.term_text.specs.StateText.{block, mail_line}
use Rattle.term_text.specs.Watched.{line, told_line}
use Rattle.watch_laws.specs.Views.{IsOutside, objects_in, pair_in, seen, seen_mail}
use Rattle.watch_laws.specs.LastLines.{Part, Block, Mail, Other, ShowsLast, block_if, blocks_in, blocks_of, changed, followed_parts, if_block, if_mail, last_block, last_mail, last_of, mail_in, mails_of, watched_parts}
use Rattle.watch_laws.proofs.Kept.{messages_kept_by, objects_kept_by}
use Rattle.watch_laws.proofs.Split.{through}
use Rattle.watch_laws.proofs.Updates.{kept_by_run}

-- of two texts the first that is there
or_none : (a : Option Text) → option_or a None ≡ a
or_none None = refl
or_none (Some t) = refl

or_itself : (a : Option Text) → option_or a a ≡ a
or_itself None = refl
or_itself (Some t) = refl

or_three : (a b c : Option Text) → option_or (option_or a b) c ≡ option_or a (option_or b c)
or_three None b c = refl
or_three (Some t) b c = refl

last_both : (found : Part → Option Text) (xs ys : List Part) → last_of found (xs ++ ys) ≡ option_or (last_of found ys) (last_of found xs)
last_both found [] ys = sym (or_none (last_of found ys))
last_both found (x ∷ xs) ys = ap (λ t. option_or t (found x)) (last_both found xs ys) ∙ or_three (last_of found ys) (last_of found xs) (found x)

-- a key below the keys of a list is not found in it
missing : {K X : Type 0} (R : K → K → Ordering) (q : K) (es : List (K × X)) → IsTrue (below_all R q es) → find R q es ≡ None
missing R q [] h = refl
missing R q (e ∷ es) h = by (R q e.0) refl (missing R q es (second (is_lt (R q e.0)) (below_all R q es) h))
  where
    by : (r : Ordering) → R q e.0 ≡ r → find R q es ≡ None → find R q (e ∷ es) ≡ None
    by Less i k = rw i k
    by Equal i k = absurd (let t : (is_lt Equal && below_all R q es) ≡ true = rw i at h in grind (arith, t))
    by Greater i k = rw i k

and_false : (a b : Bool) → b ≡ false → (a && b) ≡ false
and_false true b i = i
and_false false b i = refl

-- two pairs are equal or not
pairs : (j k : Pair) → (j ≡ k) ⊎ ((j ≢ k) × ((j.0 == k.0 && j.1 == k.1) ≡ false))
pairs j k = by (decide j.0 k.0) (decide j.1 k.1)
  where
    by : (j.0 ≡ k.0) ⊎ (j.0 ≢ k.0) → (j.1 ≡ k.1) ⊎ (j.1 ≢ k.1) → (j ≡ k) ⊎ ((j ≢ k) × ((j.0 == k.0 && j.1 == k.1) ≡ false))
    by (inl e) (inl f) = inl (λ z. (e z, f z))
    by (inl e) (inr n) = inr (λ i. n (ap (λ (q : Pair). q.1) i), and_false (j.0 == k.0) (j.1 == k.1) (differ j.1 k.1 n))
    by (inr n) _ = inr (λ i. n (ap (λ (q : Pair). q.0) i), ap (λ b. b && (j.1 == k.1)) (differ j.0 k.0 n))

pair_itself : (k : Pair) → (k.0 == k.0 && k.1 == k.1) ≡ true
pair_itself k = ap₂ (λ a b. a && b) (equals k.0) (equals k.1)

-- the maps of a configuration are in order
abbrev InOrder : Configuration → Type 0
InOrder c = IsTrue (is_sorted nat_cmp c.objects) × IsTrue (is_sorted pair_cmp c.messages)

run_in_order : (p : ProgramTree) (c d : Configuration) (ls : List Label) → run p c ls ≡ Some d → InOrder c → InOrder d
run_in_order p c d ls e h =
    kept_by_run InOrder (λ z o x k. (objects_in_order z o x k.0, k.1)) (λ z s r ms k. (k.0, messages_in_order z s r ms k.1)) p c d ls e h

start_in_order : (p : ProgramTree) (n : ℕ) (c : Configuration) → start p n ≡ Some c → InOrder c
start_in_order p n c e = let a = given_by (last_class p) _ c e in subst InOrder (same_some a.2) (refl, refl)

-- no object is taken away
module _ (q : ℕ) where
  abbrev IsThere : Configuration → Type 0
  IsThere c = object_of c q ≢ None

  there_after : (p : ProgramTree) (c d : Configuration) (ls : List Label) → run p c ls ≡ Some d → IsThere c → IsThere d
  there_after p c d ls e h = kept_by_run IsThere (λ z o x k. put z o x k (put_cases z o x q)) (λ z s r ms k. k) p c d ls e h
    where
      put : (z : Configuration) (o : ℕ) (x : Object) → IsThere z → Put z o x q → IsThere (put_object z o x)
      put z o x k (New i e) = λ n. absurd (let both : Some x ≡ None = sym e ∙ n in cc)
      put z o x k (Old i e) = λ n. k (sym e ∙ n)

  absent_before : (p : ProgramTree) (c d : Configuration) (ls : List Label) → run p c ls ≡ Some d → object_of d q ≡ None → object_of c q ≡ None
  absent_before p c d ls e n = by (object_of c q) refl
    where
      by : (x : Option Object) → object_of c q ≡ x → object_of c q ≡ None
      by None i = i
      by (Some x) i = absurd (there_after p c d ls e (λ m. let both : Some x ≡ None = sym i ∙ m in cc) n)

module _ (names : List Text) (p : ProgramTree) where
  -- the blocks of a list of objects: of the first of them, and of all
  first_of_blocks : (o : ℕ) (e : ℕ × Object) (es : List (ℕ × Object)) → ((q : ℕ) → last_block q (blocks_of names p es) ≡ option_map (block names p q) (find nat_cmp q es))
      → IsTrue (below_all nat_cmp e.0 es) → last_block o (blocks_of names p (e ∷ es)) ≡ option_map (block names p o) (find nat_cmp o (e ∷ es))
  first_of_blocks o e es rest below = by (decide o e.0)
    where
      here : last_block e.0 (blocks_of names p (e ∷ es)) ≡ option_map (block names p e.0) (find nat_cmp e.0 (e ∷ es))
      here =
          ap (λ t. option_or t (if_block e.0 (Block e.0 (block names p e.0 e.1)))) (rest e.0 ∙ ap (option_map (block names p e.0)) (missing nat_cmp e.0 es below))
          ∙ ap (λ (b : Bool). if b then Some (block names p e.0 e.1) else None) (equals e.0)
          ∙ ap (λ (b : Bool). option_map (block names p e.0) (cond b (Some e.1) (find nat_cmp e.0 es))) (sym (tied e.0))

      by : (o ≡ e.0) ⊎ (o ≢ e.0) → last_block o (blocks_of names p (e ∷ es)) ≡ option_map (block names p o) (find nat_cmp o (e ∷ es))
      by (inl i) = subst (λ (q : ℕ). last_block q (blocks_of names p (e ∷ es)) ≡ option_map (block names p q) (find nat_cmp q (e ∷ es))) (sym i) here
      by (inr n) =
          ap (λ (b : Bool). option_or (last_block o (blocks_of names p es)) (if b then Some (block names p e.0 e.1) else None)) (differ o e.0 n)
          ∙ or_none (last_block o (blocks_of names p es))
          ∙ rest o
          ∙ ap (λ (b : Bool). option_map (block names p o) (cond b (Some e.1) (find nat_cmp o es))) (sym (untied o e.0 n))

  last_of_blocks : (o : ℕ) (es : List (ℕ × Object)) → IsTrue (is_sorted nat_cmp es) → last_block o (blocks_of names p es) ≡ option_map (block names p o) (find nat_cmp o es)
  last_of_blocks o [] h = refl
  last_of_blocks o (e ∷ es) h =
      first_of_blocks o e es (λ q. last_of_blocks q es (second (below_all nat_cmp e.0 es) (is_sorted nat_cmp es) h)) (first (below_all nat_cmp e.0 es) (is_sorted nat_cmp es) h)

  -- they are no lines of pairs, and those are no blocks
  no_mail : (s r : ℕ) (es : List (ℕ × Object)) → last_mail s r (blocks_of names p es) ≡ None
  no_mail s r [] = refl
  no_mail s r (e ∷ es) = ap (λ t. option_or t None) (no_mail s r es)

  no_block : (o : ℕ) (es : List (Pair × List Message)) → last_block o (mails_of names es) ≡ None
  no_block o [] = refl
  no_block o (e ∷ es) = ap (λ t. option_or t None) (no_block o es)

  -- the lines of a list of pairs
  first_of_mails : (k : Pair) (e : Pair × List Message) (es : List (Pair × List Message))
      → ((q : Pair) → last_mail q.0 q.1 (mails_of names es) ≡ option_map (mail_line names q.0 q.1) (find pair_cmp q es)) → IsTrue (below_all pair_cmp e.0 es)
      → last_mail k.0 k.1 (mails_of names (e ∷ es)) ≡ option_map (mail_line names k.0 k.1) (find pair_cmp k (e ∷ es))
  first_of_mails k e es rest below = by (pairs k e.0)
    where
      here : last_mail e.0.0 e.0.1 (mails_of names (e ∷ es)) ≡ option_map (mail_line names e.0.0 e.0.1) (find pair_cmp e.0 (e ∷ es))
      here =
          ap (λ t. option_or t (if_mail e.0.0 e.0.1 (Mail e.0.0 e.0.1 (mail_line names e.0.0 e.0.1 e.1))))
          (rest e.0 ∙ ap (option_map (mail_line names e.0.0 e.0.1)) (missing pair_cmp e.0 es below))
          ∙ ap (λ (b : Bool). if b then Some (mail_line names e.0.0 e.0.1 e.1) else None) (pair_itself e.0)
          ∙ ap (λ (b : Bool). option_map (mail_line names e.0.0 e.0.1) (cond b (Some e.1) (find pair_cmp e.0 es))) (sym (tied_pair e.0))

      by : (k ≡ e.0) ⊎ ((k ≢ e.0) × ((k.0 == e.0.0 && k.1 == e.0.1) ≡ false)) → last_mail k.0 k.1 (mails_of names (e ∷ es)) ≡ option_map (mail_line names k.0 k.1) (find pair_cmp k (e ∷ es))
      by (inl i) = subst (λ (q : Pair). last_mail q.0 q.1 (mails_of names (e ∷ es)) ≡ option_map (mail_line names q.0 q.1) (find pair_cmp q (e ∷ es))) (sym i) here
      by (inr (n, t)) =
          ap (λ (b : Bool). option_or (last_mail k.0 k.1 (mails_of names es)) (if b then Some (mail_line names e.0.0 e.0.1 e.1) else None)) t
          ∙ or_none (last_mail k.0 k.1 (mails_of names es))
          ∙ rest k
          ∙ ap (λ (b : Bool). option_map (mail_line names k.0 k.1) (cond b (Some e.1) (find pair_cmp k es))) (sym (untied_pair k e.0 n))

  last_of_mails : (k : Pair) (es : List (Pair × List Message)) → IsTrue (is_sorted pair_cmp es) → last_mail k.0 k.1 (mails_of names es) ≡ option_map (mail_line names k.0 k.1) (find pair_cmp k es)
  last_of_mails k [] h = refl
  last_of_mails k (e ∷ es) h =
      first_of_mails k e es (λ q. last_of_mails q es (second (below_all pair_cmp e.0 es) (is_sorted pair_cmp es) h)) (first (below_all pair_cmp e.0 es) (is_sorted pair_cmp es) h)

  -- a whole configuration
  module _ (c : Configuration) (t : Text) (h : InOrder c) where
    abbrev bs : List Part
    bs = blocks_of names p c.objects

    abbrev ms : List Part
    ms = mails_of names c.messages

    start_objects : (o : ℕ) → last_block o (Other t ∷ (bs ++ ms)) ≡ seen names p c o
    start_objects o =
        or_none (last_block o (bs ++ ms)) ∙ last_both (if_block o) bs ms ∙ ap (λ z. option_or z (last_block o bs)) (no_block o c.messages) ∙ last_of_blocks o c.objects h.0

    start_messages : (s r : ℕ) → MatchOption (last_mail s r (Other t ∷ (bs ++ ms))) (messages_of c s r ≡ []) (λ z. z ≡ seen_mail names c s r)
    start_messages s r =
        subst (λ (o : Option Text). MatchOption o (messages_of c s r ≡ []) (λ z. z ≡ seen_mail names c s r))
        (sym (or_none (last_mail s r (bs ++ ms)) ∙ last_both (if_mail s r) bs ms ∙ ap (option_or (last_mail s r ms)) (no_mail s r c.objects) ∙ or_none (last_mail s r ms) ∙ last_of_mails (s, r) c.messages h.1))
        (by (find pair_cmp (s, r) c.messages))
      where
        by : (o : Option (List Message)) → MatchOption (option_map (mail_line names s r) o) (unwrap_or o [] ≡ []) (λ z. z ≡ mail_line names s r (unwrap_or o []))
        by None = refl
        by (Some m) = refl

    start_shows : ShowsLast names p c (Other t ∷ (bs ++ ms))
    start_shows = record { objects = start_objects; messages = start_messages }

  -- the blocks of these objects: the last one of an object is that of the configuration, or the object is not among them
  module _ (d : Configuration) (o : ℕ) where
    own : (x : Option Object) → last_block o (block_if names p o x) ≡ option_map (block names p o) x
    own None = refl
    own (Some x) = ap (λ (b : Bool). if b then Some (block names p o x) else None) (equals o)

    foreign : (q : ℕ) (x : Option Object) → o ≢ q → last_block o (block_if names p q x) ≡ None
    foreign q None n = refl
    foreign q (Some x) n = ap (λ (b : Bool). if b then Some (block names p q x) else None) (differ o q n)

    last_in_blocks : (os : List ℕ) → (last_block o (blocks_in names p d os) ≡ seen names p d o) ⊎ ((last_block o (blocks_in names p d os) ≡ None) × IsOutside o os)
    last_in_blocks [] = inr (refl, tt)
    last_in_blocks (q ∷ qs) = by (decide o q) (last_in_blocks qs)
      where
        split : last_block o (blocks_in names p d (q ∷ qs)) ≡ option_or (last_block o (blocks_in names p d qs)) (last_block o (block_if names p q (object_of d q)))
        split = last_both (if_block o) (block_if names p q (object_of d q)) (blocks_in names p d qs)

        found : o ≡ q → last_block o (block_if names p q (object_of d q)) ≡ seen names p d o
        found i = subst (λ (k : ℕ). last_block o (block_if names p k (object_of d k)) ≡ seen names p d o) i (own (object_of d o))

        by : (o ≡ q) ⊎ (o ≢ q) → (last_block o (blocks_in names p d qs) ≡ seen names p d o) ⊎ ((last_block o (blocks_in names p d qs) ≡ None) × IsOutside o qs)
            → (last_block o (blocks_in names p d (q ∷ qs)) ≡ seen names p d o) ⊎ ((last_block o (blocks_in names p d (q ∷ qs)) ≡ None) × IsOutside o (q ∷ qs))
        by (inl i) (inl e) = inl (split ∙ ap₂ option_or e (found i) ∙ or_itself (seen names p d o))
        by (inl i) (inr (e, w)) = inl (split ∙ ap₂ option_or e (found i))
        by (inr n) (inl e) = inl (split ∙ ap₂ option_or e (foreign q (object_of d q) n) ∙ or_none (seen names p d o))
        by (inr n) (inr (e, w)) = inr (split ∙ ap₂ option_or e (foreign q (object_of d q) n), (n, w))

  no_mail_in : (s r : ℕ) (d : Configuration) (os : List ℕ) → last_mail s r (blocks_in names p d os) ≡ None
  no_mail_in s r d [] = refl
  no_mail_in s r d (o ∷ os) = last_both (if_mail s r) (block_if names p o (object_of d o)) (blocks_in names p d os) ∙ ap₂ option_or (no_mail_in s r d os) (by (object_of d o))
    where
      by : (x : Option Object) → last_mail s r (block_if names p o x) ≡ None
      by None = refl
      by (Some x) = refl

  no_block_in : (o : ℕ) (d : Configuration) (q : Option Pair) → last_block o (mail_in names d q) ≡ None
  no_block_in o d None = refl
  no_block_in o d (Some q) = refl

  -- the line of a pair
  last_in_mail : (d : Configuration) (s r : ℕ) (q : Option Pair)
      → (last_mail s r (mail_in names d q) ≡ Some (seen_mail names d s r)) ⊎ ((last_mail s r (mail_in names d q) ≡ None) × (q ≡ Some (s, r) → ⊥))
  last_in_mail d s r None = inr (refl, λ i. absurd (grind (arith, i)))
  last_in_mail d s r (Some q) = by (pairs (s, r) q)
    where
      by : ((s, r) ≡ q) ⊎ (((s, r) ≢ q) × ((s == q.0 && r == q.1) ≡ false))
          → (last_mail s r (mail_in names d (Some q)) ≡ Some (seen_mail names d s r)) ⊎ ((last_mail s r (mail_in names d (Some q)) ≡ None) × (Some q ≡ Some (s, r) → ⊥))
      by (inl i) =
          inl (subst (λ (k : Pair). last_mail s r (mail_in names d (Some k)) ≡ Some (seen_mail names d s r)) i
          (ap (λ (b : Bool). if b then Some (seen_mail names d s r) else None) (pair_itself (s, r))))
      by (inr (n, t)) =
          inr (ap (λ (b : Bool). if b then Some (mail_line names q.0 q.1 (messages_of d q.0 q.1)) else None) t, λ i. n (sym (same_some i)))

  -- one line
  module _ (c d : Configuration) (l : Line) (xs : List Part) (h : ShowsLast names p c xs) (e : run p c (labels_of l) ≡ Some d) where
    abbrev ys : List Part
    ys = Other (told_line names l) ∷ changed names p l d

    line_objects : (o : ℕ) → last_block o (xs ++ ys) ≡ seen names p d o
    line_objects o =
        last_both (if_block o) xs ys
        ∙ ap₂ option_or
        (or_none (last_block o (changed names p l d))
        ∙ last_both (if_block o) (blocks_in names p d (objects_in l)) (mail_in names d (pair_in l))
        ∙ ap (λ t. option_or t (last_block o (blocks_in names p d (objects_in l)))) (no_block_in o d (pair_in l)))
        (h.objects o)
        ∙ by (last_in_blocks d o (objects_in l))
      where
        present : (a b : Option Object) → (a ≡ None → b ≡ None) → option_or (option_map (block names p o) a) (option_map (block names p o) b) ≡ option_map (block names p o) a
        present None b k = ap (option_map (block names p o)) (k refl)
        present (Some x) b k = refl

        by : (last_block o (blocks_in names p d (objects_in l)) ≡ seen names p d o) ⊎ ((last_block o (blocks_in names p d (objects_in l)) ≡ None) × IsOutside o (objects_in l))
            → option_or (last_block o (blocks_in names p d (objects_in l))) (seen names p c o) ≡ seen names p d o
        by (inl i) = ap (λ t. option_or t (seen names p c o)) i ∙ present (object_of d o) (object_of c o) (absent_before o p c d (labels_of l) e)
        by (inr (n, w)) = ap (λ t. option_or t (seen names p c o)) n ∙ ap (option_map (block names p o)) (sym (objects_kept_by p c d l o e w))

    abbrev Shown : ℕ → ℕ → Option Text → Type 0
    Shown s r o = MatchOption o (messages_of d s r ≡ []) (λ t. t ≡ seen_mail names d s r)

    line_messages : (s r : ℕ) → MatchOption (last_mail s r (xs ++ ys)) (messages_of d s r ≡ []) (λ t. t ≡ seen_mail names d s r)
    line_messages s r = by (last_in_mail d s r (pair_in l))
      where
        is : last_mail s r (xs ++ ys) ≡ option_or (last_mail s r (mail_in names d (pair_in l))) (last_mail s r xs)
        is =
            last_both (if_mail s r) xs ys
            ∙ ap (λ t. option_or t (last_mail s r xs))
            (or_none (last_mail s r (changed names p l d))
            ∙ last_both (if_mail s r) (blocks_in names p d (objects_in l)) (mail_in names d (pair_in l))
            ∙ ap (option_or (last_mail s r (mail_in names d (pair_in l)))) (no_mail_in s r d (objects_in l))
            ∙ or_none (last_mail s r (mail_in names d (pair_in l))))

        by : (last_mail s r (mail_in names d (pair_in l)) ≡ Some (seen_mail names d s r)) ⊎ ((last_mail s r (mail_in names d (pair_in l)) ≡ None) × (pair_in l ≡ Some (s, r) → ⊥))
            → Shown s r (last_mail s r (xs ++ ys))
        by (inl i) = subst (Shown s r) (sym (is ∙ ap (λ t. option_or t (last_mail s r xs)) i)) refl
        by (inr (n, k)) =
            subst (Shown s r) (sym (is ∙ ap (λ t. option_or t (last_mail s r xs)) n))
            (subst (λ (ms : List Message). MatchOption (last_mail s r xs) (ms ≡ []) (λ t. t ≡ mail_line names s r ms)) (sym (messages_kept_by p c d l s r e k)) (h.messages s r))

    line_shows : ShowsLast names p d (xs ++ ys)
    line_shows = record { objects = line_objects; messages = line_messages }

  lines_show : (c d : Configuration) (ls : List Line) (xs : List Part) → ShowsLast names p c xs → run p c (labels ls) ≡ Some d → ShowsLast names p d (xs ++ followed_parts names p c ls)
  lines_show c d [] xs h e = subst (λ (ys : List Part). ShowsLast names p d ys) (sym (append-nil xs)) (subst (λ (z : Configuration). ShowsLast names p z xs) (same_some e) h)
  lines_show c d (l ∷ ls) xs h e =
      let a = through p c d (labels_of l) (labels ls) e in
      let head = Other (told_line names l) in
      let shown = changed names p l a.0 in
      let is : followed_parts names p c (l ∷ ls) ≡ head ∷ (shown ++ followed_parts names p a.0 ls) = rw a.1 refl in
      subst (λ (ys : List Part). ShowsLast names p d ys) (append_assoc xs (head ∷ shown) (followed_parts names p a.0 ls) ∙ ap (λ ys. xs ++ ys) (sym is))
      (lines_show a.0 d ls (xs ++ head ∷ shown) (line_shows c a.0 l xs h a.1) a.2)

  pub watched_shows : (n : ℕ) (from c d : Configuration) (before : List Label) (ls : List Line) → start p n ≡ Some from → run p from before ≡ Some c → run p c (labels ls) ≡ Some d
      → ShowsLast names p d (watched_parts names p c ls)
  watched_shows n from c d before ls begins leads e =
      lines_show c d ls _ (start_shows c (line (codes "watch" ∷ [])) (run_in_order p from c before leads (start_in_order p n from begins))) e
