-- For each pair of nodes, the values that have left the links are a prefix of those that entered.
use Rattle.std.proofs.Common.{◌≡◌, ◌≢◌, inl, refl, sym, ap, ap₂, subst, ◌∙◌, ℕ, ◌*◌, ◌<◌, ◌==◌, List, [], ◌∷◌, ◌++◌, append_assoc, append-nil, Option, Some, None, Bool, true, false, ◌&&◌, arith}
use Rattle.std.proofs.lemmas.Grind.{flat_map-append}
use Rattle.run_types.specs.declared.types.Placement.{Placement}
use Rattle.run_types.specs.Tables.{Pair, Each}
use Rattle.run_types.proofs.Laws.{first, second, equal, equals, each_append}
use Rattle.run_types.specs.Paths.{next, path, is_link, on_link, put_last, move_head, along}
use Rattle.mesh_semantics.specs.Act.{first_of}
use Rattle.mesh_semantics.specs.Sound.{Has}
use Rattle.run_types.specs.PathFacts.{Ways}
use Rattle.mesh_semantics.specs.Traffic.{Load, Change, Enter, Move, traffic, no_traffic, of_pair, between, Inside}
use Rattle.mesh_semantics.specs.Wire.{IsPrefix}
use Rattle.mesh_semantics.proofs.FlatTraffic.{Flat, goes_on, moved_on, happens, flat, no_flat, all_alike}
use Rattle.mesh_semantics.proofs.QuietIsFinal.{none_along}
use Rattle.mesh_semantics.proofs.PathTraffic.{Apart, IsLast, Follows, put_nothing, move_nothing, entered, left, gone_on, apart, Where, End, Before, where_is, second_there, Begins, begins}
use Rattle.mesh_semantics.proofs.ObjectChange.{each_without, each_head}

-- a load of the pair, or not
data Pairs {X : Type 0} (a b : ℕ) (x : Load X) : Type 0 where
  Theirs : x.from ≡ a → x.to ≡ b → of_pair a b x ≡ x ∷ [] → Pairs a b x
  Other : of_pair a b x ≡ [] → Pairs a b x

pairs : {X : Type 0} (a b : ℕ) (x : Load X) → Pairs a b x
pairs a b x = by (x.from == a && x.to == b) refl
  where
    by : (t : Bool) → (x.from == a && x.to == b) ≡ t → Pairs a b x
    by true e = Theirs (equal x.from a (first (x.from == a) (x.to == b) e)) (equal x.to b (second (x.from == a) (x.to == b) e)) (rw e refl)
    by false e = Other (rw e refl)

steps : (l : Placement) (w : Ways l) (a b : ℕ) → a < l.width * l.height → b < l.width * l.height → Apart (path l a b)
steps l w a b p q = apart (next l) b a (path l a b) (w.leads a b p q) (w.once a b p q)

module _ {X : Type 0} (l : Placement) (w : Ways l) where
  -- a load lies on the path between its nodes
  record Lies (e : Pair × Load X) : Type 0 where
    from : e.1.from < l.width * l.height
    to : e.1.to < l.width * l.height
    on : Has (path l e.1.from e.1.to) e.0

  record Kept (t : Flat X) : Type 0 where
    lies : Each Lies t.links
    order : (a b : ℕ) → a < l.width * l.height → b < l.width * l.height → between a b t.left ++ along (of_pair a b) t.links (path l a b) ≡ between a b t.entered

  enter_kept : (t : Flat X) (c d : ℕ) (v : X) → Kept t → c < l.width * l.height → d < l.width * l.height → Kept (happens l t (Enter c d v))
  enter_kept t c d v k p q = by (c == d) refl
    where
      x : Load X
      x = record { from = c; to = d; value = v }

      by : (b : Bool) → (c == d) ≡ b → Kept (happens l t (Enter c d v))
      by true e = rw e k
      by false e = rw e (record {
        lies = each_append Lies t.links ((c, next l c d), record { from = c; to = d; value = v }) k.lies (record { from = p; to = q; on = rw start.is (inl refl) });
        order = λ a b i j. ordered a b i j (pairs a b (record { from = c; to = d; value = v }));
      })
        where
          far : c ≢ d
          far s = absurd (let z : (c == d) ≡ true = rw s (equals d) in grind (arith, e, z))

          start : Begins l c d
          start = begins l w c d p q far

          ordered : (a b : ℕ) → a < l.width * l.height → b < l.width * l.height → Pairs a b (record { from = c; to = d; value = v })
              → between a b t.left ++ along (of_pair a b) (put_last (c, next l c d) (record { from = c; to = d; value = v }) t.links) (path l a b)
              ≡ between a b (t.entered ++ record { from = c; to = d; value = v } ∷ [])
          ordered a b i j (Other n) =
              ap (λ ys. between a b t.left ++ ys) (put_nothing (of_pair a b) t.links (c, next l c d) (record { from = c; to = d; value = v }) (path l a b) n)
              ∙ k.order a b i j ∙ sym (flat_map-append (of_pair a b) t.entered (record { from = c; to = d; value = v } ∷ []) ∙ ap (λ ys. between a b t.entered ++ ys) (rw n refl) ∙ append-nil (between a b t.entered))
          ordered a b i j (Theirs f g n) =
              let is : path l a b ≡ (c, next l c d) ∷ start.rest = ap₂ (path l) (sym f) (sym g) ∙ start.is in
              let ent = entered (of_pair a b) t.links (c, next l c d) (record { from = c; to = d; value = v }) start.rest (subst Apart is (steps l w a b i j)) in
              ap (λ ks. between a b t.left ++ along (of_pair a b) (put_last (c, next l c d) (record { from = c; to = d; value = v }) t.links) ks) is
              ∙ ap (λ ys. between a b t.left ++ ys) ent
              ∙ ap (λ ks. between a b t.left ++ (along (of_pair a b) t.links ks ++ of_pair a b (record { from = c; to = d; value = v }))) (sym is)
              ∙ sym (append_assoc (between a b t.left) (along (of_pair a b) t.links (path l a b)) (of_pair a b (record { from = c; to = d; value = v })))
              ∙ ap (λ ys. ys ++ of_pair a b (record { from = c; to = d; value = v })) (k.order a b i j)
              ∙ sym (flat_map-append (of_pair a b) t.entered (record { from = c; to = d; value = v } ∷ []) ∙ ap (λ ys. between a b t.entered ++ ys) (append-nil (of_pair a b (record { from = c; to = d; value = v }))))

  move_kept : (t : Flat X) (m : Pair) → Kept t → Kept (happens l t (Move m))
  move_kept t m k = by (first_of (on_link t.links m)) refl
    where
      by : (f : Option (Load X)) → first_of (on_link t.links m) ≡ f → Kept (moved_on l t m f)
      by None h = k
      by (Some x) h = at (x.to == m.1) refl
        where
          lies : Lies (m, x)
          lies = each_head Lies m t.links x h k.lies

          left_lies : Each Lies (move_head m t.links)
          left_lies = each_without Lies (λ e. is_link m.0 m.1 e.0) t.links k.lies

          place : Where (next l) x.to (path l x.from x.to) m
          place = (where_is (next l) x.to x.from (path l x.from x.to) m (w.leads x.from x.to lies.from lies.to) lies.on).2

          at : (b : Bool) → (x.to == m.1) ≡ b → Kept (goes_on l t m x)
          at true e = rw e (record { lies = left_lies; order = λ a b i j. ordered a b i j (pairs a b x) })
            where
              here : x.to ≡ m.1
              here = equal x.to m.1 e

              ordered : (a b : ℕ) → a < l.width * l.height → b < l.width * l.height → Pairs a b x
                  → between a b (t.left ++ x ∷ []) ++ along (of_pair a b) (move_head m t.links) (path l a b) ≡ between a b t.entered
              ordered a b i j (Other n) =
                  ap₂ ◌++◌ (flat_map-append (of_pair a b) t.left (x ∷ []) ∙ ap (λ ys. between a b t.left ++ ys) (rw n refl) ∙ append-nil (between a b t.left))
                  (move_nothing (of_pair a b) t.links m x (path l a b) h n) ∙ k.order a b i j
              ordered a b i j (Theirs f g n) =
                  let last : IsLast (path l a b) m = subst (λ q. IsLast (path l q b) m) f (subst (λ q. IsLast (path l x.from q) m) g (ends place)) in
                  ap (λ ys. ys ++ along (of_pair a b) (move_head m t.links) (path l a b)) (flat_map-append (of_pair a b) t.left (x ∷ []) ∙ ap (λ ys. between a b t.left ++ ys) (append-nil (of_pair a b x)))
                  ∙ append_assoc (between a b t.left) (of_pair a b x) (along (of_pair a b) (move_head m t.links) (path l a b))
                  ∙ ap (λ ys. between a b t.left ++ ys) (sym (left (of_pair a b) t.links m x (path l a b) (steps l w a b i j) last h))
                  ∙ k.order a b i j
                where
                  ends : Where (next l) x.to (path l x.from x.to) m → IsLast (path l x.from x.to) m
                  ends (End u v) = v
                  ends (Before u v) = absurd (u (sym here))
          at false e = rw e (record {
            lies = each_append Lies (move_head m t.links) ((m.1, next l m.1 x.to), x) left_lies (record { from = lies.from; to = lies.to; on = second_there (path l x.from x.to) m (m.1, next l m.1 x.to) (follows place) });
            order = λ a b i j. ordered a b i j (pairs a b x);
          })
            where
              follows : Where (next l) x.to (path l x.from x.to) m → Follows (path l x.from x.to) m (m.1, next l m.1 x.to)
              follows (End u v) = absurd (let z : (x.to == m.1) ≡ true = rw u (equals x.to) in grind (arith, e, z))
              follows (Before u v) = v

              ordered : (a b : ℕ) → a < l.width * l.height → b < l.width * l.height → Pairs a b x
                  → between a b t.left ++ along (of_pair a b) (put_last (m.1, next l m.1 x.to) x (move_head m t.links)) (path l a b) ≡ between a b t.entered
              ordered a b i j (Other n) =
                  ap (λ ys. between a b t.left ++ ys) (put_nothing (of_pair a b) (move_head m t.links) (m.1, next l m.1 x.to) x (path l a b) n ∙ move_nothing (of_pair a b) t.links m x (path l a b) h n) ∙ k.order a b i j
              ordered a b i j (Theirs f g n) =
                  let after : Follows (path l a b) m (m.1, next l m.1 x.to) = subst (λ q. Follows (path l q b) m (m.1, next l m.1 x.to)) f (subst (λ q. Follows (path l x.from q) m (m.1, next l m.1 x.to)) g (follows place)) in
                  ap (λ ys. between a b t.left ++ ys) (gone_on (of_pair a b) t.links m (m.1, next l m.1 x.to) x (path l a b) (steps l w a b i j) after h) ∙ k.order a b i j

  all_kept : (t : Flat X) (es : List (Change X)) → Kept t → Inside l es → Kept (flat l t es)
  all_kept t [] k i = k
  all_kept t (Enter a b v ∷ es) k i = all_kept (happens l t (Enter a b v)) es (enter_kept t a b v k i.0 i.1) i.2
  all_kept t (Move m ∷ es) k i = all_kept (happens l t (Move m)) es (move_kept t m k) i

  in_flat_order : (es : List (Change X)) → Inside l es → (a b : ℕ) → a < l.width * l.height → b < l.width * l.height
      → IsPrefix (between a b (flat l no_flat es).left) (between a b (flat l no_flat es).entered)
  in_flat_order es i a b p q =
      let k = all_kept no_flat es (record { lies = tt; order = λ a b i j. none_along (of_pair a b) (path l a b) }) i in
      (along (of_pair a b) (flat l no_flat es).links (path l a b), k.order a b p q)

  pub in_order : (es : List (Change X)) → Inside l es → (a b : ℕ) → a < l.width * l.height → b < l.width * l.height
      → IsPrefix (between a b (traffic l no_traffic es).left) (between a b (traffic l no_traffic es).entered)
  in_order es i a b p q =
      let k = all_alike l es no_traffic no_flat (record { links = λ j. refl; entered = refl; left = refl }) in
      let r = in_flat_order es i a b p q in
      (r.0, ap (λ xs. between a b xs ++ r.0) k.left ∙ r.1 ∙ ap (between a b) (sym k.entered))
