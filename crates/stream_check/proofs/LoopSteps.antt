-- The loops of the code, one step on.
use Rattle.std.proofs.Common.{◌≡◌, ◌⊎◌, inl, inr, refl, sym, ap, subst, ◌∙◌, ℕ, ◌+◌, ◌-◌, ◌<◌, ◌≤◌, zero, suc, length, get_or, take, drop, arith, List, [], ◌∷◌, ◌++◌, None, true, false, append_assoc}
use Rattle.std.proofs.lemmas.List.{at_drop_more, length-drop, take_all}
use Rattle.run_types.specs.declared.types.Label.TheVariants as L
use Rattle.run_types.specs.declared.types.End.{End}
use Rattle.run_types.specs.declared.types.Line.{Line}
use Rattle.run_types.specs.declared.types.Line.TheVariants as R
use Rattle.pool_syntax.specs.Terms.{ProgramTree}
use Rattle.pool_relation.specs.Transition.{transition}
use Rattle.pool_semantics.specs.PlainOf.{configuration_of, program_tree}
use Rattle.stream_check.specs.declared.filling.Filling.{Filling}
use Rattle.stream_check.specs.Filled.{without_local, without_local_of}
use Rattle.stream_check.specs.Filled.{shows_local}
use Rattle.stream_check.specs.FillProgress.{AreFillsOf, Copies, Fills, Follows, IsAmong, Passes, Settles, Settling, number_after, renumbered}
use Rattle.stream_check.proofs.FilledPlaces.{fills_more, fills_weaker, own_more, own_renumbered}
use Rattle.mesh_semantics.specs.Record.{EndsOnce}
use Rattle.stream_check.proofs.GrownLines.{adds_line, adds_more, grows_more, grows_none, passes_more, passes_none}
use Rattle.stream_check.proofs.KeptLines.{local_gone, none_behind}

-- the rest of a list begins with the next item
rest_is : {A : Type 0} (xs : List A) (i : ℕ) (x : A) → i < length xs → x ≡ get_or xs i x → drop i xs ≡ x ∷ drop (i + 1) xs
rest_is xs i x inside at = at_drop_more (λ ys. ys) xs i x inside ∙ ap (λ y. y ∷ drop (i + 1) xs) (sym at)

-- what a slice to the end holds
pub rest_of : {A : Type 0} (xs : List A) (k : ℕ) → take (length xs - k) (drop k xs) ≡ drop k xs
rest_of xs k = take_all (length xs - k) (drop k xs) (omega (arith, length-drop k xs))

-- lines are copied
copies_at : (ls : List Line) (i : ℕ) (l : Line) (f g : Filling) → i < length ls → l ≡ get_or ls i l → Copies ls (drop i ls) f g → Copies ls (l ∷ drop (i + 1) ls) f g
copies_at ls i l f g inside at c = subst (λ (rest : List Line). Copies ls rest f g) (rest_is ls i l inside at) c

pub copies_more : (ls : List Line) (i : ℕ) (l : Line) (f g h : Filling) → i < length ls → l ≡ get_or ls i l → Copies ls (drop i ls) f g → shows_local l ≡ false → h.plain ≡ g.plain
    → h.lines ≡ g.lines ++ renumbered g.last l ∷ [] → h.last ≡ number_after g.last l → Copies ls (drop (i + 1) ls) f h
copies_more ls i l f g h inside at begun own plain lines last =
    let rest = drop (i + 1) ls in
    let c = copies_at ls i l f g inside at begun in
    let added = renumbered g.last l ∷ [] in
    let a = adds_line g h l lines last in
    record {
      plain = plain ∙ c.plain;
      added = c.added ++ added;
      kept = c.kept ++ without_local_of l;
      adds = adds_more f g h c.added added c.kept (without_local_of l) c.adds a;
      own = own_more c.added added c.own (own_renumbered g.last l own, tt);
      all = append_assoc c.kept (without_local_of l) (without_local rest) ∙ c.all;
    }

pub copies_past : (ls : List Line) (i : ℕ) (l : Line) (f g : Filling) → i < length ls → l ≡ get_or ls i l → Copies ls (drop i ls) f g → shows_local l ≡ true → Copies ls (drop (i + 1) ls) f g
copies_past ls i l f g inside at begun past =
    let rest = drop (i + 1) ls in
    let c = copies_at ls i l f g inside at begun in
    let gone = local_gone l past in
    record { plain = c.plain; added = c.added; kept = c.kept; adds = c.adds; own = c.own; all = ap (λ xs. c.kept ++ (xs ++ without_local rest)) (sym gone) ∙ c.all }

-- objects are brought to rest
pub settling_first : (os : List ℕ) (f : Filling) → ((q : ℕ) → (transition (program_tree f.plain) (configuration_of f.plain) (L.Local q) ≡ None) ⊎ IsAmong q os) → Settling os f f
settling_first os f rests = record { grows = grows_none f; fills = tt; rests = rests }

all_fills : (o : ℕ) (xs ys : List Line) → AreFillsOf (λ q. Unit {0}) xs → AreFillsOf (λ q. q ≡ o) ys → AreFillsOf (λ q. Unit {0}) (xs ++ ys)
all_fills o xs ys a b = fills_more (λ q. Unit {0}) xs ys a (fills_weaker (λ q. q ≡ o) (λ q. Unit {0}) (λ q e. tt) ys b)

settling_past : (o : ℕ) (os : List ℕ) (f g h : Filling) → Settling (o ∷ os) f g → Fills g h o false → Settling os f h
settling_past o os f g h s a = record { grows = grows_more f g h [] [] s.grows a.grows; fills = all_fills o s.grows.added a.grows.added s.fills a.fills; rests = λ q. by q (s.rests q) }
  where
    to : (q : ℕ) → transition (program_tree g.plain) (configuration_of h.plain) (L.Local q) ≡ None → transition (program_tree f.plain) (configuration_of h.plain) (L.Local q) ≡ None
    to q n = subst (λ (p : ProgramTree). transition p (configuration_of h.plain) (L.Local q) ≡ None) s.grows.program n

    by : (q : ℕ) → (transition (program_tree f.plain) (configuration_of g.plain) (L.Local q) ≡ None) ⊎ IsAmong q (o ∷ os) → (transition (program_tree f.plain) (configuration_of h.plain) (L.Local q) ≡ None) ⊎ IsAmong q os
    by q (inl n) = inl (to q (a.keeps q (subst (λ (p : ProgramTree). transition p (configuration_of g.plain) (L.Local q) ≡ None) (sym s.grows.program) n)))
    by q (inr (inl e)) = inl (to q (subst (λ (k : ℕ). transition (program_tree g.plain) (configuration_of h.plain) (L.Local k) ≡ None) (sym e) (a.rests refl)))
    by q (inr (inr i)) = inr i

pub settling_more : (os : List ℕ) (i : ℕ) (f g h : Filling) → i < length os → Settling (drop i os) f g → Fills g h (get_or os i 0) false → Settling (drop (i + 1) os) f h
settling_more os i f g h inside s a =
    settling_past (get_or os i 0) (drop (i + 1) os) f g h (subst (λ (rest : List ℕ). Settling rest f g) (at_drop_more (λ ys. ys) os i 0 inside) s) a

pub settled_full : (os : List ℕ) (o : ℕ) (f g h : Filling) → Settling os f g → Fills g h o true → Settles f h
settled_full os o f g h s a = record { grows = grows_more f g h [] [] s.grows a.grows; fills = all_fills o s.grows.added a.grows.added s.fills a.fills; rests = inr (o, a.full refl) }

settled_none : (f g : Filling) → Settling [] f g → Settles f g
settled_none f g s = record { grows = s.grows; fills = s.fills; rests = inl (λ q. by q (s.rests q)) }
  where
    by : (q : ℕ) → (transition (program_tree f.plain) (configuration_of g.plain) (L.Local q) ≡ None) ⊎ IsAmong q [] → transition (program_tree f.plain) (configuration_of g.plain) (L.Local q) ≡ None
    by q (inl n) = n
    by q (inr n) = absurd n

drop_all : {A : Type 0} (xs : List A) (i : ℕ) → length xs ≤ i → drop i xs ≡ []
drop_all [] zero h = refl
drop_all [] (suc i) h = refl
drop_all (x ∷ xs) zero h = absurd (omega (arith, h))
drop_all (x ∷ xs) (suc i) h = drop_all xs i (omega (arith, h))

pub settled_all : (os : List ℕ) (i : ℕ) (f g : Filling) → length os ≤ i → Settling (drop i os) f g → Settles f g
settled_all os i f g past s = settled_none f g (subst (λ (rest : List ℕ). Settling rest f g) (drop_all os i past) s)

-- lines are filled
pub follows_first : (ls : List Line) (f : Filling) → EndsOnce ls → Follows ls (drop 0 ls) f f
follows_first ls f ends = record { kept = []; passes = passes_none f; all = refl; ends = ends; quiet = refl }

pub follows_at : (ls : List Line) (i : ℕ) (l : Line) (f g : Filling) → i < length ls → l ≡ get_or ls i l → Follows ls (drop i ls) f g → Follows ls (l ∷ drop (i + 1) ls) f g
follows_at ls i l f g inside at s = subst (λ (rest : List Line). Follows ls rest f g) (rest_is ls i l inside at) s

follows_past : (l : Line) (ls rest : List Line) (f g h : Filling) → ((e : End) → l ≡ R.End e → ⊥) → Follows ls (l ∷ rest) f g → Passes g h (without_local_of l) → Follows ls rest f h
follows_past (R.End e) ls rest f g h event s a = absurd (event e refl)
follows_past (R.Event n e what) ls rest f g h event s a =
    let l = R.Event n e what in
    record {
      kept = s.kept ++ without_local_of l;
      passes = passes_more f g h s.kept (without_local_of l) s.passes a;
      all = append_assoc s.kept (without_local_of l) (without_local rest) ∙ s.all;
      ends = s.ends;
      quiet = s.quiet;
    }

pub follows_more : (ls : List Line) (i : ℕ) (l : Line) (f g h : Filling) → i < length ls → l ≡ get_or ls i l → ((e : End) → l ≡ R.End e → ⊥) → Follows ls (drop i ls) f g → Passes g h (without_local_of l)
    → Follows ls (drop (i + 1) ls) f h
follows_more ls i l f g h inside at event s a = follows_past l ls (drop (i + 1) ls) f g h event (follows_at ls i l f g inside at s) a

-- the end line is the last
pub follows_end : (ls : List Line) (i : ℕ) (l : Line) (end : End) (f g : Filling) → i < length ls → l ≡ get_or ls i l → l ≡ R.End end → Follows ls (drop i ls) f g → Follows ls (R.End end ∷ []) f g
follows_end ls i l end f g inside at is s =
    let t : Follows ls (R.End end ∷ drop (i + 1) ls) f g = subst (λ (x : Line). Follows ls (x ∷ drop (i + 1) ls) f g) is (follows_at ls i l f g inside at s) in
    subst (λ (rest : List Line). Follows ls (R.End end ∷ rest) f g) (none_behind end (drop (i + 1) ls) t.ends) t
