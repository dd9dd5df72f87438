-- What a reader of signs has read, while its table grows.
use Rattle.std.proofs.Common.{◌≡◌, refl, sym, ap, ap₂, ◌∙◌, subst, ℕ, zero, suc, ◌<◌, List, [], ◌∷◌, ◌++◌, length, map, drop, get_or, arith}
use Rattle.std.specs.Prelude.{reverse}
use Rattle.std.proofs.lemmas.List.{reverse-append, map-append}
use Rattle.run_types.specs.Tables.{Each}
use Rattle.run_types.proofs.Laws.{each_append}
use Rattle.patterns.specs.Patterns.{Pattern}
use Rattle.patterns.specs.Rows.{numbered, IsGrown, HasPattern}
use Rattle.patterns.specs.Meaning.{Behind, Reading, IsLevel, Stands, before, before_here, behind, empty, meaning, opened, reading, whole, with_part}
use Rattle.patterns.specs.Readers.{HasRead, reading_of}
use Rattle.patterns.specs.declared.level.Reader.{Reader}
use Rattle.patterns.specs.declared.level.Level.{Level}
use Rattle.patterns.specs.declared.sign.Sign.{Sign}
use Rattle.patterns.specs.declared.sign.Sign.TheVariants as S
use Rattle.patterns.specs.declared.sign.Times.{Times}
use Rattle.patterns.proofs.RowFacts.{grown_still, grown_within}

-- levels in a table that grew
abbrev made : Times → Pattern → Pattern → Pattern → Behind
made t x y z = record { times = t; series = x; beside = y; others = z }

pub level_still : (a b : List Pattern) (l : Level) → IsGrown a b → IsLevel a l → behind b l ≡ behind a l
level_still a b l g h =
    ap (λ x. made l.times x (numbered b l.beside) (numbered b l.others)) (grown_still a b l.series g h.series)
    ∙ ap (λ y. made l.times (numbered a l.series) y (numbered b l.others)) (grown_still a b l.beside g h.beside)
    ∙ ap (λ z. made l.times (numbered a l.series) (numbered a l.beside) z) (grown_still a b l.others g h.others)

pub level_within : (a b : List Pattern) (l : Level) → IsGrown a b → IsLevel a l → IsLevel b l
level_within a b l g h = record { series = grown_within a b l.series g h.series; beside = grown_within a b l.beside g h.beside; others = grown_within a b l.others g h.others }

pub levels_still : (a b : List Pattern) (ls : List Level) → IsGrown a b → Each (IsLevel a) ls → map (behind b) ls ≡ map (behind a) ls
levels_still a b [] g h = refl
levels_still a b (l ∷ ls) g h = ap₂ (λ (x : Behind) (xs : List Behind). x ∷ xs) (level_still a b l g h.0) (levels_still a b ls g h.1)

pub levels_within : (a b : List Pattern) (ls : List Level) → IsGrown a b → Each (IsLevel a) ls → Each (IsLevel b) ls
levels_within a b [] g h = tt
levels_within a b (l ∷ ls) g h = (level_within a b l g h.0, levels_within a b ls g h.1)

-- the last one of levels
pub each_front : (P : Level → Type 0) (ls : List Level) (l : Level) → Each P (ls ++ l ∷ []) → Each P ls
each_front P [] l h = tt
each_front P (m ∷ ls) l h = (h.0, each_front P ls l h.1)

pub each_last : (P : Level → Type 0) (ls : List Level) (l : Level) → Each P (ls ++ l ∷ []) → P l
each_last P [] l h = h.0
each_last P (m ∷ ls) l h = each_last P ls l h.1

last_first : (f : Level → Behind) (ls : List Level) (l : Level) → reverse (map f (ls ++ l ∷ [])) ≡ f l ∷ reverse (map f ls)
last_first f ls l = ap reverse (map-append f ls (l ∷ [])) ∙ reverse-append (map f ls) (f l ∷ [])

-- a level between parentheses
abbrev both : Behind → List Behind → Reading
both x xs = record { here = x; around = xs }

pub closing : (a b : List Pattern) (here new : Level) (ls ms : List Level) → IsGrown a b → Each (IsLevel a) ls → IsLevel a here → Stands b new empty → ms ≡ ls ++ here ∷ []
    → both (behind b new) (reverse (map (behind b) ms)) ≡ before S.Close (both (behind a here) (reverse (map (behind a) ls)))
closing a b here new ls ms g around level stands is =
    let all = each_append (IsLevel a) ls here around level in
    ap₂ both stands.is (ap (λ (xs : List Level). reverse (map (behind b) xs)) is ∙ ap reverse (levels_still a b (ls ++ here ∷ []) g all) ∙ last_first (behind a) ls here)

pub closed_within : (a b : List Pattern) (here : Level) (ls ms : List Level) → IsGrown a b → Each (IsLevel a) ls → IsLevel a here → ms ≡ ls ++ here ∷ [] → Each (IsLevel b) ms
closed_within a b here ls ms g around level is =
    subst (Each (IsLevel b)) (sym is) (levels_within a b (ls ++ here ∷ []) g (each_append (IsLevel a) ls here around level))

pub opening : (a b c : List Pattern) (here outer new : Level) (n : ℕ) (ls ms : List Level) → IsGrown a b → IsGrown b c → Each (IsLevel a) ls → ls ≡ ms ++ outer ∷ []
    → HasPattern b n (whole (behind a here)) → Stands c new (with_part (numbered b n) (behind b outer)) → IsGrown a c
    → both (behind c new) (reverse (map (behind c) ms)) ≡ before S.Open (both (behind a here) (reverse (map (behind a) ls)))
opening a b c here outer new n ls ms g h around is part stands k =
    let all : Each (IsLevel a) (ms ++ outer ∷ []) = subst (Each (IsLevel a)) is around in
    let front = each_front (IsLevel a) ms outer all in
    let last = each_last (IsLevel a) ms outer all in
    let level : behind c new ≡ with_part (whole (behind a here)) (behind a outer) = stands.is ∙ ap₂ with_part part.is (level_still a b outer g last) in
    let old : reverse (map (behind a) ls) ≡ behind a outer ∷ reverse (map (behind a) ms) = ap (λ (xs : List Level). reverse (map (behind a) xs)) is ∙ last_first (behind a) ms outer in
    ap₂ both level (ap reverse (levels_still a c ms k front)) ∙ ap (opened (behind a here)) (sym old)

pub opened_within : (a c : List Pattern) (outer : Level) (ls ms : List Level) → IsGrown a c → Each (IsLevel a) ls → ls ≡ ms ++ outer ∷ [] → Each (IsLevel c) ms
opened_within a c outer ls ms g around is = levels_within a c ms g (each_front (IsLevel a) ms outer (subst (Each (IsLevel a)) is around))

-- any other sign
before_other : (s : Sign) (r : Reading) → (s ≡ S.Open → ⊥) → (s ≡ S.Close → ⊥) → both (before_here s r.here) r.around ≡ before s r
before_other (S.Item i) r f g = refl
before_other S.Dot r f g = refl
before_other S.Star r f g = refl
before_other S.Plus r f g = refl
before_other S.Question r f g = refl
before_other S.Bar r f g = refl
before_other S.Ampersand r f g = refl
before_other S.Open r f g = absurd (f refl)
before_other S.Close r f g = absurd (g refl)

pub going_on : (a b : List Pattern) (s : Sign) (here new : Level) (ls : List Level) → IsGrown a b → Each (IsLevel a) ls → (s ≡ S.Open → ⊥) → (s ≡ S.Close → ⊥) → Stands b new (before_here s (behind a here))
    → both (behind b new) (reverse (map (behind b) ls)) ≡ before s (both (behind a here) (reverse (map (behind a) ls)))
going_on a b s here new ls g around f h stands =
    ap₂ both stands.is (ap reverse (levels_still a b ls g around)) ∙ before_other s (both (behind a here) (reverse (map (behind a) ls))) f h

-- signs from a place on
pub none_left : (ss : List Sign) → drop (length ss) ss ≡ []
none_left [] = refl
none_left (s ∷ ss) = none_left ss

one_before : (ss : List Sign) (k : ℕ) (d : Sign) → k < length ss → drop k ss ≡ get_or ss k d ∷ drop (suc k) ss
one_before [] k d h = absurd (omega arith)
one_before (s ∷ ss) zero d h = refl
one_before (s ∷ ss) (suc k) d h = one_before ss k d (omega arith)

pub read_before : (a b : List Pattern) (x y : Reader) (ss : List Sign) (i k : ℕ) (d : Sign) → i ≡ suc k → k < length ss → HasRead a x (reading (drop i ss)) → HasRead b y (before (get_or ss k d) (reading_of a x))
    → HasRead b y (reading (drop k ss))
read_before a b x y ss i k d place small so_far now =
    let s = get_or ss k d in
    let front : drop k ss ≡ s ∷ drop i ss = one_before ss k d small ∙ ap (λ j. s ∷ drop j ss) (sym place) in
    record { within = now.within; is = now.is ∙ ap (before s) so_far.is ∙ ap reading (sym front) }

pub all_read : (a : List Pattern) (x : Reader) (ss : List Sign) (i : ℕ) → i ≡ 0 → HasRead a x (reading (drop i ss)) → whole (behind a x.here) ≡ meaning ss
all_read a x ss i none h = ap (λ (r : Reading). whole r.here) (h.is ∙ ap (λ j. reading (drop j ss)) none)
