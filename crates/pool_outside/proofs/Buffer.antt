-- Lemmas on the bytes of a buffer and of the sink after it.
use Rattle.pool_outside.specs.Outside.{IsProperFront}
use Rattle.pool_outside.specs.Gathered.{gathered, HasGrown}
use Rattle.std.proofs.Common.{◌≡◌, ℕ, ◌+◌, ◌-◌, ◌≤◌, List, ◌++◌, length, take, drop, Option, None, Some, option_map, ap, sym, ◌∙◌, append_assoc, arith, zero-add, length-drop, length-take, length-append, refl, rules}
use Rattle.std.proofs.lemmas.List.{drop-take, take-append-drop, take-take}
use Rattle.std.proofs.lemmas.List.Edits.{take-paste}
use Rattle.std.proofs.Math.Seq.{paste, take-append_seam, take-append-add, take-length}

-- what is left stands at the front once it was copied there
moved : (xs : List ℕ) (k count : ℕ) → k ≤ count → count ≤ length xs → take (count - k) (paste xs 0 (drop k xs) (count - k)) ≡ drop k (take count xs)
moved xs k count h l =
    ap (λ m. take m (paste xs 0 (drop k xs) (count - k))) (sym (zero-add (count - k)))
    ∙ take-paste xs 0 (drop k xs) (count - k) (omega arith) (omega (arith, length-drop k xs))
    ∙ sym (drop-take k (count - k) xs)
    ∙ ap (λ m. drop k (take m xs)) (let e : k + (count - k) ≡ count = omega arith in e)

-- the same of bytes that are seen as their front up to a count
pub moved_front : (xs after front : List ℕ) (k count : ℕ) → take count xs ≡ front → after ≡ paste xs 0 (drop k xs) (count - k) → k ≤ length front → count ≤ length xs → take (count - k) after ≡ drop k front
moved_front xs after front k count e a h l =
    ap (take (count - k)) a
    ∙ moved xs k count (omega (arith, ap length e, length-take count xs)) l
    ∙ ap (drop k) e

-- what with the bytes behind it is what was there and a front of a text, is itself that with so many bytes less
shorter : (w v bytes text : List ℕ) (n : ℕ) → v ++ bytes ≡ w ++ take n text → n ≤ length text → length w ≤ length v → (m : ℕ) × (m + length bytes ≡ n) × (v ≡ w ++ take m text)
shorter w v bytes text n e within h =
    let sizes : length v + length bytes ≡ length w + length (take n text) = sym (length-append v bytes) ∙ ap length e ∙ length-append w (take n text) in
    let most : length v - length w ≤ n = omega (arith, sizes, length-take n text) in
    let sum : length v ≡ length w + (length v - length w) = omega arith in (
      length v - length w,
      omega (arith, sizes, length-take n text),
      sym (take-append_seam v bytes) ∙ ap (take (length v)) e ∙ ap (λ m. take m (w ++ take n text)) sum
          ∙ take-append-add w (take n text) (length v - length w) ∙ ap (λ t. w ++ t) (take-take (length v - length w) n text most),
    )

-- what a sink has, where with the bytes that were gathered for it, it would have a proper front of the text
pub front_of : (start now : Option (List ℕ)) (bytes text : List ℕ) → IsProperFront start text (gathered now bytes) → HasGrown start now → IsProperFront start text now
front_of None None bytes text f l = refl
front_of None (Some v) bytes text f l = absurd (let e : Some (v ++ bytes) ≡ None = f in cc)
front_of (Some w) None bytes text f l = absurd (let e : None ≡ Some (w ++ take f.0 text) = f.2 in cc)
front_of (Some w) (Some v) bytes text f l =
    let e : Some (v ++ bytes) ≡ Some (w ++ take f.0 text) = f.2 in
    let same : v ++ bytes ≡ w ++ take f.0 text = cc in
    let t = shorter w v bytes text f.0 same (omega (arith, f.1)) (search rules) in
    (t.0, omega (arith, f.1, t.1), ap Some t.2)

-- what a sink has where only a proper front of what was gathered was handed on, and all of it would give the text
pub front_at_end : (start behind now : Option (List ℕ)) (bytes text : List ℕ) → IsProperFront behind bytes now → HasGrown start behind → gathered behind bytes ≡ option_map (λ w. w ++ text) start → IsProperFront start text now
front_at_end None None now bytes text f l e = f
front_at_end None (Some v) now bytes text f l e = absurd (let z : Some (v ++ bytes) ≡ None = e in cc)
front_at_end (Some w) None now bytes text f l e = absurd (let z : None ≡ Some (w ++ text) = e in cc)
front_at_end (Some w) (Some v) now bytes text f l e =
    let z : Some (v ++ bytes) ≡ Some (w ++ text) = e in
    let same : v ++ bytes ≡ w ++ text = cc in
    let parts : (v ++ take f.0 bytes) ++ drop f.0 bytes ≡ w ++ take (length text) text =
    append_assoc v (take f.0 bytes) (drop f.0 bytes) ∙ ap (λ u. v ++ u) (take-append-drop f.0 bytes) ∙ same ∙ ap (λ u. w ++ u) (sym (take-length text)) in
    let longer : length w ≤ length v = search rules in
    let t = shorter w (v ++ take f.0 bytes) (drop f.0 bytes) text (length text) parts (omega arith) (omega (arith, longer, length-append v (take f.0 bytes))) in
    (t.0, omega (arith, f.1, t.1, length-drop f.0 bytes), f.2 ∙ ap Some t.2)
