-- Lines that carry a request number: the text before their last two spaces.
use Rattle.std.proofs.Common.{◌≡◌, refl, sym, ap, ◌∙◌, ℕ, suc, ◌-◌, ◌<◌, ◌≤◌, drop, take, get_or, List, [], ◌∷◌, ◌++◌, length, Option, Some, None, Bool, true, false, bytes_eq, codes, arith, append_assoc}
use Rattle.std.proofs.Math.Seq.{drop-cons}
use Rattle.std.proofs.lemmas.List.{take-append-drop, take_rest}
use Rattle.text_scan.specs.Text.{Text}
use Rattle.record_parser.specs.Fields.{count_of, parts}
use Rattle.run_types.specs.Partial.{only_if, ◌>>=◌}
use Rattle.record_parser.proofs.Laws.{parts_joint, parts_length}
use Rattle.run_record.specs.Records.{asked_by}

-- a word before the others
abbrev with_front : Text → Option (List Text × ℕ) → Option (List Text × ℕ)
with_front a o = o >>= λ r. Some (a ∷ r.0, r.1)

-- words before two more
pub asked_last : (a : Text) (ps : List Text) (w v : Text) → asked_by (a ∷ (ps ++ w ∷ v ∷ [])) ≡ only_if (bytes_eq w (codes "by")) (count_of v >>= λ n. Some (a ∷ ps, n))
asked_last a [] w v = refl
asked_last a (p ∷ ps) w v = step a p ps w v ∙ ap (λ o. with_front a o) (asked_last p ps w v) ∙ by (bytes_eq w (codes "by")) (count_of v)
  where
    step : (a p : Text) (ps : List Text) (w v : Text) → asked_by (a ∷ p ∷ (ps ++ w ∷ v ∷ [])) ≡ with_front a (asked_by (p ∷ (ps ++ w ∷ v ∷ [])))
    step a p [] w v = refl
    step a p (q ∷ []) w v = refl
    step a p (q ∷ r ∷ qs) w v = refl

    by : (b : Bool) (c : Option ℕ) → with_front a (only_if b (c >>= λ n. Some (p ∷ ps, n))) ≡ only_if b (c >>= λ n. Some (a ∷ p ∷ ps, n))
    by false c = refl
    by true None = refl
    by true (Some n) = refl

-- at least one word before two more
pub asked_words : (ps : List Text) (w v : Text) → 0 < length ps → asked_by (ps ++ w ∷ v ∷ []) ≡ only_if (bytes_eq w (codes "by")) (count_of v >>= λ n. Some (ps, n))
asked_words [] w v h = absurd (omega arith)
asked_words (p ∷ ps) w v h = asked_last p ps w v

-- the words of a line that was cut at its last two spaces
carried_words : (line front rest by number : Text) → parts 32 line ≡ parts 32 rest ++ number ∷ [] → parts 32 rest ≡ parts 32 front ++ by ∷ []
    → asked_by (parts 32 line) ≡ only_if (bytes_eq by (codes "by")) (count_of number >>= λ n. Some (parts 32 front, n))
carried_words line front rest by number e f =
    ap asked_by (e ∙ (ap (λ ps. ps ++ number ∷ []) f ∙ append_assoc (parts 32 front) (by ∷ []) (number ∷ []))) ∙ asked_words (parts 32 front) by number (parts_length 32 front)

pub carried_not : (line front rest by number : Text) → parts 32 line ≡ parts 32 rest ++ number ∷ [] → parts 32 rest ≡ parts 32 front ++ by ∷ []
    → bytes_eq by (codes "by") ≡ false → asked_by (parts 32 line) ≡ None
carried_not line front rest by number e f h = carried_words line front rest by number e f ∙ ap (λ b. only_if b (count_of number >>= λ n. Some (parts 32 front, n))) h

pub carried_is : (line front rest by number : Text) (o : Option ℕ) → parts 32 line ≡ parts 32 rest ++ number ∷ [] → parts 32 rest ≡ parts 32 front ++ by ∷ []
    → bytes_eq by (codes "by") ≡ true → count_of number ≡ o → asked_by (parts 32 line) ≡ (o >>= λ n. Some (parts 32 front, n))
carried_is line front rest by number o e f h k =
    carried_words line front rest by number e f ∙ ap (λ b. only_if b (count_of number >>= λ n. Some (parts 32 front, n))) h
    ∙ ap (λ c. c >>= λ n. Some (parts 32 front, n)) k

-- one word, or two of which the first is the only one before the last
pub asked_one : (line : Text) → parts 32 line ≡ line ∷ [] → asked_by (parts 32 line) ≡ None
asked_one line e = ap asked_by e

pub asked_two : (line rest number : Text) → parts 32 line ≡ parts 32 rest ++ number ∷ [] → parts 32 rest ≡ rest ∷ [] → asked_by (parts 32 line) ≡ None
asked_two line rest number e f = ap asked_by (e ∙ ap (λ ps. ps ++ number ∷ []) f)

-- a text at a space behind which there is none
pub last_cut : (t : Text) (at : ℕ) → 0 < at → at ≤ length t → get_or t (at - 1) 0 ≡ 32 → parts 32 (drop at t) ≡ drop at t ∷ []
    → parts 32 t ≡ parts 32 (take (at - 1 - 0) t) ++ take (length t - at) (drop at t) ∷ []
last_cut t at some within is behind =
    let n : suc (at - 1) ≡ at = omega arith in
    let m : at - 1 - 0 ≡ at - 1 = omega arith in
    let rest : drop (at - 1) t ≡ 32 ∷ drop at t = drop-cons t (at - 1) 0 (omega arith) ∙ (ap (λ b. b ∷ drop (suc (at - 1)) t) is ∙ ap (λ k. 32 ∷ drop k t) n) in
    ap (parts 32) (sym (take-append-drop (at - 1) t) ∙ ap (λ u. take (at - 1) t ++ u) rest)
    ∙ (parts_joint 32 (take (at - 1) t) (drop at t)
    ∙ (ap (λ ps. parts 32 (take (at - 1) t) ++ ps) behind
    ∙ (ap (λ k. parts 32 (take k t) ++ drop at t ∷ []) (sym m) ∙ ap (λ u. parts 32 (take (at - 1 - 0) t) ++ u ∷ []) (sym (take_rest t at)))))
