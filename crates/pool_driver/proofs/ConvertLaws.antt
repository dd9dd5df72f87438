-- The lines of a record, written one after another.
use Rattle.std.proofs.Common.{◌≡◌, ◌∙◌, ◌+◌, ◌<◌, ◌++◌, ℕ, suc, List, [], ◌∷◌, length, drop, get_or, Result, Ok, Err, OnErr, refl, sym, ap, subst}
use Rattle.std.proofs.lemmas.List.{append-nil, append_assoc, drop_more}
use Rattle.text_scan.specs.Text.{Text}
use Rattle.run_types.specs.declared.types.Line.{Line}
use Rattle.run_types.specs.Asks.{asks, asks_from}
use Rattle.record_writer.specs.SecondForm.{form_text, line_text2, lines_text2, text2}
use Rattle.command_shell.specs.Writing.{Writing, Wrote, WroteFront}
use Rattle.run_loop.proofs.Laws.{Follows, front_of_both, front_of_first, then, wrote_both}

-- so many lines were written, and the rest is left
pub record IsShowing (names : List Text) (lines : List Line) (numbers : List ℕ) (place : ℕ) (k : Writing) : Type 0 where
  pub text : Text
  pub wrote : Wrote k text
  pub left : lines_text2 names lines numbers ≡ text ++ lines_text2 names (drop place lines) (drop place numbers)

-- what is left from a place on
pub left_at : {A : Type 0} (xs : List A) (i : ℕ) (x : A) → i < length xs → x ≡ get_or xs i x → drop i xs ≡ x ∷ drop (i + 1) xs
left_at xs i x within is = drop_more xs i x within ∙ ap (λ y. y ∷ drop (i + 1) xs) (sym is)

-- each line has a request number
numbers_long : (earlier ls : List Line) → length (asks_from earlier ls) ≡ length ls
numbers_long earlier [] = refl
numbers_long earlier (l ∷ ls) = ap suc (numbers_long (l ∷ earlier) ls)

pub asks_long : (ls : List Line) (numbers : List ℕ) → numbers ≡ asks ls → length numbers ≡ length ls
asks_long ls numbers e = ap length e ∙ numbers_long [] ls

module _ (names : List Text) (lines : List Line) (numbers : List ℕ) where
  abbrev left_from : ℕ → Text
  left_from place = lines_text2 names (drop place lines) (drop place numbers)

  pub shows_none : (k : Writing) → Wrote k [] → IsShowing names lines numbers 0 k
  shows_none k wrote = record { text = []; wrote = wrote; left = refl }

  next_left : (place : ℕ) (l : Line) (n : ℕ) → drop place lines ≡ l ∷ drop (place + 1) lines → drop place numbers ≡ n ∷ drop (place + 1) numbers
      → left_from place ≡ line_text2 names l n ++ left_from (place + 1)
  next_left place l n e f = ap (λ (xs : List Line). lines_text2 names xs (drop place numbers)) e ∙ ap (lines_text2 names (l ∷ drop (place + 1) lines)) f

  module _ (place : ℕ) (l : Line) (n : ℕ) (line : drop place lines ≡ l ∷ drop (place + 1) lines) (number : drop place numbers ≡ n ∷ drop (place + 1) numbers)
      (j k : Writing) (follows : Follows j k) (h : IsShowing names lines numbers place j) where
    pub shows_more : Wrote k (line_text2 names l n) → IsShowing names lines numbers (place + 1) (then j k)
    shows_more w = record {
      text = h.text ++ line_text2 names l n;
      wrote = wrote_both h.text (line_text2 names l n) j k follows h.wrote w;
      left = h.left ∙ ap (λ (t : Text). h.text ++ t) (next_left place l n line number) ∙ sym (append_assoc h.text (line_text2 names l n) (left_from (place + 1)));
    }

    pub shows_front : WroteFront k (line_text2 names l n) → WroteFront (then j k) (lines_text2 names lines numbers)
    shows_front w =
        subst (WroteFront (then j k)) (sym (h.left ∙ ap (λ (t : Text). h.text ++ t) (next_left place l n line number)))
        (front_of_both h.text (line_text2 names l n) (left_from (place + 1)) j k follows h.wrote w)

  pub shows_all : (place : ℕ) (k : Writing) → drop place lines ≡ [] → IsShowing names lines numbers place k → Wrote k (lines_text2 names lines numbers)
  shows_all place k e h =
      subst (Wrote k) (sym (append-nil h.text) ∙ ap (λ (xs : List Line). h.text ++ lines_text2 names xs (drop place numbers)) (sym e) ∙ sym h.left) h.wrote

-- behind the first line
pub form_then : (names : List Text) (ls : List Line) (numbers : List ℕ) → numbers ≡ asks ls → (form_text ++ 10 ∷ []) ++ lines_text2 names ls numbers ≡ text2 names ls
form_then names ls numbers e = append_assoc form_text (10 ∷ []) (lines_text2 names ls numbers) ∙ ap (λ (ns : List ℕ). form_text ++ 10 ∷ lines_text2 names ls ns) e

pub form_front : (names : List Text) (ls : List Line) (numbers : List ℕ) (j k : Writing) → numbers ≡ asks ls → Follows j k → Wrote j (form_text ++ 10 ∷ []) → WroteFront k (lines_text2 names ls numbers)
    → WroteFront (then j k) (text2 names ls)
form_front names ls numbers j k e follows a b =
    subst (WroteFront (then j k)) (ap (λ (t : Text). (form_text ++ 10 ∷ []) ++ t) (append-nil (lines_text2 names ls numbers)) ∙ form_then names ls numbers e)
    (front_of_both (form_text ++ 10 ∷ []) (lines_text2 names ls numbers) [] j k follows a b)

-- where the first line is cut off
pub first_front : (names : List Text) (ls : List Line) (k : Writing) → WroteFront k (form_text ++ 10 ∷ []) → WroteFront k (text2 names ls)
first_front names ls k a = subst (WroteFront k) (form_then names ls (asks ls) refl) (front_of_first (form_text ++ 10 ∷ []) (lines_text2 names ls (asks ls)) k a)

-- what holds after an error
pub on_err : {A E P Q : Type 0} (r : Result A E) → OnErr r P → (P → Q) → OnErr r Q
on_err (Ok a) h f = h
on_err (Err e) h f = f h
