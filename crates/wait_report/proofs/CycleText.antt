-- The text of a cycle as far as it was written.
use Rattle.std.proofs.Common.{◌≡◌, ◌<◌, refl, sym, ap, ◌∙◌, ℕ, suc, ◌==◌, List, [], ◌∷◌, ◌++◌, length, map, get_or, take, Option, Some, None, true, false, nat_lt, cond, Result, Ok, Err, OnOk, arith, append-nil}
use Rattle.std.specs.Prelude.{codes}
use Rattle.std.proofs.lemmas.List.{append_assoc}
use Rattle.text_scan.specs.Text.{Text}
use Rattle.run_types.specs.Partial.{◌>>=◌}
use Rattle.mesh_semantics.specs.Standing.{chase}
use Rattle.run_types.proofs.Laws.{equals, differ}
use Rattle.record_writer.specs.RecordText.{led, object_text}
use Rattle.wait_report.specs.Cycles.{jump, cycle_at}
use Rattle.wait_report.proofs.CyclesByName.{stepped}

-- the words of these places
abbrev pub words : List ℕ → List ℕ → List Text
words numbers ns = map object_text (map (λ k. get_or numbers k 0) ns)

-- the line of which this is done, if the rest of its cycle is there
abbrev pub ended : List ℕ → Text → Option (List ℕ) → Text
ended numbers done None = []
ended numbers done (Some ns) = (done ++ led (words numbers ns)) ++ 10 ∷ []

pub begins : (numbers : List ℕ) (o : Option (List ℕ)) → cycle_at numbers o ≡ ended numbers (codes "cycle") o
begins numbers None = refl
begins numbers (Some ns) = refl

led_more : (w : Text) (ws : List Text) → led (w ∷ ws) ≡ led (w ∷ []) ++ led ws
led_more w ws = ap (λ z. 32 ∷ z) (ap (λ z. z ++ led ws) (sym (append-nil w)))

module _ (numbers : List ℕ) (next : List (Option ℕ)) (first : ℕ) where
  abbrev word : ℕ → Text
  word at = led (object_text (get_or numbers at 0) ∷ [])

  added : (done : Text) (at : ℕ) (o : Option (List ℕ)) → ended numbers done (o >>= λ ns. Some (at ∷ ns)) ≡ ended numbers (done ++ word at) o
  added done at None = refl
  added done at (Some ns) =
      ap (λ z. z ++ 10 ∷ []) (ap (λ z. done ++ z) (led_more (object_text (get_or numbers at 0)) (words numbers ns)) ∙ sym (append_assoc done (word at) (led (words numbers ns))))

  pub told_on : (m n at b : ℕ) (done : Text) → n ≡ suc m → jump next at ≡ Some b → first < b → ended numbers done (chase (jump next) n first at) ≡ ended numbers (done ++ word at) (chase (jump next) m first b)
  told_on m n at b done s e l =
      let t : (b == first) ≡ false = differ b first (λ q. absurd (omega (arith, l, q))) in
      let u : nat_lt first b ≡ true = grind (arith, l) in
      ap (λ z. ended numbers done (chase (jump next) z first at)) s
      ∙ ap (λ z. ended numbers done (stepped (jump next) m first at z)) e
      ∙ ap (λ z. ended numbers done (cond z (Some (at ∷ [])) (cond (nat_lt first b) (chase (jump next) m first b >>= λ ns. Some (at ∷ ns)) None))) t
      ∙ ap (λ z. ended numbers done (cond z (chase (jump next) m first b >>= λ ns. Some (at ∷ ns)) None)) u
      ∙ added done at (chase (jump next) m first b)

  pub told_last : (m n at b : ℕ) (done : Text) → n ≡ suc m → jump next at ≡ Some b → b ≡ first → ended numbers done (chase (jump next) n first at) ≡ (done ++ word at) ++ 10 ∷ []
  told_last m n at b done s e q =
      let t : (b == first) ≡ true = ap (λ z. z == first) q ∙ equals first in
      ap (λ z. ended numbers done (chase (jump next) z first at)) s
      ∙ ap (λ z. ended numbers done (stepped (jump next) m first at z)) e
      ∙ ap (λ z. ended numbers done (cond z (Some (at ∷ [])) (cond (nat_lt first b) (chase (jump next) m first b >>= λ ns. Some (at ∷ ns)) None))) t

  pub told_none : (m n at : ℕ) (done : Text) → n ≡ suc m → jump next at ≡ None → ended numbers done (chase (jump next) n first at) ≡ []
  told_none m n at done s e =
      ap (λ z. ended numbers done (chase (jump next) z first at)) s ∙ ap (λ z. ended numbers done (stepped (jump next) m first at z)) e

  pub told_less : (m n at b : ℕ) (done : Text) → n ≡ suc m → jump next at ≡ Some b → b < first → ended numbers done (chase (jump next) n first at) ≡ []
  told_less m n at b done s e l =
      let t : (b == first) ≡ false = differ b first (λ q. absurd (omega (arith, l, q))) in
      let u : nat_lt first b ≡ false = grind (arith, l) in
      ap (λ z. ended numbers done (chase (jump next) z first at)) s
      ∙ ap (λ z. ended numbers done (stepped (jump next) m first at z)) e
      ∙ ap (λ z. ended numbers done (cond z (Some (at ∷ [])) (cond (nat_lt first b) (chase (jump next) m first b >>= λ ns. Some (at ∷ ns)) None))) t
      ∙ ap (λ z. ended numbers done (cond z (chase (jump next) m first b >>= λ ns. Some (at ∷ ns)) None)) u

pub in_turn : (a d w e : Text) → ((a ++ d) ++ w) ++ e ≡ a ++ ((d ++ w) ++ e)
in_turn a d w e = ap (λ z. z ++ e) (append_assoc a d w) ∙ append_assoc a (d ++ w) e

pub cut_back : (a d : Text) → take (length a) (a ++ d) ≡ a ++ []
cut_back [] [] = refl
cut_back [] (x ∷ d) = refl
cut_back (x ∷ a) d = ap (λ z. x ∷ z) (cut_back a d)

-- what was put of no cycle is taken back
pub taken_back : (old text new done told : Text) (before : ℕ) → new ≡ take before text → before ≡ length old → text ≡ old ++ done → told ≡ [] → new ≡ old ++ told
taken_back old text new done told before n b t e =
    n ∙ ap (λ k. take k text) b ∙ ap (λ z. take (length old) z) t ∙ cut_back old done ∙ ap (λ z. old ++ z) (sym e)

pub no_steps : (numbers : List ℕ) (next : List (Option ℕ)) (first at n : ℕ) (done : Text) → n ≡ 0 → ended numbers done (chase (jump next) n first at) ≡ []
no_steps numbers next first at n done e = ap (λ k. ended numbers done (chase (jump next) k first at)) e

pub on_ok : {A E P Q : Type 0} (r : Result A E) → OnOk r P → (P → Q) → OnOk r Q
on_ok (Ok x) p f = f p
on_ok (Err x) p f = tt
