-- A text has either one list of tokens or one first fault.
use Rattle.std.proofs.Common.{◌≡◌, ◌≢◌, ℕ, ◌+◌, ◌≤◌, Bool, true, false, nat_le, List, [], ◌∷◌, length, take, drop, Option, Some, None, inl, inr, refl, sym, ap, subst, ◌∙◌, arith}
use Rattle.std.proofs.lemmas.Bool.{cases_Bool}
use Rattle.text_scan.specs.Text.{Text, is_word, is_integer, value_of_digits}
use Rattle.pool_syntax.specs.Tokens.{longest, IsPieces, IsFaultless, piece_fault, fault_of, length_of, IsFirstFault, HasTokens, texts_after, is_string}
use Rattle.pool_syntax.specs.declared.token.LexFault.{LexFault}
use Rattle.pool_syntax.specs.declared.token.LexFault.TheVariants.{TooLong, IntegerTooLarge}
use Rattle.pool_syntax.specs.declared.token.Token.{Token}
use Rattle.pool_lexer.proofs.PieceStep.{some_fault_at}

-- a piece is faultless at every place
limit_moves : (b : Bool) (f g : LexFault) → ◌≡◌ {A = Option LexFault} (elim b [ true ↦ None | false ↦ Some f ]) None → ◌≡◌ {A = Option LexFault} (elim b [ true ↦ None | false ↦ Some g ]) None
limit_moves true f g e = refl
limit_moves false f g e = cc

pub faultless_at : (at to : ℕ) (w : Text) → piece_fault at w ≡ None → piece_fault to w ≡ None
faultless_at at to w e = elim (cases_Bool (is_word w)) [
  | inl word ↦ rw (piece_fault, word) (limit_moves (nat_le (length w) 64) (TooLong at) (TooLong to) (rw (piece_fault, word) at e))
  | inr no_word ↦ elim (cases_Bool (is_integer w)) [
    | inl integer ↦ rw (piece_fault, no_word, integer) (limit_moves (nat_le (value_of_digits 0 w) 9223372036854775807) (IntegerTooLarge at) (IntegerTooLarge to) (rw (piece_fault, no_word, integer) at e))
    | inr no_integer ↦ elim (cases_Bool (is_string w)) [
      | inl string ↦ rw (piece_fault, no_word, no_integer, string) (limit_moves (nat_le (length w) 258) (TooLong at) (TooLong to) (rw (piece_fault, no_word, no_integer, string) at e))
      | inr no_string ↦ rw (piece_fault, no_word, no_integer, no_string)
    ]
  ]
]

-- where a piece begins that is faultless, no fault stands
no_fault_here : (at : ℕ) (s w : Text) (f : LexFault) → 1 ≤ longest s → w ≡ take (longest s) s → piece_fault 0 w ≡ None → fault_of at s ≢ Some f
no_fault_here at s w f some is plain told =
    let none : piece_fault at (take (longest s) s) ≡ None = subst (λ v. piece_fault at v ≡ None) is (faultless_at 0 at w plain) in
    let here = some_fault_at at s some in
    cc

none_of_nothing : (s : Text) → s ≡ [] → 1 ≤ longest s → ⊥
none_of_nothing s e some = let none : longest s ≡ 0 = rw e in omega arith

-- the pieces of a text are determined
pub same_pieces : (s : Text) (ws vs : List Text) → IsPieces s ws [] → IsPieces s vs [] → ws ≡ vs
same_pieces s [] [] p q = refl
same_pieces s [] (v ∷ vs) p q = absurd (none_of_nothing s p q.0)
same_pieces s (w ∷ ws) [] p q = absurd (none_of_nothing s q p.0)
same_pieces s (w ∷ ws) (v ∷ vs) p q =
    let first : w ≡ v = p.1 ∙ sym q.1 in
    let others = same_pieces (drop (longest s) s) ws vs p.2 q.2 in
    cc

-- a text that has tokens has no fault
no_fault_in_whole : (at : ℕ) (s : Text) (ws vs : List Text) (rest : Text) (f : LexFault) → IsPieces s ws [] → IsFaultless ws → IsPieces s vs rest → fault_of at rest ≢ Some f
no_fault_in_whole at s [] [] rest f p plain q told =
    let nothing : rest ≡ [] = sym q ∙ p in
    let none : fault_of at rest ≡ None = rw nothing in
    cc
no_fault_in_whole at s (w ∷ ws) [] rest f p plain q told = no_fault_here at s w f p.0 p.1 plain.0 (rw q told)
no_fault_in_whole at s [] (v ∷ vs) rest f p plain q told = none_of_nothing s p q.0
no_fault_in_whole at s (w ∷ ws) (v ∷ vs) rest f p plain q told = no_fault_in_whole at (drop (longest s) s) ws vs rest f p.2 plain.1 q.2 told

-- the first fault is determined
same_fault : (at : ℕ) (s : Text) (ws vs : List Text) (rest rest' : Text) (m n : ℕ) (f g : LexFault) → IsPieces s ws rest → IsFaultless ws → m ≡ at + length_of ws → fault_of m rest ≡ Some f → IsPieces s vs rest' → IsFaultless vs → n ≡ at + length_of vs → fault_of n rest' ≡ Some g → f ≡ g
same_fault at s [] [] rest rest' m n f g p plain there told q plain' there' told' = let same : m ≡ n = omega arith in cc
same_fault at s (w ∷ ws) [] rest rest' m n f g p plain there told q plain' there' told' = absurd (no_fault_here n s w g p.0 p.1 plain.0 (rw q told'))
same_fault at s [] (v ∷ vs) rest rest' m n f g p plain there told q plain' there' told' = absurd (no_fault_here m s v f q.0 q.1 plain'.0 (rw p told))
same_fault at s (w ∷ ws) (v ∷ vs) rest rest' m n f g p plain there told q plain' there' told' =
    let first : w ≡ v = p.1 ∙ sym q.1 in
    let long = ap length first in
    same_fault (at + length w) (drop (longest s) s) ws vs rest rest' m n f g p.2 plain.1 (omega arith) told q.2 plain'.1 (omega arith) told'

-- so of tokens and faults the text has one
pub same_tokens : (s : Text) (names names' : List Text) (ts ts' : List Token) → HasTokens s names ts → HasTokens s names' ts' → (names ≡ names') × (ts ≡ ts')
same_tokens s names names' ts ts' h h' =
    let pieces = same_pieces s h.0 h'.0 h.1 h'.1 in
    let table : names ≡ names' = h.3 ∙ ap (λ ws. texts_after [] ws) pieces ∙ sym h'.3 in
    (table, cc)

pub same_first_fault : (s : Text) (f g : LexFault) → IsFirstFault s f → IsFirstFault s g → f ≡ g
same_first_fault s f g h h' = same_fault 0 s h.0 h'.0 h.1 h'.1 (length_of h.0) (length_of h'.0) f g h.2 h.3 (omega arith) h.4 h'.2 h'.3 (omega arith) h'.4

pub not_both : (s : Text) (names : List Text) (ts : List Token) (f : LexFault) → HasTokens s names ts → IsFirstFault s f → ⊥
not_both s names ts f h h' = no_fault_in_whole (length_of h'.0) s h.0 h'.0 h'.1 f h.1 h.2 h'.2 h'.4
