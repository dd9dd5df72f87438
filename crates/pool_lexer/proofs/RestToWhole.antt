-- From the pieces and the fault of the rest of a text to those of the whole text.
use Rattle.std.proofs.Common.{◌≡◌, ◌≢◌, ℕ, ◌+◌, ◌≤◌, List, [], ◌∷◌, ◌++◌, length, take, drop, Option, Some, ◌⊎◌, inl, inr, refl, sym, ap, subst, ◌∙◌, arith}
use Rattle.std.proofs.lemmas.List.{drop-drop, drop_all, length-drop, length-take-le, append_assoc}
use Rattle.text_scan.specs.Text.{Text}
use Rattle.pool_syntax.specs.Tokens.{longest, IsPieces, IsFaultless, fault_of, length_of, IsFirstFault, HasTokens, texts_after, token_of, tokens_from}
use Rattle.pool_syntax.specs.declared.token.LexFault.{LexFault}
use Rattle.pool_syntax.specs.declared.token.LexFault.TheVariants.{Memory, BadByte, IntegerTooLarge, OpenString, TooLong}
use Rattle.pool_syntax.specs.declared.token.Tok.TheVariants as tok
use Rattle.pool_syntax.specs.declared.token.Token.{Token}
use Rattle.pool_lexer.specs.declared.table.Tokens.{Tokens}
use Rattle.pool_lexer.specs.Reading.{ReportsFault, IsStep, placed_at}
use Rattle.pool_lexer.proofs.TableGrowth.{cases_Option, length-with_kept, texts_after-cons, token_stays}
use Rattle.pool_lexer.proofs.TokensOrFault.{faultless_at, not_both, same_first_fault}

-- Up to a place the text has this table and these tokens: with those of the rest they are the whole's, and the first fault of the rest is the whole's.
pub record IsReadTo (bytes : Text) (at : ℕ) (names : List Text) (ts : List Token) : Type 0 where
  pub whole : (ws : List Text) → IsPieces (drop at bytes) ws [] → IsFaultless ws → HasTokens bytes (texts_after names ws) (ts ++ tokens_from (texts_after names ws) at ws)
  pub first : (f : LexFault) (ws : List Text) (rest : Text) (m : ℕ) → IsPieces (drop at bytes) ws rest → IsFaultless ws → m ≡ at + length_of ws → fault_of m rest ≡ Some f → IsFirstFault bytes f

tokens_from-cons : (names : List Text) (at : ℕ) (w : Text) (ws : List Text) → tokens_from names at (w ∷ ws) ≡ placed_at at (token_of names w) ++ tokens_from names (at + length w) ws
tokens_from-cons names at w ws = elim (cases_Option (token_of names w)) [
  | inl none ↦ rw (tokens_from, none)
  | inr some ↦ rw (tokens_from, some.1)
]

module _ (bytes : Text) (at next : ℕ) (old new : Tokens) (step : IsStep bytes at old new next) (before : IsReadTo bytes at old.names old.list) where
  rest_is : drop (longest (drop at bytes)) (drop at bytes) ≡ drop next bytes
  rest_is = drop-drop (longest (drop at bytes)) at bytes ∙ ap (λ k. drop k bytes) (sym step.next_is)

  size_is : at + length (take (longest (drop at bytes)) (drop at bytes)) ≡ next
  size_is =
      let within = step.within in
      let long = length-drop at bytes in
      let ahead = step.ahead in
      let size = length-take-le (longest (drop at bytes)) (drop at bytes) (omega (arith, step.next_is)) in
      omega (arith, step.next_is)

  -- the piece in front of the pieces of the rest
  joined : (ws : List Text) (rest : Text) → IsPieces (drop next bytes) ws rest → IsPieces (drop at bytes) (take (longest (drop at bytes)) (drop at bytes) ∷ ws) rest
  joined ws rest pieces =
      let ahead = step.ahead in
      (omega (arith, step.next_is), refl, subst (λ s. IsPieces s ws rest) (sym rest_is) pieces)

  table_is : (ws : List Text) → texts_after old.names (take (longest (drop at bytes)) (drop at bytes) ∷ ws) ≡ texts_after new.names ws
  table_is ws = texts_after-cons old.names (take (longest (drop at bytes)) (drop at bytes)) ws ∙ ap (λ t. texts_after t ws) (sym step.names_are)

  list_is : (ws : List Text) → old.list ++ tokens_from (texts_after new.names ws) at (take (longest (drop at bytes)) (drop at bytes) ∷ ws) ≡ new.list ++ tokens_from (texts_after new.names ws) next ws
  list_is ws =
      let w = take (longest (drop at bytes)) (drop at bytes) in
      let final = texts_after new.names ws in
      let stays : token_of final w ≡ token_of old.names w = ap (λ t. token_of (texts_after t ws) w) step.names_are ∙ token_stays old.names w ws in
      let first : tokens_from final at (w ∷ ws) ≡ placed_at at (token_of old.names w) ++ tokens_from final next ws =
      tokens_from-cons final at w ws ∙ ap (λ o. placed_at at o ++ tokens_from final (at + length w) ws) stays ∙ ap (λ k. placed_at at (token_of old.names w) ++ tokens_from final k ws) size_is in
      ap (λ ts. old.list ++ ts) first ∙ sym (append_assoc old.list (placed_at at (token_of old.names w)) (tokens_from final next ws)) ∙ ap (λ ts. ts ++ tokens_from final next ws) (sym step.list_is)

  pub read_more : IsReadTo bytes next new.names new.list
  read_more =
      let w = take (longest (drop at bytes)) (drop at bytes) in
      let here = faultless_at at 0 w step.faultless in
      record {
        whole = λ ws pieces plain.
            let all = before.whole (w ∷ ws) (joined ws [] pieces) (here, plain) in
            let table = table_is ws in
            (all.0, all.1, all.2, sym table ∙ all.3, sym (list_is ws) ∙ rw table at all.4);
        first = λ f ws rest m pieces plain there told. before.first f (w ∷ ws) rest m (joined ws rest pieces) (here, plain) (omega (arith, size_is)) told;
      }

  -- the table has no more texts than bytes were read
  pub room_more : length old.names ≤ at → length new.names ≤ next
  room_more room =
      let w = take (longest (drop at bytes)) (drop at bytes) in
      let ahead = step.ahead in
      omega (arith, ap length step.names_are, length-with_kept old.names w)

pub read_all : (bytes : Text) (at : ℕ) (names : List Text) (ts : List Token) → IsReadTo bytes at names ts → length bytes ≤ at → HasTokens bytes names (ts ++ record { tok = tok.End; at = at } ∷ [])
read_all bytes at names ts before over = before.whole [] (drop_all at bytes over) tt

told_is : (f : LexFault) (told : Option LexFault) → f ≢ Memory → ReportsFault f told → told ≡ Some f
told_is Memory told some e = absurd (some refl)
told_is (BadByte at) told some e = e
told_is (IntegerTooLarge at) told some e = e
told_is (OpenString at) told some e = e
told_is (TooLong at) told some e = e

is_memory : (f : LexFault) → (f ≡ Memory) ⊎ (f ≢ Memory)
is_memory Memory = inl refl
is_memory (BadByte at) = inr (λ e. cc)
is_memory (IntegerTooLarge at) = inr (λ e. cc)
is_memory (OpenString at) = inr (λ e. cc)
is_memory (TooLong at) = inr (λ e. cc)

-- A fault that is told there is the whole's, unless memory ran out.
module _ (bytes : Text) (at : ℕ) (names : List Text) (ts : List Token) (before : IsReadTo bytes at names ts) (e : LexFault) (told : ReportsFault e (fault_of at (drop at bytes))) where
  pub read_fault : e ≢ Memory → IsFirstFault bytes e
  read_fault some = before.first e [] (drop at bytes) at refl tt (omega arith) (told_is e _ some told)

  pub only_memory : (table : List Text) (all : List Token) → HasTokens bytes table all → e ≡ Memory
  only_memory table all h = elim (is_memory e) [
    | inl memory ↦ memory
    | inr some ↦ absurd (not_both bytes table all e h (read_fault some))
  ]

  pub no_other : (f : LexFault) → IsFirstFault bytes f → (e ≡ f) ⊎ (e ≡ Memory)
  no_other f h = elim (is_memory e) [
    | inl memory ↦ inr memory
    | inr some ↦ inl (same_first_fault bytes e f (read_fault some) h)
  ]
