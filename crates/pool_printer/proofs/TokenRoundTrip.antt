-- The lexer reads the canonical text back as the tokens of the program.
use Rattle.std.proofs.Common.{◌≡◌, refl, sym, ap, subst, ◌∙◌, ℕ, ◌+◌, Bool, true, false, ◌||◌, map, List, [], ◌∷◌, ◌++◌, length, Some, None, append_assoc, if◌then◌else◌, codes, arith}
use Rattle.std.specs.List.{AllByRecursion, prefix_len}
use Rattle.std.proofs.lemmas.List.{take_at, drop_at}
use Rattle.text_scan.specs.Text.{Text, is_space}
use Rattle.pool_syntax.specs.Tokens.{longest, piece_fault, IsPieces, IsFaultless, texts_after, token_of, tokens_from}
use Rattle.pool_syntax.specs.Spelled.{is_spelled}
use Rattle.pool_syntax.specs.Terms.{ProgramTree}
use Rattle.pool_syntax.specs.declared.token.Tok.{Tok}
use Rattle.pool_syntax.specs.declared.token.Tok.TheVariants.{End}
use Rattle.pool_syntax.specs.declared.token.Token.{Token}
use Rattle.run_types.proofs.Laws.{text_at_place}
use Rattle.text_scan.specs.declared.scan.ByteSet.TheVariants.{Space}
use Rattle.pool_lexer.specs.declared.piece.Kind.TheVariants.{Skipped}
use Rattle.pool_lexer.specs.Reading.{with_kept}
use Rattle.pool_lexer.proofs.Laws.{white_run, kept_there, texts_after-cons, longest_run}
use Rattle.pool_printer.specs.Canonical.{breaks_after, breaks_before, gap, text_behind, program_tokens}
use Rattle.pool_printer.specs.ReadBack.{number_in, IsReadBack}
use Rattle.pool_printer.specs.Renumbered.{token_by}
use Rattle.pool_printer.specs.Spelling.{spelling}
use Rattle.pool_printer.proofs.SpelledTokens.{spelled_tokens}
use Rattle.pool_printer.proofs.LongestPieces.{Stands, gap_byte}
use Rattle.pool_printer.proofs.TokenPieces.{HasKept, Lexes, tokens_lex}

-- one piece and then the rest

token_first : (w : Text) (k : Bool) (rest : Text) (ws : List Text) → Stands w → IsPieces (gap_byte k ∷ rest) ws [] → IsPieces (w ++ gap_byte k ∷ rest) (w ∷ ws) []
token_first w k rest ws h p =
    rw (h.longest_is k rest) (h.some, sym (take_at w (gap_byte k ∷ rest) (length w) refl), subst (λ s. IsPieces s ws []) (sym (drop_at w (gap_byte k ∷ rest) (length w) refl)) p)

gap_longest : (k : Bool) (rest : Text) → prefix_len is_space rest ≡ 0 → longest (gap_byte k ∷ rest) ≡ 1
gap_longest true rest h = longest_run 10 rest Space Skipped (white_run 10 refl) ∙ ap (λ n. 1 + n) h
gap_longest false rest h = longest_run 32 rest Space Skipped (white_run 32 refl) ∙ ap (λ n. 1 + n) h

gap_first : (k : Bool) (w rest : Text) (ws : List Text) → Stands w → IsPieces (w ++ rest) ws [] → IsPieces (gap_byte k ∷ (w ++ rest)) ((gap_byte k ∷ []) ∷ ws) []
gap_first k w rest ws h p = rw (gap_longest k (w ++ rest) (h.begins rest)) (omega arith, refl, p)

-- the gap before a token
gap_of : (c : Bool) → (if c then codes "\n" else codes " ") ≡ gap_byte c ∷ []
gap_of true = refl
gap_of false = refl

abbrev breaks : Tok → Tok → Bool
breaks before t = breaks_after before || breaks_before t

gap_is : (before t : Tok) → gap (Some before) t ≡ gap_byte (breaks before t) ∷ []
gap_is before t = gap_of (breaks before t)

-- the pieces behind a token, with the line feed at the end, and all pieces

abbrev pieces_behind : List Text → Tok → List Tok → List Text
pieces_behind names before [] = (10 ∷ []) ∷ []
pieces_behind names before (t ∷ ts) = (gap_byte (breaks before t) ∷ []) ∷ spelling names t ∷ pieces_behind names t ts

abbrev all_pieces : List Text → List Tok → List Text
all_pieces names [] = (10 ∷ []) ∷ []
all_pieces names (t ∷ ts) = spelling names t ∷ pieces_behind names t ts

abbrev behind : List Text → Tok → List Tok → Text
behind names before ts = text_behind names (Some before) ts ++ 10 ∷ []

behind_more : (names : List Text) (before t : Tok) (ts : List Tok) → behind names before (t ∷ ts) ≡ gap_byte (breaks before t) ∷ (spelling names t ++ behind names t ts)
behind_more names before t ts =
    let w = spelling names t in
    let rest = text_behind names (Some t) ts in
    ap (λ g. (g ++ (w ++ rest)) ++ 10 ∷ []) (gap_is before t) ∙ ap (λ s. gap_byte (breaks before t) ∷ s) (append_assoc w rest (10 ∷ []))

-- behind a token a gap begins
behind_begins : (names : List Text) (before : Tok) (ts : List Tok) → (k : Bool) × (rest : Text) × (behind names before ts ≡ gap_byte k ∷ rest)
behind_begins names before [] = (true, [], refl)
behind_begins names before (t ∷ ts) = (breaks before t, spelling names t ++ behind names t ts, behind_more names before t ts)

token_then : (names : List Text) (t : Tok) (ts : List Tok) (ws : List Text) → Stands (spelling names t) → IsPieces (behind names t ts) ws [] → IsPieces (spelling names t ++ behind names t ts) (spelling names t ∷ ws) []
token_then names t ts ws h p =
    let w = spelling names t in
    let begins = behind_begins names t ts in
    let here : IsPieces (w ++ gap_byte begins.0 ∷ begins.1) (w ∷ ws) [] = token_first w begins.0 begins.1 ws h (subst (λ s. IsPieces s ws []) begins.2 p) in
    subst (λ s. IsPieces (w ++ s) (w ∷ ws) []) (sym begins.2) here

pieces_are : (names : List Text) (before : Tok) (ts : List Tok) → AllByRecursion (Lexes names) ts → IsPieces (behind names before ts) (pieces_behind names before ts) []
pieces_are names before [] h = (omega arith, refl, refl)
pieces_are names before (t ∷ ts) h =
    let w = spelling names t in
    let rest = token_then names t ts (pieces_behind names t ts) h.0.stands (pieces_are names t ts h.1) in
    subst (λ s. IsPieces s (pieces_behind names before (t ∷ ts)) []) (sym (behind_more names before t ts))
    (gap_first (breaks before t) w (behind names t ts) (w ∷ pieces_behind names t ts) h.0.stands rest)

all_pieces_are : (names : List Text) (ts : List Tok) → AllByRecursion (Lexes names) ts → IsPieces (text_behind names None ts ++ codes "\n") (all_pieces names ts) []
all_pieces_are names [] h = (omega arith, refl, refl)
all_pieces_are names (t ∷ ts) h =
    let w = spelling names t in
    subst (λ s. IsPieces s (all_pieces names (t ∷ ts)) []) (sym (append_assoc w (text_behind names (Some t) ts) (10 ∷ [])))
    (token_then names t ts (pieces_behind names t ts) h.0.stands (pieces_are names t ts h.1))

-- they are faultless

gap_faultless : (k : Bool) → piece_fault 0 (gap_byte k ∷ []) ≡ None
gap_faultless true = refl
gap_faultless false = refl

behind_faultless : (names : List Text) (before : Tok) (ts : List Tok) → AllByRecursion (Lexes names) ts → IsFaultless (pieces_behind names before ts)
behind_faultless names before [] h = (refl, tt)
behind_faultless names before (t ∷ ts) h = (gap_faultless (breaks before t), (h.0.stands.faultless, behind_faultless names t ts h.1))

all_faultless : (names : List Text) (ts : List Tok) → AllByRecursion (Lexes names) ts → IsFaultless (all_pieces names ts)
all_faultless names [] h = (refl, tt)
all_faultless names (t ∷ ts) h = (h.0.stands.faultless, behind_faultless names t ts h.1)

-- their tokens

gap_no_token : (other : List Text) (at : ℕ) (k : Bool) (ws : List Text) → tokens_from other at ((gap_byte k ∷ []) ∷ ws) ≡ tokens_from other (at + 1) ws
gap_no_token other at true ws = refl
gap_no_token other at false ws = refl

token_more : (other : List Text) (at : ℕ) (w : Text) (ws : List Text) (t : Tok) → token_of other w ≡ Some t → tokens_from other at (w ∷ ws) ≡ record { tok = t; at = at } ∷ tokens_from other (at + length w) ws
token_more other at w ws t e = rw (tokens_from, e)

abbrev toks : List Token → List Tok
toks ts = map (λ t. t.tok) ts

abbrev read_as : List Text → List Text → List Tok → List Tok
read_as other names ts = map (token_by (number_in other names)) ts ++ End ∷ []

token_then_tokens : (names other : List Text) (at : ℕ) (t : Tok) (ts : List Tok) (ws : List Text) → Lexes names t → ((at : ℕ) → toks (tokens_from other at ws) ≡ read_as other names ts) → toks (tokens_from other at (spelling names t ∷ ws)) ≡ read_as other names (t ∷ ts)
token_then_tokens names other at t ts ws h rest =
    let w = spelling names t in
    let same = token_by (number_in other names) t in
    ap toks (token_more other at w ws same (h.again other)) ∙ ap (λ us. same ∷ us) (rest (at + length w))

behind_tokens : (names other : List Text) (at : ℕ) (before : Tok) (ts : List Tok) → AllByRecursion (Lexes names) ts → toks (tokens_from other at (pieces_behind names before ts)) ≡ read_as other names ts
behind_tokens names other at before [] h = refl
behind_tokens names other at before (t ∷ ts) h =
    ap toks (gap_no_token other at (breaks before t) (spelling names t ∷ pieces_behind names t ts))
    ∙ token_then_tokens names other (at + 1) t ts (pieces_behind names t ts) h.0 (λ n. behind_tokens names other n t ts h.1)

all_tokens : (names other : List Text) (ts : List Tok) → AllByRecursion (Lexes names) ts → toks (tokens_from other 0 (all_pieces names ts)) ≡ read_as other names ts
all_tokens names other [] h = refl
all_tokens names other (t ∷ ts) h = token_then_tokens names other 0 t ts (pieces_behind names t ts) h.0 (λ n. behind_tokens names other n t ts h.1)

-- their texts

all_kept : (seen ws : List Text) → AllByRecursion (HasKept (texts_after seen ws)) ws
all_kept seen [] = tt
all_kept seen (w ∷ ws) =
    let later = with_kept seen w in
    subst (λ o. AllByRecursion (HasKept o) (w ∷ ws)) (sym (texts_after-cons seen w ws))
    (λ x e. text_at_place (texts_after later ws) x (kept_there seen w ws x e).0, all_kept later ws)

behind_texts : (names other : List Text) (before : Tok) (ts : List Tok) → AllByRecursion (Lexes names) ts → AllByRecursion (HasKept other) (pieces_behind names before ts) → AllByRecursion (λ t. spelling other (token_by (number_in other names) t) ≡ spelling names t) ts
behind_texts names other before [] h kept = tt
behind_texts names other before (t ∷ ts) h kept = (h.0.text other kept.1.0, behind_texts names other t ts h.1 kept.1.1)

all_texts : (names other : List Text) (ts : List Tok) → AllByRecursion (Lexes names) ts → AllByRecursion (HasKept other) (all_pieces names ts) → AllByRecursion (λ t. spelling other (token_by (number_in other names) t) ≡ spelling names t) ts
all_texts names other [] h kept = tt
all_texts names other (t ∷ ts) h kept = (h.0.text other kept.0, behind_texts names other t ts h.1 kept.1)

-- The canonical text of a spelled program is read back.
pub canonical_tokens : (names : List Text) (p : ProgramTree) → is_spelled names p ≡ true → (other : List Text) × (ts : List Token) × IsReadBack names p other ts
canonical_tokens names p h =
    let ts = program_tokens p in
    let lex = tokens_lex names ts (spelled_tokens names p h) in
    let ws = all_pieces names ts in
    let other = texts_after [] ws in (
      other,
      tokens_from other 0 ws,
      record {
        tokens = (ws, all_pieces_are names ts lex, all_faultless names ts lex, refl, refl);
        same = all_tokens names other ts lex;
        texts = all_texts names other ts lex (all_kept [] ws);
      },
    )
