-- The bytes of an object code file have no tokens: after their first word comes a byte that begins no token.
use Rattle.std.proofs.Common.{◌≡◌, refl, subst, ℕ, zero, suc, List, [], ◌∷◌, ◌++◌, length, drop, Bool, true, false, arith}
use Rattle.std.specs.Prelude.{if◌then◌else◌, ◌==◌}
use Rattle.run_types.proofs.Laws.{equal}
use Rattle.pool_syntax.specs.declared.token.Token.{Token}
use Rattle.text_scan.specs.Text.{Text}
use Rattle.pool_syntax.specs.Tokens.{HasTokens, IsPieces, longest, longest_within}
use Rattle.code_semantics.specs.declared.file.UnitFile.{UnitFile}
use Rattle.object_code.specs.FileBytes.{head_bytes}
use Rattle.object_code.specs.Read.{Read, Got, Stop, then_read}
use Rattle.object_code.specs.Decode.{Decoded, Says, BadBytes, behind_front, decode, decoded, read_exactly}

-- what was read exactly stands in front
exactly_in_front : (hs bs rest : Text) (u : Unit {0}) → read_exactly hs bs ≡ Got u rest → bs ≡ hs ++ rest
exactly_in_front [] bs rest u e = let z : ◌≡◌ {A = Read (Unit {0})} (Got tt bs) (Got u rest) = e in cc
exactly_in_front (h ∷ hs) [] rest u e = absurd (let z : ◌≡◌ {A = Read (Unit {0})} (Stop 0) (Got u rest) = e in cc)
exactly_in_front (h ∷ hs) (b ∷ bs) rest u e = by (h == b) refl e (exactly_in_front hs bs rest u)
  where
    by : (t : Bool) → (h == b) ≡ t → (if t then read_exactly hs bs else Stop (suc (length bs))) ≡ Got u rest → (read_exactly hs bs ≡ Got u rest → bs ≡ hs ++ rest) → b ∷ bs ≡ (h ∷ hs) ++ rest
    by true same r behind =
        let one : h ≡ b = equal h b same in
        let more : bs ≡ hs ++ rest = behind r in
        cc
    by false same r behind = absurd (let z : ◌≡◌ {A = Read (Unit {0})} (Stop (suc (length bs))) (Got u rest) = r in cc)

file_in_front : (bs : Text) (f : UnitFile) → decode bs ≡ Says f → (rest : Text) × (bs ≡ head_bytes ++ rest)
file_in_front bs f e = by (read_exactly head_bytes bs) refl e
  where
    by : (r : Read (Unit {0})) → read_exactly head_bytes bs ≡ r → decoded (length bs) (then_read r behind_front) ≡ Says f → (rest : Text) × (bs ≡ head_bytes ++ rest)
    by (Got u rest) i h = (rest, exactly_in_front head_bytes bs rest u i)
    by (Stop left) i h = absurd (let z : ◌≡◌ {A = Decoded} (BadBytes _) (Says f) = h in cc)

module _ (rest : Text) where
  abbrev file_text : Text
  file_text = 80 ∷ 79 ∷ 79 ∷ 76 ∷ 85 ∷ 1 ∷ rest

  -- no front with the byte behind the first word is a piece
  longer_is_none : (k : ℕ) → longest_within (suc (suc (suc (suc (suc k))))) file_text ≡ 5
  longer_is_none zero = refl
  longer_is_none (suc k) = longer_is_none k

  first_piece : longest file_text ≡ 5
  first_piece = longer_is_none (suc (length rest))

  none_behind : (k : ℕ) → longest_within k (1 ∷ rest) ≡ 0
  none_behind zero = refl
  none_behind (suc k) = none_behind k

  no_second : (ws : List Text) → IsPieces (1 ∷ rest) ws [] → ⊥
  no_second [] h = let z : 1 ∷ rest ≡ [] = h in absurd (cc)
  no_second (w ∷ ws) h = let a = h.0 in let b = none_behind (suc (length rest)) in absurd (omega (arith, a, b))

  no_pieces : (ws : List Text) → IsPieces file_text ws [] → ⊥
  no_pieces [] h = let z : file_text ≡ [] = h in absurd (cc)
  no_pieces (w ∷ ws) h = no_second ws (subst (λ n. IsPieces (drop n file_text) ws []) first_piece h.2)

pub no_program : (s : Text) (f : UnitFile) (names : List Text) (ts : List Token) → decode s ≡ Says f → HasTokens s names ts → ⊥
no_program s f names ts said h =
    let front = file_in_front s f said in
    no_pieces front.0 h.0 (subst (λ t. IsPieces t h.0 []) front.1 h.1)
