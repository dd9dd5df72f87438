-- The length of the longest piece at the front of a text.
use Rattle.std.proofs.Common.{◌≡◌, ◌≢◌, ℕ, zero, suc, ◌<◌, ◌≤◌, true, false, ◌∷◌, length, take, get_or, inl, inr, refl, sym, ◌∙◌, arith}
use Rattle.std.specs.List.{prefix_len}
use Rattle.std.proofs.lemmas.Bool.{cases_eq, cases_order, eq-eqb, ne_eqb}
use Rattle.std.proofs.lemmas.List.Sums.{prefix_len-le-length}
use Rattle.text_scan.specs.Text.{Text, is_inner}
use Rattle.pool_syntax.specs.Tokens.{is_piece, is_rest_of_string, longest, longest_within}
use Rattle.text_scan.specs.ByteSets.{is_in}
use Rattle.text_scan.specs.declared.scan.ByteSet.{ByteSet}
use Rattle.pool_lexer.specs.declared.piece.Kind.{Kind}
use Rattle.pool_lexer.specs.declared.piece.Kind.TheVariants.{Text as Quoted}
use Rattle.pool_lexer.specs.Pieces.{IsKind, IsRun}
use Rattle.text_scan.proofs.Laws.{every_front, every_past}
use Rattle.pool_lexer.proofs.Strings.{rest_short, rest_at, rest_long}
use Rattle.pool_lexer.proofs.FirstByte.{string_piece, string_kind}

-- The fronts of more than n bytes are no pieces.
abbrev pub NoneLonger : ℕ → Text → Type 0
NoneLonger n s = (k : ℕ) → n < k → k ≤ length s → is_piece (take k s) ≡ false

within_no : (m : ℕ) (s : Text) → NoneLonger 0 s → m ≤ length s → longest_within m s ≡ 0
within_no zero s longer within = refl
within_no (suc m) s longer within = rw (longest_within, longer (suc m) (omega arith) within) (within_no m s longer (omega arith))

within_is : (m n : ℕ) (s : Text) → NoneLonger n s → is_piece (take n s) ≡ true → n ≤ m → m ≤ length s → 0 < n → longest_within m s ≡ n
within_is zero n s longer is low within some = absurd (omega arith)
within_is (suc m) n s longer is low within some =
    elim (cases_eq n (suc m)) [
      | inl e ↦ let here : is_piece (take (suc m) s) ≡ true = rw e at is in rw (longest_within, here) (sym e)
      | inr ne ↦ rw (longest_within, longer (suc m) (omega arith) within) (within_is m n s longer is (omega arith) (omega arith) some)
    ]

-- It is 0 where no front is a piece, and n where n bytes are a piece and more are none.
pub longest_no : (s : Text) → NoneLonger 0 s → longest s ≡ 0
longest_no s longer = within_no (length s) s longer (omega arith)

pub longest_is : (n : ℕ) (s : Text) → 0 < n → n ≤ length s → is_piece (take n s) ≡ true → NoneLonger n s → longest s ≡ n
longest_is n s some fits is longer = within_is (length s) n s longer is fits (omega arith) some

-- a run
module _ (b : ℕ) (bs : Text) (set : ByteSet) (kind : Kind) (run : IsRun b set kind) where
  length_of_run : prefix_len (is_in set) (b ∷ bs) ≡ suc (prefix_len (is_in set) bs)
  length_of_run = rw run.first (omega arith)

  pub some_run : 0 < prefix_len (is_in set) (b ∷ bs)
  some_run = rw length_of_run (omega arith)

  longer_run : NoneLonger (suc (prefix_len (is_in set) bs)) (b ∷ bs)
  longer_run zero past fits = absurd (omega arith)
  longer_run (suc k) past fits = run.piece (take k bs) ∙ every_past (is_in set) k bs (omega arith) (omega arith)

  pub longest_run : longest (b ∷ bs) ≡ prefix_len (is_in set) (b ∷ bs)
  longest_run =
      let n = prefix_len (is_in set) bs in
      let fits = prefix_len-le-length (is_in set) bs in
      let is : is_piece (b ∷ take n bs) ≡ true = run.piece (take n bs) ∙ every_front (is_in set) n bs (omega arith) in
      longest_is (suc n) (b ∷ bs) (omega arith) (omega arith) is longer_run ∙ sym length_of_run

  pub kind_of_run : IsKind kind (take (prefix_len (is_in set) (b ∷ bs)) (b ∷ bs))
  kind_of_run =
      let n = prefix_len (is_in set) bs in
      rw length_of_run (run.kind_is (take n bs) (every_front (is_in set) n bs (omega arith)))

-- a string, closed by the quote at its end
module _ (b : ℕ) (bs : Text) (quote : b ≡ 34) where
  longer_string : NoneLonger (suc (suc (prefix_len is_inner bs))) (b ∷ bs)
  longer_string zero past fits = absurd (omega arith)
  longer_string (suc k) past fits = string_piece b (take k bs) quote ∙ rest_long (prefix_len is_inner bs) k bs refl (omega arith) (omega arith)

  pub longest_string : prefix_len is_inner bs < length bs → get_or bs (prefix_len is_inner bs) 0 ≡ 34 → longest (b ∷ bs) ≡ suc (suc (prefix_len is_inner bs))
  longest_string some closed =
      let n = prefix_len is_inner bs in
      let end : is_rest_of_string (take (suc n) bs) ≡ true = rest_at n bs refl some ∙ eq-eqb _ 34 closed in
      longest_is (suc (suc n)) (b ∷ bs) (omega arith) (omega arith) (string_piece b (take (suc n) bs) quote ∙ end) longer_string

  pub kind_of_string : prefix_len is_inner bs < length bs → get_or bs (prefix_len is_inner bs) 0 ≡ 34 → IsKind Quoted (take (suc (suc (prefix_len is_inner bs))) (b ∷ bs))
  kind_of_string some closed =
      let n = prefix_len is_inner bs in
      string_kind b (take (suc n) bs) quote (rest_at n bs refl some ∙ eq-eqb _ 34 closed)

  never_closed : (prefix_len is_inner bs < length bs → get_or bs (prefix_len is_inner bs) 0 ≢ 34) → (k : ℕ) → k ≤ length bs → is_rest_of_string (take k bs) ≡ false
  never_closed open_end k fits =
      let n = prefix_len is_inner bs in
      elim (cases_order k (suc n)) [
        | inl e ↦ let some : n < length bs = omega arith in rw e (rest_at n bs refl some ∙ ne_eqb _ 34 (open_end some))
        | inr (inl below) ↦ rest_short k bs (omega arith)
        | inr (inr above) ↦ rest_long n k bs refl above fits
      ]

  none_of_string : (prefix_len is_inner bs < length bs → get_or bs (prefix_len is_inner bs) 0 ≢ 34) → NoneLonger 0 (b ∷ bs)
  none_of_string open_end zero past fits = absurd (omega arith)
  none_of_string open_end (suc k) past fits = string_piece b (take k bs) quote ∙ never_closed open_end k (omega arith)

  pub longest_open : (prefix_len is_inner bs < length bs → get_or bs (prefix_len is_inner bs) 0 ≢ 34) → longest (b ∷ bs) ≡ 0
  longest_open open_end = longest_no (b ∷ bs) (none_of_string open_end)
