-- The piece that begins at a place of a text.
use Rattle.std.proofs.Common.{◌≡◌, ◌≢◌, ℕ, suc, ◌+◌, ◌-◌, ◌<◌, ◌≤◌, ◌∷◌, length, take, drop, get_or, slice_range, min, [], Some, None, refl, sym, ap, ◌∙◌, arith}
use Rattle.std.specs.List.{prefix_len}
use Rattle.std.proofs.lemmas.List.{drop_more, length-drop, length-take, get_or-drop}
use Rattle.std.proofs.lemmas.Bool.{ne_eqb}
use Rattle.std.proofs.lemmas.List.Sums.{prefix_len-le-length}
use Rattle.text_scan.specs.Text.{Text, is_inner, lookup}
use Rattle.pool_syntax.specs.Tokens.{longest, no_piece, signs}
use Rattle.pool_syntax.specs.declared.token.Sign.{Sign}
use Rattle.pool_syntax.specs.declared.token.LexFault.TheVariants.{OpenString, BadByte}
use Rattle.text_scan.specs.ByteSets.{is_in}
use Rattle.text_scan.specs.declared.scan.ByteSet.{ByteSet}
use Rattle.text_scan.specs.declared.scan.ByteSet.TheVariants.{Inner}
use Rattle.pool_lexer.specs.declared.piece.Kind.{Kind}
use Rattle.pool_lexer.specs.declared.piece.Kind.TheVariants.{Text as Quoted, Sign as OfSign}
use Rattle.pool_lexer.specs.Pieces.{IsKind, IsRun, IsNoRun, IsPieceAt}
use Rattle.pool_lexer.proofs.FirstByte.{sign_kind}
use Rattle.pool_lexer.proofs.Signs.{front_same, longest_wide, longest_narrow, longest_none}
use Rattle.pool_lexer.proofs.Longest.{some_run, longest_run, kind_of_run, longest_string, kind_of_string, longest_open}

-- n bytes are the longest piece
piece_is : (bytes : Text) (at end n : ℕ) (kind : Kind) → end ≡ at + n → 0 < n → n ≤ length (drop at bytes) → longest (drop at bytes) ≡ n → IsKind kind (take n (drop at bytes)) → IsPieceAt bytes at record { kind = kind; end = end }
piece_is bytes at end n kind e some fits long is =
    let rest = length-drop at bytes in
    let cut : end - at ≡ n = omega arith in
    record { ahead = omega arith; within = omega arith; longest_is = omega arith; kind_is = rw cut is }

module _ (bytes : Text) (at : ℕ) (within : at < length bytes) where
  split : drop at bytes ≡ get_or bytes at 0 ∷ drop (at + 1) bytes
  split = drop_more bytes at 0 within

  pub run_is : (set : ByteSet) (kind : Kind) (end : ℕ) → IsRun (get_or bytes at 0) set kind → end ≡ at + prefix_len (is_in set) (drop at bytes) → IsPieceAt bytes at record { kind = kind; end = end }
  run_is set kind end run e =
      let n = prefix_len (is_in set) (drop at bytes) in
      piece_is bytes at end n kind e (rw split (some_run (get_or bytes at 0) (drop (at + 1) bytes) set kind run)) (prefix_len-le-length (is_in set) (drop at bytes))
      (rw split (longest_run (get_or bytes at 0) (drop (at + 1) bytes) set kind run))
      (rw split (kind_of_run (get_or bytes at 0) (drop (at + 1) bytes) set kind run))

  module _ (quote : get_or bytes at 0 ≡ 34) (close : ℕ) (inside : close ≡ at + 1 + prefix_len (is_in Inner) (drop (at + 1) bytes)) where
    pub string_is : close < length bytes → get_or bytes close 0 ≡ 34 → IsPieceAt bytes at record { kind = Quoted; end = close + 1 }
    string_is some closed =
        let bs = drop (at + 1) bytes in
        let long = length-drop (at + 1) bytes in
        let whole = length-drop at bytes in
        let n = prefix_len is_inner bs in
        let end : get_or bs n 0 ≡ 34 = get_or-drop (at + 1) bytes n 0 ∙ ap (λ k. get_or bytes k 0) (sym inside) ∙ closed in
        piece_is bytes at (close + 1) (suc (suc n)) Quoted (omega arith) (omega arith) (omega arith)
        (rw split (longest_string (get_or bytes at 0) bs quote (omega arith) end))
        (rw split (kind_of_string (get_or bytes at 0) bs quote (omega arith) end))

    pub no_string : (close < length bytes → get_or bytes close 0 ≢ 34) → (longest (drop at bytes) ≡ 0) × (no_piece at (drop at bytes) ≡ Some (OpenString at))
    no_string open_end =
        let bs = drop (at + 1) bytes in
        let long = length-drop (at + 1) bytes in
        let n = prefix_len is_inner bs in
        let there : get_or bs n 0 ≡ get_or bytes close 0 = get_or-drop (at + 1) bytes n 0 ∙ ap (λ k. get_or bytes k 0) (sym inside) in
        (rw split (longest_open (get_or bytes at 0) bs quote (λ some. rw there (open_end (omega arith)))), rw (split, quote))

  module _ (no_run : IsNoRun (get_or bytes at 0)) (no_quote : get_or bytes at 0 ≢ 34) where
    -- the first byte, or the first two
    cut_narrow : slice_range bytes at (at + 1) ≡ get_or bytes at 0 ∷ []
    cut_narrow = let one : at + 1 - at ≡ 1 = omega arith in rw (one, split)

    size_wide : (end : ℕ) → end ≡ min (length bytes) (at + 2) → end ≡ at + suc (length (take 1 (drop (at + 1) bytes)))
    size_wide end e =
        let front = length-take 1 (drop (at + 1) bytes) in
        let rest = length-drop (at + 1) bytes in
        omega arith

    cut_wide : (end : ℕ) → end ≡ min (length bytes) (at + 2) → slice_range bytes at end ≡ get_or bytes at 0 ∷ take 1 (drop (at + 1) bytes)
    cut_wide end e =
        let size : end - at ≡ suc (length (take 1 (drop (at + 1) bytes))) = omega (arith, size_wide end e) in
        rw (size, split, front_same (drop (at + 1) bytes))

    pub wide_is : (s : Sign) (end : ℕ) → end ≡ min (length bytes) (at + 2) → lookup signs (slice_range bytes at end) ≡ Some s → IsPieceAt bytes at record { kind = OfSign s; end = end }
    wide_is s end e found =
        let b = get_or bytes at 0 in
        let bs = drop (at + 1) bytes in
        let rest = length-drop at bytes in
        let cut = cut_wide end e in
        let there : lookup signs (b ∷ take 1 bs) ≡ Some s = ap (lookup signs) (sym cut) ∙ found in
        piece_is bytes at end (suc (length (take 1 bs))) (OfSign s) (size_wide end e) (omega arith) (omega (arith, size_wide end e))
        (rw split (longest_wide b bs no_run no_quote s there))
        (rw (split, front_same bs) (sign_kind b (take 1 bs) s no_run no_quote there))

    -- where two bytes are none
    module _ (end : ℕ) (e : end ≡ min (length bytes) (at + 2)) (wide : lookup signs (slice_range bytes at end) ≡ None) where
      no_wide : lookup signs (get_or bytes at 0 ∷ take 1 (drop (at + 1) bytes)) ≡ None
      no_wide = ap (lookup signs) (sym (cut_wide end e)) ∙ wide

      pub narrow_is : (s : Sign) → lookup signs (slice_range bytes at (at + 1)) ≡ Some s → IsPieceAt bytes at record { kind = OfSign s; end = at + 1 }
      narrow_is s found =
          let b = get_or bytes at 0 in
          let bs = drop (at + 1) bytes in
          let rest = length-drop at bytes in
          let there : lookup signs (b ∷ []) ≡ Some s = ap (lookup signs) (sym cut_narrow) ∙ found in
          piece_is bytes at (at + 1) 1 (OfSign s) refl (omega arith) (omega arith)
          (rw split (longest_narrow b bs no_run no_quote s no_wide there))
          (rw split (sign_kind b [] s no_run no_quote there))

      pub no_sign : lookup signs (slice_range bytes at (at + 1)) ≡ None → (longest (drop at bytes) ≡ 0) × (no_piece at (drop at bytes) ≡ Some (BadByte at))
      no_sign narrow =
          let none = ap (lookup signs) (sym cut_narrow) ∙ narrow in
          (rw split (longest_none (get_or bytes at 0) (drop (at + 1) bytes) no_run no_quote no_wide none), rw (split, no_piece, ne_eqb (get_or bytes at 0) 34 no_quote))
