-- A piece that was written is read back.
use Rattle.std.proofs.Common.{◌≡◌, refl, ap, ◌∙◌, ◌^◌, ◌<◌, [], ◌∷◌, ◌++◌, length, take, drop, Option, Some, None, true, Bool, if◌then◌else◌, nat_le, length-append, arith}
use Rattle.std.proofs.lemmas.Nat.{from_be_bytes-to_be_bytes_4}
use Rattle.text_scan.specs.Text.{Text}
use Rattle.station_text.specs.Pieces.{IsFirstPiece, cut_at, piece_bytes}

take_front : (bs rest : Text) → take (length bs) (bs ++ rest) ≡ bs
take_front [] rest = refl
take_front (b ∷ bs) rest = ap (λ (t : Text). b ∷ t) (take_front bs rest)

drop_front : (bs rest : Text) → drop (length bs) (bs ++ rest) ≡ rest
drop_front [] rest = refl
drop_front (b ∷ bs) rest = drop_front bs rest

abbrev Cut : Type 0
Cut = Text × Text

cut_is : (bs rest : Text) → ◌≡◌ {A = Option Cut} (cut_at (length bs) (bs ++ rest)) (Some (bs, rest))
cut_is bs rest =
    let long = length-append bs rest in
    let t : nat_le (length bs) (length (bs ++ rest)) ≡ true = grind (arith, long) in
    let choose : Bool → Option Cut = λ b. if b then Some (take (length bs) (bs ++ rest), drop (length bs) (bs ++ rest)) else None in
    ap choose t ∙ λ i. Some (take_front bs rest i, drop_front bs rest i)

pub piece_read : (bs rest : Text) → length bs < 2 ^ 32 → IsFirstPiece (piece_bytes bs ++ rest) bs rest
piece_read bs rest h = ap (λ n. cut_at n (bs ++ rest)) (from_be_bytes-to_be_bytes_4 (length bs) h) ∙ cut_is bs rest
