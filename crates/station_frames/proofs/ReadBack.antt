-- Decoding the encoding of a frame gives the frame, and bytes that decode to a frame are its encoding.
use Rattle.std.proofs.Common.{◌≡◌, refl, sym, ap, ap₂, subst, ◌∙◌, ℕ, zero, suc, ◌<◌, List, [], ◌∷◌, ◌++◌, Option, Some, None, get_or, arith}
use Rattle.std.specs.Int.{w32, from_be_bytes}
use Rattle.std.proofs.lemmas.Nat.{be_bytes_4, from_be_bytes-to_be_bytes_4}
use Rattle.run_types.specs.Partial.{◌>>=◌}
use Rattle.run_types.proofs.Laws.{same_some}
use Rattle.wire_link.specs.declared.frame.Frame.{Frame}
use Rattle.wire_link.specs.declared.frame.Frame.TheVariants as F
use Rattle.wire_link.specs.Bytes as B
use Rattle.wire_link.specs.Bytes.{AreBytes, IsNumber, number_bytes, read_number}
use Rattle.wire_link.proofs.Laws as W
use Rattle.station_frames.specs.declared.frame.StationFrame.{StationFrame}
use Rattle.station_frames.specs.declared.frame.StationFrame.TheVariants as S
use Rattle.station_frames.specs.Bytes.{FrameFits, decoded, encoding, joined, lower, of_run, tail_frame, upper}
use Rattle.station_frames.proofs.Halves.{halves_join, joined_small, lower_joined, lower_small, upper_joined, upper_small}

number_read : (n : ℕ) (rest : List ℕ) → IsNumber n → read_number (number_bytes n ++ rest) ≡ Some (n, rest)
number_read n rest h = ap (λ k. Some (k, rest)) (from_be_bytes-to_be_bytes_4 n h)

lower_fits : (f : StationFrame) → FrameFits f → B.FrameFits (lower f)
lower_fits (S.Data n p) h = (lower_small n, h.1)
lower_fits (S.Ack n) h = lower_small n

upper_fits : (f : StationFrame) → FrameFits f → IsNumber (upper f)
upper_fits (S.Data n p) h = upper_small n h.0
upper_fits (S.Ack n) h = upper_small n h

joined_is : (f : StationFrame) → joined (upper f) (lower f) ≡ f
joined_is (S.Data n p) = ap (λ k. S.Data k p) (halves_join n)
joined_is (S.Ack n) = ap (λ k. S.Ack k) (halves_join n)

-- the frame of an encoding is the frame
pub frame_read : (run : ℕ) (f : StationFrame) → IsNumber run → FrameFits f → decoded (encoding run f) ≡ Some (run, f)
frame_read run f small fits =
    ap (λ o. o >>= λ r. read_number r.1 >>= λ s. tail_frame s.1 >>= of_run r.0 s.0) (number_read run (number_bytes (upper f) ++ B.encoding (lower f)) small)
    ∙ ap (λ o. o >>= λ s. tail_frame s.1 >>= of_run run s.0) (number_read (upper f) (B.encoding (lower f)) (upper_fits f fits))
    ∙ ap (λ o. o >>= of_run run (upper f)) (W.frame_read (lower f) (lower_fits f fits))
    ∙ ap (λ g. Some (run, g)) (joined_is f)

-- a number that was read, and the bytes after it
record IsRead (bs : List ℕ) (r : ℕ × List ℕ) : Type 0 where
  whole : bs ≡ number_bytes r.0 ++ r.1
  small : IsNumber r.0
  bytes : AreBytes r.1

number_was : (bs : List ℕ) (r : ℕ × List ℕ) → AreBytes bs → read_number bs ≡ Some r → IsRead bs r
number_was [] r s e = absurd (cc)
number_was (a ∷ []) r s e = absurd (cc)
number_was (a ∷ b ∷ []) r s e = absurd (cc)
number_was (a ∷ b ∷ c ∷ []) r s e = absurd (cc)
number_was (a ∷ b ∷ c ∷ d ∷ rest) r (h, (i, (j, (k, s)))) e = subst (IsRead (a ∷ b ∷ c ∷ d ∷ rest)) (same_some e) (record {
  whole = ap (λ xs. xs ++ rest) (sym (be_bytes_4 (a ∷ b ∷ c ∷ d ∷ []) (from_be_bytes w32 (a ∷ b ∷ c ∷ d ∷ [])) refl small refl));
  small = omega (arith, h, i, j, k);
  bytes = s;
})
  where
    small : (n : ℕ) → get_or (a ∷ b ∷ c ∷ d ∷ []) n 0 < 256
    small zero = h
    small (suc zero) = i
    small (suc (suc zero)) = j
    small (suc (suc (suc zero))) = k
    small (suc (suc (suc (suc n)))) = omega arith

upper_is : (high : ℕ) (g : Frame) → B.FrameFits g → upper (joined high g) ≡ high
upper_is high (F.Data low p) h = upper_joined high low h.0
upper_is high (F.Ack low) h = upper_joined high low h

lower_is : (high : ℕ) (g : Frame) → B.FrameFits g → lower (joined high g) ≡ g
lower_is high (F.Data low p) h = ap (λ k. F.Data k p) (lower_joined high low h.0)
lower_is high (F.Ack low) h = ap (λ k. F.Ack k) (lower_joined high low h)

joined_fits : (high : ℕ) (g : Frame) → IsNumber high → B.FrameFits g → FrameFits (joined high g)
joined_fits high (F.Data low p) h k = (joined_small high low h k.0, k.1)
joined_fits high (F.Ack low) h k = joined_small high low h k

abbrev IsWritten : List ℕ → ℕ → StationFrame → Type 0
IsWritten bs run f = (encoding run f ≡ bs) × IsNumber run × FrameFits f

-- bytes that decode to a frame are its encoding
pub frame_written : (bs : List ℕ) (run : ℕ) (f : StationFrame) → AreBytes bs → decoded bs ≡ Some (run, f) → (encoding run f ≡ bs) × IsNumber run × FrameFits f
frame_written bs run f bytes e = first (read_number bs) refl e
  where
    third : (r s : ℕ × List ℕ) (g : Frame) → IsRead bs r → IsRead r.1 s → B.decoded s.1 ≡ Some g → ◌≡◌ {A = Option (ℕ × StationFrame)} (Some (r.0, joined s.0 g)) (Some (run, f)) → IsWritten bs run f
    third r s g a b d e =
        let w = W.frame_written s.1 g b.bytes d in
        let same : ◌≡◌ {A = ℕ × StationFrame} (r.0, joined s.0 g) (run, f) = same_some e in
        subst (λ (z : ℕ × StationFrame). IsWritten bs z.0 z.1) same (
          ap₂ (λ high h. number_bytes r.0 ++ (number_bytes high ++ B.encoding h)) (upper_is s.0 g w.1) (lower_is s.0 g w.1) ∙ ap (λ z. number_bytes r.0 ++ (number_bytes s.0 ++ z)) w.0
              ∙ ap (λ z. number_bytes r.0 ++ z) (sym b.whole) ∙ sym a.whole,
          a.small,
          joined_fits s.0 g b.small w.1,
        )

    tail : (r s : ℕ × List ℕ) (o : Option Frame) → IsRead bs r → IsRead r.1 s → B.decoded s.1 ≡ o → (o >>= of_run r.0 s.0) ≡ Some (run, f) → IsWritten bs run f
    tail r s None a b d e = absurd (cc)
    tail r s (Some g) a b d e = third r s g a b d e

    second : (r : ℕ × List ℕ) (o : Option (ℕ × List ℕ)) → IsRead bs r → read_number r.1 ≡ o → (o >>= λ s. tail_frame s.1 >>= of_run r.0 s.0) ≡ Some (run, f) → IsWritten bs run f
    second r None a d e = absurd (cc)
    second r (Some s) a d e = tail r s (B.decoded s.1) a (number_was r.1 s a.bytes d) refl e

    first : (o : Option (ℕ × List ℕ)) → read_number bs ≡ o → (o >>= λ r. read_number r.1 >>= λ s. tail_frame s.1 >>= of_run r.0 s.0) ≡ Some (run, f) → IsWritten bs run f
    first None d e = absurd (cc)
    first (Some r) d e = second r (read_number r.1) (number_was bs r bytes d) refl e

-- two frames with the same bytes are equal
pub same_frames : (run other : ℕ) (f g : StationFrame) → IsNumber run → IsNumber other → FrameFits f → FrameFits g → encoding run f ≡ encoding other g → (run ≡ other) × (f ≡ g)
same_frames run other f g a b h k e =
    let both : ◌≡◌ {A = Option (ℕ × StationFrame)} (Some (run, f)) (Some (other, g)) = sym (frame_read run f a h) ∙ ap decoded e ∙ frame_read other g b k in
    let same : ◌≡◌ {A = ℕ × StationFrame} (run, f) (other, g) = same_some both in
    (ap (λ (z : ℕ × StationFrame). z.0) same, ap (λ (z : ℕ × StationFrame). z.1) same)
