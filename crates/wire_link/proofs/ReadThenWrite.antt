-- Bytes that decode to a frame are its encoding.
use Rattle.std.proofs.Common.{◌≡◌, refl, sym, ap, subst, ◌∙◌, ℕ, zero, suc, ◌^◌, ◌<◌, ◌≤◌, ◌==◌, List, [], ◌∷◌, ◌++◌, append_assoc, append-nil, length, Some, None, Bool, true, false, if◌then◌else◌, get_or, arith}
use Rattle.std.specs.Prelude.{nat_le}
use Rattle.std.specs.Int.{w32, w64, to_be_bytes, from_be_bytes, cast_signed, cast_unsigned}
use Rattle.std.proofs.lemmas.Nat.{be_bytes_4, be_bytes_8}
use Rattle.std.proofs.lemmas.Int.{of_z-to_z}
use Rattle.run_types.specs.declared.types.Value.{Value}
use Rattle.run_types.specs.declared.types.Value.TheVariants as V
use Rattle.run_types.specs.Partial.{◌>>=◌}
use Rattle.run_types.specs.Tables.{Each}
use Rattle.run_types.proofs.Laws.{same_some, equal}
use Rattle.rendezvous_protocol.specs.declared.packet.Packet.{Packet}
use Rattle.rendezvous_protocol.specs.declared.packet.Packet.TheVariants as P
use Rattle.wire_link.specs.declared.frame.Frame.{Frame}
use Rattle.wire_link.specs.declared.frame.Frame.TheVariants as F
use Rattle.wire_link.specs.Bytes.{number_bytes, value_bytes, values_bytes, args_bytes, packet_bytes, encoding, Read, read_number, read_integer, read_truth, read_value, read_values, read_args, read_create, read_created, read_request, read_result, read_async, read_packet, read_data, read_ack, read_frame, all_read, decoded, IsNumber, ValueFits, ArgsFit, PacketFits, FrameFits, AreBytes}

-- the bytes are those of something that has an encoding, and bytes behind it
record Was {X : Type 0} (bytes : X → List ℕ) (Fits : X → Type 0) (bs : List ℕ) (x : X) (rest : List ℕ) : Type 0 where
  whole : bs ≡ bytes x ++ rest
  fits : Fits x
  small : AreBytes rest

-- what was read
abbrev Reads : {X : Type 0} → (X → List ℕ) → (X → Type 0) → List ℕ → Read X → Type 0
Reads bytes Fits bs None = Unit {0}
Reads bytes Fits bs (Some r) = Was bytes Fits bs r.0 r.1

got : {X : Type 0} (bytes : X → List ℕ) (Fits : X → Type 0) (bs : List ℕ) (o : Read X) (r : X × List ℕ) → Reads bytes Fits bs o → o ≡ Some r → Was bytes Fits bs r.0 r.1
got bytes Fits bs o r w h = subst (Reads bytes Fits bs) h w

number_was : (bs : List ℕ) → AreBytes bs → Reads number_bytes IsNumber bs (read_number bs)
number_was [] s = tt
number_was (a ∷ []) s = tt
number_was (a ∷ b ∷ []) s = tt
number_was (a ∷ b ∷ c ∷ []) s = tt
number_was (a ∷ b ∷ c ∷ d ∷ rest) (h, (i, (j, (k, s)))) = record {
  whole = ap (λ xs. xs ++ rest) (sym (be_bytes_4 (a ∷ b ∷ c ∷ d ∷ []) (from_be_bytes w32 (a ∷ b ∷ c ∷ d ∷ [])) refl small refl));
  fits = omega (arith, h, i, j, k);
  small = s;
}
  where
    small : (n : ℕ) → get_or (a ∷ b ∷ c ∷ d ∷ []) n 0 < 256
    small zero = h
    small (suc zero) = i
    small (suc (suc zero)) = j
    small (suc (suc (suc zero))) = k
    small (suc (suc (suc (suc n)))) = omega arith

integer_was : (bs : List ℕ) → AreBytes bs → Reads value_bytes ValueFits (1 ∷ bs) (read_integer bs)
integer_was [] s = tt
integer_was (a ∷ []) s = tt
integer_was (a ∷ b ∷ []) s = tt
integer_was (a ∷ b ∷ c ∷ []) s = tt
integer_was (a ∷ b ∷ c ∷ d ∷ []) s = tt
integer_was (a ∷ b ∷ c ∷ d ∷ e ∷ []) s = tt
integer_was (a ∷ b ∷ c ∷ d ∷ e ∷ f ∷ []) s = tt
integer_was (a ∷ b ∷ c ∷ d ∷ e ∷ f ∷ g ∷ []) s = tt
integer_was (a ∷ b ∷ c ∷ d ∷ e ∷ f ∷ g ∷ h ∷ rest) (a', (b', (c', (d', (e', (f', (g', (h', s)))))))) =
    let n = from_be_bytes w64 (a ∷ b ∷ c ∷ d ∷ e ∷ f ∷ g ∷ h ∷ []) in
    let fits : n < 2 ^ 64 = omega (arith, a', b', c', d', e', f', g', h') in
    let back : cast_unsigned w64 (cast_signed w64 n) ≡ n = of_z-to_z w64 n fits in
    record {
      whole = ap (λ xs. 1 ∷ (xs ++ rest)) (sym (be_bytes_8 (a ∷ b ∷ c ∷ d ∷ e ∷ f ∷ g ∷ h ∷ []) n refl small refl)) ∙ ap (λ k. 1 ∷ (to_be_bytes w64 k ++ rest)) (sym back);
      fits = (subst (λ k. k < 2 ^ 64) (sym back) fits, ap (cast_signed w64) back);
      small = s;
    }
  where
    small : (n : ℕ) → get_or (a ∷ b ∷ c ∷ d ∷ e ∷ f ∷ g ∷ h ∷ []) n 0 < 256
    small zero = a'
    small (suc zero) = b'
    small (suc (suc zero)) = c'
    small (suc (suc (suc zero))) = d'
    small (suc (suc (suc (suc zero)))) = e'
    small (suc (suc (suc (suc (suc zero))))) = f'
    small (suc (suc (suc (suc (suc (suc zero)))))) = g'
    small (suc (suc (suc (suc (suc (suc (suc zero))))))) = h'
    small (suc (suc (suc (suc (suc (suc (suc (suc n)))))))) = omega arith

truth_was : (bs : List ℕ) → AreBytes bs → Reads value_bytes ValueFits (2 ∷ bs) (read_truth bs)
truth_was [] s = tt
truth_was (b ∷ rest) s = by (b == 0) (b == 1) refl refl
  where
    by : (t u : Bool) → (b == 0) ≡ t → (b == 1) ≡ u → Reads value_bytes ValueFits (2 ∷ b ∷ rest) (if t then Some (V.Bool false, rest) else (if u then Some (V.Bool true, rest) else None))
    by true u i j = record { whole = ap (λ z. 2 ∷ z ∷ rest) (equal b 0 i); fits = tt; small = s.1 }
    by false true i j = record { whole = ap (λ z. 2 ∷ z ∷ rest) (equal b 1 j); fits = tt; small = s.1 }
    by false false i j = tt

named_was : (bs : List ℕ) → AreBytes bs → Reads value_bytes ValueFits (3 ∷ bs) (read_number bs >>= λ r. Some (V.Ref r.0, r.1))
named_was bs s = by (read_number bs) (number_was bs s)
  where
    by : (o : Read ℕ) → Reads number_bytes IsNumber bs o → Reads value_bytes ValueFits (3 ∷ bs) (o >>= λ r. Some (V.Ref r.0, r.1))
    by None w = tt
    by (Some r) w = record { whole = ap (λ xs. 3 ∷ xs) w.whole; fits = w.fits; small = w.small }

value_was : (bs : List ℕ) → AreBytes bs → Reads value_bytes ValueFits bs (read_value bs)
value_was [] s = tt
value_was (k ∷ bs) s = by (k == 1) (k == 2) (k == 3) (k == 4) refl refl refl refl
  where
    first : (n : ℕ) (o : Read Value) → (k == n) ≡ true → Reads value_bytes ValueFits (n ∷ bs) o → Reads value_bytes ValueFits (k ∷ bs) o
    first n o h w = subst (λ z. Reads value_bytes ValueFits (z ∷ bs) o) (sym (equal k n h)) w

    by : (a b c d : Bool) → (k == 1) ≡ a → (k == 2) ≡ b → (k == 3) ≡ c → (k == 4) ≡ d
        → Reads value_bytes ValueFits (k ∷ bs) (if a then read_integer bs else (if b then read_truth bs else (if c then (read_number bs >>= λ r. Some (V.Ref r.0, r.1)) else (if d then Some (V.Nil, bs) else None))))
    by true b c d h i j l = first 1 (read_integer bs) h (integer_was bs s.1)
    by false true c d h i j l = first 2 (read_truth bs) i (truth_was bs s.1)
    by false false true d h i j l = first 3 (read_number bs >>= λ r. Some (V.Ref r.0, r.1)) j (named_was bs s.1)
    by false false false true h i j l = first 4 (Some (V.Nil, bs)) l (record { whole = refl; fits = tt; small = s.1 })
    by false false false false h i j l = tt

-- so many values
record WereValues (n : ℕ) (bs : List ℕ) (vs : List Value) (rest : List ℕ) : Type 0 where
  was : Was values_bytes (Each ValueFits) bs vs rest
  count : length vs ≡ n

abbrev ReadsValues : ℕ → List ℕ → Read (List Value) → Type 0
ReadsValues n bs None = Unit {0}
ReadsValues n bs (Some r) = WereValues n bs r.0 r.1

values_were : (n : ℕ) (bs : List ℕ) → AreBytes bs → ReadsValues n bs (read_values n bs)
values_were zero bs s = record { was = record { whole = refl; fits = tt; small = s }; count = refl }
values_were (suc n) bs s = by (read_value bs) (value_was bs s) (λ ds t. values_were n ds t)
  where
    on : (v : Value) (ds : List ℕ) → Was value_bytes ValueFits bs v ds → (o : Read (List Value)) → ReadsValues n ds o → ReadsValues (suc n) bs (o >>= λ s. Some (v ∷ s.0, s.1))
    on v ds w None u = tt
    on v ds w (Some q) u = record {
      was = record {
        whole = w.whole ∙ ap (λ xs. value_bytes v ++ xs) u.was.whole ∙ sym (append_assoc (value_bytes v) (values_bytes q.0) q.1);
        fits = (w.fits, u.was.fits);
        small = u.was.small;
      };
      count = ap suc u.count;
    }

    by : (o : Read Value) → Reads value_bytes ValueFits bs o → ((ds : List ℕ) → AreBytes ds → ReadsValues n ds (read_values n ds)) → ReadsValues (suc n) bs (o >>= λ r. read_values n r.1 >>= λ s. Some (r.0 ∷ s.0, s.1))
    by None w rest = tt
    by (Some r) w rest = on r.0 r.1 w (read_values n r.1) (rest r.1 w.small)

args_were : (bs : List ℕ) → AreBytes bs → Reads args_bytes ArgsFit bs (read_args bs)
args_were [] s = tt
args_were (k ∷ bs) s = by (nat_le k 8) refl
  where
    on : k ≤ 8 → (o : Read (List Value)) → ReadsValues k bs o → Reads args_bytes ArgsFit (k ∷ bs) o
    on h None u = tt
    on h (Some q) u = record {
      whole = ap (λ n. n ∷ bs) (sym u.count) ∙ ap (λ xs. length q.0 ∷ xs) u.was.whole;
      fits = (let c = u.count in omega (arith, c, h), u.was.fits);
      small = u.was.small;
    }

    by : (b : Bool) → nat_le k 8 ≡ b → Reads args_bytes ArgsFit (k ∷ bs) (if b then read_values k bs else None)
    by true h = on (grind (arith, h)) (read_values k bs) (values_were k bs s.1)
    by false h = tt

-- packets

abbrev WasPacket : ℕ → List ℕ → Read Packet → Type 0
WasPacket k bs o = Reads packet_bytes PacketFits (k ∷ bs) o

create_was : (bs : List ℕ) → AreBytes bs → WasPacket 1 bs (read_create bs)
create_was bs s = one (read_number bs) (number_was bs s)
  where
    four : (r q t : ℕ × List ℕ) → Was number_bytes IsNumber bs r.0 r.1 → Was number_bytes IsNumber r.1 q.0 q.1 → Was number_bytes IsNumber q.1 t.0 t.1
        → (o : Read ℕ) → Reads number_bytes IsNumber t.1 o → WasPacket 1 bs (o >>= λ u. Some (P.Create r.0 q.0 t.0 (record { 0 = u.0 }), u.1))
    four r q t a b c None d = tt
    four r q t a b c (Some u) d = record {
      whole = ap (λ xs. 1 ∷ xs) (a.whole ∙ ap (λ xs. number_bytes r.0 ++ xs) (b.whole ∙ ap (λ xs. number_bytes q.0 ++ xs) (c.whole ∙ ap (λ xs. number_bytes t.0 ++ xs) d.whole)));
      fits = (a.fits, b.fits, c.fits, d.fits);
      small = d.small;
    }

    three : (r q : ℕ × List ℕ) → Was number_bytes IsNumber bs r.0 r.1 → Was number_bytes IsNumber r.1 q.0 q.1
        → (o : Read ℕ) → Reads number_bytes IsNumber q.1 o → WasPacket 1 bs (o >>= λ t. read_number t.1 >>= λ u. Some (P.Create r.0 q.0 t.0 (record { 0 = u.0 }), u.1))
    three r q a b None c = tt
    three r q a b (Some t) c = four r q t a b c (read_number t.1) (number_was t.1 c.small)

    two : (r : ℕ × List ℕ) → Was number_bytes IsNumber bs r.0 r.1
        → (o : Read ℕ) → Reads number_bytes IsNumber r.1 o → WasPacket 1 bs (o >>= λ q. read_number q.1 >>= λ t. read_number t.1 >>= λ u. Some (P.Create r.0 q.0 t.0 (record { 0 = u.0 }), u.1))
    two r a None b = tt
    two r a (Some q) b = three r q a b (read_number q.1) (number_was q.1 b.small)

    one : (o : Read ℕ) → Reads number_bytes IsNumber bs o
        → WasPacket 1 bs (o >>= λ r. read_number r.1 >>= λ q. read_number q.1 >>= λ t. read_number t.1 >>= λ u. Some (P.Create r.0 q.0 t.0 (record { 0 = u.0 }), u.1))
    one None a = tt
    one (Some r) a = two r a (read_number r.1) (number_was r.1 a.small)

created_was : (bs : List ℕ) → AreBytes bs → WasPacket 2 bs (read_created bs)
created_was bs s = one (read_number bs) (number_was bs s)
  where
    three : (r q : ℕ × List ℕ) → Was number_bytes IsNumber bs r.0 r.1 → Was number_bytes IsNumber r.1 q.0 q.1
        → (o : Read ℕ) → Reads number_bytes IsNumber q.1 o → WasPacket 2 bs (o >>= λ t. Some (P.Created r.0 q.0 t.0, t.1))
    three r q a b None c = tt
    three r q a b (Some t) c = record {
      whole = ap (λ xs. 2 ∷ xs) (a.whole ∙ ap (λ xs. number_bytes r.0 ++ xs) (b.whole ∙ ap (λ xs. number_bytes q.0 ++ xs) c.whole));
      fits = (a.fits, b.fits, c.fits);
      small = c.small;
    }

    two : (r : ℕ × List ℕ) → Was number_bytes IsNumber bs r.0 r.1 → (o : Read ℕ) → Reads number_bytes IsNumber r.1 o → WasPacket 2 bs (o >>= λ q. read_number q.1 >>= λ t. Some (P.Created r.0 q.0 t.0, t.1))
    two r a None b = tt
    two r a (Some q) b = three r q a b (read_number q.1) (number_was q.1 b.small)

    one : (o : Read ℕ) → Reads number_bytes IsNumber bs o → WasPacket 2 bs (o >>= λ r. read_number r.1 >>= λ q. read_number q.1 >>= λ t. Some (P.Created r.0 q.0 t.0, t.1))
    one None a = tt
    one (Some r) a = two r a (read_number r.1) (number_was r.1 a.small)

request_was : (bs : List ℕ) → AreBytes bs → WasPacket 3 bs (read_request bs)
request_was bs s = one (read_number bs) (number_was bs s)
  where
    five : (r q t u : ℕ × List ℕ) → Was number_bytes IsNumber bs r.0 r.1 → Was number_bytes IsNumber r.1 q.0 q.1 → Was number_bytes IsNumber q.1 t.0 t.1 → Was number_bytes IsNumber t.1 u.0 u.1
        → (o : Read (List Value)) → Reads args_bytes ArgsFit u.1 o → WasPacket 3 bs (o >>= λ v. Some (P.Request r.0 q.0 t.0 (record { 0 = u.0 }) v.0, v.1))
    five r q t u a b c d None e = tt
    five r q t u a b c d (Some v) e = record {
      whole = ap (λ xs. 3 ∷ xs) (a.whole ∙ ap (λ xs. number_bytes r.0 ++ xs) (b.whole ∙ ap (λ xs. number_bytes q.0 ++ xs) (c.whole ∙ ap (λ xs. number_bytes t.0 ++ xs)
          (d.whole ∙ ap (λ xs. number_bytes u.0 ++ xs) e.whole))));
      fits = (a.fits, b.fits, c.fits, d.fits, e.fits);
      small = e.small;
    }

    four : (r q t : ℕ × List ℕ) → Was number_bytes IsNumber bs r.0 r.1 → Was number_bytes IsNumber r.1 q.0 q.1 → Was number_bytes IsNumber q.1 t.0 t.1
        → (o : Read ℕ) → Reads number_bytes IsNumber t.1 o → WasPacket 3 bs (o >>= λ u. read_args u.1 >>= λ v. Some (P.Request r.0 q.0 t.0 (record { 0 = u.0 }) v.0, v.1))
    four r q t a b c None d = tt
    four r q t a b c (Some u) d = five r q t u a b c d (read_args u.1) (args_were u.1 d.small)

    three : (r q : ℕ × List ℕ) → Was number_bytes IsNumber bs r.0 r.1 → Was number_bytes IsNumber r.1 q.0 q.1
        → (o : Read ℕ) → Reads number_bytes IsNumber q.1 o → WasPacket 3 bs (o >>= λ t. read_number t.1 >>= λ u. read_args u.1 >>= λ v. Some (P.Request r.0 q.0 t.0 (record { 0 = u.0 }) v.0, v.1))
    three r q a b None c = tt
    three r q a b (Some t) c = four r q t a b c (read_number t.1) (number_was t.1 c.small)

    two : (r : ℕ × List ℕ) → Was number_bytes IsNumber bs r.0 r.1 → (o : Read ℕ) → Reads number_bytes IsNumber r.1 o
        → WasPacket 3 bs (o >>= λ q. read_number q.1 >>= λ t. read_number t.1 >>= λ u. read_args u.1 >>= λ v. Some (P.Request r.0 q.0 t.0 (record { 0 = u.0 }) v.0, v.1))
    two r a None b = tt
    two r a (Some q) b = three r q a b (read_number q.1) (number_was q.1 b.small)

    one : (o : Read ℕ) → Reads number_bytes IsNumber bs o
        → WasPacket 3 bs (o >>= λ r. read_number r.1 >>= λ q. read_number q.1 >>= λ t. read_number t.1 >>= λ u. read_args u.1 >>= λ v. Some (P.Request r.0 q.0 t.0 (record { 0 = u.0 }) v.0, v.1))
    one None a = tt
    one (Some r) a = two r a (read_number r.1) (number_was r.1 a.small)

result_was : (bs : List ℕ) → AreBytes bs → WasPacket 4 bs (read_result bs)
result_was bs s = one (read_number bs) (number_was bs s)
  where
    three : (r q : ℕ × List ℕ) → Was number_bytes IsNumber bs r.0 r.1 → Was number_bytes IsNumber r.1 q.0 q.1
        → (o : Read Value) → Reads value_bytes ValueFits q.1 o → WasPacket 4 bs (o >>= λ t. Some (P.Result r.0 q.0 t.0, t.1))
    three r q a b None c = tt
    three r q a b (Some t) c = record {
      whole = ap (λ xs. 4 ∷ xs) (a.whole ∙ ap (λ xs. number_bytes r.0 ++ xs) (b.whole ∙ ap (λ xs. number_bytes q.0 ++ xs) c.whole));
      fits = (a.fits, b.fits, c.fits);
      small = c.small;
    }

    two : (r : ℕ × List ℕ) → Was number_bytes IsNumber bs r.0 r.1 → (o : Read ℕ) → Reads number_bytes IsNumber r.1 o → WasPacket 4 bs (o >>= λ q. read_value q.1 >>= λ t. Some (P.Result r.0 q.0 t.0, t.1))
    two r a None b = tt
    two r a (Some q) b = three r q a b (read_value q.1) (value_was q.1 b.small)

    one : (o : Read ℕ) → Reads number_bytes IsNumber bs o → WasPacket 4 bs (o >>= λ r. read_number r.1 >>= λ q. read_value q.1 >>= λ t. Some (P.Result r.0 q.0 t.0, t.1))
    one None a = tt
    one (Some r) a = two r a (read_number r.1) (number_was r.1 a.small)

async_was : (bs : List ℕ) → AreBytes bs → WasPacket 5 bs (read_async bs)
async_was bs s = one (read_number bs) (number_was bs s)
  where
    four : (r q t : ℕ × List ℕ) → Was number_bytes IsNumber bs r.0 r.1 → Was number_bytes IsNumber r.1 q.0 q.1 → Was number_bytes IsNumber q.1 t.0 t.1
        → (o : Read (List Value)) → Reads args_bytes ArgsFit t.1 o → WasPacket 5 bs (o >>= λ u. Some (P.Async r.0 q.0 (record { 0 = t.0 }) u.0, u.1))
    four r q t a b c None d = tt
    four r q t a b c (Some u) d = record {
      whole = ap (λ xs. 5 ∷ xs) (a.whole ∙ ap (λ xs. number_bytes r.0 ++ xs) (b.whole ∙ ap (λ xs. number_bytes q.0 ++ xs) (c.whole ∙ ap (λ xs. number_bytes t.0 ++ xs) d.whole)));
      fits = (a.fits, b.fits, c.fits, d.fits);
      small = d.small;
    }

    three : (r q : ℕ × List ℕ) → Was number_bytes IsNumber bs r.0 r.1 → Was number_bytes IsNumber r.1 q.0 q.1
        → (o : Read ℕ) → Reads number_bytes IsNumber q.1 o → WasPacket 5 bs (o >>= λ t. read_args t.1 >>= λ u. Some (P.Async r.0 q.0 (record { 0 = t.0 }) u.0, u.1))
    three r q a b None c = tt
    three r q a b (Some t) c = four r q t a b c (read_args t.1) (args_were t.1 c.small)

    two : (r : ℕ × List ℕ) → Was number_bytes IsNumber bs r.0 r.1 → (o : Read ℕ) → Reads number_bytes IsNumber r.1 o
        → WasPacket 5 bs (o >>= λ q. read_number q.1 >>= λ t. read_args t.1 >>= λ u. Some (P.Async r.0 q.0 (record { 0 = t.0 }) u.0, u.1))
    two r a None b = tt
    two r a (Some q) b = three r q a b (read_number q.1) (number_was q.1 b.small)

    one : (o : Read ℕ) → Reads number_bytes IsNumber bs o → WasPacket 5 bs (o >>= λ r. read_number r.1 >>= λ q. read_number q.1 >>= λ t. read_args t.1 >>= λ u. Some (P.Async r.0 q.0 (record { 0 = t.0 }) u.0, u.1))
    one None a = tt
    one (Some r) a = two r a (read_number r.1) (number_was r.1 a.small)

packet_was : (bs : List ℕ) → AreBytes bs → Reads packet_bytes PacketFits bs (read_packet bs)
packet_was [] s = tt
packet_was (k ∷ bs) s = by (k == 1) (k == 2) (k == 3) (k == 4) (k == 5) refl refl refl refl refl
  where
    first : (n : ℕ) (o : Read Packet) → (k == n) ≡ true → WasPacket n bs o → WasPacket k bs o
    first n o h w = subst (λ z. WasPacket z bs o) (sym (equal k n h)) w

    by : (a b c d e : Bool) → (k == 1) ≡ a → (k == 2) ≡ b → (k == 3) ≡ c → (k == 4) ≡ d → (k == 5) ≡ e
        → WasPacket k bs (if a then read_create bs else (if b then read_created bs else (if c then read_request bs else (if d then read_result bs else (if e then read_async bs else None)))))
    by true b c d e h i j l m = first 1 (read_create bs) h (create_was bs s.1)
    by false true c d e h i j l m = first 2 (read_created bs) i (created_was bs s.1)
    by false false true d e h i j l m = first 3 (read_request bs) j (request_was bs s.1)
    by false false false true e h i j l m = first 4 (read_result bs) l (result_was bs s.1)
    by false false false false true h i j l m = first 5 (read_async bs) m (async_was bs s.1)
    by false false false false false h i j l m = tt

frame_was : (bs : List ℕ) → AreBytes bs → Reads encoding FrameFits bs (read_frame bs)
frame_was [] s = tt
frame_was (k ∷ bs) s = by (k == 1) (k == 2) refl refl
  where
    first : (n : ℕ) (o : Read Frame) → (k == n) ≡ true → Reads encoding FrameFits (n ∷ bs) o → Reads encoding FrameFits (k ∷ bs) o
    first n o h w = subst (λ z. Reads encoding FrameFits (z ∷ bs) o) (sym (equal k n h)) w

    two : (r : ℕ × List ℕ) → Was number_bytes IsNumber bs r.0 r.1 → (o : Read Packet) → Reads packet_bytes PacketFits r.1 o → Reads encoding FrameFits (1 ∷ bs) (o >>= λ q. Some (F.Data r.0 q.0, q.1))
    two r a None b = tt
    two r a (Some q) b = record { whole = ap (λ xs. 1 ∷ xs) (a.whole ∙ ap (λ xs. number_bytes r.0 ++ xs) b.whole); fits = (a.fits, b.fits); small = b.small }

    data_was : (o : Read ℕ) → Reads number_bytes IsNumber bs o → Reads encoding FrameFits (1 ∷ bs) (o >>= λ r. read_packet r.1 >>= λ q. Some (F.Data r.0 q.0, q.1))
    data_was None a = tt
    data_was (Some r) a = two r a (read_packet r.1) (packet_was r.1 a.small)

    ack_was : (o : Read ℕ) → Reads number_bytes IsNumber bs o → Reads encoding FrameFits (2 ∷ bs) (o >>= λ r. Some (F.Ack r.0, r.1))
    ack_was None a = tt
    ack_was (Some r) a = record { whole = ap (λ xs. 2 ∷ xs) a.whole; fits = a.fits; small = a.small }

    by : (a b : Bool) → (k == 1) ≡ a → (k == 2) ≡ b → Reads encoding FrameFits (k ∷ bs) (if a then read_data bs else (if b then read_ack bs else None))
    by true b h i = first 1 (read_data bs) h (data_was (read_number bs) (number_was bs s.1))
    by false true h i = first 2 (read_ack bs) i (ack_was (read_number bs) (number_was bs s.1))
    by false false h i = tt

-- bytes are of a frame only where they are its encoding
pub frame_written : (bs : List ℕ) (f : Frame) → AreBytes bs → decoded bs ≡ Some f → (encoding f ≡ bs) × FrameFits f
frame_written bs f s h = by (read_frame bs) (frame_was bs s) h
  where
    on : (x : Frame) (rest : List ℕ) → Was encoding FrameFits bs x rest → all_read x rest ≡ Some f → (encoding f ≡ bs) × FrameFits f
    on x [] w e =
        let same : x ≡ f = same_some e in
        subst (λ (z : Frame). (encoding z ≡ bs) × FrameFits z) same (sym (append-nil (encoding x)) ∙ sym w.whole, w.fits)
    on x (b ∷ rest) w e = absurd (cc)

    by : (o : Read Frame) → Reads encoding FrameFits bs o → (o >>= λ r. all_read r.0 r.1) ≡ Some f → (encoding f ≡ bs) × FrameFits f
    by None w e = absurd (cc)
    by (Some r) w e = on r.0 r.1 w e
