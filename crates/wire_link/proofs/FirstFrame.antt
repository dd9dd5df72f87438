-- The first frame of a side.
use Rattle.std.proofs.Common.{◌≡◌, refl, sym, ap, subst, ◌∙◌, ℕ, List, [], ◌∷◌, ◌++◌, Option, Some, None}
use Rattle.std.specs.Prelude.{drop, option_map, slice_get}
use Rattle.arrayvec.specs.ArrayVec.{ArrayVec}
use Rattle.run_types.specs.Tables.{Each}
use Rattle.mesh_semantics.specs.Act.{first_of}
use Rattle.mesh_semantics.specs.Wire.{coming_in}
use Rattle.mesh_semantics.specs.KeptWire.{KeptWire}
use Rattle.rendezvous_protocol.specs.declared.packet.Packet.{Packet}
use Rattle.wire_link.specs.declared.frame.Frame.{Frame}
use Rattle.wire_link.specs.declared.frame.Frame.TheVariants as F
use Rattle.wire_link.specs.declared.wire.Side.{Side}
use Rattle.wire_link.specs.Bytes.{decoded, encoding}
use Rattle.wire_link.specs.Wires.{IsAck, IsData, TakesAck, TakesData, ack_in, acks_in, arrived_of, data_in, frames_in, front_of}

module _ {X : Type 0} where
  abbrev or_else : Option X → X → X
  or_else None d = d
  or_else (Some x) d = x

  pub none_front : (xs : List X) → None ≡ slice_get xs 0 → xs ≡ []
  none_front [] e = refl
  none_front (x ∷ xs) e = absurd (let q : None ≡ Some x = e in cc)

  pub some_front : (xs : List X) (x : X) → Some x ≡ slice_get xs 0 → xs ≡ x ∷ drop 1 xs
  some_front [] x e = absurd (let q : None ≡ Some x = sym e in cc)
  some_front (y ∷ ys) x e = ap (λ z. z ∷ ys) (ap (λ o. or_else o x) (sym e))

-- what is said of the first frame of one of the sides, as it is seen
pub seen : {Y : Type 0} (f : Option Frame → Y) (side kept : Side) (v w : KeptWire Packet) → v ≡ w → side ≡ kept → f (front_of kept v) ≡ f (front_of side w)
seen f side kept v w e i = ap (λ z. f (front_of kept z)) e ∙ ap (λ d. f (front_of d w)) (sym i)

module _ (bs : List (ArrayVec ℕ)) (b : ArrayVec ℕ) (e : Some b ≡ slice_get bs 0) where
  -- frames of data
  module _ (h : Each IsData bs) where
    given : Each IsData (b ∷ drop 1 bs)
    given = subst (Each IsData) (some_front bs b e) h

    frames : frames_in bs ≡ (given.0.0, given.0.1) ∷ frames_in (drop 1 bs)
    frames = ap frames_in (some_front bs b e) ∙ ap (λ z. data_in z ++ frames_in (drop 1 bs)) given.0.2

    read : (o : Option Frame) (r : Option (ℕ × Packet)) → o ≡ decoded b.items → r ≡ first_of (data_in o) → r ≡ Some (given.0.0, given.0.1)
    read o r d i = i ∙ ap (λ z. first_of (data_in z)) (d ∙ given.0.2)

    pub data_first : (o : Option Frame) (r : Option (ℕ × Packet)) → o ≡ decoded b.items → r ≡ first_of (data_in o) → r ≡ first_of (frames_in bs)
    data_first o r d i = read o r d i ∙ sym (ap first_of frames)

    pub data_taken : (ds : List (ArrayVec ℕ)) (o : Option Frame) (r : Option (ℕ × Packet)) → o ≡ decoded b.items → r ≡ first_of (data_in o) → ds ≡ drop 1 bs → TakesData bs ds r
    data_taken ds o r d i k =
        subst (TakesData bs ds) (sym (read o r d i)) (frames ∙ ap (λ zs. (given.0.0, given.0.1) ∷ frames_in zs) (sym k), subst (Each IsData) (sym k) given.1)

    pub data_comes : (handed : ℕ) (o : Option Frame) → o ≡ decoded b.items → arrived_of (coming_in handed (data_in o)) ≡ arrived_of (coming_in handed (frames_in bs))
    data_comes handed o d = ap (λ z. arrived_of (coming_in handed (data_in z))) (d ∙ given.0.2) ∙ sym (ap (λ fs. arrived_of (coming_in handed fs)) frames)

    pub data_front : Some b.items ≡ option_map encoding (option_map (λ f. F.Data f.0 f.1) (first_of (frames_in bs)))
    data_front = ap Some given.0.3 ∙ sym (ap (λ fs. option_map encoding (option_map (λ f. F.Data f.0 f.1) (first_of fs))) frames)

    pub data_read : Some (decoded b.items) ≡ option_map Some (option_map (λ f. F.Data f.0 f.1) (first_of (frames_in bs)))
    data_read = ap Some given.0.2 ∙ sym (ap (λ fs. option_map Some (option_map (λ f. F.Data f.0 f.1) (first_of fs))) frames)

  -- acknowledgements
  module _ (h : Each IsAck bs) where
    told : Each IsAck (b ∷ drop 1 bs)
    told = subst (Each IsAck) (some_front bs b e) h

    acks : acks_in bs ≡ told.0.0 ∷ acks_in (drop 1 bs)
    acks = ap acks_in (some_front bs b e) ∙ ap (λ z. ack_in z ++ acks_in (drop 1 bs)) told.0.1

    heard : (o : Option Frame) (r : Option ℕ) → o ≡ decoded b.items → r ≡ first_of (ack_in o) → r ≡ Some told.0.0
    heard o r d i = i ∙ ap (λ z. first_of (ack_in z)) (d ∙ told.0.1)

    pub ack_first : (o : Option Frame) (r : Option ℕ) → o ≡ decoded b.items → r ≡ first_of (ack_in o) → r ≡ first_of (acks_in bs)
    ack_first o r d i = heard o r d i ∙ sym (ap first_of acks)

    pub ack_taken : (ds : List (ArrayVec ℕ)) (o : Option Frame) (r : Option ℕ) → o ≡ decoded b.items → r ≡ first_of (ack_in o) → ds ≡ drop 1 bs → TakesAck bs ds r
    ack_taken ds o r d i k =
        subst (TakesAck bs ds) (sym (heard o r d i)) (acks ∙ ap (λ zs. told.0.0 ∷ acks_in zs) (sym k), subst (Each IsAck) (sym k) told.1)

    pub ack_front : Some b.items ≡ option_map encoding (option_map (λ n. F.Ack n) (first_of (acks_in bs)))
    ack_front = ap Some told.0.2 ∙ sym (ap (λ ks. option_map encoding (option_map (λ n. F.Ack n) (first_of ks))) acks)

    pub ack_read : Some (decoded b.items) ≡ option_map Some (option_map (λ n. F.Ack n) (first_of (acks_in bs)))
    ack_read = ap Some told.0.1 ∙ sym (ap (λ ks. option_map Some (option_map (λ n. F.Ack n) (first_of ks))) acks)
