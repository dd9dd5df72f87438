-- Examples of schedules, computed.
use Rattle.std.proofs.Common.{◌≡◌, refl, [], ◌∷◌}
use Rattle.std.specs.Prelude.{Ok, Err, true, false, codes}
use Rattle.run_types.specs.declared.types.Event.TheVariants.{Turn, Link, Wire}
use Rattle.run_types.specs.declared.types.WireAct.TheVariants as A
use Rattle.schedule_reader.specs.declared.fault.ScheduleFault.TheVariants as F
use Rattle.schedule_reader.specs.Schedules.{schedule_of}

a_turn_of_three : schedule_of 1 1 [] (codes "quantum 5\nturn 0 3") ≡ Ok (record { quantum = 5; lossy = false; events = Turn 0 ∷ Turn 0 ∷ Turn 0 ∷ [] })
a_turn_of_three = refl

a_round : schedule_of 2 1 [] (codes "quantum 5\n\n# all\nround 1\n") ≡ Ok (record { quantum = 5; lossy = false; events = Turn 0 ∷ Turn 1 ∷ Link 0 1 ∷ Link 1 0 ∷ [] })
a_round = refl

no_neighbours : schedule_of 2 2 [] (codes "quantum 1\nlink 0 3") ≡ Err (F.NoSuchLink 2)
no_neighbours = refl

a_node_that_is_not_there : schedule_of 2 2 [] (codes "quantum 1\nturn 4") ≡ Err (F.NoSuchNode 2)
a_node_that_is_not_there = refl

a_quantum_of_0 : schedule_of 2 2 [] (codes "quantum 0") ≡ Err (F.OutOfRange 1)
a_quantum_of_0 = refl

no_quantum : schedule_of 2 2 [] (codes "turn 0") ≡ Err (F.BadLine 1)
no_quantum = refl

an_event_too_many : schedule_of 2 2 [] (codes "quantum 1\nturn 0 2000000\nturn 0") ≡ Err (F.TooManyEvents 2000001)
an_event_too_many = refl

-- a round passes a cut link over, and no line may ask for it

around_a_cut : schedule_of 2 1 (record { from = 1; to = 0 } ∷ []) (codes "quantum 5\nround 2") ≡ Ok (record {
  quantum = 5;
  lossy = false;
  events = Turn 0 ∷ Turn 1 ∷ Link 0 1 ∷ Turn 0 ∷ Turn 1 ∷ Link 0 1 ∷ [];
})
around_a_cut = refl

a_move_on_a_cut_link : schedule_of 2 2 (record { from = 0; to = 1 } ∷ []) (codes "quantum 5\nlink 0 1") ≡ Err (F.NoSuchLink 2)
a_move_on_a_cut_link = refl

a_move_the_other_way : schedule_of 2 2 (record { from = 0; to = 1 } ∷ []) (codes "quantum 5\nlink 1 0") ≡ Ok (record { quantum = 5; lossy = false; events = Link 1 0 ∷ [] })
a_move_the_other_way = refl

-- links that are wires

over_wires : schedule_of 2 1 [] (codes "quantum 5\nwires lossy\nturn 0\nsend 0 1\nlose 0 1\nsend 0 1\ntwice 0 1\nlink 0 1 2\nack 0 1\nturn 1\nsend 1 0\nlink 1 0\nack 1 0\nturn 0 2\nack 0 1")
    ≡ Ok (record {
      quantum = 5;
      lossy = true;
      events =
          Turn 0 ∷ Wire A.Send 0 1 ∷ Wire A.Lose 0 1 ∷ Wire A.Send 0 1 ∷ Wire A.Twice 0 1 ∷ Link 0 1 ∷ Link 0 1 ∷ Wire A.Ack 0 1
          ∷ Turn 1 ∷ Wire A.Send 1 0 ∷ Link 1 0 ∷ Wire A.Ack 1 0 ∷ Turn 0 ∷ Turn 0 ∷ Wire A.Ack 0 1 ∷ [];
    })
over_wires = refl

each_act : schedule_of 2 1 [] (codes "quantum 1\n# of both sides\nwires lossy\nsend 0 1 2\nack 1 0 3\nlate 0 1\nlose ack 0 1\ntwice ack 1 0\nlate ack 0 1")
    ≡ Ok (record {
      quantum = 1;
      lossy = true;
      events = Wire A.Send 0 1 ∷ Wire A.Send 0 1 ∷ Wire A.Ack 1 0 ∷ Wire A.Ack 1 0 ∷ Wire A.Ack 1 0 ∷ Wire A.Late 0 1 ∷ Wire A.LoseAck 0 1 ∷ Wire A.TwiceAck 1 0 ∷ Wire A.LateAck 0 1 ∷ [];
    })
each_act = refl

a_round_over_wires : schedule_of 2 1 [] (codes "quantum 5\nwires lossy\nround 1")
    ≡ Ok (record { quantum = 5; lossy = true; events = Turn 0 ∷ Turn 1 ∷ Wire A.Send 0 1 ∷ Link 0 1 ∷ Wire A.Ack 0 1 ∷ Wire A.Send 1 0 ∷ Link 1 0 ∷ Wire A.Ack 1 0 ∷ [] })
a_round_over_wires = refl

wires_around_a_cut : schedule_of 2 1 (record { from = 1; to = 0 } ∷ []) (codes "quantum 5\nwires lossy\nround 1")
    ≡ Ok (record { quantum = 5; lossy = true; events = Turn 0 ∷ Turn 1 ∷ Wire A.Send 0 1 ∷ Link 0 1 ∷ Wire A.Ack 0 1 ∷ [] })
wires_around_a_cut = refl

-- the words of wires are known behind that line alone, and it stands at one place
a_send_without_wires : schedule_of 2 1 [] (codes "quantum 5\nsend 0 1") ≡ Err (F.BadLine 2)
a_send_without_wires = refl

wires_in_the_third_line : schedule_of 2 1 [] (codes "quantum 5\nturn 0\nwires lossy") ≡ Err (F.BadLine 3)
wires_in_the_third_line = refl

wires_twice : schedule_of 2 1 [] (codes "quantum 5\nwires lossy\nwires lossy") ≡ Err (F.BadLine 3)
wires_twice = refl

wires_in_the_first_line : schedule_of 2 1 [] (codes "wires lossy\nquantum 5") ≡ Err (F.BadLine 1)
wires_in_the_first_line = refl

wires_that_lose_nothing : schedule_of 2 1 [] (codes "quantum 5\nwires") ≡ Err (F.BadLine 2)
wires_that_lose_nothing = refl

-- no count behind these
lost_many_times : schedule_of 2 1 [] (codes "quantum 5\nwires lossy\nlose 0 1 2") ≡ Err (F.BadLine 3)
lost_many_times = refl

an_ack_lost_many_times : schedule_of 2 1 [] (codes "quantum 5\nwires lossy\nlose ack 0 1 2") ≡ Err (F.BadLine 3)
an_ack_lost_many_times = refl

a_sent_ack : schedule_of 2 1 [] (codes "quantum 5\nwires lossy\nsend ack 0 1") ≡ Err (F.BadLine 3)
a_sent_ack = refl

-- the faults of a link, in their order
a_send_to_no_node : schedule_of 2 2 [] (codes "quantum 5\nwires lossy\nsend 0 4 0") ≡ Err (F.NoSuchNode 3)
a_send_to_no_node = refl

a_send_to_no_neighbour : schedule_of 2 2 [] (codes "quantum 5\nwires lossy\nsend 0 3 0") ≡ Err (F.NoSuchLink 3)
a_send_to_no_neighbour = refl

no_ack : schedule_of 2 2 [] (codes "quantum 5\nwires lossy\nack 0 1 0") ≡ Err (F.OutOfRange 3)
no_ack = refl

late_on_a_cut_link : schedule_of 2 2 (record { from = 0; to = 1 } ∷ []) (codes "quantum 5\nwires lossy\nlate ack 1 0\nlate ack 0 1") ≡ Err (F.NoSuchLink 4)
late_on_a_cut_link = refl

-- each of the three events of a link counts: 8 in a round of two nodes
rounds_of_all : schedule_of 2 1 [] (codes "quantum 1\nwires lossy\nround 250000\nturn 0") ≡ Err (F.TooManyEvents 2000001)
rounds_of_all = refl
