-- A run of two ends, whatever values its calls lead to: a stream is opened, written, ended and sent, delivered twice,
-- read to its end, and acknowledged.
use Rattle.std.proofs.Common.{◌≡◌, ℕ, true, false, List, [], ◌∷◌, Some, None, Ok, refl, ◌∙◌, inl, inr, arith, ◌<◌}
use Rattle.std.specs.declared.ops.Range.{Range}
use Rattle.quic_values.specs.declared.ids.Side.TheVariants.{Client, Server}
use Rattle.quic_values.specs.declared.ids.Dir.TheVariants.{Uni}
use Rattle.quic_values.specs.Ids.{dir_of, index_of}
use Rattle.quic_receiving.specs.declared.transmit.ShouldTransmit.{ShouldTransmit}
use Rattle.quic_outgoing.specs.Senders.{is_local}
use Rattle.quic_history.specs.World.{World, Made, made_with, is_own}
use Rattle.quic_history.specs.SendEvents.{GaveLimits, OpenedOwn, WroteOwn, FinishedOwn, AckedOwn, TookTurn}
use Rattle.quic_history.specs.History.{Event, Received, Began, Gave, Accepted, Sending, Step, opened_in_all, IsStart}
use Rattle.quic_link.specs.Endpoints.{LinkedEnd, acted, Linked, begun, first_acts, second_acts, WasGiven, limits_of, sent_on}
use Rattle.quic_link.specs.Promises.{TellsTruth, CameAt}
use Rattle.quic_link.proofs.Ends.{Comes}
use Rattle.quic_link.proofs.Joint.{agrees}
use Rattle.quic_link.proofs.Opens.{own-local, opened-is}
use Rattle.quic_link.proofs.Rooms.{within-same}
use Rattle.quic_link.proofs.Truthful.{truthful}

-- an end was given the streams that it opened
given_own : (x : LinkedEnd) (id : ℕ) → Comes x → is_local x.made.side id ≡ true → index_of id < opened_in_all x.calls (dir_of id) → WasGiven x.world id
given_own x id f own l =
    let mine : is_own x.world id ≡ true = own-local x.world x.made.side id f.side ∙ own in
    let n = opened-is x (dir_of id) f in
    rw mine (omega arith)

abbrev client : Made
client = made_with Client 4 4 100 100 10

abbrev server : Made
server = made_with Server 4 4 100 100 10

abbrev bytes : List ℕ
bytes = 1 ∷ 2 ∷ 3 ∷ []

abbrev offsets : Range ℕ
offsets = record { start = 0; end = 3 }

-- the calls of the client, in their order: stream 2 is opened, takes 3 bytes, and is ended; a frame with all of it is
-- written, and acknowledged
abbrev gives : Event
gives = Sending (GaveLimits (limits_of server) (Ok tt))

abbrev opens : Event
opens = Sending (OpenedOwn Uni false (Ok (Some 2)))

abbrev writes : Event
writes = Sending (WroteOwn 2 (bytes ∷ []) false (Ok (record { bytes = 3; chunks = 1 })))

abbrev ends : Event
ends = Sending (FinishedOwn 2 (Ok tt))

abbrev sends : Event
sends = Sending (TookTurn 100 true (Some (record { id = 2; offsets = offsets; fin = true })))

abbrev acks : Event
acks = Sending (AckedOwn 2 offsets true (Ok tt))

-- those of the server: the frame comes twice, the stream is accepted and read to its end
abbrev came_with : ShouldTransmit → Event
came_with t = Received 2 0 bytes true (Ok t)

abbrev accepts : Event
accepts = Accepted Uni (Some 2)

abbrev begins : Event
begins = Began 2 true (Ok tt)

abbrev reads : Event
reads = Gave 2 100 true (Ok (Some (record { offset = 0; bytes = bytes })))

abbrev read_end : Event
read_end = Gave 2 100 true (Ok None)

abbrev new_at : Made → World → LinkedEnd
new_at m w = record { made = m; calls = []; world = w; wrote = [] }

module _ (t1 t2 : ShouldTransmit) (v0 v1 v2 v3 v4 v5 v6 w0 w1 w2 w3 w4 w5 w6 : World) (cs : IsStart client v0) (ss : IsStart server w0)
    (c1 : Step v0 gives v1) (c2 : Step v1 opens v2) (c3 : Step v2 writes v3) (c4 : Step v3 ends v4) (c5 : Step v4 sends v5) (c6 : Step v5 acks v6)
    (s1 : Step w0 (came_with t1) w1) (s2 : Step w1 (came_with t2) w2) (s3 : Step w2 accepts w3) (s4 : Step w3 begins w4) (s5 : Step w4 reads w5) (s6 : Step w5 read_end w6) where
  abbrev x3 : LinkedEnd
  x3 = acted (acted (new_at client v0) gives v1) opens v2

  abbrev x5 : LinkedEnd
  x5 = acted (acted (acted x3 writes v3) ends v4) sends v5

  abbrev x6 : LinkedEnd
  x6 = acted x5 acks v6

  abbrev y6 : LinkedEnd
  y6 = acted (acted (acted (acted (acted (acted (new_at server w0) (came_with t1) w1) (came_with t2) w2) accepts w3) begins w4) reads w5) read_end w6

  at_first : Linked (new_at client v0) (new_at server w0)
  at_first = begun (record { start = cs; calls = refl; wrote = refl; small = omega arith }) (record { start = ss; calls = refl; wrote = refl; small = omega arith }) refl

  opened : Linked x3 (new_at server w0)
  opened = first_acts opens v2 (first_acts gives v1 at_first (record { fits = tt; honest = within-same (limits_of server); step = c1 })) (record { fits = tt; honest = tt; step = c2 })

  -- the stream was given, before and after it was written
  given_once : {y : LinkedEnd} → Linked x3 y → WasGiven v2 2
  given_once {y} l = let k = (agrees l).0 in given_own x3 2 k.comes refl (omega arith)

  given_again : {y : LinkedEnd} → Linked (acted x3 writes v3) y → WasGiven v3 2
  given_again {y} l = let k = (agrees l).0 in given_own (acted x3 writes v3) 2 k.comes refl (omega arith)

  wrote : Linked (acted x3 writes v3) (new_at server w0)
  wrote = first_acts writes v3 opened (record { fits = tt; honest = given_once opened; step = c3 })

  sent : Linked x5 (new_at server w0)
  sent = first_acts sends v5 (first_acts ends v4 wrote (record { fits = tt; honest = given_again wrote; step = c4 })) (record { fits = tt; honest = tt; step = c5 })

  came_twice : Linked x5 (acted (acted (new_at server w0) (came_with t1) w1) (came_with t2) w2)
  came_twice = second_acts (came_with t2) w2 (second_acts (came_with t1) w1 sent (record { fits = tt; honest = inl refl; step = s1 })) (record { fits = tt; honest = inl refl; step = s2 })

  read_all : Linked x5 y6
  read_all =
      let accepted = second_acts accepts w3 came_twice (record { fits = tt; honest = tt; step = s3 }) in
      let begun_now = second_acts begins w4 accepted (record { fits = tt; honest = tt; step = s4 }) in
      let read_some = second_acts reads w5 begun_now (record { fits = tt; honest = tt; step = s5 }) in
      second_acts read_end w6 read_some (record { fits = tt; honest = tt; step = s6 })

  acked : Linked x6 y6
  acked = first_acts acks v6 read_all (record { fits = tt; honest = record { bytes = bytes; transmit = t1; is = inr (inr (inr (inr (inr (inl refl))))); behind = refl }; step = c6 })

  told : TellsTruth x6 y6 2
  told = let k = agrees acked in truthful x6 y6 k.0 k.1 2

  -- the end was told, and the stream was finished
  end_told : (sent_on x6 2).finished ≡ true
  end_told = told.finished refl

  -- the send half was freed, and each of the three bytes was in a frame that was answered Ok
  each_came : (at : ℕ) → at < 3 → CameAt y6.calls 2 at
  each_came at l = let w = told.delivered refl refl in w.bytes at l
