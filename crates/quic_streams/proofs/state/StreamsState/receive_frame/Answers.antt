use Rattle.std.proofs.Common.{rules, ◌≡◌, None, ap, ◌∙◌, subst}
use Rattle.quic_streams.specs.Shown.{streams_view}
use Rattle.quic_history.specs.World.{World, id_refusal}
use Rattle.quic_history.specs.Receiving.{Receives}
use Rattle.quic_streams.specs.Accounting.{CountsPieces}
use Rattle.quic_streams.proofs.InPlace.{receives-in, accounts-in, accounts-none, accounts-unknown, accounts-dropped}
use Rattle.quic_streams.proofs.state.StreamsState.receive_frame.Goals as goal

pub returns-in-Ok-Some-clause-receives : goal.returns-in-Ok-Some-clause-receives
returns-in-Ok-Some-clause-receives c =
    let f = c.args.frame in
    let w = streams_view c.make_room.new.self in
    let i = c.ingest_in_place in
    let credit = c.received_of_permitted-received.ensures in
    let before : id_refusal (streams_view c.args.self.now) f.id ≡ None = search rules in
    let known : id_refusal w f.id ≡ None = ap (λ x. id_refusal x f.id) c.make_room.ensures.same ∙ before in
    let takes = rw c.in-Ok-Some.field-0-is at c.in-Ok-Some.ensures.ingests in
    let P : World → Type 0 = λ x. Receives x f.id f.offset f.bytes f.fin c.tell_frame.result (streams_view c.tell_frame.new.self) in
    subst P c.make_room.ensures.same
    (receives-in w (streams_view i.new.self) (streams_view c.tell_frame.new.self) f.id f.offset f.bytes f.fin _ _ _ c.in-Ok-Some.taken known credit.received credit.permitted takes i.ensures.halves
    c.tell_frame.result c.tell_frame.ensures)

pub returns-in-Ok-Some-clause-accounts : goal.returns-in-Ok-Some-clause-accounts
returns-in-Ok-Some-clause-accounts c =
    let f = c.args.frame in
    let w = streams_view c.make_room.new.self in
    let i = c.ingest_in_place in
    let credit = c.received_of_permitted-received.ensures in
    let before : id_refusal (streams_view c.args.self.now) f.id ≡ None = search rules in
    let known : id_refusal w f.id ≡ None = ap (λ x. id_refusal x f.id) c.make_room.ensures.same ∙ before in
    let takes = rw c.in-Ok-Some.field-0-is at c.in-Ok-Some.ensures.ingests in
    let P : World → Type 0 = λ x. CountsPieces x f.id f.offset f.bytes f.fin c.args.payload_len c.tell_frame.result (streams_view c.tell_frame.new.self) in
    subst P c.make_room.ensures.same
    (accounts-in w (streams_view i.new.self) (streams_view c.tell_frame.new.self) f.id f.offset f.bytes f.fin _ _ _ c.in-Ok-Some.taken known credit.received credit.permitted takes i.ensures.halves
    c.tell_frame.result c.tell_frame.ensures)
