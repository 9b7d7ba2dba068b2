use Rattle.std.proofs.Common.{length, ◌≤◌, ◌∙◌, Ok, Err, arith, refl, sym, subst}
use Rattle.quic_retransmits.specs.Pending.{Pending}
use Rattle.quic_retransmits.specs.Settling.{noted_in}
use Rattle.quic_streams.specs.Payload.{with_entries}
use Rattle.quic_endpoint.specs.Shown.{endpoint_view}
use Rattle.quic_endpoint.specs.Ends.{EndState}
use Rattle.quic_endpoint.specs.Emitting.{EmitsControl, whole, cut}
use Rattle.quic_endpoint.proofs.endpoint.Endpoint.emit.Goals as goal

pub returns-in-Err-clause-emits : goal.returns-in-Err-clause-emits
returns-in-Err-clause-emits c =
    let w = c.write_control-written in
    let bytes_none = c.new-payload.ensures.bytes in
    let noted_none = c.new-payload.ensures.control in
    let between : EndState = endpoint_view w.new.self in
    let control : EmitsControl c.args.max_size (endpoint_view c.args.self.now) (Err c.in-Err.error) between w.new.payload.bytes.items (noted_in w.new.payload.sent.control) = record {
      before = c.new-counters.result;
      after = w.new.counters;
      writes = rw (bytes_none, noted_none, c.in-Err.is) at w.ensures.writes;
      full = tt;
      refused = rw c.in-Err.is at w.ensures.refused;
      from = rw (bytes_none, noted_none) at w.ensures.from;
    } in
    cut between w.new.payload.bytes.items control (record { same = refl; bytes_are = refl; none = w.ensures.streams ∙ c.new-payload.ensures.streams })

pub returns-clause-emits : goal.returns-clause-emits
returns-clause-emits c =
    let w = c.write_control-written in
    let v = c.write_streams-answer in
    let bytes_none = c.new-payload.ensures.bytes in
    let noted_none = c.new-payload.ensures.control in
    let streams_none = w.ensures.streams ∙ c.new-payload.ensures.streams in
    let between : EndState = endpoint_view w.new.self in
    let Emits : Pending → Type 0 = λ noted. EmitsControl c.args.max_size (endpoint_view c.args.self.now) (Ok tt) between w.new.payload.bytes.items noted in
    let control : Emits (noted_in w.new.payload.sent.control) = record {
      before = c.new-counters.result;
      after = w.new.counters;
      writes = rw (bytes_none, noted_none, c.in_default.is) at w.ensures.writes;
      full = rw c.in_default.is at w.ensures.full;
      refused = tt;
      from = rw (bytes_none, noted_none) at w.ensures.from;
    } in
    whole between w.new.payload.bytes.items (subst Emits (sym v.ensures.control) control) (record {
      writes = rw streams_none at v.ensures.writes;
      full = v.ensures.full;
      refused = v.ensures.refused;
      carries = rw streams_none at v.ensures.carries;
      from = rw streams_none at v.ensures.from;
      pending = v.ensures.pending;
    })

pub returns-clause-within : goal.returns-clause-within
returns-clause-within c = λ m h f.
    let w = c.write_control-written in
    let v = c.write_streams-answer in
    let bytes_none = c.new-payload.ensures.bytes in
    let begins : length c.new-payload.result.bytes.items ≤ c.args.max_size = rw bytes_none (omega arith) in
    let control = w.ensures.from in
    let appended = v.ensures.carries m (with_entries control.entries h) (control.from m h f) in
    appended.within (w.ensures.within begins)
