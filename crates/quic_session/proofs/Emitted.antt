-- What the parts of a payload leave, all together.
use Rattle.std.proofs.Common.{◌≡◌, ℕ, ◌≤◌, Bool, true, false, List, [], length, Option, Result, Ok, sym, ap, subst}
use Rattle.quic_values.specs.declared.memory.OutOfMemory.{OutOfMemory}
use Rattle.quic_wire.specs.declared.frame.Datagram.{Datagram}
use Rattle.quic_wire.specs.declared.frame.StreamMeta.{StreamMeta}
use Rattle.quic_history.specs.World.{World, Made}
use Rattle.quic_history.specs.History.{Event, From}
use Rattle.quic_streams.specs.Payload.{Entry, with_entries}
use Rattle.quic_streams.specs.Transmitting.{with_turns}
use Rattle.quic_session.specs.declared.emitting.Parts.{Parts}
use Rattle.quic_session.specs.Emitting.{Writing, WritesControl, WritesDatagrams, WritesStreams, SendsOldest, none, more, IfAsked, WritesParts, whole, no_datagrams, control_alone, GoesOnWithFrames}

abbrev pub Answer : Type 0
Answer = Result (Unit {0}) OutOfMemory

pub control-within : (on : Bool) (most : ℕ) (a : Writing) (r : Answer) (b : Writing) → IfAsked on (WritesControl most) a r b → length a.payload.bytes ≤ most → length b.payload.bytes ≤ most
control-within false most a r b w h = let P : Writing → Type 0 = λ x. length x.payload.bytes ≤ most in subst P (sym w.1) h
control-within true most a r b w h = w.within h

abbrev pub Settled : World → World → Type 0
Settled u v = (entries : List Entry) × ((m : Made) (h : List Event) → From m h u → From m (with_entries entries h) v)

pub control-on : (on : Bool) (most : ℕ) (a : Writing) (r : Answer) (b : Writing) → IfAsked on (WritesControl most) a r b → Settled a.end.streams b.end.streams
control-on false most a r b w = ([], λ m h f. let P : Writing → Type 0 = λ x. From m h x.end.streams in subst P (sym w.1) f)
control-on true most a r b w = (w.from.entries, w.from.from)

pub sends-within : {most : ℕ} {q r : List Datagram} {b c : List ℕ} {some : Bool} → SendsOldest most q b some r c → length b ≤ most → length c ≤ most
sends-within none h = h
sends-within (more w room written) h = written.3

pub datagrams-within : (on : Bool) (most : ℕ) (a : Writing) (r : Answer) (b : Writing) → IfAsked on (WritesDatagrams most) a r b → length a.payload.bytes ≤ most → length b.payload.bytes ≤ most
datagrams-within false most a r b w h = let P : Writing → Type 0 = λ x. length x.payload.bytes ≤ most in subst P (sym w.1) h
datagrams-within true most a r b w h = sends-within w.sends h

pub datagrams-end : (on : Bool) (most : ℕ) (a : Writing) (r : Answer) (b : Writing) → IfAsked on (WritesDatagrams most) a r b → b.end.streams ≡ a.end.streams
datagrams-end false most a r b w = ap (λ (x : Writing). x.end.streams) w.1
datagrams-end true most a r b w = ap (λ x. x.streams) w.end

pub streams-within : (on : Bool) (most : ℕ) (fair : Bool) (a : Writing) (r : Answer) (b : Writing) → IfAsked on (WritesStreams most fair) a r b
    → (m : Made) (h : List Event) → From m h a.end.streams → length a.payload.bytes ≤ most → length b.payload.bytes ≤ most
streams-within false most fair a r b w m h f l = let P : Writing → Type 0 = λ x. length x.payload.bytes ≤ most in subst P (sym w.1) l
streams-within true most fair a r b w m h f l = (w.carries m h f).within l

abbrev pub Turned : ℕ → Bool → World → World → Type 0
Turned most fair u v = (turns : List (Option StreamMeta)) × ((m : Made) (h : List Event) → From m h u → From m (with_turns most fair turns h) v)

pub streams-on : (on : Bool) (most : ℕ) (fair : Bool) (a : Writing) (r : Answer) (b : Writing) → IfAsked on (WritesStreams most fair) a r b → Turned most fair a.end.streams b.end.streams
streams-on false most fair a r b w = ([], λ m h f. let P : Writing → Type 0 = λ x. From m h x.end.streams in subst P (sym w.1) f)
streams-on true most fair a r b w = (w.from.turns, w.from.from)

pub parts-within : {most : ℕ} {parts : Parts} {fair : Bool} {a : Writing} {r : Answer} {d : Writing} → WritesParts most parts fair a r d
    → (m : Made) (h : List Event) → From m h a.end.streams → length a.payload.bytes ≤ most → length d.payload.bytes ≤ most
parts-within {most} {parts} {fair} {a} {r} {d} (whole b c x y z) m h f l =
    let s = control-on parts.control most a (Ok tt) b x in
    let P : World → Type 0 = λ w. From m (with_entries s.0 h) w in
    streams-within parts.streams most fair c r d z m (with_entries s.0 h) (subst P (sym (datagrams-end parts.datagrams most b (Ok tt) c y)) (s.1 m h f))
    (datagrams-within parts.datagrams most b (Ok tt) c y (control-within parts.control most a (Ok tt) b x l))
parts-within {most} {parts} {fair} {a} {r} {d} (no_datagrams b x y) m h f l = datagrams-within parts.datagrams most b r d y (control-within parts.control most a (Ok tt) b x l)
parts-within {most} {parts} {fair} {a} {r} {d} (control_alone x) m h f l = control-within parts.control most a r d x l

pub parts-on : {most : ℕ} {parts : Parts} {fair : Bool} {a : Writing} {r : Answer} {d : Writing} → WritesParts most parts fair a r d → GoesOnWithFrames most fair a.end.streams d.end.streams
parts-on {most} {parts} {fair} {a} {r} {d} (whole b c x y z) =
    let s = control-on parts.control most a (Ok tt) b x in
    let t = streams-on parts.streams most fair c r d z in
    record {
      entries = s.0;
      turns = t.0;
      from = λ m h f. let P : World → Type 0 = λ w. From m (with_entries s.0 h) w in
          t.1 m (with_entries s.0 h) (subst P (sym (datagrams-end parts.datagrams most b (Ok tt) c y)) (s.1 m h f));
    }
parts-on {most} {parts} {fair} {a} {r} {d} (no_datagrams b x y) =
    let s = control-on parts.control most a (Ok tt) b x in
    record {
      entries = s.0;
      turns = [];
      from = λ m h f. let P : World → Type 0 = λ w. From m (with_entries s.0 h) w in
          subst P (sym (datagrams-end parts.datagrams most b r d y)) (s.1 m h f);
    }
parts-on {most} {parts} {fair} {a} {r} {d} (control_alone x) =
    let s = control-on parts.control most a r d x in
    record { entries = s.0; turns = []; from = s.1 }

-- nothing was written
pub no-frames : (most : ℕ) (fair : Bool) (w : World) → GoesOnWithFrames most fair w w
no-frames most fair w = record { entries = []; turns = []; from = λ m h f. f }

-- the end is as it was left
pub frames-left : {most : ℕ} {fair : Bool} {u v w : World} → w ≡ v → GoesOnWithFrames most fair u v → GoesOnWithFrames most fair u w
frames-left {most} {fair} {u} {v} {w} e g = let P : World → Type 0 = λ x. GoesOnWithFrames most fair u x in subst P (sym e) g
