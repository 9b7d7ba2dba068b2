use Rattle.std.proofs.Common.{◌≡◌, ◌∙◌, List, Some, None, true, false, Result, Ok, Err, OnErr, is_err, refl, sym, ap, inl, inr}
use Rattle.std.specs.Prelude.{is_some}
use Rattle.quic_values.specs.declared.memory.OutOfMemory.{OutOfMemory}
use Rattle.quic_retransmits.specs.Pending.{Pending}
use Rattle.quic_endpoint.specs.Ends.{EndState}
use Rattle.quic_session.specs.Sessions.{end_of, Beside}
use Rattle.quic_session.specs.Tokens.{unsettled}
use Rattle.quic_steps.specs.declared.steps.End.TheVariants.{A}
use Rattle.quic_exchange.specs.Gone.{with_all_noted}
use Rattle.quic_exchange.specs.Notes.{rows}
use Rattle.quic_exchange.specs.State.{PairState}
use Rattle.quic_exchange.proofs.Rows.{have-left}
use Rattle.quic_pair.specs.Ends.{kept_of, view_of}
use Rattle.quic_pair.proofs.Sessions.{view-same, sound-same, sound-left}
use Rattle.quic_pair.proofs.ends.Ends.retry.Goals as goal

err-of : {P : Type 0} (r : Result (Unit {0}) OutOfMemory) → is_err r ≡ true → OnErr r P → P
err-of (Ok done) e p = cc
err-of (Err error) e p = p

ok-of : (r : Result (Unit {0}) OutOfMemory) → is_err r ≡ false → r ≡ Ok tt
ok-of (Ok done) e = refl
ok-of (Err error) e = cc

pub returns-in-Err : goal.returns-in-Err
returns-in-Err c =
    record { next = (ap is_some c.in-Some.is, refl); sound = c.requires }

pub returns-then-is_err : goal.returns-then-is_err
returns-then-is_err c =
    let old = c.args.self.now in
    let s = c.send_again.new.self in
    let same = err-of c.send_again.result (sym c.is_err.ensures.value ∙ c.if-is_err.true) c.send_again.ensures.err in
    let beside = err-of c.send_again.result (sym c.is_err.ensures.value ∙ c.if-is_err.true) c.send_again.ensures.kept in
    record {
      next = (ap is_some c.in-Some.is, view-same A old.a old.b s old.b old.sent.items old.waits ((same, ap (λ (k : Beside). unsettled k.unsettled) beside), refl));
      sound = sound-same old.a old.b s old.b A old.sent.items old.waits c.requires ((ap (λ (k : Beside). k.conn) beside, ap (λ (k : Beside). k.unsettled.next) beside), refl);
    }

pub returns : goal.returns
returns c =
    let old = c.args.self.now in
    let s = c.send_again.new.self in
    let notes = old.sent.items in
    let behind = c.leave_all.new.sent.items in
    let before : PairState = view_of old.a old.b notes old.waits in
    let done = ok-of c.send_again.result (sym c.is_err.ensures.value ∙ c.if-is_err.false) in
    let f : EndState = end_of s in
    let pending_is : f.pending ≡ with_all_noted before.a.pending before.sent = (rw done at c.send_again.ensures.pending) ∙ c.in-Ok.ensures in
    let others = c.send_again.ensures.others in
    record {
      next = record {
        limits = c.in-Some.field-0;
        waiting = c.in-Some.is;
        streams = f.streams;
        again = rw done at c.send_again.ensures.sends;
        sent = rows (kept_of s old.b) behind;
        left = have-left (kept_of old.a old.b) (kept_of s old.b) notes behind c.leave_all.ensures;
        is = ap (λ (p : Pending). record { a = record { streams = f.streams; pending = p }; b = end_of old.b; sent = rows (kept_of s old.b) behind; waits = old.waits }) pending_is;
      };
      sound = sound-left old.a old.b s old.b A notes behind old.waits old.waits c.requires ((others.0, others.2), refl) c.leave_all.ensures (λ k e. e);
    }
