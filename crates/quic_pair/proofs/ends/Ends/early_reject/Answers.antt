use Rattle.std.proofs.Common.{◌≡◌, ◌∙◌, List, Some, None, true, false, refl, sym, ap}
use Rattle.std.proofs.lemmas.Option.{none-some}
use Rattle.quic_retransmits.specs.Pending.{nothing}
use Rattle.quic_history.specs.Early.{with_rejection}
use Rattle.quic_history.specs.Sends.{with_params_given}
use Rattle.quic_endpoint.specs.Ends.{EndState, with_world}
use Rattle.quic_session.specs.declared.unsettled.Unsettled.{Unsettled}
use Rattle.quic_session.specs.Sessions.{end_of, Beside}
use Rattle.quic_session.specs.Tokens.{unsettled}
use Rattle.quic_steps.specs.declared.steps.End.TheVariants.{A}
use Rattle.quic_exchange.specs.Notes.{kept_by, rows}
use Rattle.quic_exchange.specs.State.{PairState}
use Rattle.quic_exchange.proofs.Rows.{have-left}
use Rattle.quic_pair.specs.Ends.{kept_of, view_of}
use Rattle.quic_pair.proofs.Sessions.{sound-left}
use Rattle.quic_pair.proofs.ends.Ends.early_reject.Goals as goal

pub unreachable-requires : goal.unreachable-requires
unreachable-requires c =
    let limits = c.in-Some.limits in
    let rejected = c.zero_rtt_rejected.ensures.rejects in
    let ok = c.set_params.ensures.free (c.requires.limits limits c.in-Some.is) (ap (λ (e : EndState). e.streams.out.own_bi.opened) rejected) (ap (λ (e : EndState). e.streams.out.own_uni.opened) rejected) in
    let no = rw c.in-Err.is at ok in
    cc

pub returns : goal.returns
returns c =
    let old = c.args.self.now in
    let u = c.zero_rtt_rejected.new.self in
    let s = c.set_params.new.self in
    let beside = c.set_params.ensures.beside in
    let others = c.zero_rtt_rejected.ensures.others in
    let notes = old.sent.items in
    let behind = c.leave_all.new.sent.items in
    let limits = c.in-Some.limits in
    let rejected = c.zero_rtt_rejected.ensures.rejects in
    let end : end_of s ≡ record { streams = with_params_given (with_rejection (end_of old.a).streams) limits.others; pending = nothing } =
    c.in-Ok.ensures.params ∙ ap (λ (e : EndState). with_world e (with_params_given e.streams limits.others)) rejected in
    record {
      next = record {
        limits = limits;
        waiting = c.in-Some.is;
        sent = rows (kept_of s old.b) behind;
        left = have-left (kept_of old.a old.b) (kept_of s old.b) notes behind c.leave_all.ensures;
        is = ap (λ (e : EndState). record { a = e; b = end_of old.b; sent = rows (kept_of s old.b) behind; waits = None }) end;
      };
      sound = sound-left old.a old.b s old.b A notes behind old.waits None c.requires ((ap (λ (k : Beside). k.conn) beside ∙ others.0, ap (λ (k : Beside). k.unsettled.next) beside ∙ others.2), refl) c.leave_all.ensures (λ k e. absurd (none-some k e));
    }
