use Rattle.std.proofs.Common.{◌≡◌, ◌∙◌, List, Some, None, true, false, refl, sym, ap}
use Rattle.std.proofs.lemmas.Option.{none-some}
use Rattle.quic_history.specs.Sends.{with_params_given}
use Rattle.quic_endpoint.specs.Ends.{EndState, with_world}
use Rattle.quic_session.specs.declared.unsettled.Unsettled.{Unsettled}
use Rattle.quic_session.specs.Sessions.{end_of, Beside}
use Rattle.quic_session.specs.Tokens.{unsettled}
use Rattle.quic_session.specs.Params.{are_stream_limits}
use Rattle.quic_steps.specs.declared.steps.End.TheVariants.{A}
use Rattle.quic_exchange.specs.Notes.{kept_by, rows}
use Rattle.quic_exchange.specs.State.{PairState}
use Rattle.quic_pair.specs.Ends.{kept_of, view_of}
use Rattle.quic_pair.proofs.Sessions.{view-same, sound-same, sound-on}
use Rattle.quic_pair.proofs.ends.Ends.early_accept.Goals as goal

pub returns-in-Err-OutOfMemory : goal.returns-in-Err-OutOfMemory
returns-in-Err-OutOfMemory c =
    let old = c.args.self.now in
    let s = c.set_params.new.self in
    let beside = c.set_params.ensures.beside in
    let notes = old.sent.items in
    record {
      next = record {
        limits = c.in-Some.limits;
        waiting = c.in-Some.is;
        within = c.are_within.ensures.yes c.if-not-are_within.false;
        is = view-same A old.a old.b s old.b notes old.waits ((c.in-Err-OutOfMemory.ensures.err, ap (λ (k : Beside). unsettled k.unsettled) beside), refl);
      };
      sound = sound-same old.a old.b s old.b A notes old.waits c.requires ((ap (λ (k : Beside). k.conn) beside, ap (λ (k : Beside). k.unsettled.next) beside), refl);
    }

pub unreachable-requires : goal.unreachable-requires
unreachable-requires c =
    let few : are_stream_limits c.in-Some.limits.others ≡ true = c.requires.limits c.in-Some.limits c.in-Some.is in
    let many : are_stream_limits c.in-Some.limits.others ≡ false = (rw c.in-Err-Transport.field-0-is at c.in-Err-Transport.ensures.checks).0 in
    let both : true ≡ false = sym few ∙ many in
    cc

pub returns : goal.returns
returns c =
    let old = c.args.self.now in
    let s = c.set_params.new.self in
    let beside = c.set_params.ensures.beside in
    let notes = old.sent.items in
    let given : EndState = with_world (end_of old.a) (with_params_given (end_of old.a).streams c.in-Some.limits.others) in
    record {
      next = record {
        limits = c.in-Some.limits;
        waiting = c.in-Some.is;
        within = c.are_within.ensures.yes c.if-not-are_within.false;
        is = ap (λ (e : EndState). record { a = e; b = end_of old.b; sent = rows (kept_of s old.b) notes; waits = None }) c.in-Ok.ensures.params
            ∙ ap (λ (u : Unsettled). record { a = given; b = end_of old.b; sent = rows (kept_by (unsettled u) (unsettled old.b.unsettled)) notes; waits = None }) (ap (λ (k : Beside). k.unsettled) beside);
      };
      sound = sound-on old.a old.b s old.b A notes notes old.waits None c.requires ((ap (λ (k : Beside). k.conn) beside, ap (λ (k : Beside). k.unsettled.next) beside), refl) refl (λ i n t is tok. (n, is, refl, tok)) (λ k e. absurd (none-some k e));
    }
