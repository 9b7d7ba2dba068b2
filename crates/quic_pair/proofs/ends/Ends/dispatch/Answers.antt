use Rattle.std.proofs.Common.{◌≡◌, Some, sym, ap, ◌∙◌}
use Rattle.quic_endpoint.specs.Ends.{EndState}
use Rattle.quic_session.specs.Sessions.{Beside}
use Rattle.quic_session.specs.Tokens.{unsettled}
use Rattle.quic_exchange.specs.State.{PairState}
use Rattle.quic_pair.specs.Calls.{caller_of, EndDoes, DoesStep}
use Rattle.quic_pair.specs.Ends.{view_of}
use Rattle.quic_pair.proofs.Alone.{alone}
use Rattle.quic_pair.proofs.Sessions.{on-map, on-session, DoesOnly, GivesNone, sound-same}
use Rattle.quic_pair.proofs.ends.Ends.dispatch.Goals as goal

pub returns-in-Some : goal.returns-in-Some
returns-in-Some c =
    let old = c.args.self.now in
    let s = c.call_on.new.a in
    let t = c.call_on.new.b in
    let step = c.args.step in
    let who = c.in-Some.who in
    let reply = c.call_on.result in
    let E : EndState → EndState → Type 0 = λ e f. EndDoes step e reply f in
    let caller : caller_of step ≡ Some who = sym c.caller_of.ensures ∙ c.in-Some.is in
    let before : PairState = view_of old.a old.b old.sent.items old.waits in
    let behind : PairState = view_of s t old.sent.items old.waits in
    record {
      next = alone before behind step who reply caller (on-session E who old.a old.b s t old.sent.items old.waits (on-map (DoesStep step reply) (DoesOnly E) who old.a old.b s t (λ x y h. (h.0, ap (λ (k : Beside). unsettled k.unsettled) h.1)) c.call_on.ensures));
      sound = sound-same old.a old.b s t who old.sent.items old.waits c.requires.sound (on-map (DoesStep step reply) GivesNone who old.a old.b s t (λ x y h. (ap (λ (k : Beside). k.conn) h.1, ap (λ (k : Beside). k.unsettled.next) h.1)) c.call_on.ensures);
    }
