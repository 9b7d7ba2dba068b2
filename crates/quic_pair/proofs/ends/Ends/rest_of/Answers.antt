use Rattle.std.proofs.Common.{sym, ap, ◌∙◌}
use Rattle.quic_pair.specs.Ends.{kept_of}
use Rattle.quic_pair.proofs.Sessions.{kept-of-session}
use Rattle.quic_exchange.specs.Notes.{under}
use Rattle.quic_pair.proofs.ends.Ends.rest_of.Goals as goal

pub returns-in-Some : goal.returns-in-Some
returns-in-Some c =
    let e = c.args.self.now in
    let n = c.args.note.now in
    c.payload.ensures ∙ kept-of-session e.a e.b n.writer c.session.result.now c.in-Some.token c.session.ensures ∙ sym (ap (under (kept_of e.a e.b n.writer)) c.in-Some.is)

pub returns-in-None : goal.returns-in-None
returns-in-None c =
    let e = c.args.self.now in
    sym (ap (under (kept_of e.a e.b c.args.note.now.writer)) c.in-None.is)
