use Rattle.std.proofs.Common.{sym, ◌∙◌}
use Rattle.quic_exchange.proofs.Rows.{rows-length}
use Rattle.quic_pair.specs.Ends.{kept_of}
use Rattle.quic_pair.proofs.ends.Ends.count.Goals as goal

pub returns : goal.returns
returns c =
    let e = c.args.self.now in
    c.len.ensures ∙ e.sent.ok.0 ∙ sym (rows-length (kept_of e.a e.b) e.sent.items)
