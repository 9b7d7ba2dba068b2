use Rattle.std.proofs.Common.{rules, ◌≡◌}
use Rattle.quic_outgoing.specs.Senders.{bare, raised}
use Rattle.quic_outgoing.specs.Seen.{sender_in}
use Rattle.quic_outgoing.proofs.Frames.{frame-bare, if_ok}
use Rattle.quic_outgoing.proofs.transmitting.append_of_entry.Goals as goal

pub returns-clause-ok : goal.returns-clause-ok
returns-clause-ok c =
    let was : sender_in c.args.limit c.args.entry.now ≡ raised c.args.limit (bare c.deref_mut.result.now) = search rules in
    rw was (if_ok _ _ c.append_frame-written.result (λ frame h. frame-bare c.args.limit c.args.max_size c.args.id _ _ _ _ frame h) c.append_frame-written.ensures.ok)
