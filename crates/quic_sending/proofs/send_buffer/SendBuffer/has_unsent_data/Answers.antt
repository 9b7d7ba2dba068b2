use Rattle.std.proofs.Common.{◌≡◌, ◌<◌, arith, ap}
use Rattle.std.proofs.lemmas.Bool.Decides.{nat_tests}
use Rattle.quic_sending.specs.Buffer.{Buffered}
use Rattle.quic_sending.proofs.send_buffer.SendBuffer.has_unsent_data.Goals as goal

pub returns-then-self-offset-clause-some : goal.returns-then-self-offset-clause-some
returns-then-self-offset-clause-some c = λ t.
    let offset : c.self.inside.pieces.end ≡ c.args.self.now.offset = ap (λ (v : Buffered). v.offset) c.self.view_is in
    let unsent : c.self.inside.unsent ≡ c.args.self.now.unsent = ap (λ (v : Buffered). v.unsent) c.self.view_is in
    let written = c.self.invariant.sent_written in
    (c.self.inside.unsent, grind (arith, nat_tests))

pub returns-else-self-offset-clause-some : goal.returns-else-self-offset-clause-some
returns-else-self-offset-clause-some c = λ t. rw (← c.self.view_is) (
    let some : c.next_lost-lost.result.start < c.next_lost-lost.result.end = grind (arith, nat_tests) in
    let at = (c.next_lost-lost.ensures.run some).run.inside c.next_lost-lost.result.start (omega arith) some in
    (c.next_lost-lost.result.start, grind (arith, nat_tests)))
