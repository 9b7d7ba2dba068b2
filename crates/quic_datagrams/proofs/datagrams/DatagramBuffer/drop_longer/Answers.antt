use Rattle.std.proofs.Common.{ap, ◌∙◌, ◌≡◌, length, arith, rules}
use Rattle.std.specs.Prelude.{nat_le}
use Rattle.std.proofs.lemmas.Fn.{filter_same}
use Rattle.quic_datagrams.specs.Queue.{no_longer_than}
use Rattle.quic_datagrams.proofs.QueueLemmas.{total_cost-longer}
use Rattle.quic_datagrams.proofs.datagrams.DatagramBuffer.drop_longer.Goals as goal

pub count_all-self-inside-requires : goal.count_all-self-inside-requires
count_all-self-inside-requires c =
    let kept : c.retain.new.self.items ≡ no_longer_than c.args.max c.self.inside.queue.items =
    filter_same _ (λ d. nat_le (length d.bytes) c.args.max) _ (λ d b f' k. search rules) _ _ c.retain.ensures.filtered in
    rw kept (omega (arith, total_cost-longer c.args.max c.self.inside.queue.items))

pub returns-clause-kept : goal.returns-clause-kept
returns-clause-kept c =
    let kept : c.retain.new.self.items ≡ no_longer_than c.args.max c.self.inside.queue.items =
    filter_same _ (λ d. nat_le (length d.bytes) c.args.max) _ (λ d b f' k. search rules) _ _ c.retain.ensures.filtered in
    kept ∙ ap (no_longer_than c.args.max) c.self.view_is
