use Rattle.quic_endpoint.specs.Shown.{endpoint_view}
use Rattle.quic_endpoint.proofs.endpoint.Endpoint.write_in.Goals as goal

pub returns-clause-from : goal.returns-clause-from
unfolding endpoint_view
returns-clause-from c = rw (c.new.ensures.state, c.new.ensures.conn, c.new.ensures.id) at c.write.ensures.from
