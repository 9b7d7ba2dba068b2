use Rattle.quic_endpoint.specs.Shown.{endpoint_view}
use Rattle.quic_endpoint.proofs.endpoint.Endpoint.read_stream.Goals as goal

pub returns-clause-from : goal.returns-clause-from
unfolding endpoint_view
returns-clause-from c = rw (c.new.ensures.state, c.new.ensures.id) at c.read_some_into.ensures.from

pub returns-clause-from_refused : goal.returns-clause-from_refused
unfolding endpoint_view
returns-clause-from_refused c = rw (c.new.ensures.state, c.new.ensures.id) at c.read_some_into.ensures.from_refused
