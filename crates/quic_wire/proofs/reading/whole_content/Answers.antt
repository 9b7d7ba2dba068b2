use Rattle.std.proofs.Common.{rules}
use Rattle.quic_wire.proofs.Steps.{IsBytes}
use Rattle.quic_wire.proofs.Whole.{behind_number}
use Rattle.quic_wire.proofs.reading.whole_content.Goals as goal

pub returns-clause-behind : goal.returns-clause-behind
returns-clause-behind c =
    let fits : IsBytes c.args.bytes.now = search rules in
    behind_number c.args.bytes.now c.in-Ok.length c.in-Ok.rest.now fits c.in-Ok.ensures.read
