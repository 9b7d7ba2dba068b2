use Rattle.quic_streams.specs.Held.{half_in}
use Rattle.quic_streams.proofs.half_reads.read_some_on.Goals as goal

pub returns-clause-reads : goal.returns-clause-reads
returns-clause-reads c =
    let chunks = c.read_chunks_on-chunks in
    let reads = chunks.ensures.reads c.args.window in
    record {
      opened = half_in c.args.window c.ask_on.new.entry;
      read = reads.0;
      asks = c.in_ok-ask_on.ensures.asks;
      reading = c.in_ok-ask_on.ensures.reading;
      gives = reads.1;
      last_reads = reads.2;
      count = chunks.ensures.count;
    }
