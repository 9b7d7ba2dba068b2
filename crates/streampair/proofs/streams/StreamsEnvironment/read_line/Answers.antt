use Rattle.std.proofs.Common.{◌<◌, ◌≡◌, ℕ, zero, suc, Bool, true, not, nat_eq, length, arith}
use Rattle.std.specs.Io.Buffered.{reader_remaining}
use Rattle.streampair.proofs.Serving.{taken_line}
use Rattle.streampair.proofs.streams.StreamsEnvironment.read_line.Goals as goal

counted : (n : ℕ) → not (nat_eq n 0) ≡ true → 0 < n
counted zero h = cc
counted (suc k) h = omega arith

pub returns-clause-line : goal.returns-clause-line
returns-clause-line g c = λ found.
    let some : 0 < length c.read_until.new.buf.items = omega (arith, c.in-Ok.ensures.ok, c.read_until.new.buf.ok.0, counted c.in-Ok.count found) in
    taken_line (reader_remaining g.R.Read.remaining c.args.self.now.input) (reader_remaining g.R.Read.remaining c.read_until.new.self) c.clear.new.self.items c.read_until.new.buf.items c.drop_line_feed.new.line.items c.clear.ensures.items c.in-Ok.ensures.bytes c.in-Ok.ensures.rest c.drop_line_feed.ensures some
