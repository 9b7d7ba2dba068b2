use Rattle.std.proofs.Common.{List, ◌<◌, ◌≤◌, ℕ, length, ap, arith}
use Rattle.std.proofs.lemmas.Bool.Decides.{nat_tests}
use Rattle.quic_sending.proofs.Chunks.{length-pieces_of-part, chunks-end}
use Rattle.quic_sending.proofs.Fronts.{pieces_of, pieces-are}
use Rattle.quic_sending.proofs.source.prepare_chunks.Goals as goal

pub returns-then-left-len-clause-count : goal.returns-then-left-len-clause-count
returns-then-left-len-clause-count c = λ pieces h.
    let same = ap length (pieces-are _ _ pieces h) in
    let short : c.loop-at.left < length c.index-chunks-at.result = omega arith in
    let last = length-pieces_of-part c.args.chunks.now c.loop-at.at c.loop-at.left c.index-chunks-at.result (omega arith) c.index-chunks-at.is short in
    grind (arith, nat_tests)

pub returns-clause-count : goal.returns-clause-count
returns-clause-count c = λ pieces h.
    let same = ap length (pieces-are _ _ pieces h) in
    let ended : length c.args.chunks.now ≤ c.loop-at.at = omega arith in
    let none = ap (λ (ls : List (List ℕ)). length (pieces_of c.loop-at.left ls)) (chunks-end c.args.chunks.now c.loop-at.at ended) in
    omega arith
