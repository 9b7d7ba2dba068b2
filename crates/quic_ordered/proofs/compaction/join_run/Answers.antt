use Rattle.std.proofs.Common.{ℕ, List, length, arith, ap}
use Rattle.quic_ordered.proofs.Chains.{chain_len, chain_same}
use Rattle.quic_ordered.proofs.compaction.join_run.Goals as goal

pub append-requires : goal.append-requires
append-requires c =
    let b = c.requires.base in
    let chain = c.requires.chain in
    let len = chain_len c.args.pieces.now c.args.run.from chain.0 chain.1 in
    let items = ap (λ (bs : List ℕ). length bs) chain.3 in
    let ends = chain.2 in
    let bound = c.requires.bound in
    (b.0, b.1, omega (arith, b.2, len, items, ends, bound))

pub remove_run-requires : goal.remove_run-requires
remove_run-requires c =
    let b = c.requires.base in
    let chain = c.requires.chain in
    let key = c.requires.map.key c.args.run.base b.0 b.1 in
    let some = c.requires.map.some c.args.run.base b.0 b.1 in
    (chain.0, chain_same c.args.pieces.now c.append.new.self c.args.run.from chain.0 (λ q le. c.append.ensures.others q (λ e. omega (arith, e, le, key, some, b.2))) chain.1, chain.2)
