use Rattle.std.proofs.Common.{◌≡◌, ℕ, ◌+◌, ◌-◌, ◌<◌, List, [], ◌++◌, length, refl, sym, ap, ◌∙◌, arith}
use Rattle.std.proofs.lemmas.List.{append-nil, append_assoc}
use Rattle.quic_sending.specs.Buffer.{Buffered, HasCuts, cut_of, total_length}
use Rattle.quic_sending.specs.Source.{rest_of, popped, after_pop}
use Rattle.quic_sending.proofs.Fronts.{pieces_of, AreFrontOf-pieces_of}
use Rattle.quic_sending.proofs.Cuts.{HasCuts-reserve}
use Rattle.quic_sending.proofs.Sources.{pieces_of-step, pieces_of-none, rest_of-step, rest_of-none, min-total-step, min-total-none, same_others, same_others-step, held-step}
use Rattle.quic_sending.proofs.send.write_source.Goals as goal

pub returns-then-len-eq0-clause-bytes : goal.returns-then-len-eq0-clause-bytes
returns-then-len-eq0-clause-bytes g c =
    let left = g.S.BytesSource.lists c.loop-chunk.source in
    let size = ap length c.pop_chunk-chunk.ensures.piece in
    let none : length (popped c.loop-chunk.left left) ≡ 0 = omega arith in
    let end = min-total-none c.loop-chunk.left left none in
    let same = ap total_length c.prepare.ensures.same in
    omega arith

pub returns-then-len-eq0-clause-left : goal.returns-then-len-eq0-clause-left
returns-then-len-eq0-clause-left g c =
    let left = g.S.BytesSource.lists c.loop-chunk.source in
    let size = ap length c.pop_chunk-chunk.ensures.piece in
    let none : length (popped c.loop-chunk.left left) ≡ 0 = omega arith in
    c.pop_chunk-chunk.ensures.left ∙ (rest_of-none c.loop-chunk.left left none ∙ (c.loop-chunk.invariant.rest ∙ ap (rest_of c.args.limit) c.prepare.ensures.same))

pub returns-then-len-eq0-clause-written : goal.returns-then-len-eq0-clause-written
returns-then-len-eq0-clause-written g c =
    let left = g.S.BytesSource.lists c.loop-chunk.source in
    let size = ap length c.pop_chunk-chunk.ensures.piece in
    let none : length (popped c.loop-chunk.left left) ≡ 0 = omega arith in
    let end = min-total-none c.loop-chunk.left left none in
    let gone = pieces_of-none c.loop-chunk.left left none in
    let lists = ap total_length c.prepare.ensures.same in
    let pieces = ap (pieces_of c.args.limit) c.prepare.ensures.same in
    let offset = ap (λ (v : Buffered). v.offset) c.reserve.ensures.same in
    let held = ap (λ (v : Buffered). v.held) c.reserve.ensures.same in
    let all = c.loop-chunk.invariant.held in
    record {
      pieces = pieces_of c.args.limit (g.S.BytesSource.lists c.args.source.now);
      front = AreFrontOf-pieces_of c.args.limit (g.S.BytesSource.lists c.args.source.now);
      buffer = same_others
          c.args.buffer.now c.reserve.new.self c.loop-chunk.buffer _ _ c.reserve.ensures.same c.loop-chunk.invariant.other
          (omega arith)
          (sym (append-nil _) ∙ (ap (λ (x : List (List ℕ)). c.loop-chunk.buffer.held ++ x) (sym gone) ∙ (all ∙ (cc))));
      cuts = λ cuts h.
          let before : HasCuts cuts c.reserve.new.self = rw c.reserve.ensures.same (HasCuts-reserve c.args.buffer.now cuts _ h) in
          let done = c.loop-chunk.invariant.cuts cuts before in
          let all : done.0 ≡ pieces_of c.args.limit (g.S.BytesSource.lists c.args.source.now) =
          sym (append-nil done.0) ∙ (ap (λ (x : List (List ℕ)). done.0 ++ x) (sym gone) ∙ (done.2 ∙ pieces)) in
          rw (← all) done.1;
    }

pub loop-chunk-init : goal.loop-chunk-init
loop-chunk-init g c =
    let lists = g.S.BytesSource.lists c.args.source.now in
    let few = c.in_ok-count.ensures.count (pieces_of c.args.limit lists) (AreFrontOf-pieces_of c.args.limit lists) in
    let same = ap (λ (ls : List (List ℕ)). length (pieces_of c.args.limit ls)) c.prepare.ensures.same in
    record {
      ready = sym c.in_ok-count.ensures.ready;
      held = refl;
      rest = refl;
      offset = refl;
      bytes = omega arith;
      below = omega arith;
      chunks = omega arith;
      room = omega (arith, c.in_ok-reserve.ensures.ok);
      other = refl;
      cuts = λ cuts h. ([], rw append-nil h, refl);
      sound = c.reserve.ensures.sound;
      borrow = refl;
      list_count = refl;
    }

pub write_reserved-requires-clause-room : goal.write_reserved-requires-clause-room
write_reserved-requires-clause-room g c =
    let left = g.S.BytesSource.lists c.loop-chunk.source in
    let size = ap length c.pop_chunk-chunk.ensures.piece in
    let some : 0 < length (popped c.loop-chunk.left left) = omega arith in
    let step = ap length (pieces_of-step c.loop-chunk.left left some) in
    omega arith

pub loop-chunk-preserved : goal.loop-chunk-preserved
loop-chunk-preserved g c =
    let left = g.S.BytesSource.lists c.loop-chunk.source in
    let n = c.loop-chunk.left in
    let piece = c.pop_chunk-chunk.ensures.piece in
    let size = ap length piece in
    let some : 0 < length (popped n left) = omega arith in
    let pieces = pieces_of-step n left some in
    let count = ap length pieces in
    let bytes = min-total-step n left in
    let after = c.pop_chunk-chunk.ensures.left in
    let taken : c.len-len.result ≡ length (popped n left) = omega arith in
    let wrote = c.write_reserved.ensures.same in
    let offset : c.write_reserved.new.self.offset ≡ c.loop-chunk.buffer.offset + length c.pop_chunk-chunk.result.0 = ap (λ (v : Buffered). v.offset) wrote in
    let held : c.write_reserved.new.self.held ≡ c.loop-chunk.buffer.held ++ cut_of c.pop_chunk-chunk.result.0 = ap (λ (v : Buffered). v.held) wrote in
    let rest_bytes : total_length (g.S.BytesSource.lists c.pop_chunk-chunk.new.self) ≡ total_length (after_pop n left) = ap total_length after in
    let rest_pieces : length (pieces_of (n - c.len-len.result) (g.S.BytesSource.lists c.pop_chunk-chunk.new.self)) ≡ length (pieces_of (n - length (popped n left)) (after_pop n left)) = rw (taken, after) refl in
    let long : 0 < length c.pop_chunk-chunk.result.0 = omega arith in
    record {
      ready = omega arith;
      held = rw (taken, after) (held-step _ _ _ _ _ long held (rw (piece, ← pieces) c.loop-chunk.invariant.held));
      rest = rw (taken, after) (sym (rest_of-step n left) ∙ c.loop-chunk.invariant.rest);
      offset = omega arith;
      bytes = omega arith;
      below = omega arith;
      chunks = omega arith;
      room = omega arith;
      other = same_others-step c.reserve.new.self c.loop-chunk.buffer c.write_reserved.new.self _ _ _ c.loop-chunk.invariant.other wrote;
      cuts = λ cuts h.
          let done = c.loop-chunk.invariant.cuts cuts h in
          let more : HasCuts (cuts ++ (done.0 ++ cut_of c.pop_chunk-chunk.result.0)) c.write_reserved.new.self = rw (← append_assoc cuts done.0 (cut_of c.pop_chunk-chunk.result.0)) (c.write_reserved.ensures.cuts (cuts ++ done.0) done.1) in
          (done.0 ++ cut_of c.pop_chunk-chunk.result.0, more, rw (taken, after) (held-step done.0 _ _ _ _ long refl (rw (piece, ← pieces) done.2)));
      sound = c.write_reserved.ensures.sound;
      borrow = c.pop_chunk-chunk.ensures.borrow ∙ c.loop-chunk.invariant.borrow;
      list_count = c.pop_chunk-chunk.ensures.list_count ∙ c.loop-chunk.invariant.list_count;
    }
