use Rattle.std.proofs.Common.{◌≡◌, ℕ, ◌+◌, ◌-◌, ◌<◌, ◌≤◌, List, ◌∷◌, ap, sym, ◌∙◌, length, drop, length-take, length-set, set, get_or, arith}
use Rattle.quic_sending.specs.Source.{cut_piece}
use Rattle.quic_sending.proofs.Chunks.{chunks-set, chunks-after, chunks-end, pops_at_end, pops_at_part, pops_at_whole, cut_piece-zero, taken_front, taken_cut, taken_more}
use Rattle.quic_sending.proofs.source.BytesArrayBytesSource.pop_chunk.Goals as goal

pub invariant_of-self : goal.invariant_of-self
invariant_of-self c =
    let s = c.args.self.now in
    let pops = pops_at_end s.chunks.now s.consumed _ c.args.limit c.count_empty-ended.ensures.left (omega arith) in
    let was : s.part.now ≡ cut_piece c.args.limit (drop s.consumed s.chunks.now) = s.is_part ∙ ap (λ (n : ℕ). cut_piece n (drop s.consumed s.chunks.now)) (sym c.requires) in
    record {
      in_range = omega arith;
      taken = taken_front s.chunks.now s.consumed c.count_empty-ended.result (omega arith) s.taken c.count_empty-ended.ensures.left;
      is_part = was ∙ (pops.part ∙ ap (cut_piece c.args.limit) (sym (chunks-end s.chunks.now _ (omega arith))));
    }

pub returns-then-self-chunks-clause-piece : goal.returns-then-self-chunks-clause-piece
returns-then-self-chunks-clause-piece c =
    let s = c.args.self.now in
    let pops = pops_at_end s.chunks.now s.consumed _ c.args.limit c.count_empty-ended.ensures.left (omega arith) in
    c.new.ensures ∙ sym pops.piece

pub returns-then-self-chunks-clause-left : goal.returns-then-self-chunks-clause-left
returns-then-self-chunks-clause-left c =
    let s = c.args.self.now in
    let pops = pops_at_end s.chunks.now s.consumed _ c.args.limit c.count_empty-ended.ensures.left (omega arith) in
    chunks-end s.chunks.now _ (omega arith) ∙ sym pops.left

pub returns-then-self-chunks-clause-ready : goal.returns-then-self-chunks-clause-ready
returns-then-self-chunks-clause-ready c =
    let s = c.args.self.now in
    let pops = pops_at_end s.chunks.now s.consumed _ c.args.limit c.count_empty-ended.ensures.left (omega arith) in
    rw pops.piece (omega arith)

pub invariant_of-self-then-limit-len : goal.invariant_of-self-then-limit-len
invariant_of-self-then-limit-len c =
    let s = c.args.self.now in
    let i = s.consumed + c.count_empty-ended.result in
    let same = length-set s.chunks.now i c.advance.new.self in
    record {
      in_range = omega arith;
      taken = taken_cut s.chunks.now i c.advance.new.self (taken_front s.chunks.now s.consumed c.count_empty-ended.result (omega arith) s.taken c.count_empty-ended.ensures.left);
      is_part = c.replace.ensures.after ∙ (c.new-then-limit-len.ensures ∙ sym (cut_piece-zero (drop i (set s.chunks.now i c.advance.new.self))));
    }

pub returns-then-limit-len-clause-piece : goal.returns-then-limit-len-clause-piece
returns-then-limit-len-clause-piece c =
    let s = c.args.self.now in
    let i = s.consumed + c.count_empty-ended.result in
    let v = get_or s.chunks.now i c.index-chunks-self.result in
    let at : v ≡ get_or s.chunks.now i v = ap (λ (d : List ℕ). get_or s.chunks.now i d) c.index-chunks-self.is in
    let short : c.args.limit < length v = omega arith in
    let pops = pops_at_part s.chunks.now s.consumed i c.args.limit v c.count_empty-ended.ensures.left (omega arith) at short in
    let was : s.part.now ≡ cut_piece c.args.limit (drop s.consumed s.chunks.now) = s.is_part ∙ ap (λ (n : ℕ). cut_piece n (drop s.consumed s.chunks.now)) (sym c.requires) in
    c.replace.ensures.value ∙ (was ∙ (pops.part ∙ sym pops.piece))

pub returns-then-limit-len-clause-left : goal.returns-then-limit-len-clause-left
returns-then-limit-len-clause-left c =
    let s = c.args.self.now in
    let i = s.consumed + c.count_empty-ended.result in
    let v = get_or s.chunks.now i c.index-chunks-self.result in
    let at : v ≡ get_or s.chunks.now i v = ap (λ (d : List ℕ). get_or s.chunks.now i d) c.index-chunks-self.is in
    let short : c.args.limit < length v = omega arith in
    let pops = pops_at_part s.chunks.now s.consumed i c.args.limit v c.count_empty-ended.ensures.left (omega arith) at short in
    chunks-set s.chunks.now i c.advance.new.self (omega arith) ∙ (ap (λ (x : List ℕ). x ∷ drop (i + 1) s.chunks.now) c.advance.ensures ∙ sym pops.left)

pub returns-then-limit-len-clause-ready : goal.returns-then-limit-len-clause-ready
returns-then-limit-len-clause-ready c =
    let s = c.args.self.now in
    let i = s.consumed + c.count_empty-ended.result in
    let v = get_or s.chunks.now i c.index-chunks-self.result in
    let at : v ≡ get_or s.chunks.now i v = ap (λ (d : List ℕ). get_or s.chunks.now i d) c.index-chunks-self.is in
    let short : c.args.limit < length v = omega arith in
    let pops = pops_at_part s.chunks.now s.consumed i c.args.limit v c.count_empty-ended.ensures.left (omega arith) at short in
    let size = length-take c.args.limit v in
    rw pops.piece (omega arith)

pub invariant_of-self-2 : goal.invariant_of-self-2
invariant_of-self-2 c =
    let s = c.args.self.now in
    let i = s.consumed + c.count_empty-ended.result in
    let v = get_or s.chunks.now i c.index-chunks-self.result in
    let at : v ≡ get_or s.chunks.now i v = ap (λ (d : List ℕ). get_or s.chunks.now i d) c.index-chunks-self.is in
    let long : length v ≤ c.args.limit = omega arith in
    let pops = pops_at_whole s.chunks.now s.consumed i c.args.limit v c.count_empty-ended.ensures.left (omega arith) at long in
    let was : s.part.now ≡ cut_piece c.args.limit (drop s.consumed s.chunks.now) = s.is_part ∙ ap (λ (n : ℕ). cut_piece n (drop s.consumed s.chunks.now)) (sym c.requires) in
    let same = length-set s.chunks.now i c.replace-whole.new.dest in
    let size : length c.replace-whole.result ≡ length v = ap (λ (x : List ℕ). length x) c.replace-whole.ensures.value in
    let left : c.args.limit - length v ≡ c.args.limit - c.len-2.result = omega arith in
    record {
      in_range = omega arith;
      taken = taken_more s.chunks.now i c.replace-whole.new.dest (omega arith) (taken_front s.chunks.now s.consumed c.count_empty-ended.result (omega arith) s.taken c.count_empty-ended.ensures.left) (c.replace-whole.ensures.after ∙ c.new-2.ensures);
      is_part = was ∙ (pops.part ∙ (ap (λ (n : ℕ). cut_piece n (drop (i + 1) s.chunks.now)) left ∙ ap (cut_piece (c.args.limit - c.len-2.result)) (sym (chunks-after s.chunks.now i c.replace-whole.new.dest))));
    }

pub returns-clause-piece : goal.returns-clause-piece
returns-clause-piece c =
    let s = c.args.self.now in
    let i = s.consumed + c.count_empty-ended.result in
    let v = get_or s.chunks.now i c.index-chunks-self.result in
    let at : v ≡ get_or s.chunks.now i v = ap (λ (d : List ℕ). get_or s.chunks.now i d) c.index-chunks-self.is in
    let long : length v ≤ c.args.limit = omega arith in
    let pops = pops_at_whole s.chunks.now s.consumed i c.args.limit v c.count_empty-ended.ensures.left (omega arith) at long in
    c.replace-whole.ensures.value ∙ sym pops.piece

pub returns-clause-left : goal.returns-clause-left
returns-clause-left c =
    let s = c.args.self.now in
    let i = s.consumed + c.count_empty-ended.result in
    let v = get_or s.chunks.now i c.index-chunks-self.result in
    let at : v ≡ get_or s.chunks.now i v = ap (λ (d : List ℕ). get_or s.chunks.now i d) c.index-chunks-self.is in
    let long : length v ≤ c.args.limit = omega arith in
    let pops = pops_at_whole s.chunks.now s.consumed i c.args.limit v c.count_empty-ended.ensures.left (omega arith) at long in
    chunks-after s.chunks.now i c.replace-whole.new.dest ∙ sym pops.left

pub returns-clause-ready : goal.returns-clause-ready
returns-clause-ready c =
    let s = c.args.self.now in
    let i = s.consumed + c.count_empty-ended.result in
    let v = get_or s.chunks.now i c.index-chunks-self.result in
    let at : v ≡ get_or s.chunks.now i v = ap (λ (d : List ℕ). get_or s.chunks.now i d) c.index-chunks-self.is in
    let long : length v ≤ c.args.limit = omega arith in
    let pops = pops_at_whole s.chunks.now s.consumed i c.args.limit v c.count_empty-ended.ensures.left (omega arith) at long in
    let size : length c.replace-whole.result ≡ length v = ap (λ (x : List ℕ). length x) c.replace-whole.ensures.value in
    rw pops.piece (omega arith)
