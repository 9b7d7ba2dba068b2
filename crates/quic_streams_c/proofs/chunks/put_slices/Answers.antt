use Rattle.std.proofs.Common.{◌≡◌, ◌++◌, rules, refl, ap, ◌∙◌, take, drop, length, arith}
use Rattle.std.specs.Prelude.{map, slice_set}
use Rattle.std.proofs.Math.Seq.{take-length}
use Rattle.quic_streams_c.specs.Slices.{raw_slice}
use Rattle.quic_streams_c.proofs.Slices.{put-step}
use Rattle.quic_streams_c.proofs.chunks.put_slices.Goals as goal

pub loop-bytes-init : goal.loop-bytes-init
loop-bytes-init c = record { at = refl; put = refl }

pub loop-bytes-preserved : goal.loop-bytes-preserved
loop-bytes-preserved c =
    let i = c.loop-bytes.bytes-index in
    record {
      at = search rules;
      put = ap (λ k. slice_set c.loop-bytes.slices k c.raw_slice.result) c.loop-bytes.invariant.at ∙ ap (λ v. slice_set c.loop-bytes.slices i v) c.raw_slice.ensures
          ∙ put-step c.args.lent.now c.args.slices.now c.loop-bytes.slices i c.bytes-item.result c.loop-bytes-test.true c.requires c.bytes-item.is c.loop-bytes.invariant.put;
    }

pub returns : goal.returns
returns c =
    let n : c.loop-bytes.bytes-index ≡ length c.args.lent.now = omega arith in
    c.loop-bytes.invariant.put ∙ ap (λ k. map raw_slice (take k c.args.lent.now) ++ drop k c.args.slices.now) n ∙ ap (λ l. map raw_slice l ++ drop (length c.args.lent.now) c.args.slices.now) (take-length c.args.lent.now)
