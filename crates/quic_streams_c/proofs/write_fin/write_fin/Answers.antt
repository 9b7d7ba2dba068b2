use Rattle.std.proofs.Common.{◌≡◌, ◌∙◌, refl, sym, true, false, length, w32, to_z-of_z}
use Rattle.quic_streams_c.specs.WriteFin.{is_end_alone, ends_write}
use Rattle.quic_streams_c.proofs.Calls.{number-refused, number-given}
use Rattle.quic_streams_c.proofs.write_fin.write_fin.Goals as goal

pub returns-in_default : goal.returns-in_default
returns-in_default c = number-refused c.stream_of.result _ _ _ c.stream_of.ensures c.in_default.not-Some ((refl, refl), refl, refl)

pub returns-then-is_end_alone : goal.returns-then-is_end_alone
returns-then-is_end_alone c =
    let f = c.finish.ensures in
    let alone : is_end_alone c.args.bytes.now c.args.fin ≡ true = sym c.is_end_alone.ensures ∙ c.if-is_end_alone.true in
    number-given c.in-Some.id _ _ _ c.in-Some.ensures
    (rw alone (c.finish.result, (f.finishes, f.unknown, f.from, f.beside), refl, simp (to_z-of_z {w = w32} {z = c.tell_finish.result} (record { sfits = c.tell_finish.type_inv })) c.tell_finish.ensures))

pub returns-then-not-ends_write : goal.returns-then-not-ends_write
returns-then-not-ends_write c =
    let w = c.write-answer.ensures in
    let some : is_end_alone c.args.bytes.now c.args.fin ≡ false = sym c.is_end_alone.ensures ∙ c.if-is_end_alone.false in
    let tells = rw c.stopped_first.ensures at c.tell_part.ensures in
    let part : ends_write c.write-answer.result (length c.args.bytes.now) c.args.fin ≡ false = sym c.ends_write.ensures ∙ c.if-not-ends_write.true in
    number-given c.in-Some.id _ _ _ c.in-Some.ensures
    (rw some (
      c.write-answer.new.self,
      c.write-answer.result,
      (w.writes, w.unknown, w.from, w.beside),
      rw part (refl, simp (to_z-of_z {w = w32} {z = c.tell_part.result} (record { sfits = c.tell_part.type_inv })) tells),
    ))

pub returns : goal.returns
returns c =
    let w = c.write-answer.ensures in
    let f = c.finish-2.ensures in
    let some : is_end_alone c.args.bytes.now c.args.fin ≡ false = sym c.is_end_alone.ensures ∙ c.if-is_end_alone.false in
    let all : ends_write c.write-answer.result (length c.args.bytes.now) c.args.fin ≡ true = sym c.ends_write.ensures ∙ c.if-not-ends_write.false in
    number-given c.in-Some.id _ _ _ c.in-Some.ensures
    (rw some (
      c.write-answer.new.self,
      c.write-answer.result,
      (w.writes, w.unknown, w.from, w.beside),
      rw all (c.finish-2.result, (f.finishes, f.unknown, f.from, f.beside), refl, simp (to_z-of_z {w = w32} {z = c.tell_finish-2.result} (record { sfits = c.tell_finish-2.type_inv })) c.tell_finish-2.ensures),
    ))
