-- Buffers that were made longer.
use Rattle.std.proofs.Common.{◌≡◌, ◌++◌, ◌⊎◌, ◌<◌, ℕ, ℤ, pos, negsuc, inl, inr, length, Some, Ok, Err}
use Rattle.std.specs.Prelude.{◌-◌, OnOk, OnErr, Result, replicate}
use Rattle.quic_values.specs.declared.memory.OutOfMemory.{OutOfMemory}
use Rattle.quic_session.specs.declared.buffer.Buffer.{Buffer}
use Rattle.quic_streams_c.specs.Answers.{TellsDone, memory_code}
use Rattle.quic_streams_c.specs.Buffers.{Reserves}

-- whether there was memory is told
pub told-reserved : (answer : Result (Unit {0}) OutOfMemory) (b d : Buffer) (size : ℕ) (code : ℤ) → length b.bytes.items < size → OnOk answer (d.bytes.items ≡ b.bytes.items ++ replicate (size - length b.bytes.items) 0) → OnErr answer (d.bytes.items ≡ b.bytes.items)
    → TellsDone memory_code answer code → Reserves (Some b) size code (Some d)
told-reserved (Ok x) b d size code short ok err tells = inl (tells, ok)
told-reserved (Err error) b d size code short ok err tells = inr (tells, short, err)
