-- Places that have a payload or none.
use Rattle.std.specs.Prelude.{ℕ, Option, Some, None}
use Rattle.quic_streams.specs.declared.settling.SentPayload.{SentPayload}

-- 1 for a place with a payload
abbrev pub held_at : Option SentPayload → ℕ
held_at (Some sent) = 1
held_at None = 0
