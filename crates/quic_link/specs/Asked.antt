-- Pending control frames were asked for.
use Rattle.std.specs.Prelude.{ℕ, true, ◌≡◌, Some}
use Rattle.quic_wire.specs.declared.frame.StopSending.{StopSending}
use Rattle.quic_retransmits.specs.Pending.{Pending}
use Rattle.quic_link.specs.Endpoints.{LinkedEnd, IsOneOf, sent_on, WasStoppedWith, WasGiven}

-- each reset and each stop that is pending was asked for with its code, and each limit of a stream is of one that the
-- application was given
pub record AreAsked (x : LinkedEnd) (p : Pending) : Type 0 where
  pub resets : (id code : ℕ) → IsOneOf (id, code) p.reset_stream → ((sent_on x id).reset ≡ Some code) × WasGiven x.world id
  pub stops : (f : StopSending) → IsOneOf f p.stop_sending → WasStoppedWith x.calls f.id f.error_code × WasGiven x.world f.id
  pub windows : (id : ℕ) → p.max_stream_data id ≡ true → WasGiven x.world id
