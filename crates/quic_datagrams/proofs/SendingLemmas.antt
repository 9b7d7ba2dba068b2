-- Lemmas on when a datagram may be sent.
use Rattle.std.proofs.Common.{◌≡◌, ℕ, ◌+◌, ◌≤◌, List, length, false, None, arith}
use Rattle.std.specs.Prelude.{Result, Ok, Err, OnOk}
use Rattle.std.proofs.lemmas.Bool.Decides.{nat_tests}
use Rattle.quic_wire.specs.declared.frame.Datagram.{Datagram}
use Rattle.quic_datagrams.specs.declared.datagrams.DatagramLimits.{DatagramLimits}
use Rattle.quic_datagrams.specs.Queue.{total_cost}
use Rattle.quic_datagrams.specs.Sending.{send_refusal, size_refusal, room_refusal}

pub OnOk-map : {T E P Q : Type 0} (r : Result T E) → (P → Q) → OnOk r P → OnOk r Q
OnOk-map (Ok x) f p = f p
OnOk-map (Err e) f p = tt

pub room_refusal-none : (window : ℕ) (queued : List Datagram) (content : List ℕ) → room_refusal window queued content false ≡ None → total_cost queued + (length content + 32) ≤ window
room_refusal-none window queued content h = grind (arith, nat_tests)

pub size_refusal-none : (max window : ℕ) (queued : List Datagram) (content : List ℕ) → size_refusal max window queued content false ≡ None → total_cost queued + (length content + 32) ≤ window
size_refusal-none max window queued content h = grind (arith, nat_tests)

-- what is permitted without a drop has room
pub send_refusal-none : (limits : DatagramLimits) (queued : List Datagram) (content : List ℕ) → send_refusal limits queued content false ≡ None → total_cost queued + (length content + 32) ≤ limits.send
send_refusal-none limits queued content h = grind (arith, nat_tests)

pub OnOk-both : {T E P Q R : Type 0} (r : Result T E) → (P → Q → R) → OnOk r P → OnOk r Q → OnOk r R
OnOk-both (Ok x) f p q = f p q
OnOk-both (Err e) f p q = tt
