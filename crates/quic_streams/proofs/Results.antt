-- What holds of an answer, and what follows from it.
use Rattle.std.specs.Prelude.{ℕ, Result, Ok, Err, IfOk, IfErr}
use Rattle.quic_sending.specs.declared.send.Written.{Written}
use Rattle.quic_sending.specs.declared.send.WriteError.{WriteError}
use Rattle.quic_streams.specs.Writing.{IsWrittenAs}

pub map_ok : {T E : Type 0} (P Q : T → Type 0) (r : Result T E) → ((x : T) → P x → Q x) → IfOk r P → IfOk r Q
map_ok P Q (Ok x) f h = f x h
map_ok P Q (Err e) f h = tt

pub map_err : {T E : Type 0} (P Q : E → Type 0) (r : Result T E) → ((e : E) → P e → Q e) → IfErr r P → IfErr r Q
map_err P Q (Ok x) f h = tt
map_err P Q (Err e) f h = f e h

pub written-as : (r : Result ℕ WriteError) (P Q : Result Written WriteError → Type 0) → ((w : Result Written WriteError) → P w → Q w) → IsWrittenAs r P → IsWrittenAs r Q
written-as (Ok n) P Q f h = (h.0, h.1, f (Ok h.0) h.2)
written-as (Err e) P Q f h = f (Err e) h
