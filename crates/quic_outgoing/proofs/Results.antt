-- What holds of an answer, and what follows from it.
use Rattle.std.proofs.Common.{◌≡◌, refl}
use Rattle.std.specs.Prelude.{Result, Ok, Err, OnErr, Option, Some, None, OnSome, IfNone}

pub on_err : {T E P : Type 0} (r : Result T E) → P → OnErr r P
on_err (Ok x) p = tt
on_err (Err e) p = p

pub on_some : {T P : Type 0} (r : Option T) → P → OnSome r P
on_some (Some x) p = p
on_some None p = tt

pub if_none : {T P : Type 0} (r : Option T) → (r ≡ None → P) → IfNone r P
if_none (Some x) p = tt
if_none None p = p refl
