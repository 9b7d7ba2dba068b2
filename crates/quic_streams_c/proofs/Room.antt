-- What a call says of its success and of its failure.
use Rattle.std.proofs.Common.{◌≡◌, Bool, true, false, Result, Ok, Err, sym}
use Rattle.std.specs.Prelude.{OnOk, OnErr, is_err}
use Rattle.std.proofs.lemmas.Bool.{false≢true}

pub where-ok : {A E P : Type 0} (r : Result A E) → is_err r ≡ false → OnOk r P → P
where-ok (Ok _) no-error p = p
where-ok (Err _) no-error p = absurd (false≢true (sym no-error))

pub where-err : {A E P : Type 0} (r : Result A E) → is_err r ≡ true → OnErr r P → P
where-err (Ok _) error p = absurd (false≢true error)
where-err (Err _) error p = p
