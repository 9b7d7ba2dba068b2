-- What a case is given.
use Rattle.std.specs.Prelude.{ℕ, ◌<◌, ◌≤◌, ◌^◌}

-- there is enough content, and no offset is too great
pub record CanRun (size source : ℕ) : Type 0 where
  pub content : 1114112 ≤ source
  pub offsets : size < 2 ^ 60
