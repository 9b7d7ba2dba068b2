-- Two ends, and what was sent between them.
use Rattle.std.specs.Prelude.{◌≡◌, List, [], Option, None}
use Rattle.quic_steps.specs.declared.steps.End.{End}
use Rattle.quic_steps.specs.declared.steps.End.TheVariants.{A, B}
use Rattle.quic_endpoint.specs.Ends.{EndState}
use Rattle.quic_exchange.specs.Sent.{Sent}
use Rattle.quic_exchange.specs.declared.early.EarlyLimits.{EarlyLimits}

-- a and b: the ends
-- sent: every payload that was sent, the first one first
-- waits: the limits of the server, as the client remembered them and as they are, while it is not decided whether the server takes
-- what the client sends before the handshake is done (RFC 9001 section 4.6)
pub record PairState : Type 0 where
  pub a : EndState
  pub b : EndState
  pub sent : List Sent
  pub waits : Option EarlyLimits

-- the other end
abbrev pub peer : End → End
peer A = B
peer B = A

-- one of the two
abbrev pub the_end : PairState → End → EndState
the_end p A = p.a
the_end p B = p.b

-- the pair with another end there
abbrev pub with_end : PairState → End → EndState → PairState
with_end p A e = record p { a = e }
with_end p B e = record p { b = e }

-- the pair with other payloads
abbrev pub with_sent : PairState → List Sent → PairState
with_sent p sent = record p { sent = sent }

-- two ends, between which nothing was sent
abbrev pub two_ends : EndState → EndState → PairState
two_ends a b = record { a = a; b = b; sent = []; waits = None }

-- something comes of one end, and nothing else changes
pub record OnEnd (P : EndState → EndState → Type 0) (old : PairState) (who : End) (new : PairState) : Type 0 where
  pub end : EndState
  pub does : P (the_end old who) end
  pub is : new ≡ with_end old who end
