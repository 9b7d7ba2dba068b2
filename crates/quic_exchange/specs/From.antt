-- The steps that may have led to a pair.
use Rattle.std.specs.Prelude.{◌≡◌, ◌<◌, ◌^◌, ◌≤◌, [], ◌∷◌, ◌++◌, Option, Some, None, unwrap_or}
use Rattle.quic_values.specs.declared.ids.Side.{Side}
use Rattle.quic_values.specs.declared.ids.Side.TheVariants.{Client, Server}
use Rattle.quic_outgoing.specs.declared.limits.PeerLimits.{PeerLimits}
use Rattle.quic_outgoing.specs.Outgoing.{with_params}
use Rattle.quic_retransmits.specs.Pending.{nothing}
use Rattle.quic_history.specs.World.{Made, made_with, start}
use Rattle.quic_history.specs.Sends.{with_out}
use Rattle.quic_link.specs.Endpoints.{limits_of}
use Rattle.quic_endpoint.specs.Ends.{EndState}
use Rattle.quic_steps.specs.declared.steps.Config.{Config}
use Rattle.quic_steps.specs.declared.steps.Step.{Step}
use Rattle.quic_exchange.specs.declared.early.EarlyLimits.{EarlyLimits}
use Rattle.quic_exchange.specs.Replies.{Answer}
use Rattle.quic_exchange.specs.State.{PairState}
use Rattle.quic_exchange.specs.Steps.{Next}
use Rattle.quic_exchange.specs.History.{History}

-- what an end is made with
abbrev pub made_of : Side → Config → Made
made_of side c = made_with side c.max_remote_uni c.max_remote_bi c.send_window c.receive_window c.stream_receive_window

-- an end that was given limits, and did nothing yet
abbrev pub end_begun : Made → PeerLimits → EndState
end_begun own limits = record { streams = with_out (start own) (with_params (start own).out limits); pending = nothing }

-- what a pair is made with
-- a, b: what each end permits and keeps
-- early: the limits of the server that the client remembers, where it sends before the handshake is done (RFC 9000 section 7.4.1)
pub record Beginning : Type 0 where
  pub a : Config
  pub b : Config
  pub early : Option PeerLimits

-- where it does not
abbrev pub at_once : Config → Config → Beginning
at_once a b = record { a = a; b = b; early = None }

-- the limits of each end
abbrev pub limits_of_a : Beginning → PeerLimits
limits_of_a s = limits_of (made_of Client s.a)

abbrev pub limits_of_b : Beginning → PeerLimits
limits_of_b s = limits_of (made_of Server s.b)

-- those that the client is given first: what it remembers, or those of the server
abbrev pub limits_first : Beginning → PeerLimits
limits_first s = unwrap_or s.early (limits_of_b s)

-- what is to be decided
abbrev pub waits_of : PeerLimits → Option PeerLimits → Option EarlyLimits
waits_of others None = None
waits_of others (Some remembered) = Some (record { remembered = remembered; others = others })

abbrev pub waits_first : Beginning → Option EarlyLimits
waits_first s = waits_of (limits_of_b s) s.early

-- limits that may be remembered: no count is above 2^60 (section 4.6)
pub record AreSoundLimits (l : PeerLimits) : Type 0 where
  pub few_bi : l.initial_max_streams_bidi ≤ 2 ^ 60
  pub few_uni : l.initial_max_streams_uni ≤ 2 ^ 60
  pub of_connection : l.initial_max_data < 2 ^ 62
  pub of_uni : l.initial_max_stream_data_uni < 2 ^ 62
  pub of_bidi_local : l.initial_max_stream_data_bidi_local < 2 ^ 62
  pub of_bidi_remote : l.initial_max_stream_data_bidi_remote < 2 ^ 62

-- a pair that was just made
pub record IsNew (s : Beginning) (v : PairState) : Type 0 where
  pub is : v ≡ record { a = end_begun (made_of Client s.a) (limits_first s); b = end_begun (made_of Server s.b) (limits_of_a s); sent = []; waits = waits_first s }
  pub few_uni : (s.a.max_remote_uni ≤ 2 ^ 60) × (s.b.max_remote_uni ≤ 2 ^ 60)
  pub few_bi : (s.a.max_remote_bi ≤ 2 ^ 60) × (s.b.max_remote_bi ≤ 2 ^ 60)
  pub small : (s.a.receive_window < 2 ^ 62) × (s.b.receive_window < 2 ^ 62)
  pub small_of_stream : (s.a.stream_receive_window < 2 ^ 62) × (s.b.stream_receive_window < 2 ^ 62)
  pub remembered : (l : PeerLimits) → s.early ≡ Some l → AreSoundLimits l

-- these steps with their replies may have led from a pair that was made so to such a one
pub data PairFrom (s : Beginning) : History → PairState → Type 0 where
  begun : {v : PairState} → IsNew s v → PairFrom s [] v
  next : {h : History} {old new : PairState} (step : Step) (reply : Answer) → PairFrom s h old → Next old step reply new → PairFrom s (h ++ (step, reply) ∷ []) new
