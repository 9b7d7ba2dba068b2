-- What calls did to the sending side of one stream, and what they tell of its half (RFC 9000 section 3.1).
use Rattle.std.specs.Prelude.{ℕ, zero, suc, Bool, true, false, not, ◌≡◌, ◌==◌, ◌<◌, ◌≤◌, ◌-◌, ◌^◌, ◌&&◌, ◌||◌, max, min, nat_le, if◌then◌else◌, List, [], ◌∷◌, ◌++◌, length, take, Option, Some, None, is_none, is_some, unwrap_or}
use Rattle.quic_ranges.specs.Runs.{is_in}
use Rattle.quic_sending.specs.declared.send.Send.{Send}
use Rattle.quic_sending.specs.declared.send.SendState.{SendState}
use Rattle.quic_sending.specs.declared.send.SendState.TheVariants.{Ready, DataSent, ResetSent}
use Rattle.quic_sending.specs.Buffer.{Buffered, HasCuts, cut_of, total_length, uncovered, is_sent, is_lost, is_acked}

-- what a call did to the sending side of one stream
pub data SendMove : Type 0 where
  -- a write took these pieces
  WasWritten : (pieces : List (List ℕ)) → SendMove
  -- it was ended
  WasFinished : SendMove
  -- it was given up with a code
  WasGivenUp : (code : ℕ) → SendMove
  -- the peer asked to send no more on it
  WasAskedToStop : (code : ℕ) → SendMove
  -- the peer gave a limit for it; there is no greater offset than 2^62 - 1
  WasPermitted : (limit : ℕ) → SendMove
  -- a frame with its offsets from one up to another was written, with its end or not
  WasCarried : (first behind : ℕ) → (fin : Bool) → SendMove
  -- such a frame was acknowledged
  WasAcked : (first behind : ℕ) → (fin : Bool) → SendMove
  -- such a frame was lost
  WasLost : (first behind : ℕ) → (fin : Bool) → SendMove
  -- that it was given up was acknowledged
  WasResetAcked : SendMove

-- what the calls tell of the sending side of one stream
pub record SendFlow : Type 0 where
  -- the pieces that were written
  pub cuts : List (List ℕ)
  -- the limit that the peer gave
  pub limit : ℕ
  -- whether it was ended
  pub finished : Bool
  -- the code with which it was given up
  pub reset : Option ℕ
  -- the first code with which the peer asked to send no more
  pub stopped : Option ℕ
  -- whether its half was freed
  pub freed : Bool
  -- whether an offset was in a frame that was written
  pub carried : ℕ → Bool
  -- the greatest offset up to which a frame was written
  pub sent_up_to : ℕ
  -- whether it was in a frame that was lost, and in none that was written later
  pub missing : ℕ → Bool
  -- whether it was in a frame that was acknowledged
  pub acked : ℕ → Bool
  -- whether its end is to be sent
  pub end_due : Bool
  -- whether its end was acknowledged
  pub end_acked : Bool

-- nothing was done yet on a stream with such a limit
abbrev pub new_flow : ℕ → SendFlow
new_flow limit = record {
  cuts = [];
  limit = limit;
  finished = false;
  reset = None;
  stopped = None;
  freed = false;
  carried = λ n. false;
  sent_up_to = 0;
  missing = λ n. false;
  acked = λ n. false;
  end_due = false;
  end_acked = false;
}

-- whether new data may come: neither ended nor given up
abbrev pub takes_data : Option ℕ → Bool → Bool
takes_data None finished = not finished
takes_data (Some code) finished = false

-- the limit is at least this one
abbrev pub with_least_limit : ℕ → SendFlow → SendFlow
with_least_limit limit t = record t { limit = max t.limit limit }

-- a frame was written
abbrev pub with_carried : ℕ → ℕ → Bool → SendFlow → SendFlow
with_carried first behind fin t = record t {
  carried = λ n. t.carried n || is_in (first, behind) n;
  sent_up_to = max t.sent_up_to behind;
  missing = λ n. t.missing n && not (is_in (first, behind) n);
  end_due = t.end_due && not fin;
}

-- it was acknowledged
abbrev pub with_acked : ℕ → ℕ → Bool → SendFlow → SendFlow
with_acked first behind fin t = record t { acked = λ n. t.acked n || is_in (first, behind) n; end_acked = t.end_acked || fin }

-- it was lost
abbrev pub with_lost : ℕ → ℕ → Bool → SendFlow → SendFlow
with_lost first behind fin t = record t { missing = λ n. t.missing n || is_in (first, behind) n; end_due = t.end_due || (fin && t.finished) }

-- whether what is told of a frame with offsets up to this one counts: all of them were sent, and the stream is not given up
abbrev pub counts_for : Option ℕ → ℕ → ℕ → Bool
counts_for reset sent behind = is_none reset && nat_le behind sent

-- how many offsets, n at most, pass a test before the first that does not
abbrev pub passing : (ℕ → Bool) → ℕ → ℕ
passing f zero = 0
passing f (suc n) = if (passing f n == n) && f n then suc n else passing f n

-- whether the end and every byte are acknowledged
abbrev pub is_whole : SendFlow → Bool
is_whole t = (t.finished && t.end_acked) && (passing t.acked (total_length t.cuts) == total_length t.cuts)

-- its half is freed by that
abbrev pub freed_if_whole : SendFlow → SendFlow
freed_if_whole t = record t { freed = t.freed || is_whole t }

-- what is told of a stream once this was done to it
abbrev pub with_send_move : SendMove → SendFlow → SendFlow
with_send_move (WasWritten pieces) t = record t { cuts = t.cuts ++ pieces }
with_send_move WasFinished t = record t { finished = true; end_due = true; end_acked = false }
with_send_move (WasGivenUp code) t = record t { reset = Some code; end_due = false }
with_send_move (WasAskedToStop code) t = record t { stopped = Some (unwrap_or t.stopped code) }
with_send_move (WasPermitted limit) t = if takes_data t.reset t.finished then with_least_limit (min limit (2 ^ 62 - 1)) t else t
with_send_move (WasCarried first behind fin) t = if is_none t.reset then with_carried first behind fin t else t
with_send_move (WasAcked first behind fin) t = if counts_for t.reset t.sent_up_to behind then freed_if_whole (with_acked first behind fin t) else t
with_send_move (WasLost first behind fin) t = if counts_for t.reset t.sent_up_to behind then with_lost first behind fin t else t
with_send_move WasResetAcked t = record t { freed = t.freed || is_some t.reset }

-- the first n bytes of some lists, as one piece for each list of which they have some
abbrev pub front_of : ℕ → List (List ℕ) → List (List ℕ)
front_of n [] = []
front_of n ([] ∷ ps) = front_of n ps
front_of n ((b ∷ bs) ∷ ps) = cut_of (take n (b ∷ bs)) ++ front_of (n - length (b ∷ bs)) ps

-- how many of the written bytes are retained: those of the pieces that the acknowledged beginning does not wholly cover,
-- and none of a stream that is given up, or freed
abbrev pub retained : SendFlow → ℕ
retained t = if is_some t.reset || t.freed then 0 else total_length (uncovered (passing t.acked (total_length t.cuts)) t.cuts)

-- the state of a half
abbrev pub state_told : Option ℕ → Bool → Bool → SendState
state_told None false end_acked = Ready
state_told None true end_acked = DataSent end_acked
state_told (Some code) finished end_acked = ResetSent

-- what was sent, is to be sent again, and is acknowledged
pub record OffsetsFrom (t : SendFlow) (v : Buffered) : Type 0 where
  pub sent : (n : ℕ) → is_sent v n ≡ t.carried n
  pub unsent : v.unsent ≡ t.sent_up_to
  pub lost : (n : ℕ) → is_lost v n ≡ (t.missing n && not (t.acked n))
  -- what is lost was sent
  pub lost_sent : (n : ℕ) → is_lost v n ≡ true → n < v.unsent
  pub acked : (n : ℕ) → is_acked v n ≡ t.acked n
  -- the first offset that is not
  pub first : is_acked v v.prefix ≡ false

-- a send half is as the calls tell of its stream
pub record FlowFrom (t : SendFlow) (s : Send) : Type 0 where
  pub there : t.freed ≡ false
  pub cuts : HasCuts t.cuts s.pending
  pub within : s.pending.prefix ≤ s.pending.offset
  pub limit : s.max_data ≡ t.limit
  pub state : s.state ≡ state_told t.reset t.finished t.end_acked
  pub stopped : s.stop_reason ≡ t.stopped
  pub end_due : s.fin_pending ≡ t.end_due
  -- until it is given up
  pub offsets : t.reset ≡ None → OffsetsFrom t s.pending
  -- then it holds nothing
  pub empty : is_some t.reset ≡ true → s.pending.held ≡ []

-- an open stream is as its half; one that is not held was freed. On one that is not open nothing was done
abbrev pub FlowAt : (first : ℕ) → SendFlow → Bool → Option Send → Type 0
FlowAt first t true (Some s) = FlowFrom t s
FlowAt first t true None = t.freed ≡ true
FlowAt first t false (Some s) = ⊥
FlowAt first t false None = t ≡ new_flow first
