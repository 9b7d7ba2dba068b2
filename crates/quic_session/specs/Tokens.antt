-- Payloads that were sent and not heard of, by token.
use Rattle.std.specs.Prelude.{ℕ, ◌≡◌, ◌==◌, ◌+◌, ◌-◌, ◌^◌, ◌<◌, ◌≤◌, min, cond, nat_lt, length, slice_index_or, List, Option, Some, None}
use Rattle.std.specs.VecDeque.{deque_len, deque_capacity}
use Rattle.std.specs.List.{sum_by}
use Rattle.quic_streams.specs.declared.settling.SentPayload.{SentPayload}
use Rattle.quic_session.specs.Places.{held_at}
use Rattle.quic_session.specs.declared.unsettled.Unsettled.{Unsettled}

-- places stand for tokens in turn, the first of them for a token
abbrev pub at_token : ℕ → List (Option SentPayload) → ℕ → Option SentPayload
at_token first places token = cond (nat_lt token first) None (slice_index_or places (token - first) None)

-- the payload of each token, if it is not settled
unfoldable pub unsettled : Unsettled → ℕ → Option SentPayload
unsettled u token = at_token u.first u.places.items token

-- another payload stands under a token, or none
unfoldable pub with_payload : (ℕ → Option SentPayload) → ℕ → Option SentPayload → ℕ → Option SentPayload
with_payload f token sent q = cond (token == q) sent (f q)

-- how many more can be kept without new memory
abbrev pub places : Unsettled → ℕ
places u = deque_capacity u.places - deque_len u.places

-- how many payloads are not settled
abbrev pub payload_count : Unsettled → ℕ
payload_count u = sum_by held_at u.places.items

-- a token has a place
abbrev pub HasPlaceFor : Unsettled → ℕ → Type 0
HasPlaceFor u token = (u.first ≤ token) × (token < u.first + length u.places.items)

-- the first place has no payload
abbrev pub IsEmptyFirst : List (Option SentPayload) → Type 0
IsEmptyFirst places = (0 < length places) × (slice_index_or places 0 None ≡ None)

-- the greatest token
abbrev pub LAST : ℕ
LAST = 2 ^ 64 - 1

-- each payload stands under a token below another
abbrev pub HaveTokensBelow : (ℕ → Option SentPayload) → ℕ → Type 0
HaveTokensBelow f next = (token : ℕ) → next ≤ token → f token ≡ None

-- a payload is kept under the next token. It is not 0, and it is a new one and greater than those before, unless it is the last
-- that there is
pub record KeepsNew (f : ℕ → Option SentPayload) (next : ℕ) (sent : SentPayload) (token : ℕ) (g : ℕ → Option SentPayload) (after : ℕ) : Type 0 where
  pub is_next : token ≡ next
  pub positive : 0 < token
  pub new : next < LAST → f token ≡ None
  pub below : next < LAST → HaveTokensBelow f next
  pub kept : g ≡ with_payload f token (Some sent)
  pub rises : after ≡ min (next + 1) LAST
