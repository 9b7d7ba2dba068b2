-- Two ends that were just made are linked ends, each with the limits that it was given.
use Rattle.std.proofs.Common.{◌≡◌, ◌<◌, ◌^◌, ℕ, List, [], Some, None, Ok, refl, sym, ap, ◌∙◌, subst, inl, inr}
use Rattle.std.specs.Prelude.{slice_get}
use Rattle.std.proofs.lemmas.Option.{none-some}
use Rattle.quic_values.specs.Ids.{other_side}
use Rattle.quic_wire.specs.Frames.{AreFrames}
use Rattle.quic_outgoing.specs.declared.limits.PeerLimits.{PeerLimits}
use Rattle.quic_outgoing.specs.Outgoing.{with_params}
use Rattle.quic_retransmits.specs.Pending.{nothing}
use Rattle.quic_history.specs.World.{Made, start}
use Rattle.quic_history.specs.Sends.{with_out}
use Rattle.quic_history.specs.SendEvents.{GaveLimits}
use Rattle.quic_history.specs.History.{Sending, IsStart}
use Rattle.quic_link.specs.Endpoints.{LinkedEnd, Linked, LimitsWithin, begun, first_acts, second_acts, acted, limits_of}
use Rattle.quic_link.proofs.AskedFor.{asked-nothing}
use Rattle.quic_endpoint.specs.Ends.{EndState}
use Rattle.quic_steps.specs.declared.steps.End.{End}
use Rattle.quic_steps.specs.declared.steps.End.TheVariants.{A, B}
use Rattle.quic_exchange.specs.Sent.{Sent}
use Rattle.quic_exchange.specs.Payloads.{SentText}
use Rattle.quic_exchange.specs.State.{PairState}
use Rattle.quic_exchange.specs.History.{nothing_yet}
use Rattle.quic_exchange.specs.Unrefused.{none}
use Rattle.quic_exchange.proofs.KeptFrames.{KeptSent}
use Rattle.quic_exchange.proofs.Joined.{Knows, Stands, IsPayloadOf, ArePayloadsOf, Seen}
use Rattle.quic_history.proofs.Unopened.{given-unopened}

-- an end that was made, and was told what its peer permits
abbrev pub made_alone : Made → LinkedEnd
made_alone m = record { made = m; calls = []; world = start m; wrote = [] }

abbrev pub made_beside : Made → PeerLimits → LinkedEnd
made_beside m limits = acted (made_alone m) (Sending (GaveLimits limits (Ok tt))) (with_out (start m) (with_params (start m).out limits))

-- its value, as a pair has it
abbrev pub end_given : Made → PeerLimits → EndState
end_given m limits = record { streams = with_out (start m) (with_params (start m).out limits); pending = nothing }

-- two ends that may be made, and what each is given of what the other permits
pub record AreTwoEnds (m n : Made) (given others : PeerLimits) : Type 0 where
  pub first : IsStart m (start m)
  pub second : IsStart n (start n)
  pub small_first : m.window < 2 ^ 62
  pub small_second : n.window < 2 ^ 62
  pub sides : n.side ≡ other_side m.side
  pub within : LimitsWithin given (limits_of n)
  pub others_within : LimitsWithin others (limits_of m)

pub linked-begun : (m n : Made) (given others : PeerLimits) → AreTwoEnds m n given others → Linked (made_beside m given) (made_beside n others)
linked-begun m n given others t =
    let both : Linked (made_alone m) (made_alone n) = begun (record { start = t.first; calls = refl; wrote = refl; small = t.small_first }) (record { start = t.second; calls = refl; wrote = refl; small = t.small_second }) t.sides in
    let one : Linked (made_beside m given) (made_alone n) = first_acts (Sending (GaveLimits given (Ok tt))) _ both (record { fits = tt; honest = t.within; step = sym (given-unopened (start m) given refl refl) }) in
    second_acts (Sending (GaveLimits others (Ok tt))) _ one (record { fits = tt; honest = t.others_within; step = sym (given-unopened (start n) others refl refl) })

pub knows-nothing : (sent : List Sent) (who : End) (m n : Made) (given others : PeerLimits) → Knows nothing_yet sent who (made_beside m given) (made_beside n others)
knows-nothing sent who m n given others = record {
  ids = λ id. (
    λ g. elim g [
      | inl o ↦ elim o.2 [ inl e ↦ cc | inr e ↦ absurd e ]
      | inr o ↦ elim o.1 [ inl e ↦ cc | inr e ↦ absurd e ]
    ],
    λ h. absurd h,
  );
  written = λ q. refl;
  finished = λ q. refl;
  resets = λ q code h. cc;
  stops = λ q code h. elim h [ inl e ↦ cc | inr e ↦ absurd e ];
  given = λ q. refl;
  ended = λ q. refl;
  unordered = λ q h. elim h [ inl e ↦ cc | inr e ↦ absurd e ];
  told_resets = λ q code h. absurd h;
  told_stops = λ q code h. absurd h;
  complete = λ q h. cc;
  accepted = λ q offset bytes fin transmit h. elim h [ inl e ↦ cc | inr e ↦ absurd e ];
}

pub kept-nothing : (sent : List Sent) (who : End) (n : Made) (others : PeerLimits) → KeptSent nothing_yet sent who (made_beside n others)
kept-nothing sent who n others = record { streams = λ q. none; resets = λ q code final transmit h. elim h [ inl e ↦ cc | inr e ↦ absurd e ]; stops = λ q code h. elim h [ inl e ↦ cc | inr e ↦ absurd e ] }

pub stands-begun : (m : Made) (limits : PeerLimits) → Stands (made_beside m limits) (end_given m limits)
stands-begun m limits = record { world = refl; pending = asked-nothing (made_beside m limits) }

stands_at : (x : LinkedEnd) (e f : EndState) → e ≡ f → Stands x f → Stands x e
stands_at x e f k s = let P : EndState → Type 0 = λ j. Stands x j in subst P (sym k) s

-- nothing is kept of a payload: it has no frames, and nothing of it is unreported
pub record IsBlank (s : Sent) : Type 0 where
  pub text : s.text ≡ record { bytes = []; accepted = [] }
  pub rest : s.unsettled.rest ≡ None

abbrev pub AreBlank : List Sent → Type 0
AreBlank sent = (number : ℕ) (s : Sent) → slice_get sent number ≡ Some s → IsBlank s

-- so whichever end wrote it, it wrote all of it
blank_payload : (x y : LinkedEnd) (s : Sent) → IsBlank s → IsPayloadOf x y s
blank_payload x y s b =
    let P : List ℕ → Type 0 = λ l. AreFrames l [] in
    record {
      all = [];
      spelled = subst P (sym (ap (λ (t : SentText). t.bytes) b.text)) refl;
      wrote = λ g h. absurd h;
      control = λ r h. absurd (none-some r (sym b.rest ∙ h));
      accepted = λ index stream h m. absurd (none-some _ h);
    }

pub blank-payloads : (sent : List Sent) → AreBlank sent → (who : End) (x y : LinkedEnd) → ArePayloadsOf sent who x y
blank-payloads sent b who x y number s got mine = blank_payload x y s (b number s got)

-- they are seen as two linked ends, beside payloads of which nothing is kept
pub seen-begun : (m n : Made) (given others : PeerLimits) (v : PairState) → v.a ≡ end_given m given → v.b ≡ end_given n others → AreTwoEnds m n given others → AreBlank v.sent
    → Seen nothing_yet A v (made_beside m given) (made_beside n others)
seen-begun m n given others v a_is b_is t blank = record {
  linked = linked-begun m n given others t;
  here = stands_at (made_beside m given) v.a (end_given m given) a_is (stands-begun m given);
  there = stands_at (made_beside n others) v.b (end_given n others) b_is (stands-begun n others);
  own = blank-payloads v.sent blank A (made_beside m given) (made_beside n others);
  others = blank-payloads v.sent blank B (made_beside n others) (made_beside m given);
  sends = knows-nothing v.sent A m n given others;
  receives = knows-nothing v.sent B n m others given;
  kept_there = kept-nothing v.sent A n others;
  kept_here = kept-nothing v.sent B m given;
}
