-- What is known of one flow, and what calls leave of it.
use Rattle.std.proofs.Common.{◌≡◌, ℕ, Bool, true, false, eqb, List, [], ◌∷◌, Some, Ok, refl, sym, ap, ◌∙◌, subst, inl, inr, ◌<◌}
use Rattle.std.specs.Prelude.{◌++◌, if◌then◌else◌}
use Rattle.std.proofs.lemmas.List.{append-nil}
use Rattle.std.specs.declared.ops.Range.{Range}
use Rattle.quic_wire.specs.declared.frame.Frame.{Frame}
use Rattle.quic_sending.specs.Buffer.{total_length}
use Rattle.quic_receiving.specs.declared.transmit.ShouldTransmit.{ShouldTransmit}
use Rattle.quic_retransmits.specs.Pending.{Pending}
use Rattle.quic_history.specs.World.{World}
use Rattle.quic_history.specs.History.{Event, Received}
use Rattle.quic_history.proofs.Totals.{same}
use Rattle.quic_link.specs.Endpoints.{LinkedEnd, Linked, first_acts, MayAct, acted, written_by, IsOneOf, sent_on, came_on, written_on, WasStoppedWith, WasAccepted}
use Rattle.quic_link.specs.Promises.{CameWhole, WasReadUnordered}
use Rattle.quic_link.specs.Asked.{AreAsked}
use Rattle.quic_link.proofs.Ends.{plain-call}
use Rattle.quic_link.proofs.Growth.{Grows, grows, grows-refl}
use Rattle.quic_link.proofs.AskedFor.{asked-acted}
use Rattle.quic_link.proofs.Joint.{agrees}
use Rattle.quic_link.proofs.Basics.{ended_closed}
use Rattle.quic_steps.specs.declared.steps.End.{End}
use Rattle.quic_steps.specs.declared.steps.End.TheVariants.{A, B}
use Rattle.quic_exchange.specs.Sent.{Sent}
use Rattle.quic_exchange.specs.State.{peer}
use Rattle.quic_exchange.specs.History.{Past, Flow, with_flow, tells_reset, tells_stop, completes}
use Rattle.quic_exchange.specs.Headline.{SomeStream}
use Rattle.quic_exchange.proofs.Gives.{AreGiven}
use Rattle.quic_exchange.proofs.Joined.{Knows, IsLike}

-- ---- calls of x, by which it becomes z

-- they are linked, and what was so stays
pub record Onward (x y z : LinkedEnd) : Type 0 where
  pub linked : Linked z y
  pub made : z.made ≡ x.made
  pub wrote : (g : Frame) → IsOneOf g x.wrote → IsOneOf g z.wrote
  pub calls : (e : Event) → IsOneOf e x.calls → IsOneOf e z.calls
  pub grown : (q : ℕ) → Grows (sent_on x q) (sent_on z q)
  pub asked : (p : Pending) → AreAsked x p → AreAsked z p

pub onward-none : (x y : LinkedEnd) → Linked x y → Onward x y x
onward-none x y l = record { linked = l; made = refl; wrote = λ g h. h; calls = λ e h. h; grown = λ q. grows-refl (sent_on x q); asked = λ p k. k }

behind : {X : Type 0} (g : X) (xs ys : List X) → IsOneOf g ys → IsOneOf g (xs ++ ys)
behind g [] ys h = h
behind g (x ∷ xs) ys h = inr (behind g xs ys h)

pub onward-call : (x y : LinkedEnd) (e : Event) (v : World) → Linked x y → MayAct x y e v → Onward x y (acted x e v)
onward-call x y e v l a =
    let f = ((agrees l).0).comes in
    record {
      linked = first_acts e v l a;
      made = refl;
      wrote = λ g h. behind g (written_by x e) x.wrote h;
      calls = λ k h. inr h;
      grown = λ q. grows x.made x.calls x.world v f.from e (plain-call x y e a.honest) a.step q;
      asked = λ p k. asked-acted x y e v f a p k;
    }

module _ (x y z : LinkedEnd) (o : Onward x y z) where
  pub accepted-still : (id : ℕ) (offsets : Range ℕ) (fin : Bool) → WasAccepted x.calls id offsets fin → WasAccepted z.calls id offsets fin
  accepted-still id offsets fin k = record { bytes = k.bytes; transmit = k.transmit; is = o.calls _ k.is; behind = k.behind }

  -- all that x wrote on a stream came still
  pub whole-first : (q : ℕ) → CameWhole x y q → CameWhole z y q
  whole-first q t =
      let g = o.grown q in
      let done = g.closed (ended_closed (sent_on x q).reset (sent_on x q).finished t.finished) in
      let cuts : (sent_on z q).cuts ≡ (sent_on x q).cuts = g.cuts ∙ ap (λ k. (sent_on x q).cuts ++ k) done ∙ append-nil (sent_on x q).cuts in
      record { finished = g.finished t.finished; bytes = λ at l. t.bytes at (let P : List (List ℕ) → Type 0 = λ c. at < total_length c in subst P cuts l); end = t.end }

  -- and all that came to x
  pub whole-second : (q : ℕ) → CameWhole y x q → CameWhole y z q
  whole-second q t =
      let c = t.end in
      record {
        finished = t.finished;
        bytes = λ at l. let b = t.bytes at l in record { offset = b.offset; bytes = b.bytes; fin = b.fin; transmit = b.transmit; is = o.calls _ b.is; has = b.has };
        end = record { offset = c.offset; bytes = c.bytes; transmit = c.transmit; is = o.calls _ c.is };
      }

-- ---- one flow

-- what is known of a flow is what x sent on a stream, and what y received of it
pub record FlowKnown (f : Flow) (x y : LinkedEnd) (q : ℕ) : Type 0 where
  pub written : written_on x q ≡ f.written
  pub finished : (sent_on x q).finished ≡ f.finished
  pub resets : (code : ℕ) → (sent_on x q).reset ≡ Some code → IsOneOf code f.resets
  pub stops : (code : ℕ) → WasStoppedWith y.calls q code → IsOneOf code f.stops
  pub given : (came_on y q).given ≡ f.given
  pub ended : (came_on y q).ended ≡ f.ended
  pub unordered : WasReadUnordered y.calls q → f.unordered ≡ true
  pub told_resets : (code : ℕ) → IsOneOf code f.told_resets → (sent_on x q).reset ≡ Some code
  pub told_stops : (code : ℕ) → IsOneOf code f.told_stops → WasStoppedWith y.calls q code
  pub complete : f.complete ≡ true → CameWhole x y q

pub known-of : (p : Past) (sent : List Sent) (who : End) (x y : LinkedEnd) → Knows p sent who x y → (q : ℕ) → FlowKnown (p.flow who q) x y q
known-of p sent who x y k q = record {
  written = k.written q;
  finished = k.finished q;
  resets = k.resets q;
  stops = k.stops q;
  given = k.given q;
  ended = k.ended q;
  unordered = k.unordered q;
  told_resets = k.told_resets q;
  told_stops = k.told_stops q;
  complete = k.complete q;
}

-- each frame that was accepted was so in a payload
abbrev pub AcceptsSent : Past → List Sent → End → LinkedEnd → Type 0
AcceptsSent p sent who y = (q offset : ℕ) (bytes : List ℕ) (fin : Bool) (transmit : ShouldTransmit) → IsOneOf (Received q offset bytes fin (Ok transmit)) y.calls → SomeStream sent who q p.accepted (IsLike offset bytes fin)

pub knows-from : (p : Past) (sent : List Sent) (who : End) (x y : LinkedEnd) → AreGiven x (p.ids who) → ((q : ℕ) → FlowKnown (p.flow who q) x y q) → AcceptsSent p sent who y → Knows p sent who x y
knows-from p sent who x y g k a = record {
  ids = g;
  written = λ q. (k q).written;
  finished = λ q. (k q).finished;
  resets = λ q. (k q).resets;
  stops = λ q. (k q).stops;
  given = λ q. (k q).given;
  ended = λ q. (k q).ended;
  unordered = λ q. (k q).unordered;
  told_resets = λ q. (k q).told_resets;
  told_stops = λ q. (k q).told_stops;
  complete = λ q. (k q).complete;
  accepted = a;
}

-- nothing was sent on a stream
pub record SendsSame (x z : LinkedEnd) (q : ℕ) : Type 0 where
  pub written : written_on z q ≡ written_on x q
  pub finished : (sent_on z q).finished ≡ (sent_on x q).finished
  pub reset : (sent_on z q).reset ≡ (sent_on x q).reset

-- nothing was read of it, and it was not stopped
pub record ReadsSame (x z : LinkedEnd) (q : ℕ) : Type 0 where
  pub given : (came_on z q).given ≡ (came_on x q).given
  pub ended : (came_on z q).ended ≡ (came_on x q).ended
  pub stops : (code : ℕ) → WasStoppedWith z.calls q code → WasStoppedWith x.calls q code
  pub modes : WasReadUnordered z.calls q → WasReadUnordered x.calls q

module _ (x y z : LinkedEnd) (o : Onward x y z) (q : ℕ) (f : Flow) where
  pub known-first : SendsSame x z q → FlowKnown f x y q → FlowKnown f z y q
  known-first s k = record {
    written = s.written ∙ k.written;
    finished = s.finished ∙ k.finished;
    resets = λ code h. k.resets code (sym s.reset ∙ h);
    stops = k.stops;
    given = k.given;
    ended = k.ended;
    unordered = k.unordered;
    told_resets = λ code h. s.reset ∙ k.told_resets code h;
    told_stops = k.told_stops;
    complete = λ h. whole-first x y z o q (k.complete h);
  }

  pub known-second : ReadsSame x z q → FlowKnown f y x q → FlowKnown f y z q
  known-second s k = record {
    written = k.written;
    finished = k.finished;
    resets = k.resets;
    stops = λ code h. k.stops code (s.stops code h);
    given = s.given ∙ k.given;
    ended = s.ended ∙ k.ended;
    unordered = λ h. k.unordered (s.modes h);
    told_resets = k.told_resets;
    told_stops = λ code h. o.calls _ (k.told_stops code h);
    complete = λ h. whole-second x y z o q (k.complete h);
  }

-- ---- what is told besides

module _ (f : Flow) (x y : LinkedEnd) (q : ℕ) (k : FlowKnown f x y q) where
  pub known-reset : (code : ℕ) → (sent_on x q).reset ≡ Some code → FlowKnown (tells_reset code f) x y q
  known-reset code t = record {
    written = k.written;
    finished = k.finished;
    resets = k.resets;
    stops = k.stops;
    given = k.given;
    ended = k.ended;
    unordered = k.unordered;
    told_resets = λ c h. elim h [ inl e ↦ t ∙ ap (λ (d : ℕ). Some d) (sym e) | inr old ↦ k.told_resets c old ];
    told_stops = k.told_stops;
    complete = k.complete;
  }

  pub known-stop : (code : ℕ) → WasStoppedWith y.calls q code → FlowKnown (tells_stop code f) x y q
  known-stop code t = record {
    written = k.written;
    finished = k.finished;
    resets = k.resets;
    stops = k.stops;
    given = k.given;
    ended = k.ended;
    unordered = k.unordered;
    told_resets = k.told_resets;
    told_stops = λ c h. elim h [ inl e ↦ (let P : ℕ → Type 0 = λ d. WasStoppedWith y.calls q d in subst P (sym e) t) | inr old ↦ k.told_stops c old ];
    complete = k.complete;
  }

  pub known-complete : CameWhole x y q → FlowKnown (completes f) x y q
  known-complete t = record {
    written = k.written;
    finished = k.finished;
    resets = k.resets;
    stops = k.stops;
    given = k.given;
    ended = k.ended;
    unordered = k.unordered;
    told_resets = k.told_resets;
    told_stops = k.told_stops;
    complete = λ h. t;
  }

-- ---- the flow of one stream of many

chosen : (P : Flow → Type 0) (b : Bool) (f g : Flow) → (b ≡ true → P f) → (b ≡ false → P g) → P (if b then f else g)
chosen P true f g now other = now refl
chosen P false f g now other = other refl

-- what changed is that of one stream
pub flow-changed : (P : Flow → Type 0) (who : End) (id : ℕ) (change : Flow → Flow) (p : Past) (q : ℕ) → (q ≡ id → P (change (p.flow who q))) → (eqb q id ≡ false → P (p.flow who q)) → P ((with_flow who id change p).flow who q)
flow-changed P A id change p q now other = chosen P (eqb q id) (change (p.flow A q)) (p.flow A q) (λ e. now (same q id e)) other
flow-changed P B id change p q now other = chosen P (eqb q id) (change (p.flow B q)) (p.flow B q) (λ e. now (same q id e)) other

-- and not that of the other end
pub flow-kept : (P : Flow → Type 0) (who : End) (id : ℕ) (change : Flow → Flow) (p : Past) (q : ℕ) → P (p.flow (peer who) q) → P ((with_flow who id change p).flow (peer who) q)
flow-kept P A id change p q h = h
flow-kept P B id change p q h = h

pub flow-kept-own : (P : Flow → Type 0) (who : End) (id : ℕ) (change : Flow → Flow) (p : Past) (q : ℕ) → P (p.flow who q) → P ((with_flow (peer who) id change p).flow who q)
flow-kept-own P A id change p q h = h
flow-kept-own P B id change p q h = h
