-- What an end is told of limits only grows.
use Rattle.std.proofs.Common.{◌≡◌, ℕ, Bool, true, false, List, [], ◌∷◌, length, Option, Some, None, Ok, Err, refl, sym, ◌∙◌, subst, inl, inr, arith, ◌≤◌, ◌+◌, ◌-◌, ◌^◌}
use Rattle.std.specs.Prelude.{◌==◌, min, take, drop, is_none, if◌then◌else◌}
use Rattle.quic_values.specs.declared.ids.Side.{Side}
use Rattle.quic_values.specs.declared.ids.Dir.{Dir}
use Rattle.quic_values.specs.declared.ids.Dir.TheVariants.{Bi, Uni}
use Rattle.quic_sending.specs.Source.{slice_lists}
use Rattle.quic_wire.specs.declared.frame.Frame.{Frame}
use Rattle.quic_wire.specs.declared.frame.Frame.TheVariants as frames
use Rattle.quic_flows.specs.Flow.{SendFlow, SendMove, WasWritten, WasFinished, WasGivenUp, WasAskedToStop, WasPermitted, WasCarried, WasAcked, WasLost, WasResetAcked, with_send_move, with_carried, with_acked, with_lost, with_least_limit, takes_data, counts_for, freed_if_whole, front_of}
use Rattle.quic_outgoing.specs.declared.limits.PeerLimits.{PeerLimits}
use Rattle.quic_outgoing.specs.Senders.{is_local}
use Rattle.quic_history.specs.Early.{with_unsent}
use Rattle.quic_history.proofs.Traces.{itself}
use Rattle.quic_steps.specs.declared.steps.End.{End}
use Rattle.quic_steps.specs.declared.steps.End.TheVariants.{A, B}
use Rattle.quic_steps.specs.declared.steps.Step.{Step}
use Rattle.quic_steps.specs.declared.steps.Step.TheVariants as steps
use Rattle.quic_steps.specs.declared.steps.Reply.TheVariants.{Done, DoneTransmit, Id, Wrote, WroteChunks, Payload}
use Rattle.quic_steps.specs.declared.steps.PairError.TheVariants.{OutOfMemory as NoMemory}
use Rattle.quic_exchange.specs.Sent.{Sent}
use Rattle.quic_exchange.specs.Replies.{Answer}
use Rattle.quic_exchange.specs.State.{peer}
use Rattle.quic_exchange.specs.Tale.{Tale, Tales, StepTells, SendsOne, HearsOne, TellsParts, Part, Carried, GivenUp, parts_in, with_parts, acked_part, lost_part, with_frames_sent, with_frame_heard, with_one_opened, with_bytes_taken, with_deed, with_window_of, with_limits_given, with_unsent_told, told_of}
use Rattle.quic_progress.proofs.Permissions.{Permission, AllData, DataOn, StreamsOf, frame_of}

-- what an end is told of a permission; on a stream that takes no more data nothing is told
abbrev pub IsTold : Permission → ℕ → Tale → Type 0
IsTold AllData n t = n ≤ t.limit
IsTold (DataOn id) n t = takes_data (t.flow id).reset (t.flow id).finished ≡ true → n ≤ (t.flow id).limit
IsTold (StreamsOf d) n t = n ≤ t.count d

-- the limit of a flow that takes more data grows
pub record FlowGrows (f g : SendFlow) : Type 0 where
  pub takes : takes_data g.reset g.finished ≡ true → takes_data f.reset f.finished ≡ true
  pub limit : f.limit ≤ g.limit

pub record TaleGrows (t u : Tale) : Type 0 where
  pub limit : t.limit ≤ u.limit
  pub count : (d : Dir) → t.count d ≤ u.count d
  pub flow : (q : ℕ) → FlowGrows (t.flow q) (u.flow q)

-- so of both ends
abbrev pub AllGrow : Tales → Tales → Type 0
AllGrow t u = (end : End) → TaleGrows (t.of end) (u.of end)

pub told-less : (k : Permission) (m n : ℕ) (t : Tale) → m ≤ n → IsTold k n t → IsTold k m t
told-less AllData m n t l i = omega (arith, l, i)
told-less (DataOn id) m n t l i = λ e. let j = i e in omega (arith, l, j)
told-less (StreamsOf d) m n t l i = omega (arith, l, i)

pub told-grown : (k : Permission) (n : ℕ) (t u : Tale) → TaleGrows t u → IsTold k n t → IsTold k n u
told-grown AllData n t u g i = let l = g.limit in omega (arith, i, l)
told-grown (DataOn id) n t u g i = λ e. let f = g.flow id in let j = i (f.takes e) in let l = f.limit in omega (arith, j, l)
told-grown (StreamsOf d) n t u g i = let l = g.count d in omega (arith, i, l)

-- ---- flows

same_flow : (f : SendFlow) → FlowGrows f f
same_flow f = record { takes = λ e. e; limit = omega arith }

flow_as : (f g : SendFlow) → g.reset ≡ f.reset → g.finished ≡ f.finished → g.limit ≡ f.limit → FlowGrows f g
flow_as f g reset finished limit = record { takes = λ e. rw (← reset, ← finished) e; limit = omega (arith, limit) }

flow_if : (b : Bool) (f g h : SendFlow) → FlowGrows f g → FlowGrows f h → FlowGrows f (if b then g else h)
flow_if true f g h a c = a
flow_if false f g h a c = c

no_more : (o : Option ℕ) (X : Type 0) → takes_data o true ≡ true → X
no_more None X e = cc
no_more (Some code) X e = cc

flow_least : (f : SendFlow) (limit : ℕ) → FlowGrows f (with_least_limit limit f)
flow_least f limit = record { takes = λ e. e; limit = omega arith }

flow_move : (m : SendMove) (f : SendFlow) → FlowGrows f (with_send_move m f)
flow_move (WasWritten pieces) f = flow_as f _ refl refl refl
flow_move WasFinished f = record { takes = λ e. no_more f.reset _ e; limit = omega arith }
flow_move (WasGivenUp code) f = record { takes = λ e. cc; limit = omega arith }
flow_move (WasAskedToStop code) f = flow_as f _ refl refl refl
flow_move (WasPermitted limit) f = flow_if (takes_data f.reset f.finished) f (with_least_limit (min limit (2 ^ 62 - 1)) f) f (flow_least f _) (same_flow f)
flow_move (WasCarried first behind fin) f = flow_if (is_none f.reset) f (with_carried first behind fin f) f (flow_as f _ refl refl refl) (same_flow f)
flow_move (WasAcked first behind fin) f = flow_if (counts_for f.reset f.sent_up_to behind) f (freed_if_whole (with_acked first behind fin f)) f (flow_as f _ refl refl refl) (same_flow f)
flow_move (WasLost first behind fin) f = flow_if (counts_for f.reset f.sent_up_to behind) f (with_lost first behind fin f) f (flow_as f _ refl refl refl) (same_flow f)
flow_move WasResetAcked f = flow_as f _ refl refl refl

-- ---- tales

pub grows-same : (t : Tale) → TaleGrows t t
grows-same t = record { limit = omega arith; count = λ d. omega arith; flow = λ q. same_flow (t.flow q) }

pub grows-then : (t u v : Tale) → TaleGrows t u → TaleGrows u v → TaleGrows t v
grows-then t u v a b = record {
  limit = let x = a.limit in let y = b.limit in omega (arith, x, y);
  count = λ d. let x = a.count d in let y = b.count d in omega (arith, x, y);
  flow = λ q. let x = a.flow q in let y = b.flow q in record { takes = λ e. x.takes (y.takes e); limit = let m = x.limit in let n = y.limit in omega (arith, m, n) };
}

pub grows-deed : (id : ℕ) (m : SendMove) (t : Tale) → TaleGrows t (with_deed id m t)
grows-deed id m t = record { limit = omega arith; count = λ d. omega arith; flow = λ q. flow_if (q == id) (t.flow q) (with_send_move m (t.flow q)) (t.flow q) (flow_move m (t.flow q)) (same_flow (t.flow q)) }

grows_taken : (id count : ℕ) (lists : List (List ℕ)) (t : Tale) → TaleGrows t (with_bytes_taken id count lists t)
grows_taken id count lists t = let g = grows-deed id (WasWritten (front_of count lists)) t in record { limit = g.limit; count = g.count; flow = g.flow }

grows_opened : (dir : Dir) (t : Tale) → TaleGrows t (with_one_opened dir t)
grows_opened dir t = record { limit = omega arith; count = λ d. omega arith; flow = λ q. same_flow (t.flow q) }

grows_window : (window : ℕ) (t : Tale) → TaleGrows t (with_window_of window t)
grows_window window t = record { limit = omega arith; count = λ d. omega arith; flow = λ q. same_flow (t.flow q) }

pub grows-heard : (f : Frame) (t : Tale) → TaleGrows t (with_frame_heard f t)
grows-heard (frames.MaxData limit) t = record { limit = omega arith; count = λ d. omega arith; flow = λ q. same_flow (t.flow q) }
grows-heard (frames.MaxStreams dir count) t = record { limit = omega arith; count = λ d. omega arith; flow = λ q. same_flow (t.flow q) }
grows-heard (frames.MaxStreamData id limit) t = grows-deed id (WasPermitted limit) t
grows-heard (frames.StopSending f) t = grows-deed f.id (WasAskedToStop f.error_code) t
grows-heard _ t = grows-same t

grows_frames : (fs : List Frame) (t : Tale) → TaleGrows t (with_frames_sent fs t)
grows_frames [] t = grows-same t
grows_frames (frames.Stream s ∷ fs) t =
    let u = with_deed s.id (WasCarried s.offset (s.offset + length s.bytes) s.fin) t in
    grows-then t u (with_frames_sent fs u) (grows-deed s.id (WasCarried s.offset (s.offset + length s.bytes) s.fin) t) (grows_frames fs u)
grows_frames (_ ∷ fs) t = grows_frames fs t

grows_acked : (x : Part) (t : Tale) → TaleGrows t (acked_part x t)
grows_acked (Carried m) t = grows-deed m.id (WasAcked m.offsets.start m.offsets.end m.fin) t
grows_acked (GivenUp id) t = grows-deed id WasResetAcked t

grows_lost : (x : Part) (t : Tale) → TaleGrows t (lost_part x t)
grows_lost (Carried m) t = grows-deed m.id (WasLost m.offsets.start m.offsets.end m.fin) t
grows_lost (GivenUp id) t = grows-same t

grows_parts : (deed : Part → Tale → Tale) → ((x : Part) (t : Tale) → TaleGrows t (deed x t)) → (xs : List Part) (t : Tale) → TaleGrows t (with_parts deed xs t)
grows_parts deed g [] t = grows-same t
grows_parts deed g (x ∷ xs) t = grows-then t (deed x t) (with_parts deed xs (deed x t)) (g x t) (grows_parts deed g xs (deed x t))

pub grows-given : (side : Side) (limits : PeerLimits) (t : Tale) → TaleGrows t (with_limits_given side limits t)
grows-given side limits t = record { limit = omega arith; count = λ d. omega arith; flow = λ q. flow_least (t.flow q) _ }

flow_unsent : (f : SendFlow) → FlowGrows f (with_unsent f)
flow_unsent f = flow_if (is_none f.reset) f _ f (flow_as f _ refl refl refl) (same_flow f)

pub grows-unsent : (side : Side) (t : Tale) → TaleGrows t (with_unsent_told side t)
grows-unsent side t = record { limit = omega arith; count = λ d. omega arith; flow = λ q. flow_if (is_local side q) (t.flow q) (with_unsent (t.flow q)) (t.flow q) (flow_unsent (t.flow q)) (same_flow (t.flow q)) }

-- ---- both

all_same : (t : Tales) → AllGrow t t
all_same t end = grows-same (t.of end)

all_at : (t u v : Tales) → v ≡ u → AllGrow t u → AllGrow t v
all_at t u v e g = let P : Tales → Type 0 = λ x. AllGrow t x in subst P (sym e) g

pub all-of : (who : End) (change : Tale → Tale) (t : Tales) → ((x : Tale) → TaleGrows x (change x)) → AllGrow t (told_of who change t)
all-of A change t g A = g (t.of A)
all-of A change t g B = grows-same (t.of B)
all-of B change t g A = grows-same (t.of A)
all-of B change t g B = g (t.of B)

all_as : (who : End) (change : Tale → Tale) (t u : Tales) → u ≡ told_of who change t → ((x : Tale) → TaleGrows x (change x)) → AllGrow t u
all_as who change t u e g = all_at t (told_of who change t) u e (all-of who change t g)

all_heard : (sent : List Sent) (at : ℕ × ℕ) (t u : Tales) → HearsOne sent at t u → AllGrow t u
all_heard sent at t u h = all_as (peer h.who) (with_frame_heard h.frame) t u h.is (grows-heard h.frame)

all_sent : (sent : List Sent) (who : End) (t u : Tales) → SendsOne sent who t u → AllGrow t u
all_sent sent who t u s end =
    let P : Tales → Type 0 = λ x. TaleGrows (t.of end) (x.of end) in
    subst P (sym s.is) (all-of who (with_frames_sent s.all) t (grows_frames s.all) end)

all_parts : (new : List Sent) (number : ℕ) (deed : Part → Tale → Tale) → ((x : Part) (t : Tale) → TaleGrows t (deed x t)) → (t u : Tales) → TellsParts new number deed t u → AllGrow t u
all_parts new number deed g t u p end =
    let P : Tales → Type 0 = λ x. TaleGrows (t.of end) (x.of end) in
    let xs = take p.count (drop (t.told number) (parts_in p.all)) in
    subst P (sym p.is) (all-of p.who (with_parts deed xs) t (grows_parts deed g xs) end)

pub all-grow : (old new : List Sent) (step : Step) (reply : Answer) (t u : Tales) → StepTells old new step reply t u → AllGrow t u
all-grow old new (steps.Open who dir) (Ok (Id id)) t u e = all_as who (with_one_opened dir) t u e (grows_opened dir)
all-grow old new (steps.Write who id bytes) (Ok (Wrote count)) t u e = all_as who (with_bytes_taken id count (slice_lists bytes)) t u e (grows_taken id count (slice_lists bytes))
all-grow old new (steps.WriteChunks who id chunks) (Ok (WroteChunks written)) t u e = all_as who (with_bytes_taken id written.bytes chunks) t u e (grows_taken id written.bytes chunks)
all-grow old new (steps.Finish who id) (Ok Done) t u e = all_as who (with_deed id WasFinished) t u e (grows-deed id WasFinished)
all-grow old new (steps.Reset who id code) (Ok Done) t u e = all_as who (with_deed id (WasGivenUp code)) t u e (grows-deed id (WasGivenUp code))
all-grow old new (steps.SetSendWindow who window) (Ok Done) t u e = all_as who (with_window_of window) t u e (grows_window window)
all-grow old new (steps.Emit who most fair) (Ok (Payload number bytes)) t u e = all_sent new who t u e.0
all-grow old new (steps.Emit who most fair) (Err error) t u e = elim e [ inl none ↦ all_at t t u none.1 (all_same t) | inr one ↦ all_sent new who t u one.1 ]
all-grow old new (steps.EmitPart who most fair part) (Ok (Payload number bytes)) t u e = all_sent new who t u e.0
all-grow old new (steps.EmitPart who most fair part) (Err error) t u e = elim e [ inl none ↦ all_at t t u none.1 (all_same t) | inr one ↦ all_sent new who t u one.1 ]
all-grow old new (steps.Deliver number index) (Ok Done) t u e = all_heard old (number, index) t u e
all-grow old new (steps.Deliver number index) (Ok DoneTransmit) t u e = all_heard old (number, index) t u e
all-grow old new (steps.Lose number) (Ok Done) t u e = all_parts new number lost_part grows_lost t u e.some
all-grow old new (steps.Lose number) (Err NoMemory) t u e = all_parts new number lost_part grows_lost t u e
all-grow old new (steps.Ack number) (Ok Done) t u e = all_parts new number acked_part grows_acked t u e.some
all-grow old new (steps.Ack number) (Err NoMemory) t u e = all_parts new number acked_part grows_acked t u e
all-grow old new _ _ t u e = all_at t t u e (all_same t)

-- ---- a frame that was heard is told

-- as far as it counts: there is no greater offset than 2^62 - 1
abbrev pub heard_of : Permission → ℕ → ℕ
heard_of AllData n = n
heard_of (DataOn id) n = min n (2 ^ 62 - 1)
heard_of (StreamsOf d) n = n

pub heard-told : (k : Permission) (n : ℕ) (t : Tale) → IsTold k (heard_of k n) (with_frame_heard (frame_of k n) t)
heard-told AllData n t = omega arith
heard-told (DataOn id) n t = by (id == id) (itself id) (takes_data (t.flow id).reset (t.flow id).finished) refl
  where
    by : (c : Bool) → c ≡ true → (b : Bool) → takes_data (t.flow id).reset (t.flow id).finished ≡ b
        → takes_data (if c then (if b then with_least_limit (min n (2 ^ 62 - 1)) (t.flow id) else t.flow id) else t.flow id).reset (if c then (if b then with_least_limit (min n (2 ^ 62 - 1)) (t.flow id) else t.flow id) else t.flow id).finished ≡ true
        → min n (2 ^ 62 - 1) ≤ (if c then (if b then with_least_limit (min n (2 ^ 62 - 1)) (t.flow id) else t.flow id) else t.flow id).limit
    by true d true e x = omega arith
    by true d false e x = let z = sym e ∙ x in cc
    by false d b e x = cc
heard-told (StreamsOf Bi) n t = omega arith
heard-told (StreamsOf Uni) n t = omega arith
