-- Every frame that an end wrote is true of it, at the time and later.
use Rattle.std.proofs.Common.{◌≡◌, ℕ, Bool, true, false, List, [], ◌∷◌, length, Option, Some, None, Ok, Err, refl, sym, ap, ◌∙◌, subst, inl, inr, arith, ◌+◌, ◌≤◌, ◌^◌}
use Rattle.std.specs.Prelude.{◌++◌, ◌==◌, ◌&&◌, ◌-◌, max, min, if◌then◌else◌}
use Rattle.std.specs.Option.{option_map}
use Rattle.quic_values.specs.declared.ids.Dir.{Dir}
use Rattle.quic_wire.specs.declared.frame.Frame.{Frame}
use Rattle.quic_wire.specs.declared.frame.Frame.TheVariants as frames
use Rattle.quic_wire.specs.declared.frame.StreamMeta.{StreamMeta}
use Rattle.quic_sending.specs.declared.send.Send.{Send}
use Rattle.quic_sending.specs.Buffer.{total_length}
use Rattle.quic_sending.proofs.Cuts.{length-concat}
use Rattle.quic_sending.proofs.Pieces.{total-append}
use Rattle.quic_retransmits.specs.Pending.{Pending}
use Rattle.quic_flows.specs.Flow.{SendFlow, SendMove, WasWritten, WasFinished, WasGivenUp, WasAskedToStop, WasPermitted, WasCarried, WasAcked, WasLost, WasResetAcked, takes_data, state_told, with_send_move}
use Rattle.quic_outgoing.specs.Outgoing.{Outgoing}
use Rattle.quic_outgoing.specs.Transmitting.{is_data_sent}
use Rattle.quic_writing.specs.Appended.{frame_with}
use Rattle.quic_history.specs.World.{World, Made, count_of, remote_of, sends}
use Rattle.quic_history.specs.declared.control.ControlKind.{ControlKind}
use Rattle.quic_history.specs.declared.control.ControlKind.TheVariants as kinds
use Rattle.quic_history.specs.Control.{SettlesEntry, reset_frame, window_frame, stream_blocked_frame}
use Rattle.quic_history.specs.Carrying.{CarriesFrame}
use Rattle.quic_history.specs.SendEvents.{TookTurn}
use Rattle.quic_history.specs.Early.{begins_anew}
use Rattle.quic_history.specs.History.{Event, Move, Framed, WasReset, WasRead, WasStopped, WasTold, WasAnnounced, LeftPending, Sending, Step, From, Trace, trace, move_of, moved, with_move, with_kept_frame, is_frame_kept, is_closed, is_freed, before, counts, joint_move_of, StreamFrom, flow, send_move_of, limits_in}
use Rattle.quic_history.specs.World.{id_refusal}
use Rattle.quic_history.specs.Flows.{send_moved, with_first_limits}
use Rattle.quic_values.specs.declared.ids.Side.{Side}
use Rattle.quic_outgoing.specs.declared.limits.PeerLimits.{PeerLimits}
use Rattle.quic_receiving.specs.Half.{Half, is_open, window_end}
use Rattle.quic_receiving.specs.declared.errors.ReadError.TheVariants as read_error
use Rattle.quic_history.proofs.Credits.{limit-fits}
use Rattle.quic_history.proofs.Limits.{goes}
use Rattle.quic_history.proofs.Remotes.{rebased}
use Rattle.quic_history.proofs.RemoteHistory.{kept-remotes}
use Rattle.quic_history.proofs.Traces.{itself}
use Rattle.quic_link.specs.Endpoints.{LinkedEnd, IsOneOf, MayAct, acted, written_by, written_on, sent_on, WasAskedFor}
use Rattle.quic_link.specs.Truths.{IsFrameTrue, amount_on}
use Rattle.quic_link.proofs.Ends.{Comes, plain-call}
use Rattle.quic_link.proofs.Unsent.{flow-called}
use Rattle.quic_link.proofs.Growth.{Grows, grows, held-told}
use Rattle.quic_link.proofs.Texts.{cuts-more, bytes-between, length-between}
use Rattle.quic_link.proofs.Basics.{both, either-of, only, permits_now, same_id, some_same}

-- ---- limits only rise

announced_if : (t a b : Trace) (k : Bool) → t.announced ≤ a.announced → t.announced ≤ b.announced → t.announced ≤ (if k then a else b).announced
announced_if t a b true g h = g
announced_if t a b false g h = h

announced_move : (m : Move) (t : Trace) → t.announced ≤ (with_move m t).announced
announced_move (Framed offset bytes fin answer) t =
    announced_if t (with_kept_frame offset bytes fin t) t (is_frame_kept answer) (announced_if t t _ (is_closed t) (omega arith) (omega arith)) (omega arith)
announced_move (WasReset code final) t = announced_if t t _ (is_closed t) (omega arith) (omega arith)
announced_move (WasRead ordered (Ok (Some chunk))) t = omega arith
announced_move (WasRead ordered (Ok None)) t = omega arith
announced_move (WasRead ordered (Err read_error.Blocked)) t = omega arith
announced_move (WasRead ordered (Err (read_error.Reset code))) t = omega arith
announced_move (WasRead ordered (Err read_error.OutOfMemory)) t = omega arith
announced_move WasStopped t = omega arith
announced_move WasTold t = omega arith
announced_move (WasAnnounced limit) t = omega arith

announced_moved : (o : Option (ℕ × Move)) (q : ℕ) (t : Trace) → t.announced ≤ (moved o q t).announced
announced_moved None q t = omega arith
announced_moved (Some m) q t = announced_if t (with_move m.1 t) t (q == m.0) (announced_move m.1 t) (omega arith)

read_if : (t a b : Trace) (k : Bool) → t.read ≤ a.read → t.read ≤ b.read → t.read ≤ (if k then a else b).read
read_if t a b true g h = g
read_if t a b false g h = h

read_move : (m : Move) (t : Trace) → t.read ≤ (with_move m t).read
read_move (Framed offset bytes fin answer) t =
    read_if t (with_kept_frame offset bytes fin t) t (is_frame_kept answer) (read_if t t _ (is_closed t) (omega arith) (omega arith)) (omega arith)
read_move (WasReset code final) t = read_if t t _ (is_closed t) (omega arith) (omega arith)
read_move (WasRead ordered (Ok (Some chunk))) t = omega arith
read_move (WasRead ordered (Ok None)) t = omega arith
read_move (WasRead ordered (Err read_error.Blocked)) t = omega arith
read_move (WasRead ordered (Err (read_error.Reset code))) t = omega arith
read_move (WasRead ordered (Err read_error.OutOfMemory)) t = omega arith
read_move WasStopped t = omega arith
read_move WasTold t = omega arith
read_move (WasAnnounced limit) t = omega arith

read_moved : (o : Option (ℕ × Move)) (q : ℕ) (t : Trace) → t.read ≤ (moved o q t).read
read_moved None q t = omega arith
read_moved (Some m) q t = read_if t (with_move m.1 t) t (q == m.0) (read_move m.1 t) (omega arith)

-- reads take nothing back
read-grows : (e : Event) (h : List Event) → begins_anew (joint_move_of e) ≡ false → (q : ℕ) → (trace h q).read ≤ (trace (e ∷ h) q).read
read-grows e h plain q = rw plain (read_moved (move_of e) q (trace h q))

permitted_if : (t a b : SendFlow) (k : Bool) → t.limit ≤ a.limit → t.limit ≤ b.limit → t.limit ≤ (if k then a else b).limit
permitted_if t a b true g h = g
permitted_if t a b false g h = h

permitted_move : (m : SendMove) (t : SendFlow) → t.limit ≤ (with_send_move m t).limit
permitted_move (WasWritten pieces) t = omega arith
permitted_move WasFinished t = omega arith
permitted_move (WasGivenUp code) t = omega arith
permitted_move (WasAskedToStop code) t = omega arith
permitted_move (WasPermitted limit) t =
    let l : t.limit ≤ max t.limit (min limit (2 ^ 62 - 1)) = omega arith in
    permitted_if t _ t (takes_data t.reset t.finished) l (omega arith)
permitted_move (WasCarried first behind fin) t = let l : t.limit ≤ t.limit = omega arith in permitted_if t _ t _ l l
permitted_move (WasAcked first behind fin) t = let l : t.limit ≤ t.limit = omega arith in permitted_if t _ t _ l l
permitted_move (WasLost first behind fin) t = let l : t.limit ≤ t.limit = omega arith in permitted_if t _ t _ l l
permitted_move WasResetAcked t = omega arith

permitted_moved : (o : Option (ℕ × SendMove)) (there : ℕ → Bool) (q : ℕ) (t : SendFlow) → t.limit ≤ (send_moved o there q t).limit
permitted_moved None there q t = omega arith
permitted_moved (Some m) there q t = permitted_if t (with_send_move m.1 t) t (q == m.0 && there q) (permitted_move m.1 t) (omega arith)

permitted_first : (l : Option PeerLimits) (side : Side) (q : ℕ) (t k : SendFlow) → t.limit ≤ k.limit → t.limit ≤ (with_first_limits l side q k).limit
permitted_first None side q t k g = g
permitted_first (Some limits) side q t k g = omega arith

-- nor does the limit that the peer gave for a stream fall
permitted-grows : (m : Made) (e : Event) (h : List Event) → begins_anew (joint_move_of e) ≡ false → (q : ℕ) → (flow m h q).limit ≤ (flow m (e ∷ h) q).limit
permitted-grows m e h plain q = flow-called (λ t. (flow m h q).limit ≤ t.limit) m e h q plain (λ t l. l) (permitted_first (limits_in e) m.side q (flow m h q) _ (permitted_moved (send_move_of e) _ q (flow m h q)))

-- the limit of a stream that was announced does not fall
pub announced-grows : (e : Event) (h : List Event) → begins_anew (joint_move_of e) ≡ false → (q : ℕ) → (trace h q).announced ≤ (trace (e ∷ h) q).announced
announced-grows e h plain q = rw plain (announced_moved (move_of e) q (trace h q))

module _ (m : Made) (h : List Event) (u : World) (f : From m h u) (e : Event) (v : World) (s : Step u e v) where
  -- nor does that of the connection
  pub limit-grows : u.credit.local_max_data ≤ v.credit.local_max_data
  limit-grows = let g = goes h u e v (limit-fits _ _ _ _ u.credit f.facts.credit) s in g.limit

  -- nor how many streams the peer may open
  pub count-grows : (d : Dir) → (remote_of u d).max_remote ≤ (remote_of v d).max_remote
  count-grows d =
      let k = kept-remotes m.credit (counts (count_of m) h) h u e v f.facts
      (λ c. rebased (counts (count_of m) h c) (before m h u f.run c) (is_freed (trace h) u.out.side (sends u) c) (remote_of u c) (permits_now m h u f.run f.remotes c)) s d in
      let p = k.permitted in
      omega arith

  -- and it is at most 2^60
  pub count-few : (d : Dir) → (remote_of u d).max_remote ≤ 2 ^ 60 → (remote_of v d).max_remote ≤ 2 ^ 60
  count-few d few =
      let k = kept-remotes m.credit (counts (count_of m) h) h u e v f.facts
      (λ c. rebased (counts (count_of m) h c) (before m h u f.run c) (is_freed (trace h) u.out.side (sends u) c) (remote_of u c) (permits_now m h u f.run f.remotes c)) s d in
      let p = k.permitted in
      omega arith

-- ---- what was true stays so

module _ (x y : LinkedEnd) (e : Event) (v : World) (f : Comes x) (a : MayAct x y e v) where
  grown : (q : ℕ) → Grows (sent_on x q) (sent_on (acted x e v) q)
  grown q = grows x.made x.calls x.world v f.from e (plain-call x y e a.honest) a.step q

  -- a stream that takes no more data has as many bytes as before
  pub amount-stays : (q : ℕ) → takes_data (sent_on x q).reset (sent_on x q).finished ≡ false → amount_on (acted x e v) q ≡ amount_on x q
  amount-stays q c =
      let g = grown q in
      ap total_length (g.cuts ∙ ap (λ k. (sent_on x q).cuts ++ k) (g.closed c)) ∙ total-append (sent_on x q).cuts [] ∙ nothing (amount_on x q)
    where
      nothing : (n : ℕ) → n + 0 ≡ n
      nothing n = omega arith

  pub amount-grows : (q : ℕ) → amount_on x q ≤ amount_on (acted x e v) q
  amount-grows q =
      let g = grown q in
      let k : amount_on (acted x e v) q ≡ amount_on x q + total_length g.more = ap total_length g.cuts ∙ total-append (sent_on x q).cuts g.more in
      omega arith

  ended_closed : (r : Option ℕ) (b : Bool) → b ≡ true → takes_data r b ≡ false
  ended_closed None b k = rw k refl
  ended_closed (Some code) b k = refl

  pub true-kept : (g : Frame) → IsFrameTrue x g → IsFrameTrue (acted x e v) g
  true-kept (frames.Stream s) t =
      let g = grown s.id in
      let more = amount-grows s.id in
      let within = t.within in
      record {
        bytes = cuts-more s.offset s.bytes (sent_on x s.id).cuts (sent_on (acted x e v) s.id).cuts g.more g.cuts t.bytes;
        within = omega arith;
        finished = λ k. g.finished (t.finished k);
        ends = λ k. t.ends k ∙ sym (amount-stays s.id (ended_closed (sent_on x s.id).reset (sent_on x s.id).finished (t.finished k)));
      }
  true-kept (frames.ResetStream r) t =
      let g = grown r.id in
      (g.reset r.error_code t.0, t.1 ∙ sym (amount-stays r.id (ap (λ (o : Option ℕ). takes_data o (sent_on x r.id).finished) t.0)))
  true-kept (frames.StopSending s) t = inr t
  true-kept (frames.MaxData limit) t = let k = limit-grows x.made x.calls x.world f.from e v a.step in omega arith
  true-kept (frames.MaxStreamData id limit) t =
      let k = announced-grows e x.calls (plain-call x y e a.honest) id in
      let l = read-grows e x.calls (plain-call x y e a.honest) id in
      let b = t.0 in
      let c = t.1 in
      (omega arith, omega arith)
  true-kept (frames.MaxStreams d count) t = let k = count-grows x.made x.calls x.world f.from e v a.step d in omega arith
  true-kept (frames.DataBlocked limit) t = omega arith
  true-kept (frames.StreamDataBlocked id limit) t = let k = permitted-grows x.made e x.calls (plain-call x y e a.honest) id in omega arith
  true-kept _ t = t

-- ---- a STREAM frame

sent_state : (r : Option ℕ) (b a : Bool) → is_data_sent (state_told r b a) ≡ true → b ≡ true
sent_state None true a k = refl
sent_state None false a k = cc
sent_state (Some code) b a k = cc

-- the half that a turn was of
pub record TurnSo (x : LinkedEnd) (meta : StreamMeta) : Type 0 where
  pub half : Send
  pub held : x.world.out.halves meta.id ≡ Some half
  pub ordered : meta.offsets.start ≤ meta.offsets.end
  pub within : meta.offsets.end ≤ half.pending.offset
  pub fin : meta.fin ≡ (is_data_sent half.state && (meta.offsets.end == half.pending.offset))

pub turn-so : (x : LinkedEnd) (most : ℕ) (fair : Bool) (meta : StreamMeta) (v : World) → CarriesFrame most fair x.world meta v → TurnSo x meta
turn-so x most fair meta v s =
    let t = s.turn in
    let a = t.transmits.appends in
    let half = t.transmits.half in
    let found : x.world.out ≡ s.before.streams = ap (λ (w : World). w.out) s.found in
    let at : x.world.out.halves t.entry.id ≡ Some half = ap (λ (o : Outgoing). o.halves t.entry.id) found ∙ t.transmits.is_held in
    let P : StreamMeta → Type 0 = λ k. TurnSo x k in
    subst P (sym s.meta) (record {
      half = half;
      held = ap (λ i. x.world.out.halves i) a.id_is ∙ at;
      ordered = a.ordered;
      within = a.written;
      fin = a.fin_is;
    })

pub true-turn : (x : LinkedEnd) (meta : StreamMeta) → Comes x → TurnSo x meta → IsFrameTrue x (frame_with (written_on x) meta)
true-turn x meta f t =
    let told = held-told x.made x.calls x.world x.world f.from meta.id t.half t.held in
    let size = told.cuts.written in
    let all = length-concat (sent_on x meta.id).cuts in
    let ordered = t.ordered in
    let written = t.within in
    let inside : meta.offsets.end ≤ length (written_on x meta.id) = omega arith in
    let long = length-between (written_on x meta.id) meta.offsets.start meta.offsets.end ordered inside in
    let parts : meta.fin ≡ true → (is_data_sent t.half.state ≡ true) × ((meta.offsets.end == t.half.pending.offset) ≡ true) =
    λ k. both (is_data_sent t.half.state) (meta.offsets.end == t.half.pending.offset) (sym t.fin ∙ k) in
    record {
      bytes = bytes-between (written_on x meta.id) meta.offsets.start meta.offsets.end ordered inside;
      within = omega arith;
      finished = λ k. sent_state (sent_on x meta.id).reset (sent_on x meta.id).finished (sent_on x meta.id).end_acked (sym (ap is_data_sent told.state) ∙ (parts k).0);
      ends = λ k. let e = same_id meta.offsets.end t.half.pending.offset (parts k).1 in omega arith;
    }

-- ---- the other frames

abbrev IsTrueThen : LinkedEnd → World → ControlKind → Frame → Type 0
IsTrueThen x v kind g = WasAskedFor x g → IsFrameTrue (acted x (LeftPending kind (Some g)) v) g

then_at : (x : LinkedEnd) (v : World) (kind : ControlKind) (g k : Frame) → g ≡ k → IsTrueThen x v kind k → IsTrueThen x v kind g
then_at x v kind g k e t = let P : Frame → Type 0 = λ j. IsTrueThen x v kind j in subst P (sym e) t

module _ (x y : LinkedEnd) (v : World) (f : Comes x) where
  reset_true : (kind : ControlKind) (id code : ℕ) (o : Option Send) (g : Frame) → x.world.out.halves id ≡ o → Some g ≡ reset_frame id code o → MayAct x y (LeftPending kind (Some g)) v → IsTrueThen x v kind g
  reset_true kind id code None g e k a = cc
  reset_true kind id code (Some s) g e k a =
      let told = held-told x.made x.calls x.world v f.from id s e in
      let is : g ≡ frames.ResetStream (record { id = id; error_code = code; final_offset = s.pending.offset }) = some_same g _ k in
      let P : Frame → Type 0 = λ j. MayAct x y (LeftPending kind (Some j)) v in
      let b = subst P is a in
      then_at x v kind g _ is (λ asked.
      let r = frames.ResetStream (record { id = id; error_code = code; final_offset = s.pending.offset }) in
      let old : IsFrameTrue x r = (asked.0, told.cuts.written) in
      true-kept x y (LeftPending kind (Some r)) v f b r old)

  window_true : (kind : ControlKind) (id : ℕ) (o : Option Half) (g : Frame) → x.world.receive id ≡ o → Some g ≡ window_frame x.world.window id o → IsTrueThen x v kind g
  window_true kind id None g held k = cc
  window_true kind id (Some h) g held k = by_test (is_open h) k
    where
      announced_here : (limit : ℕ) (t : Trace) → limit ≤ (moved (move_of (LeftPending kind (Some (frames.MaxStreamData id limit)))) id t).announced
      announced_here limit t = rw (itself id) (omega arith)

      read_here : (limit : ℕ) (t : Trace) → (moved (move_of (LeftPending kind (Some (frames.MaxStreamData id limit)))) id t).read ≡ t.read
      read_here limit t = rw (itself id) refl

      is_read : (n : ℕ) (t : Trace) (r : Option ℕ) → StreamFrom n t r (Some h) → h.buffer.bytes_read ≡ t.read
      is_read n t None s = s.read
      is_read n t (Some error) s = absurd s

      by_test : (b : Bool) → Some g ≡ option_map (frames.MaxStreamData id) (if b then Some (window_end h x.world.window) else None) → IsTrueThen x v kind g
      by_test false k = cc
      by_test true k = then_at x v kind g (frames.MaxStreamData id (window_end h x.world.window)) (some_same g _ k) (λ asked.
          let limit = window_end h x.world.window in
          let from : StreamFrom x.world.window (trace x.calls id) (id_refusal x.world id) (Some h) = rw held at (f.facts.streams id) in
          let r = is_read x.world.window (trace x.calls id) (id_refusal x.world id) from in
          let same = read_here limit (trace x.calls id) in
          let made = f.window in
          (announced_here limit (trace x.calls id), omega arith))

  blocked_true : (kind : ControlKind) (id : ℕ) (o : Option Send) (g : Frame) → x.world.out.halves id ≡ o → Some g ≡ stream_blocked_frame id o → MayAct x y (LeftPending kind (Some g)) v → IsTrueThen x v kind g
  blocked_true kind id None g held k a = cc
  blocked_true kind id (Some s) g held k a = by_test _ k
    where
      by_test : (b : Bool) → Some g ≡ option_map (frames.StreamDataBlocked id) (if b then Some s.max_data else None) → IsTrueThen x v kind g
      by_test false k = cc
      by_test true k =
          let is = some_same g (frames.StreamDataBlocked id s.max_data) k in
          let P : Frame → Type 0 = λ j. MayAct x y (LeftPending kind (Some j)) v in
          let told = held-told x.made x.calls x.world v f.from id s held in
          let limit = told.limit in
          then_at x v kind g (frames.StreamDataBlocked id s.max_data) is (λ asked. true-kept x y (LeftPending kind (Some (frames.StreamDataBlocked id s.max_data))) v f (subst P is a) (frames.StreamDataBlocked id s.max_data) (omega arith))

  data_blocked_true : (kind : ControlKind) (b : Bool) (g : Frame) → Some g ≡ (if b then Some (frames.DataBlocked x.world.out.budget.max_data) else None) → IsTrueThen x v kind g
  data_blocked_true kind true g k = then_at x v kind g (frames.DataBlocked x.world.out.budget.max_data) (some_same g _ k) (λ asked. let l = f.sent.limit in omega arith)
  data_blocked_true kind false g k = cc

  settled_true : (kind : ControlKind) (p q : Pending) (g : Frame) → MayAct x y (LeftPending kind (Some g)) v → SettlesEntry kind x.world p (Some g) v q → IsTrueThen x v kind g
  settled_true kinds.ResetStream p q g a s = reset_true kinds.ResetStream s.id s.code (x.world.out.halves s.id) g refl s.frame a
  settled_true kinds.StopSending p q g a s = then_at x v kinds.StopSending g (frames.StopSending s.stop) (some_same g _ s.frame) (λ asked. inr asked.0)
  settled_true kinds.MaxData p q g a s =
      let is = some_same g _ s.frame in
      let k = limit-grows x.made x.calls x.world f.from (LeftPending kinds.MaxData (Some g)) v a.step in
      then_at x v kinds.MaxData g _ is (λ asked. omega arith)
  settled_true kinds.MaxStreamData p q g a s = window_true kinds.MaxStreamData s.id (x.world.receive s.id) g refl s.frame
  settled_true (kinds.MaxStreams d) p q g a s =
      let is = some_same g _ s.frame in
      let k = count-grows x.made x.calls x.world f.from (LeftPending (kinds.MaxStreams d) (Some g)) v a.step d in
      then_at x v (kinds.MaxStreams d) g _ is (λ asked. k)
  settled_true kinds.DataBlocked p q g a s = data_blocked_true kinds.DataBlocked _ g s.frame
  settled_true kinds.StreamDataBlocked p q g a s = blocked_true kinds.StreamDataBlocked s.id (x.world.out.halves s.id) g refl s.frame a

-- ---- every frame

at_one : (x : LinkedEnd) (g k : Frame) → g ≡ k → IsFrameTrue x k → IsFrameTrue x g
at_one x g k e t = let P : Frame → Type 0 = λ j. IsFrameTrue x j in subst P (sym e) t

new_true : (x y : LinkedEnd) (e : Event) (v : World) → Comes x → MayAct x y e v → (g : Frame) → IsOneOf g (written_by x e) → IsFrameTrue (acted x e v) g
new_true x y (LeftPending kind (Some k)) v f a g h = at_one (acted x (LeftPending kind (Some k)) v) g k (only g k h) (settled_true x y v f kind a.step.0 a.step.1 k a a.step.2 a.honest)
new_true x y (LeftPending kind None) v f a g h = absurd h
new_true x y (Sending (TookTurn most fair (Some meta))) v f a g h =
    let k = frame_with (written_on x) meta in
    at_one (acted x (Sending (TookTurn most fair (Some meta))) v) g k (only g k h) (true-kept x y (Sending (TookTurn most fair (Some meta))) v f a k (true-turn x meta f (turn-so x most fair meta v a.step)))
new_true x y (Sending (TookTurn most fair None)) v f a g h = absurd h
new_true x y _ v f a g h = absurd h

abbrev pub AllTrue : LinkedEnd → Type 0
AllTrue x = (g : Frame) → IsOneOf g x.wrote → IsFrameTrue x g

pub true-acted : (x y : LinkedEnd) (e : Event) (v : World) → Comes x → MayAct x y e v → AllTrue x → AllTrue (acted x e v)
true-acted x y e v f a t g h = elim (either-of g (written_by x e) x.wrote h) [
  | inl k ↦ new_true x y e v f a g k
  | inr k ↦ true-kept x y e v f a g (t g k)
]
