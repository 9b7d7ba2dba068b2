-- Steps tell one thing alone.
use Rattle.std.proofs.Common.{◌≡◌, ℕ, List, Ok, Err, sym, ap, ◌∙◌, subst, inl, inr, arith}
use Rattle.std.specs.Prelude.{slice_get, length, take, drop, ◌+◌}
use Rattle.std.proofs.lemmas.Option.{same_Some}
use Rattle.quic_wire.specs.declared.frame.Frame.{Frame}
use Rattle.quic_wire.specs.Frames.{AreFrames}
use Rattle.quic_wire.proofs.Joins.{same}
use Rattle.quic_exchange.proofs.Origins.{Origin}
use Rattle.quic_steps.specs.declared.steps.End.{End}
use Rattle.quic_steps.specs.declared.steps.Step.{Step}
use Rattle.quic_steps.specs.declared.steps.Step.TheVariants as steps
use Rattle.quic_steps.specs.declared.steps.Reply.TheVariants.{Done, DoneTransmit, Id, Wrote, WroteChunks, Payload}
use Rattle.quic_steps.specs.declared.steps.PairError.TheVariants.{OutOfMemory as NoMemory}
use Rattle.quic_exchange.specs.Sent.{Sent}
use Rattle.quic_exchange.specs.Replies.{Answer}
use Rattle.quic_exchange.specs.From.{Beginning}
use Rattle.quic_exchange.specs.History.{History, FramePlace}
use Rattle.quic_exchange.specs.State.{PairState, peer}
use Rattle.quic_exchange.proofs.Eras.{EraFrom, begun, next, changed, ToldIn, tales_changed}
use Rattle.quic_exchange.specs.Tale.{Tale, Tales, Sendings, none, more, Told, TellsOfPair, StepTells, Part, parts_in, parts_left, with_parts, with_frames_sent, with_frame_heard, told_of, told_more, WasPayload, HearsOne, SendsOne, TellsParts}

-- one payload has one writer and spells one list of frames
module _ (sent : List Sent) (number : ℕ) (who other : End) (all others : List Frame) (k : WasPayload sent who number all) (l : WasPayload sent other number others) where
  one_payload : k.payload ≡ l.payload
  one_payload = same_Some k.payload l.payload (sym k.is ∙ l.is)

  one_writer : who ≡ other
  one_writer = sym k.writer ∙ ap (λ (s : Sent). s.writer) one_payload ∙ l.writer

  one_list : all ≡ others
  one_list =
      let P : List ℕ → Type 0 = λ b. AreFrames b others in
      same k.payload.text.bytes all others k.spelled (subst P (sym (ap (λ (s : Sent). s.text.bytes) one_payload)) l.spelled)

module _ (t u v : Tales) where
  sent_once : (sent : List Sent) (who : End) → SendsOne sent who t u → SendsOne sent who t v → u ≡ v
  sent_once sent who k l =
      k.is ∙ ap (λ (fs : List Frame). record (told_of who (with_frames_sent fs) t) { payloads = t.payloads + 1 }) (one_list sent t.payloads who who k.all l.all k.stood l.stood) ∙ sym l.is

  heard_once : (sent : List Sent) (at : FramePlace) → HearsOne sent at t u → HearsOne sent at t v → u ≡ v
  heard_once sent at k l =
      let x = k.stood in
      let y = l.stood in
      let payload_is : x.payload ≡ y.payload = same_Some x.payload y.payload (sym x.is ∙ y.is) in
      let who_is : k.who ≡ l.who = sym x.writer ∙ ap (λ (s : Sent). s.writer) payload_is ∙ y.writer in
      let P : List ℕ → Type 0 = λ b. AreFrames b y.frame_is.all in
      let frames_are : x.frame_is.all ≡ y.frame_is.all = same x.payload.text.bytes x.frame_is.all y.frame_is.all x.frame_is.spelled (subst P (sym (ap (λ (s : Sent). s.text.bytes) payload_is)) y.frame_is.spelled) in
      let frame_is : k.frame ≡ l.frame = same_Some k.frame l.frame (sym x.frame_is.at ∙ ap (λ (fs : List Frame). slice_get fs at.1) frames_are ∙ y.frame_is.at) in
      k.is ∙ ap (λ (w : End). told_of (peer w) (with_frame_heard k.frame) t) who_is ∙ ap (λ (f : Frame). told_of (peer l.who) (with_frame_heard f) t) frame_is ∙ sym l.is

  parts_once : (sent : List Sent) (number : ℕ) (deed : Part → Tale → Tale) → TellsParts sent number deed t u → TellsParts sent number deed t v → u ≡ v
  parts_once sent number deed k l =
      let who_is = one_writer sent number k.who l.who k.all l.all k.stood l.stood in
      let all_are = one_list sent number k.who l.who k.all l.all k.stood l.stood in
      let left_is : parts_left k.stood.payload.unsettled ≡ parts_left l.stood.payload.unsettled = ap (λ (s : Sent). parts_left s.unsettled) (one_payload sent number k.who l.who k.all l.all k.stood l.stood) in
      let size : length (parts_in k.all) ≡ length (parts_in l.all) = ap (λ (fs : List Frame). length (parts_in fs)) all_are in
      let x = k.counts in
      let y = l.counts in
      let count_is : k.count ≡ l.count = omega (arith, left_is, size, x, y) in
      k.is ∙ ap (λ (n : ℕ). told_more number n (told_of k.who (with_parts deed (take n (drop (t.told number) (parts_in k.all)))) t)) count_is
      ∙ ap (λ (w : End). told_more number l.count (told_of w (with_parts deed (take l.count (drop (t.told number) (parts_in k.all)))) t)) who_is
      ∙ ap (λ (fs : List Frame). told_more number l.count (told_of l.who (with_parts deed (take l.count (drop (t.told number) (parts_in fs)))) t)) all_are ∙ sym l.is

-- a step tells one thing
pub tells-once : (old new : List Sent) (t u v : Tales) (step : Step) (reply : Answer) → StepTells old new step reply t u → StepTells old new step reply t v → u ≡ v
tells-once old new t u v (steps.Open who dir) (Ok (Id id)) k l = k ∙ sym l
tells-once old new t u v (steps.Write who id bytes) (Ok (Wrote count)) k l = k ∙ sym l
tells-once old new t u v (steps.WriteChunks who id chunks) (Ok (WroteChunks written)) k l = k ∙ sym l
tells-once old new t u v (steps.Finish who id) (Ok Done) k l = k ∙ sym l
tells-once old new t u v (steps.Reset who id code) (Ok Done) k l = k ∙ sym l
tells-once old new t u v (steps.SetSendWindow who window) (Ok Done) k l = k ∙ sym l
tells-once old new t u v (steps.Emit who most fair) (Ok (Payload number bytes)) k l = sent_once t u v new who k.0 l.0
tells-once old new t u v (steps.Emit who most fair) (Err error) k l = elim k [
  | inl same_as ↦ elim l [ inl also ↦ same_as.1 ∙ sym also.1 | inr one ↦ (let x = same_as.0 in let y = one.0 in absurd (omega (arith, x, y))) ]
  | inr one ↦ elim l [ inl same_as ↦ (let x = same_as.0 in let y = one.0 in absurd (omega (arith, x, y))) | inr also ↦ sent_once t u v new who one.1 also.1 ]
]
tells-once old new t u v (steps.EmitPart who most fair part) (Ok (Payload number bytes)) k l = sent_once t u v new who k.0 l.0
tells-once old new t u v (steps.EmitPart who most fair part) (Err error) k l = elim k [
  | inl same_as ↦ elim l [ inl also ↦ same_as.1 ∙ sym also.1 | inr one ↦ (let x = same_as.0 in let y = one.0 in absurd (omega (arith, x, y))) ]
  | inr one ↦ elim l [ inl same_as ↦ (let x = same_as.0 in let y = one.0 in absurd (omega (arith, x, y))) | inr also ↦ sent_once t u v new who one.1 also.1 ]
]
tells-once old new t u v (steps.Deliver number index) (Ok Done) k l = heard_once t u v old (number, index) k l
tells-once old new t u v (steps.Deliver number index) (Ok DoneTransmit) k l = heard_once t u v old (number, index) k l
tells-once old new t u v (steps.Lose number) (Ok Done) k l = parts_once t u v new number _ k.some l.some
tells-once old new t u v (steps.Lose number) (Err NoMemory) k l = parts_once t u v new number _ k l
tells-once old new t u v (steps.Ack number) (Ok Done) k l = parts_once t u v new number _ k.some l.some
tells-once old new t u v (steps.Ack number) (Err NoMemory) k l = parts_once t u v new number _ k l
tells-once old new t u v _ _ k l = k ∙ sym l

-- and so do all of an era
pub told-in-once : {a b : Origin} {h : History} {v : PairState} (f : EraFrom a b h v) (t u : Tales) → ToldIn f t → ToldIn f u → t ≡ u
told-in-once {a} {b} {h} {v} (begun n) t u k l = k ∙ sym l
told-in-once {a} {b} (next {h} {old} {new} step reply f n) t u k l =
    let one : k.0 ≡ l.0 = told-in-once f k.0 l.0 k.1 l.1 in
    let P : Tales → Type 0 = λ w. StepTells old.sent new.sent step reply w u in
    tells-once old.sent new.sent k.0 t u step reply k.2 (subst P (sym one) l.2)
told-in-once {a} {b} (changed {h} {old} {new} step f c) t u k l =
    let one : k.0 ≡ l.0 = told-in-once f k.0 l.0 k.1 l.1 in
    k.2 ∙ ap (tales_changed c) one ∙ sym l.2

-- and so do all of a pair
pub tells-next-once : (s : Beginning) (old new : List Sent) (t u v : Tales) (step : Step) (reply : Answer) → TellsOfPair s old new step reply t u → TellsOfPair s old new step reply t v → u ≡ v
tells-next-once s old new t u v steps.EarlyAccept (Ok Done) k l = k ∙ sym l
tells-next-once s old new t u v steps.EarlyReject (Ok Done) k l = k ∙ sym l
tells-next-once s old new t u v steps.Retry (Ok Done) k l = k ∙ sym l
tells-next-once s old new t u v step reply k l = tells-once old new t u v step reply k l

pub told-once : {h : History} {sent : List Sent} (s : Beginning) (led : Sendings h sent) (t u : Tales) → Told s led t → Told s led u → t ≡ u
told-once s none t u k l = k ∙ sym l
told-once s (more {h} {old} step reply new before) t u k l =
    let one : k.0 ≡ l.0 = told-once s before k.0 l.0 k.1 l.1 in
    let P : Tales → Type 0 = λ w. TellsOfPair s old new step reply w u in
    tells-next-once s old new k.0 t u step reply k.2 (subst P (sym one) l.2)
