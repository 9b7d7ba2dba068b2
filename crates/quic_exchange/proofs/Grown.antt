-- A pair that came from steps has two linked ends, and the steps tell what these did; so the headline holds of it.
use Rattle.std.proofs.Common.{◌≡◌, ℕ, Ok, [], ◌∷◌, ◌++◌, refl, sym, ◌∙◌, subst}
use Rattle.std.proofs.lemmas.Option.{none-some}
use Rattle.quic_values.specs.declared.ids.Side.TheVariants.{Client, Server}
use Rattle.quic_history.specs.World.{Made, start}
use Rattle.quic_history.specs.History.{IsStart}
use Rattle.quic_steps.specs.declared.steps.End.{End}
use Rattle.quic_steps.specs.declared.steps.End.TheVariants.{A, B}
use Rattle.quic_exchange.proofs.Origins.{Origin, made_in}
use Rattle.quic_steps.specs.declared.steps.Step.{Step}
use Rattle.quic_steps.specs.declared.steps.Step.TheVariants as steps
use Rattle.quic_exchange.specs.Replies.{Answer}
use Rattle.quic_exchange.specs.State.{PairState, the_end}
use Rattle.quic_exchange.specs.Steps.{NextOrdinary}
use Rattle.quic_exchange.specs.History.{History, StepTaken, Past, after, past_from, past_of, nothing_yet}
use Rattle.quic_exchange.specs.Headline.{Headline}
use Rattle.quic_outgoing.specs.declared.limits.PeerLimits.{PeerLimits}
use Rattle.quic_endpoint.specs.Ends.{EndState}
use Rattle.quic_steps.specs.declared.steps.Reply.TheVariants.{Done}
use Rattle.quic_exchange.specs.From.{end_begun, AreSoundLimits}
use Rattle.quic_exchange.proofs.Eras.{EraFrom, begun, next, changed, IsBegun, ToldIn, tale_in, tales_in}
use Rattle.quic_exchange.specs.Tale.{tale_begun}
use Rattle.quic_exchange.proofs.Emissions.{emitted-some, emitted-part}
use Rattle.quic_exchange.proofs.CountedBegun.{counted-given}
use Rattle.quic_exchange.proofs.Joined.{Joined}
use Rattle.quic_exchange.proofs.Left.{AreLeft}
use Rattle.quic_exchange.proofs.Flips.{joined-by}
use Rattle.quic_exchange.proofs.Begun.{made_beside, seen-begun}
use Rattle.quic_exchange.proofs.Changed.{joined-changed, recounted-changed}
use Rattle.quic_exchange.proofs.Headlines.{headline}
use Rattle.quic_exchange.proofs.CallsSetting.{seen-open, seen-accept, seen-send-window, seen-receive-window, seen-max-concurrent, seen-priority, seen-poll}
use Rattle.quic_exchange.proofs.CallsSending.{seen-write, seen-write-chunks, seen-finish, seen-reset}
use Rattle.quic_exchange.proofs.CallsReading.{seen-stop, seen-received-reset, seen-read}
use Rattle.quic_exchange.proofs.PayloadSteps.{joined-payloads}
use Rattle.quic_exchange.proofs.Counted.{Counted}
use Rattle.quic_exchange.proofs.Recounted.{Recounted, Retold, made_at}
use Rattle.quic_exchange.proofs.CountedCalls.{counts-open, counts-accept, counts-write, counts-chunks, counts-finish, counts-reset, counts-stop, counts-priority, counts-read, counts-code, counts-send-window, counts-receive-window, counts-concurrent, counts-poll}
use Rattle.quic_exchange.proofs.CountedPayloads.{counts-emit, counts-part}
use Rattle.quic_exchange.proofs.CountedFrames.{counts-deliver}
use Rattle.quic_exchange.proofs.CountedReports.{counts-lose, counts-ack}

-- ---- two linked ends

module _ (a b : Origin) (p : Past) (old new : PairState) (reply : Answer) (j : Joined a b p old) (told : ℕ → ℕ) (left : AreLeft old.sent told) where
  joined-next : (step : Step) → NextOrdinary old step reply new → Joined a b (after p step reply) new
  joined-next (steps.Open who dir) n = joined-by a b p _ who old new j (λ x y s. seen-open p who old new x y dir reply s n)
  joined-next (steps.Accept who dir) n = joined-by a b p _ who old new j (λ x y s. seen-accept p who old new x y dir reply s n)
  joined-next (steps.Write who id bytes) n = joined-by a b p _ who old new j (λ x y s. seen-write p who old new x y id bytes reply s n)
  joined-next (steps.WriteChunks who id chunks) n = joined-by a b p _ who old new j (λ x y s. seen-write-chunks p who old new x y id chunks reply s n)
  joined-next (steps.Finish who id) n = joined-by a b p _ who old new j (λ x y s. seen-finish p who old new x y id reply s n)
  joined-next (steps.Reset who id code) n = joined-by a b p _ who old new j (λ x y s. seen-reset p who old new x y id code reply s n)
  joined-next (steps.Stop who id code) n = joined-by a b p _ who old new j (λ x y s. seen-stop p who old new x y id code reply s n)
  joined-next (steps.SetPriority who id priority) n = joined-by a b p _ who old new j (λ x y s. seen-priority p who old new x y id priority reply s n)
  joined-next (steps.Read who id ordered most times) n = joined-by a b p _ who old new j (λ x y s. seen-read p who old new x y id ordered most times reply s n)
  joined-next (steps.ReceivedReset who id) n = joined-by a b p _ who old new j (λ x y s. seen-received-reset p who old new x y id reply s n)
  joined-next (steps.SetSendWindow who window) n = joined-by a b p _ who old new j (λ x y s. seen-send-window p who old new x y window reply s n)
  joined-next (steps.SetReceiveWindow who window) n = joined-by a b p _ who old new j (λ x y s. seen-receive-window p who old new x y window reply s n)
  joined-next (steps.SetMaxConcurrent who dir count) n = joined-by a b p _ who old new j (λ x y s. seen-max-concurrent p who old new x y dir count reply s n)
  joined-next (steps.Poll who) n = joined-by a b p _ who old new j (λ x y s. seen-poll p who old new x y reply s n)
  joined-next (steps.Emit who most fair) n = joined-payloads a b p old new (steps.Emit who most fair) reply tt j told left n
  joined-next (steps.EmitPart who most fair part) n = joined-payloads a b p old new (steps.EmitPart who most fair part) reply tt j told left n
  joined-next (steps.Deliver number index) n = joined-payloads a b p old new (steps.Deliver number index) reply tt j told left n
  joined-next (steps.Lose number) n = joined-payloads a b p old new (steps.Lose number) reply tt j told left n
  joined-next (steps.Ack number) n = joined-payloads a b p old new (steps.Ack number) reply tt j told left n
  joined-next _ n = absurd n

-- ---- a pair at the beginning of an era

joined_begun : (a b : Origin) (v : PairState) → IsBegun a b v → Joined a b nothing_yet v
joined_begun a b v n = record {
  first = made_beside (made_in Client a) a.limits;
  second = made_beside (made_in Server b) b.limits;
  made_first = refl;
  made_second = refl;
  seen = seen-begun (made_in Client a) (made_in Server b) a.limits b.limits v n.of_a n.of_b n.ends (λ number s got. let g = n.gone number s got in record { text = g.text; rest = g.rest });
}

pub recounted-begun : (a b : Origin) (v : PairState) → IsBegun a b v → (r : Recounted a b v) × (r.tales ≡ tales_in a b v.sent)
recounted-begun a b v n = (record { tales = tales_in a b v.sent; counted = both; count = refl; left = λ number s r all got rest spelled. absurd (none-some r (sym (n.gone number s got).rest ∙ rest)); fresh = λ number h. refl }, refl)
  where
    counted_at : (m : Made) (limits : PeerLimits) (e : EndState) → e ≡ end_begun m limits → IsStart m (start m) → AreSoundLimits limits → Counted m e.streams (tale_begun m.side m.send_window limits)
    counted_at m limits e is s few = let P : EndState → Type 0 = λ x. Counted m x.streams (tale_begun m.side m.send_window limits) in subst P (sym is) (counted-given m limits s (few.few_bi, few.few_uni))

    both : (who : End) → Counted (made_at a b who) (the_end v who).streams (tale_in a b who)
    both A = counted_at (made_in Client a) a.limits v.a n.of_a n.ends.first n.limits_a
    both B = counted_at (made_in Server b) b.limits v.b n.of_b n.ends.second n.limits_b

pub retold-next : (a b : Origin) (p : Past) (old new : PairState) → Joined a b p old → (r : Recounted a b old) → (step : Step) (reply : Answer) → NextOrdinary old step reply new → Retold a b old r.tales step reply new
retold-next a b p old new j r (steps.Open who dir) reply n = counts-open a b old new r who dir reply n
retold-next a b p old new j r (steps.Accept who dir) reply n = counts-accept a b old new r who dir reply n
retold-next a b p old new j r (steps.Write who id bytes) reply n = counts-write a b old new r who id bytes reply n
retold-next a b p old new j r (steps.WriteChunks who id chunks) reply n = counts-chunks a b old new r who id chunks reply n
retold-next a b p old new j r (steps.Finish who id) reply n = counts-finish a b old new r who id reply n
retold-next a b p old new j r (steps.Reset who id code) reply n = counts-reset a b old new r who id code reply n
retold-next a b p old new j r (steps.Stop who id code) reply n = counts-stop a b old new r who id code reply n
retold-next a b p old new j r (steps.SetPriority who id priority) reply n = counts-priority a b old new r who id priority reply n
retold-next a b p old new j r (steps.Read who id ordered most times) reply n = counts-read a b old new r who id ordered most times reply n
retold-next a b p old new j r (steps.ReceivedReset who id) reply n = counts-code a b old new r who id reply n
retold-next a b p old new j r (steps.SetSendWindow who window) reply n = counts-send-window a b old new r who window reply n
retold-next a b p old new j r (steps.SetReceiveWindow who window) reply n = counts-receive-window a b old new r who window reply n
retold-next a b p old new j r (steps.SetMaxConcurrent who dir count) reply n = counts-concurrent a b old new r who dir count reply n
retold-next a b p old new j r (steps.Poll who) reply n = counts-poll a b old new r who reply n
retold-next a b p old new j r (steps.Emit who most fair) reply n = counts-emit a b old new r who most fair reply (emitted-some old new who most fair reply n)
retold-next a b p old new j r (steps.EmitPart who most fair part) reply n = counts-part a b old new r who most fair part reply (emitted-part old new who most fair part reply n)
retold-next a b p old new j r (steps.Deliver number index) reply n = counts-deliver a b p old new j r number index reply n
retold-next a b p old new j r (steps.Lose number) reply n = counts-lose a b p old new j r number reply n
retold-next a b p old new j r (steps.Ack number) reply n = counts-ack a b p old new j r number reply n
retold-next a b p old new j r _ reply n = absurd n

-- ---- all steps

past-more : (p : Past) (h : History) (e : StepTaken) → past_from p (h ++ e ∷ []) ≡ after (past_from p h) e.0 e.1
past-more p [] e = refl
past-more p (g ∷ h) e = past-more (after p g.0 g.1) h e

-- what is known after one more step
pub past-after : (h : History) (step : Step) (reply : Answer) → past_of (h ++ (step, reply) ∷ []) ≡ after (past_of h) step reply
past-after h step reply = past-more nothing_yet h (step, reply)

-- whatever steps led to a pair, its ends are linked, and the steps tell what they did
pub record Grown {a b : Origin} {h : History} {v : PairState} (f : EraFrom a b h v) : Type 0 where
  pub joined : Joined a b (past_of h) v
  pub recounted : Recounted a b v
  pub told : ToldIn f recounted.tales

pub grown-from : {a b : Origin} {h : History} {v : PairState} (f : EraFrom a b h v) → Grown f
grown-from {a} {b} {h} {v} (begun n) = let r = recounted-begun a b v n in record { joined = joined_begun a b v n; recounted = r.0; told = r.1 }
grown-from {a} {b} (next {h} {old} {new} step reply f n) =
    let g = grown-from f in
    let r = retold-next a b (past_of h) old new g.joined g.recounted step reply n in
    record {
      joined = subst (λ p. Joined a b p new) (sym (past-after h step reply)) (joined-next a b (past_of h) old new reply g.joined g.recounted.tales.told g.recounted.left step n);
      recounted = r.behind;
      told = (g.recounted.tales, g.told, r.tells);
    }
grown-from {a} {b} (changed {h} {old} {new} step f c) =
    let g = grown-from f in
    let r = recounted-changed a b (past_of h) old new g.recounted step c in
    record {
      joined = subst (λ p. Joined a b p new) (sym (past-after h step (Ok Done))) (joined-changed a b (past_of h) old new g.joined step c);
      recounted = r.0;
      told = (g.recounted.tales, g.told, r.1);
    }

pub joined-from : {a b : Origin} {whole : History} {v : PairState} → EraFrom a b whole v → Joined a b (past_of whole) v
joined-from f = (grown-from f).joined

-- whatever the network did, the headline holds
pub headline-from : {a b : Origin} {h : History} {v : PairState} → EraFrom a b h v → Headline (past_of h) v.sent
headline-from {a} {b} {h} {v} f = headline a b (past_of h) v (joined-from f)
