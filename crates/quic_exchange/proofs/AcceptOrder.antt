-- A settling accepts every stream: behind its steps of accepting each stream that counts as opened was given.
use Rattle.std.proofs.Common.{◌≡◌, ◌⊎◌, ℕ, Bool, true, false, List, [], ◌∷◌, ◌++◌, length, Option, Some, None, Ok, Err, refl, sym, ◌∙◌, subst, inl, inr, append_assoc}
use Rattle.std.specs.Prelude.{◌+◌, ◌-◌, ◌^◌, ◌&&◌, nat_lt, if◌then◌else◌}
use Rattle.quic_values.specs.declared.ids.Side.{Side}
use Rattle.quic_values.specs.declared.ids.Side.TheVariants.{Client, Server}
use Rattle.quic_values.specs.declared.ids.Dir.{Dir}
use Rattle.quic_values.specs.declared.ids.Dir.TheVariants.{Bi, Uni}
use Rattle.quic_values.specs.Ids.{initiator_of, dir_of, index_of, stream_id}
use Rattle.quic_endpoint.specs.Reports.{LosesPayloadAt, AcksPayloadAt}
use Rattle.quic_link.specs.Endpoints.{IsOneOf}
use Rattle.quic_exchange.proofs.Origins.{Origin}
use Rattle.quic_steps.specs.declared.steps.End.{End}
use Rattle.quic_steps.specs.declared.steps.End.TheVariants.{A, B}
use Rattle.quic_steps.specs.declared.steps.Step.TheVariants as steps
use Rattle.quic_steps.specs.declared.steps.Reply.TheVariants.{Done}
use Rattle.quic_steps.specs.declared.steps.PairError.TheVariants.{OutOfMemory as NoMemory}
use Rattle.quic_exchange.specs.Sent.{Sent}
use Rattle.quic_exchange.specs.declared.unsettled.Report.{Report}
use Rattle.quic_exchange.specs.declared.unsettled.Report.TheVariants.{Lost, Acknowledged}
use Rattle.quic_exchange.specs.declared.phase.Phase.{Phase}
use Rattle.quic_exchange.specs.declared.phase.Phase.TheVariants as phase
use Rattle.quic_exchange.specs.declared.phase.Going.{Going}
use Rattle.quic_exchange.specs.declared.phase.Going.TheVariants.{On, Over, StreamOver, Unordered}
use Rattle.quic_exchange.specs.Replies.{Answer}
use Rattle.quic_exchange.specs.State.{PairState, the_end}
use Rattle.quic_exchange.specs.Steps.{NextOrdinary, SettlesPayload}
use Rattle.quic_exchange.specs.History.{Past, History, past_of, past_read, after, after_given, after_poll, after_deliver, after_report}
use Rattle.quic_exchange.proofs.Eras.{EraFrom}
use Rattle.quic_exchange.specs.Settling.{step_at, going_of, phase_after, phase_after_report, behind_reports, is_quiet_at, is_nothing_more, after_accepting, after_accept, after_streams, after_reading, after_polling, after_emits, after_frame, FollowsPhases, IsSoughtFor, none as follows_none, more as follows_more}
use Rattle.quic_exchange.proofs.Emissions.{emitted-some}
use Rattle.quic_exchange.proofs.Beside.{beside}
use Rattle.quic_exchange.proofs.Grown.{past-after}
use Rattle.quic_exchange.proofs.PayloadKnows.{StaySent}
use Rattle.quic_exchange.proofs.Ordinary.{ordinary-at}
use Rattle.quic_exchange.proofs.Settling.{IsReadyFor, IsStreamlessIf, ready-sought, ready-phases}
use Rattle.quic_exchange.proofs.Streamless.{IsStreamless, streamless-stays, adds-none, adds-accepted, deliver-ids, deliver-flow, stay-emitted, stay-delivered, stay-reported}
use Rattle.quic_exchange.proofs.Accepting.{IsQuiet, IsGrownFlow, WasAcceptedAll, quiet-stay, quiet-given, read-grown, poll-grown, accepted-still, nothing-accepted, grown-one}
use Rattle.quic_exchange.proofs.ReadOrder.{stay_on_end, poll_ids, read_ids}

-- ---- the order of asking

-- an end was asked for streams of a direction
abbrev pub IsSameAsk : End → Dir → End → Dir → Type 0
IsSameAsk who dir end d = (end ≡ who) × (d ≡ dir)

abbrev pub IsFirstAsk : End → Dir → Type 0
IsFirstAsk end d = ⊥ ⊎ IsSameAsk A Bi end d

abbrev pub IsOfTwoAsks : End → Dir → Type 0
IsOfTwoAsks end d = IsFirstAsk end d ⊎ IsSameAsk A Uni end d

abbrev pub IsOfThreeAsks : End → Dir → Type 0
IsOfThreeAsks end d = IsOfTwoAsks end d ⊎ IsSameAsk B Bi end d

-- or any
abbrev pub IsAnyAsk : End → Dir → Type 0
IsAnyAsk end d = IsOfThreeAsks end d ⊎ IsSameAsk B Uni end d

-- all behind a quiet round, and none behind another
abbrev pub IsAnyAskIf : Bool → End → Dir → Type 0
IsAnyAskIf true end d = IsAnyAsk end d
IsAnyAskIf false end d = ⊥

-- those that were asked for before a phase, until there were none
abbrev pub IsAsked : Phase → End → Dir → Type 0
IsAsked (phase.Accept A Bi) end d = ⊥
IsAsked (phase.Accept A Uni) end d = IsFirstAsk end d
IsAsked (phase.Accept B Bi) end d = IsOfTwoAsks end d
IsAsked (phase.Accept B Uni) end d = IsOfThreeAsks end d
IsAsked (phase.Read who stream ordered) end d = IsAnyAsk end d
IsAsked (phase.Poll who) end d = IsAnyAsk end d
IsAsked phase.EmitOfA end d = IsAnyAsk end d
IsAsked (phase.EmitOfB first empty quiet) end d = IsAnyAsk end d
IsAsked (phase.Deliver payload frame other quiet) end d = IsAnyAskIf quiet end d
IsAsked (phase.Report payload quiet) end d = IsAnyAskIf quiet end d
IsAsked (phase.ReportLost payload quiet) end d = IsAnyAskIf quiet end d
IsAsked (phase.Drop first) end d = IsAnyAsk end d

pub any-ask : (end : End) (d : Dir) → IsAnyAsk end d
any-ask A Bi = inl (inl (inl (inr (refl, refl))))
any-ask A Uni = inl (inl (inr (refl, refl)))
any-ask B Bi = inl (inr (refl, refl))
any-ask B Uni = inr (refl, refl)

-- behind the last stream of a direction to accept
asked_behind : (who : End) (dir : Dir) (end : End) (d : Dir) → IsAsked (after_accepting who dir) end d → IsAsked (phase.Accept who dir) end d ⊎ IsSameAsk who dir end d
asked_behind A Bi end d k = k
asked_behind A Uni end d k = k
asked_behind B Bi end d k = k
asked_behind B Uni end d k = k

asked_streams : (who : End) (s : Side) (t : Dir) (end : End) (d : Dir) → IsAsked (after_streams who s t) end d → IsAnyAsk end d
asked_streams A Client Bi end d k = k
asked_streams A Client Uni end d k = k
asked_streams A Server Bi end d k = k
asked_streams A Server Uni end d k = k
asked_streams B Client Bi end d k = k
asked_streams B Server Bi end d k = k
asked_streams B Server Uni end d k = k
asked_streams B Client Uni end d k = k

asked_stream : (c : Bool) (who : End) (s : Side) (t : Dir) (stream : ℕ) (end : End) (d : Dir) → IsAsked (if c then phase.Read who stream true else after_streams who s t) end d → IsAnyAsk end d
asked_stream true who s t stream end d k = k
asked_stream false who s t stream end d k = asked_streams who s t end d k

asked_reading : (who : End) (id : ℕ) (ordered : Bool) (going : Going) (end : End) (d : Dir) → IsAsked (after_reading who id ordered going) end d → IsAnyAsk end d
asked_reading who id ordered On end d k = k
asked_reading who id ordered Unordered end d k = k
asked_reading who id ordered StreamOver end d k = asked_stream (nat_lt (index_of id + 1) (2 ^ 60)) who (initiator_of id) (dir_of id) (stream_id (initiator_of id) (dir_of id) (index_of id + 1)) end d k
asked_reading who id ordered Over end d k = asked_streams who (initiator_of id) (dir_of id) end d k

asked_polling : (who : End) (going : Going) (end : End) (d : Dir) → IsAsked (after_polling who going) end d → IsAnyAsk end d
asked_polling A On end d k = k
asked_polling A Over end d k = k
asked_polling A StreamOver end d k = k
asked_polling A Unordered end d k = k
asked_polling B On end d k = k
asked_polling B Over end d k = k
asked_polling B StreamOver end d k = k
asked_polling B Unordered end d k = k

ask_if : (quiet : Bool) (end : End) (d : Dir) → IsAnyAskIf quiet end d → IsAnyAsk end d
ask_if true end d k = k
ask_if false end d k = absurd k

asked_emits : (first : ℕ) (empty : Bool) (going : Going) (second : ℕ) (quiet : Bool) (end : End) (d : Dir) → IsAsked (after_emits first empty going second quiet) end d → IsAnyAsk end d
asked_emits first true Over second quiet end d k = k
asked_emits first true On second quiet end d k = ask_if quiet end d k
asked_emits first true StreamOver second quiet end d k = ask_if quiet end d k
asked_emits first true Unordered second quiet end d k = ask_if quiet end d k
asked_emits first false going second quiet end d k = ask_if quiet end d k

asked_report : (payload : ℕ) (quiet : Bool) (going : Going) (end : End) (d : Dir) → IsAsked (phase_after_report payload quiet going) end d → IsAnyAskIf quiet end d
asked_report payload quiet On end d k = k
asked_report payload quiet Over end d k = k
asked_report payload quiet StreamOver end d k = k
asked_report payload quiet Unordered end d k = k

asked_frame : (payload frame : ℕ) (other : Option ℕ) (quiet : Bool) (going : Going) (end : End) (d : Dir) → IsAsked (after_frame payload frame other quiet going) end d → IsAnyAskIf quiet end d
asked_frame payload frame (Some other) quiet On end d k = k
asked_frame payload frame (Some other) quiet Over end d k = k
asked_frame payload frame (Some other) quiet StreamOver end d k = k
asked_frame payload frame (Some other) quiet Unordered end d k = k
asked_frame payload frame None quiet On end d k = k
asked_frame payload frame None quiet Over end d k = k
asked_frame payload frame None quiet StreamOver end d k = k
asked_frame payload frame None quiet Unordered end d k = k

asked_reports : (quiet : Bool) (end : End) (d : Dir) → IsAsked (behind_reports quiet) end d → IsAnyAskIf quiet end d
asked_reports true end d k = k
asked_reports false end d k = k

-- ---- steps that bring no STREAM frame

module _ (p : Past) (old new : PairState) where
  quiet_poll : (who : End) (reply : Answer) → NextOrdinary old (steps.Poll who) reply new → IsQuiet p (after_poll p who reply) old.sent new.sent
  quiet_poll who reply n = record {
    ids = λ end id l. let P : List ℕ → Type 0 = λ ids. IsOneOf id ids in subst P (sym (poll_ids p who end reply)) l;
    accepted = adds-none new.sent p.accepted _ (beside p (steps.Poll who) reply tt).accepted;
    flow = λ end id. poll-grown p who end id reply;
    stay = stay_on_end old who new n;
  }

  quiet_read : (who : End) (id : ℕ) (ordered : Bool) (most times : ℕ) (reply : Answer) → NextOrdinary old (steps.Read who id ordered most times) reply new → IsQuiet p (past_read p who id ordered reply) old.sent new.sent
  quiet_read who id ordered most times reply n = record {
    ids = λ end q l. let P : List ℕ → Type 0 = λ ids. IsOneOf q ids in subst P (sym (read_ids p who end id ordered reply)) l;
    accepted = adds-none new.sent p.accepted _ (beside p (steps.Read who id ordered most times) reply tt).accepted;
    flow = λ end q. read-grown p who end id q ordered reply;
    stay = stay_on_end old who new n;
  }

  quiet_noted : (number : ℕ) (kind : Report) (reply : Answer) → StaySent old.sent new.sent → IsQuiet p (after_report p number kind reply) old.sent new.sent
  quiet_noted number kind (Ok Done) stay = record { ids = λ end id l. l; accepted = adds-none new.sent p.accepted p.accepted refl; flow = λ end id. grown-one (p.flow end id); stay = stay }
  quiet_noted number kind (Err NoMemory) stay = record { ids = λ end id l. l; accepted = adds-none new.sent p.accepted p.accepted refl; flow = λ end id. grown-one (p.flow end id); stay = stay }
  quiet_noted number kind _ stay = quiet-stay p old.sent new.sent stay

  quiet_lost : (number : ℕ) (reply : Answer) → SettlesPayload Lost LosesPayloadAt old number reply new → IsQuiet p (after_report p number Lost reply) old.sent new.sent
  quiet_lost number reply e = quiet_noted number Lost reply (stay-reported old new Lost LosesPayloadAt number reply e)

  quiet_acked : (number : ℕ) (reply : Answer) → SettlesPayload Acknowledged AcksPayloadAt old number reply new → IsQuiet p (after_report p number Acknowledged reply) old.sent new.sent
  quiet_acked number reply e = quiet_noted number Acknowledged reply (stay-reported old new Acknowledged AcksPayloadAt number reply e)

  quiet_deliver : (number index : ℕ) (reply : Answer) → NextOrdinary old (steps.Deliver number index) reply new → IsStreamless old.sent number → IsQuiet p (after_deliver p (number, index) reply) old.sent new.sent
  quiet_deliver number index reply n none =
      let stay = stay-delivered old new number index reply n in
      record {
        ids = λ end id l. let P : List ℕ → Type 0 = λ ids. IsOneOf id ids in subst P (sym (deliver-ids p (number, index) reply end)) l;
        accepted = adds-accepted p new.sent (number, index) (streamless-stays old.sent new.sent number stay none) reply;
        flow = λ end id. subst (IsGrownFlow (p.flow end id)) (sym (deliver-flow p (number, index) reply end id)) (grown-one (p.flow end id));
        stay = stay;
      }

-- ---- all phases

-- before a phase all that was asked for was accepted
abbrev pub HasAsked : Origin → Origin → Phase → Past → List Sent → Type 0
HasAsked a b at p sent = (end : End) (d : Dir) → IsAsked at end d → WasAcceptedAll a b p sent end d

module _ (a b : Origin) where
  asks_on : (p q : Past) (sent more : List Sent) (at later : Phase) → IsQuiet p q sent more → ((end : End) (d : Dir) → IsAsked later end d → IsAsked at end d) → HasAsked a b at p sent → HasAsked a b later q more
  asks_on p q sent more at later quiet same r end d k = accepted-still a b p q sent more end d quiet (r end d (same end d k))

  asks_none : (at : Phase) (p : Past) (sent : List Sent) → ((end : End) (d : Dir) → IsAsked at end d → ⊥) → HasAsked a b at p sent
  asks_none at p sent none end d k = absurd (none end d k)

  module _ (h : History) (old new : PairState) (f : EraFrom a b h old) where
    accept_ended : (who : End) (dir : Dir) (reply : Answer) → NextOrdinary old (steps.Accept who dir) reply new → (going_of reply ≡ Some On → ⊥) → HasAsked a b (phase.Accept who dir) (past_of h) old.sent → HasAsked a b (after_accepting who dir) (after_given (past_of h) who reply) new.sent
    accept_ended who dir reply n other r end d k =
        let quiet = quiet-given (past_of h) old.sent new.sent who reply (stay_on_end old who new n) in
        elim (asked_behind who dir end d k) [
          | inl before ↦ accepted-still a b (past_of h) (after_given (past_of h) who reply) old.sent new.sent end d quiet (r end d before)
          | inr now ↦ elim (nothing-accepted (the_end old who).streams dir reply n.does.reply_is) [
            | inl on ↦ absurd (other on)
            | inr all ↦ (
                let P : End → Type 0 = λ e. WasAcceptedAll a b (after_given (past_of h) who reply) new.sent e d in
                let Q : Dir → Type 0 = λ e. WasAcceptedAll a b (after_given (past_of h) who reply) new.sent who e in
                subst P (sym now.0) (subst Q (sym now.1) (record { h = h; v = old; led = f; all = all; quiet = quiet }))
                )
          ]
        ]

    asks_accept : (who : End) (dir : Dir) (going : Going) (reply : Answer) → NextOrdinary old (steps.Accept who dir) reply new → going_of reply ≡ Some going → HasAsked a b (phase.Accept who dir) (past_of h) old.sent → HasAsked a b (after_accept who dir going) (after_given (past_of h) who reply) new.sent
    asks_accept who dir On reply n e r = asks_on (past_of h) (after_given (past_of h) who reply) old.sent new.sent (phase.Accept who dir) (phase.Accept who dir) (quiet-given (past_of h) old.sent new.sent who reply (stay_on_end old who new n)) (λ end d k. k) r
    asks_accept who dir Over reply n e r = accept_ended who dir reply n (λ on. let c = sym e ∙ on in cc) r
    asks_accept who dir StreamOver reply n e r = accept_ended who dir reply n (λ on. let c = sym e ∙ on in cc) r
    asks_accept who dir Unordered reply n e r = accept_ended who dir reply n (λ on. let c = sym e ∙ on in cc) r

    -- all stays accepted behind frames of a quiet round, and nothing is said behind others
    asks_frame : (payload frame : ℕ) (other : Option ℕ) (quiet : Bool) (going : Going) (reply : Answer) → NextOrdinary old (steps.Deliver payload frame) reply new → IsStreamlessIf quiet old.sent payload → HasAsked a b (phase.Deliver payload frame other quiet) (past_of h) old.sent → HasAsked a b (after_frame payload frame other quiet going) (after_deliver (past_of h) (payload, frame) reply) new.sent
    asks_frame payload frame other true going reply n none r =
        asks_on (past_of h) (after_deliver (past_of h) (payload, frame) reply) old.sent new.sent (phase.Deliver payload frame other true) (after_frame payload frame other true going) (quiet_deliver (past_of h) old new payload frame reply n none) (asked_frame payload frame other true going) r
    asks_frame payload frame other false going reply n none r = asks_none (after_frame payload frame other false going) _ new.sent (asked_frame payload frame other false going)

    asks_after : (at : Phase) (reply : Answer) → NextOrdinary old (step_at at) reply new → (going : Going) → going_of reply ≡ Some going → IsReadyFor at old → HasAsked a b at (past_of h) old.sent → HasAsked a b (phase_after at going (length old.sent) (is_quiet_at new.sent (length old.sent))) (after (past_of h) (step_at at) reply) new.sent
    asks_after (phase.Report payload quiet) reply n going e ready r =
        asks_on (past_of h) _ old.sent new.sent (phase.Report payload quiet) (phase_after_report payload quiet going) (quiet_acked (past_of h) old new payload reply n) (asked_report payload quiet going) r
    asks_after (phase.ReportLost payload quiet) reply n going e ready r =
        asks_on (past_of h) _ old.sent new.sent (phase.ReportLost payload quiet) (phase.Report payload quiet) (quiet_lost (past_of h) old new payload reply n) (λ end d k. k) r
    asks_after (phase.Accept who dir) reply n going e ready r = asks_accept who dir going reply n e r
    asks_after (phase.Read who id ordered) reply n going e ready r =
        asks_on (past_of h) _ old.sent new.sent (phase.Read who id ordered) (after_reading who id ordered going) (quiet_read (past_of h) old new who id ordered (2 ^ 64 - 1) 65535 reply n) (asked_reading who id ordered going) r
    asks_after (phase.Poll who) reply n going e ready r = asks_on (past_of h) _ old.sent new.sent (phase.Poll who) (after_polling who going) (quiet_poll (past_of h) old new who reply n) (asked_polling who going) r
    asks_after phase.EmitOfA reply n going e ready r =
        asks_on (past_of h) (past_of h) old.sent new.sent phase.EmitOfA (phase.EmitOfB (length old.sent) (is_nothing_more going) (is_quiet_at new.sent (length old.sent))) (quiet-stay (past_of h) old.sent new.sent (stay-emitted old new A (2 ^ 64 - 1) true reply (emitted-some old new A (2 ^ 64 - 1) true reply n))) (λ end d k. k) r
    asks_after (phase.EmitOfB first empty quiet) reply n going e ready r =
        let both = quiet && is_quiet_at new.sent (length old.sent) in
        asks_on (past_of h) (past_of h) old.sent new.sent (phase.EmitOfB first empty quiet) (after_emits first empty going (length old.sent) both) (quiet-stay (past_of h) old.sent new.sent (stay-emitted old new B (2 ^ 64 - 1) true reply (emitted-some old new B (2 ^ 64 - 1) true reply n))) (asked_emits first empty going (length old.sent) both) r
    asks_after (phase.Deliver payload frame other quiet) reply n going e ready r = asks_frame payload frame other quiet going reply n ready.0 r
    asks_after (phase.Drop first) reply n going e ready r = asks_on (past_of h) _ old.sent new.sent (phase.Drop first) (phase.Drop first) (quiet_lost (past_of h) old new first reply n) (λ end d k. k) r

  asks_sought : (at here : Phase) (p : Past) (sent : List Sent) → IsSoughtFor sent at here → HasAsked a b at p sent → HasAsked a b here p sent
  asks_sought (phase.Report from quiet) here p sent s r =
      let P : Phase → Type 0 = λ x. HasAsked a b x p sent in
      elim s [
        | inl next_one ↦ subst P (sym next_one.2) r
        | inr none ↦ subst P (sym none.1) (λ end d k. r end d (asked_reports quiet end d k))
      ]
  asks_sought (phase.Drop first) here p sent s r =
      let P : Phase → Type 0 = λ x. HasAsked a b x p sent in
      elim s [
        | inl next_one ↦ subst P (sym next_one.2) r
        | inr other ↦ subst P (sym other.2) r
      ]
  asks_sought (phase.ReportLost payload quiet) here p sent s r = let P : Phase → Type 0 = λ x. HasAsked a b x p sent in subst P (sym s) r
  asks_sought (phase.Accept who dir) here p sent s r = let P : Phase → Type 0 = λ x. HasAsked a b x p sent in subst P (sym s) r
  asks_sought (phase.Read who id ordered) here p sent s r = let P : Phase → Type 0 = λ x. HasAsked a b x p sent in subst P (sym s) r
  asks_sought (phase.Poll who) here p sent s r = let P : Phase → Type 0 = λ x. HasAsked a b x p sent in subst P (sym s) r
  asks_sought phase.EmitOfA here p sent s r = let P : Phase → Type 0 = λ x. HasAsked a b x p sent in subst P (sym s) r
  asks_sought (phase.EmitOfB first empty quiet) here p sent s r = let P : Phase → Type 0 = λ x. HasAsked a b x p sent in subst P (sym s) r
  asks_sought (phase.Deliver payload frame other quiet) here p sent s r = let P : Phase → Type 0 = λ x. HasAsked a b x p sent in subst P (sym s) r

-- each phase finds accepted what was asked for
pub asks-phases : (a b : Origin) (h : History) (old : PairState) (taken : History) (new : PairState) (at : Phase) → EraFrom a b h old → FollowsPhases old (phase.Report 0 false) taken new at → HasAsked a b at (past_of (h ++ taken)) new.sent
asks-phases a b h old _ _ _ f follows_none = asks_none a b (phase.Report 0 false) (past_of (h ++ [])) old.sent (λ end d k. k)
asks-phases a b h old _ _ _ f (follows_more {taken} {between} {new} {at} here reply going before sought n e) =
    let r = asks-phases a b h old taken between at f before in
    let g = ready-phases a b h old taken between at f before in
    let later = phase_after here going (length between.sent) (is_quiet_at new.sent (length between.sent)) in
    let P : Past → Type 0 = λ x. HasAsked a b later x new.sent in
    let asked = subst P (sym (past-after (h ++ taken) (step_at here) reply)) (asks_after a b (h ++ taken) between new g.led here reply (ordinary-at here between new reply n) going e (ready-sought at here between g.ready sought) (asks_sought a b at here (past_of (h ++ taken)) between.sent sought r)) in
    subst (λ l. HasAsked a b later (past_of l) new.sent) (append_assoc h taken ((step_at here, reply) ∷ [])) asked
