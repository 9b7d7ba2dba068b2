-- What the calls of an end tell of what it sends is what a tale says.
use Rattle.std.proofs.Common.{◌≡◌, ℕ, Bool, true, false, List, ◌∷◌, Option, Some, None, refl, sym, ap, ◌∙◌, subst, arith}
use Rattle.std.specs.Prelude.{◌==◌, ◌&&◌, ◌+◌, max, ◌≤◌, nat_lt, if◌then◌else◌, unwrap_or}
use Rattle.std.proofs.lemmas.Bool.Decides.{nat_tests}
use Rattle.quic_values.specs.declared.ids.Dir.{Dir}
use Rattle.quic_values.specs.declared.ids.Dir.TheVariants.{Bi, Uni}
use Rattle.quic_values.specs.Ids.{dir_of, index_of}
use Rattle.quic_sending.specs.declared.send.Send.{Send}
use Rattle.quic_flows.specs.Flow.{SendFlow, SendMove, with_send_move}
use Rattle.quic_outgoing.specs.Senders.{is_local}
use Rattle.quic_history.specs.World.{World, Made}
use Rattle.quic_history.specs.Flows.{has_send_side, has_side_in, is_answered_on, send_moved}
use Rattle.quic_history.specs.History.{Event, Step, Fits, From, flow, since, send_tale, moved_streams, taken_in_all, taken_by, greatest_limit, limit_by, last_send_window, send_window_in, opened_in_all, opens_by, greatest_count, count_by, send_move_of, limits_in, joint_move_of, with_stream}
use Rattle.quic_history.specs.Early.{begins_anew}
use Rattle.quic_history.proofs.Histories.{next}
use Rattle.quic_history.proofs.SendSides.{held-side}
use Rattle.quic_history.proofs.FlowHistory.{known-by}
use Rattle.quic_link.proofs.Basics.{same_id}
use Rattle.quic_link.proofs.Ends.{ArePlain}
use Rattle.quic_exchange.specs.Tale.{Tale, with_deed}

-- the calls tell what a tale says
pub record TellsSo (m : Made) (calls : List Event) (t : Tale) : Type 0 where
  pub flow_is : (q : ℕ) → flow m calls q ≡ t.flow q
  pub streams_are : moved_streams calls ≡ t.streams
  pub written_is : taken_in_all calls ≡ t.written
  pub limit_is : greatest_limit calls ≡ t.limit
  pub window_is : last_send_window m.send_window calls ≡ t.send_window
  pub opened_are : (d : Dir) → opened_in_all calls d ≡ t.opened d
  pub counts_are : (d : Dir) → greatest_count calls d ≡ t.count d

-- an end came from such calls
pub record Counted (m : Made) (w : World) (t : Tale) : Type 0 where
  pub calls : List Event
  pub from : From m calls w
  pub plain : ArePlain calls
  pub tells : TellsSo m calls t

-- ---- calls that tell nothing

pub record IsUntold (e : Event) : Type 0 where
  pub move : send_move_of e ≡ None
  pub limits : limits_in e ≡ None
  pub joint : joint_move_of e ≡ None
  pub taken : taken_by e ≡ 0
  pub limit : limit_by e ≡ 0
  pub window : send_window_in e ≡ None
  pub opens : (d : Dir) → opens_by e d ≡ 0
  pub counts : (d : Dir) → count_by e d ≡ 0

plus_none : (a b c : ℕ) → b ≡ 0 → a ≡ c → a + b ≡ c
plus_none a b c k e = omega arith

max_none : (a b c : ℕ) → b ≡ 0 → a ≡ c → max a b ≡ c
max_none a b c k e = omega arith

window_none : (o : Option ℕ) (a b : ℕ) → o ≡ None → a ≡ b → unwrap_or o a ≡ b
window_none o a b k e = rw k e

pub tells-untold : (m : Made) (h : List Event) (e : Event) (t : Tale) → IsUntold e → TellsSo m h t → TellsSo m (e ∷ h) t
tells-untold m h e t u k = record {
  flow_is = λ q. let a : flow m (e ∷ h) q ≡ flow m h q = rw (u.joint, u.move, u.limits) refl in a ∙ k.flow_is q;
  streams_are = let a : moved_streams (e ∷ h) ≡ moved_streams h = rw u.move refl in a ∙ k.streams_are;
  written_is = plus_none (taken_in_all h) (taken_by e) t.written u.taken k.written_is;
  limit_is = max_none (greatest_limit h) (limit_by e) t.limit u.limit k.limit_is;
  window_is = window_none (send_window_in e) (last_send_window m.send_window h) t.send_window u.window k.window_is;
  opened_are = λ d. plus_none (opened_in_all h d) (opens_by e d) (t.opened d) (u.opens d) (k.opened_are d);
  counts_are = λ d. max_none (greatest_count h d) (count_by e d) (t.count d) (u.counts d) (k.counts_are d);
}

pub counted-untold : (m : Made) (w v : World) (t : Tale) (e : Event) → IsUntold e → ((h : List Event) → Fits h e) → Counted m w t → Step w e v → Counted m v t
counted-untold m w v t e u fits c s = record { calls = e ∷ c.calls; from = next m c.calls w e v (fits c.calls) c.from s; plain = (ap begins_anew u.joint, c.plain); tells = tells-untold m c.calls e t u c.tells }

-- ---- calls that do something on the sending side of a stream

pub record IsDeed (e : Event) (id : ℕ) (move : SendMove) (count : ℕ) : Type 0 where
  pub move_is : send_move_of e ≡ Some (id, move)
  pub limits : limits_in e ≡ None
  pub joint : joint_move_of e ≡ None
  pub taken : taken_by e ≡ count
  pub limit : limit_by e ≡ 0
  pub window : send_window_in e ≡ None
  pub opens : (d : Dir) → opens_by e d ≡ 0
  pub counts : (d : Dir) → count_by e d ≡ 0

-- which streams have a sending side, as calls tell
abbrev pub sides_told : Made → List Event → ℕ → Bool
sides_told m h q = has_send_side m.side (opened_in_all (since h)) (send_tale m h).may_open q

pub sides-known : {m : Made} {w : World} {t : Tale} (c : Counted m w t) (id : ℕ) → has_side_in w.out w.bi.max_remote id ≡ true → sides_told m c.calls id ≡ true
sides-known {m} {w} c id there = known-by m c.calls w c.from.side c.from.sends.may_open c.from.sent id ∙ there

-- a stream of which the half is held has one
pub side-held : {m : Made} {w : World} {t : Tale} (c : Counted m w t) (id : ℕ) (s : Send) → w.out.halves id ≡ Some s → has_side_in w.out w.bi.max_remote id ≡ true
side-held {m} {w} c id s held = held-side _ _ (has_side_in w.out w.bi.max_remote id) s (w.out.halves id) held (c.from.sends.flows id)

moved_as : (id : ℕ) (move : SendMove) (there : ℕ → Bool) (q : ℕ) (f g : SendFlow) → there id ≡ true → f ≡ g → send_moved (Some (id, move)) there q f ≡ (if q == id then with_send_move move g else g)
moved_as id move there q f g k e = by_id (q == id) (there q) refl (λ i. ap there (same_id q id i) ∙ k)
  where
    by_id : (a b : Bool) → (q == id) ≡ a → (a ≡ true → b ≡ true) → (if a && b then with_send_move move f else f) ≡ (if a then with_send_move move g else g)
    by_id true b i l = rw (l refl) (ap (with_send_move move) e)
    by_id false b i l = e

more_written : (a b c n : ℕ) → b ≡ n → a ≡ c → a + b ≡ c + n
more_written a b c n k e = omega arith

pub tells-deed : (m : Made) (h : List Event) (e : Event) (t : Tale) (id : ℕ) (move : SendMove) (count : ℕ) → IsDeed e id move count → sides_told m h id ≡ true → TellsSo m h t → TellsSo m (e ∷ h) (record (with_deed id move t) { written = t.written + count })
tells-deed m h e t id move count d there k = record {
  flow_is = λ q. let a : flow m (e ∷ h) q ≡ send_moved (Some (id, move)) (sides_told m h) q (flow m h q) = rw (d.joint, d.move_is, d.limits) refl in
      a ∙ moved_as id move (sides_told m h) q (flow m h q) (t.flow q) there (k.flow_is q);
  streams_are = let a : moved_streams (e ∷ h) ≡ with_stream id (moved_streams h) = rw d.move_is refl in a ∙ ap (with_stream id) k.streams_are;
  written_is = more_written (taken_in_all h) (taken_by e) t.written count d.taken k.written_is;
  limit_is = max_none (greatest_limit h) (limit_by e) t.limit d.limit k.limit_is;
  window_is = window_none (send_window_in e) (last_send_window m.send_window h) t.send_window d.window k.window_is;
  opened_are = λ q. plus_none (opened_in_all h q) (opens_by e q) (t.opened q) (d.opens q) (k.opened_are q);
  counts_are = λ q. max_none (greatest_count h q) (count_by e q) (t.count q) (d.counts q) (k.counts_are q);
}

pub counted-taken : (m : Made) (w v : World) (t : Tale) (e : Event) (id : ℕ) (move : SendMove) (count : ℕ) → IsDeed e id move count → ((h : List Event) → Fits h e) → has_side_in w.out w.bi.max_remote id ≡ true → Counted m w t → Step w e v
    → Counted m v (record (with_deed id move t) { written = t.written + count })
counted-taken m w v t e id move count d fits there c s = record {
  calls = e ∷ c.calls;
  from = next m c.calls w e v (fits c.calls) c.from s;
  plain = (ap begins_anew d.joint, c.plain);
  tells = tells-deed m c.calls e t id move count d (sides-known c id there) c.tells;
}

none_more : (n : ℕ) → n + 0 ≡ n
none_more n = omega arith

pub counted-deed : (m : Made) (w v : World) (t : Tale) (e : Event) (id : ℕ) (move : SendMove) → IsDeed e id move 0 → ((h : List Event) → Fits h e) → has_side_in w.out w.bi.max_remote id ≡ true → Counted m w t → Step w e v → Counted m v (with_deed id move t)
counted-deed m w v t e id move d fits there c s =
    let P : ℕ → Type 0 = λ n. Counted m v (record (with_deed id move t) { written = n }) in
    subst P (none_more t.written) (counted-taken m w v t e id move 0 d fits there c s)

-- ---- these calls

-- an end came from calls that tell what a tale says
pub record CountedBy (m : Made) (h : List Event) (w : World) (t : Tale) : Type 0 where
  pub from : From m h w
  pub plain : ArePlain h
  pub tells : TellsSo m h t

pub counted-by : {m : Made} {h : List Event} {w : World} {t : Tale} → CountedBy m h w t → Counted m w t
counted-by {m} {h} k = record { calls = h; from = k.from; plain = k.plain; tells = k.tells }

pub by-counted : {m : Made} {w : World} {t : Tale} (c : Counted m w t) → CountedBy m c.calls w t
by-counted c = record { from = c.from; plain = c.plain; tells = c.tells }

pub by-untold : (m : Made) (h : List Event) (w v : World) (t : Tale) (e : Event) → IsUntold e → Fits h e → CountedBy m h w t → Step w e v → CountedBy m (e ∷ h) v t
by-untold m h w v t e u fits c s = record { from = next m h w e v fits c.from s; plain = (ap begins_anew u.joint, c.plain); tells = tells-untold m h e t u c.tells }

pub counted-at : {m : Made} {w : World} {t : Tale} (v : World) → v ≡ w → Counted m w t → Counted m v t
counted-at {m} {w} {t} v e c = let P : World → Type 0 = λ u. Counted m u t in subst P (sym e) c

-- ---- streams that have a sending side keep it

opened_before : (h : List Event) (e : Event) (d : Dir) → joint_move_of e ≡ None → opened_in_all (since h) d ≤ opened_in_all (since (e ∷ h)) d
opened_before h e d p = rw p (omega arith)

side_before : (local : Bool) (d : Dir) (i o p may most : ℕ) → o ≤ p → may ≤ most → (if local then nat_lt i o else is_answered_on d may i) ≡ true → (if local then nat_lt i p else is_answered_on d most i) ≡ true
side_before true d i o p may most l n k = grind (arith, nat_tests)
side_before false Bi i o p may most l n k = grind (arith, nat_tests)
side_before false Uni i o p may most l n k = k

pub sides-stay : (m : Made) (h : List Event) (e : Event) (id : ℕ) → joint_move_of e ≡ None → sides_told m h id ≡ true → sides_told m (e ∷ h) id ≡ true
sides-stay m h e id p k =
    side_before (is_local m.side id) (dir_of id) (index_of id) (opened_in_all (since h) (dir_of id)) (opened_in_all (since (e ∷ h)) (dir_of id)) (send_tale m h).may_open (send_tale m (e ∷ h)).may_open
    (opened_before h e (dir_of id) p) (omega arith) k

pub by-deed : (m : Made) (h : List Event) (w v : World) (t : Tale) (e : Event) (id : ℕ) (move : SendMove) → IsDeed e id move 0 → Fits h e → sides_told m h id ≡ true → CountedBy m h w t → Step w e v → CountedBy m (e ∷ h) v (with_deed id move t)
by-deed m h w v t e id move d fits there c s =
    let P : ℕ → Type 0 = λ n. CountedBy m (e ∷ h) v (record (with_deed id move t) { written = n }) in
    subst P (none_more t.written) (record { from = next m h w e v fits c.from s; plain = (ap begins_anew d.joint, c.plain); tells = tells-deed m h e t id move 0 d there c.tells })

pub by-at : {m : Made} {h : List Event} {w : World} {t : Tale} (v : World) → v ≡ w → CountedBy m h w t → CountedBy m h v t
by-at {m} {h} {w} {t} v e c = let P : World → Type 0 = λ u. CountedBy m h u t in subst P (sym e) c
