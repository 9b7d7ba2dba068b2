-- What an end announced of a stream is no more than what was read of it and the window.
use Rattle.std.proofs.Common.{◌≡◌, ℕ, Bool, true, false, eqb, Option, Some, None, Ok, Err, refl, sym, subst, inl, arith, ◌+◌, ◌≤◌}
use Rattle.std.specs.Prelude.{◌==◌, if◌then◌else◌}
use Rattle.quic_wire.specs.declared.frame.Frame.TheVariants as frames
use Rattle.quic_receiving.specs.declared.errors.ReadError.TheVariants as read_error
use Rattle.quic_history.specs.World.{World}
use Rattle.quic_history.specs.History.{Event, Move, Framed, WasReset, WasRead, WasStopped, WasTold, WasAnnounced, Received, ReceivedReset, Gave, Stopped, ToldReset, LeftPending, Trace, move_of, moved, with_move, with_kept_frame, is_frame_kept, is_closed}
use Rattle.quic_history.proofs.Totals.{by_cases, same}
use Rattle.quic_link.specs.Endpoints.{LinkedEnd, MayAct, acted, came_on}
use Rattle.quic_link.proofs.Ends.{plain-call}
use Rattle.quic_link.proofs.TrueFrames.{AllTrue}

abbrev pub PermitsSo : LinkedEnd → Type 0
PermitsSo x = (q : ℕ) → (came_on x q).announced ≤ (came_on x q).read + x.made.window

abbrev IsWithin : ℕ → Trace → Type 0
IsWithin n t = t.announced ≤ t.read + n

within_if : (n : ℕ) (a b : Trace) (k : Bool) → IsWithin n a → IsWithin n b → IsWithin n (if k then a else b)
within_if n a b true g h = g
within_if n a b false g h = h

-- a move announces no more than that
abbrev AnnouncesWithin : ℕ → Move → Trace → Type 0
AnnouncesWithin n (WasAnnounced limit) t = limit ≤ t.read + n
AnnouncesWithin n _ t = Unit {0}

within_move : (n : ℕ) (m : Move) (t : Trace) → AnnouncesWithin n m t → IsWithin n t → IsWithin n (with_move m t)
within_move n (Framed offset bytes fin answer) t k l =
    within_if n (with_kept_frame offset bytes fin t) t (is_frame_kept answer) (within_if n t _ (is_closed t) l l) l
within_move n (WasReset code final) t k l = within_if n t _ (is_closed t) l l
within_move n (WasRead ordered (Ok (Some chunk))) t k l = omega arith
within_move n (WasRead ordered (Ok None)) t k l = l
within_move n (WasRead ordered (Err read_error.Blocked)) t k l = l
within_move n (WasRead ordered (Err (read_error.Reset code))) t k l = l
within_move n (WasRead ordered (Err read_error.OutOfMemory)) t k l = l
within_move n WasStopped t k l = l
within_move n WasTold t k l = l
within_move n (WasAnnounced limit) t k l = omega arith

abbrev MovesWithin : ℕ → Option (ℕ × Move) → (ℕ → Trace) → Type 0
MovesWithin n None f = Unit {0}
MovesWithin n (Some m) f = AnnouncesWithin n m.1 (f m.0)

within_moved : (n : ℕ) (o : Option (ℕ × Move)) (f : ℕ → Trace) (q : ℕ) → MovesWithin n o f → IsWithin n (f q) → IsWithin n (moved o q (f q))
within_moved n None f q k l = l
within_moved n (Some m) f q k l = by_cases (eqb q m.0)
    (λ e. let P : ℕ → Type 0 = λ i. AnnouncesWithin n m.1 (f i) in
    let at : AnnouncesWithin n m.1 (f q) = subst P (sym (same q m.0 e)) k in
    within_if n (with_move m.1 (f q)) (f q) (eqb q m.0) (within_move n m.1 (f q) at l) l)
    (λ e. rw e l)

module _ (x y : LinkedEnd) (v : World) where
  moves_within : (e : Event) → MayAct x y e v → AllTrue (acted x e v) → MovesWithin x.made.window (move_of e) (came_on x)
  moves_within (LeftPending kind (Some (frames.MaxStreamData id limit))) a t = read_before (t (frames.MaxStreamData id limit) (inl refl)).1
    where
      same_read : (came_on (acted x (LeftPending kind (Some (frames.MaxStreamData id limit))) v) id).read ≡ (came_on x id).read
      same_read = if_read (id == id)
        where
          if_read : (b : Bool) → (if b then with_move (WasAnnounced limit) (came_on x id) else came_on x id).read ≡ (came_on x id).read
          if_read true = refl
          if_read false = refl

      read_before : limit ≤ (came_on (acted x (LeftPending kind (Some (frames.MaxStreamData id limit))) v) id).read + x.made.window → limit ≤ (came_on x id).read + x.made.window
      read_before k = rw same_read at k
  moves_within (Received id offset bytes fin answer) a t = tt
  moves_within (ReceivedReset id code final (Ok transmit)) a t = tt
  moves_within (ReceivedReset id code final (Err error)) a t = tt
  moves_within (Gave id most ordered answer) a t = tt
  moves_within (Stopped id code (Ok u)) a t = tt
  moves_within (Stopped id code (Err error)) a t = tt
  moves_within (ToldReset id (Ok (Some code))) a t = tt
  moves_within _ a t = tt

  pub permits-acted : (e : Event) → MayAct x y e v → AllTrue (acted x e v) → PermitsSo x → PermitsSo (acted x e v)
  permits-acted e a t p = λ q. rw (plain-call x y e a.honest) (within_moved x.made.window (move_of e) (came_on x) q (moves_within e a t) (p q))
