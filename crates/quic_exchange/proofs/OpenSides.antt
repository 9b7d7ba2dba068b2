-- Streams that frames speak of have a sending side at the end that sends on them.
use Rattle.std.proofs.Common.{◌≡◌, ℕ, Bool, true, false, refl, sym, ap, ◌∙◌, subst, arith, ◌<◌, ◌≤◌}
use Rattle.std.specs.Prelude.{not, nat_lt, if◌then◌else◌}
use Rattle.std.proofs.lemmas.Bool.Decides.{nat_tests}
use Rattle.quic_values.specs.declared.ids.Side.{Side}
use Rattle.quic_values.specs.declared.ids.Dir.{Dir}
use Rattle.quic_values.specs.declared.ids.Dir.TheVariants.{Bi, Uni}
use Rattle.quic_values.specs.Ids.{dir_of, index_of}
use Rattle.quic_outgoing.specs.Outgoing.{own_of}
use Rattle.quic_outgoing.specs.Senders.{is_local}
use Rattle.quic_history.specs.World.{remote_of}
use Rattle.quic_history.specs.Flows.{has_side_in, is_answered_on}
use Rattle.quic_history.specs.History.{opened_in_all}
use Rattle.quic_link.specs.Endpoints.{LinkedEnd, WasStoppedWith}
use Rattle.quic_link.proofs.Directed.{StopsBoth}
use Rattle.quic_link.proofs.Joint.{Agrees}
use Rattle.quic_link.proofs.Opens.{local-other, OpenBy, IsOpenAt, SendsOn, ReceivesOn, open-turned, opened-is}

-- ---- streams that are open have a sending side

-- as their ids say
abbrev has_side_by : Bool → ℕ → Dir → ℕ → ℕ → Bool
has_side_by own opened d may i = if own then nat_lt i opened else is_answered_on d may i

side_by : (own : Bool) (a c : Dir → ℕ) (opened may id : ℕ) → OpenBy own a c id → (own ≡ true → opened ≡ a (dir_of id)) → (own ≡ false → (dir_of id ≡ Bi) × (c (dir_of id) ≤ may)) → has_side_by own opened (dir_of id) may (index_of id) ≡ true
side_by true a c opened may id o l m = let e = l refl in grind (arith, nat_tests)
side_by false a c opened may id o l m = let e = m refl in let n = e.1 in rw e.0 (below (index_of id) may (omega arith))
  where
    below : (i n : ℕ) → i < n → nat_lt i n ≡ true
    below i n h = grind (arith, nat_tests)

module _ (x y : LinkedEnd) (s : Agrees x y) (r : Agrees y x) where
  opened_most : (d : Dir) → opened_in_all y.calls d ≤ (remote_of x.world d).max_remote
  opened_most d =
      let f = r.comes in
      let a = f.sent.opened d in
      let b = f.sent.counted d in
      let c = f.sent.few d in
      let e = r.ids.counts d in
      omega arith

  pub side-open : (id : ℕ) → IsOpenAt x y id → (is_local x.made.side id ≡ false → dir_of id ≡ Bi) → has_side_in x.world.out x.world.bi.max_remote id ≡ true
  side-open id o both =
      let f = s.comes in
      let P : Side → Type 0 = λ side. has_side_by (is_local side id) (own_of x.world.out (dir_of id)).opened (dir_of id) x.world.bi.max_remote (index_of id) ≡ true in
      subst P (sym f.side)
      (side_by (is_local x.made.side id) (opened_in_all x.calls) (opened_in_all y.calls) (own_of x.world.out (dir_of id)).opened x.world.bi.max_remote id o (λ e. opened-is x (dir_of id) f) (λ e. (both e, most (dir_of id) (both e))))
    where
      most : (d : Dir) → d ≡ Bi → opened_in_all y.calls d ≤ x.world.bi.max_remote
      most Bi e = opened_most Bi
      most Uni e = cc

  -- x wrote a frame that says that it sends on the stream
  pub side-sends : (id : ℕ) → SendsOn x y id → has_side_in x.world.out x.world.bi.max_remote id ≡ true
  side-sends id o = side-open id o.opened o.both_ways

  -- y wrote one that says that it receives on it
  pub side-receives : (id : ℕ) → ReceivesOn y x id → has_side_in x.world.out x.world.bi.max_remote id ≡ true
  side-receives id o = side-open id (open-turned y x id r.other o.opened) (λ e. o.both_ways (local-other x.made.side y.made.side id s.other ∙ ap not e))

  -- y wrote one that stops it
  pub side-stopped : (id : ℕ) → StopsBoth y → IsOpenAt y x id → (code : ℕ) → WasStoppedWith y.calls id code → has_side_in x.world.out x.world.bi.max_remote id ≡ true
  side-stopped id k o code h = side-open id (open-turned y x id r.other o) (λ e. k id code h (local-other x.made.side y.made.side id s.other ∙ ap not e))
