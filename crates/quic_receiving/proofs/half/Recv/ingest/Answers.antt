use Rattle.std.proofs.Common.{◌≡◌, ◌+◌, length, rules, inr, refl}
use Rattle.quic_receiving.specs.Half.{Taken, verdict}
use Rattle.quic_receiving.proofs.Buffers.{inserted}
use Rattle.quic_receiving.proofs.Frames.{keeps, takes_frame}
use Rattle.quic_receiving.proofs.Sound.{sound_frame}
use Rattle.quic_receiving.proofs.half.Recv.ingest.Goals as goal
use Rattle.quic_receiving.specs.contracts.half.Recv.{the_view}

pub returns-in-Ok-clause-ingests : goal.returns-in-Ok-clause-ingests
returns-in-Ok-clause-ingests c =
    let e = c.in-Ok.ensures in
    let old = the_view c.self.inside in
    let new = c.insert.new.self in
    let f = c.args.frame in
    let s = c.count-in-Ok.ensures in
    let kept = inserted old.buffer new f.offset f.bytes e.kept e.done e.bytes_read e.ordered e.highest e.pieces e.pieces_unordered e.stale in
    let end : c.in_ok-end.end ≡ f.offset + length f.bytes = search rules in (
      search rules,
      search rules,
      search rules,
      rw (← c.self.view_is) (takes_frame old new f.offset f.bytes f.fin c.in_ok-end.end _ c.if-self.false end kept (rw (s.high, s.size, s.code) refl) e.few),
    )

pub invariant_of-self-in-Ok : goal.invariant_of-self-in-Ok
invariant_of-self-in-Ok c =
    let e = c.in-Ok.ensures in
    let old = the_view c.self.inside in
    let new = c.insert.new.self in
    let f = c.args.frame in
    let s = c.count-in-Ok.ensures in
    let kept = inserted old.buffer new f.offset f.bytes e.kept e.done e.bytes_read e.ordered e.highest e.pieces e.pieces_unordered e.stale in
    let end : c.in_ok-end.end ≡ f.offset + length f.bytes = search rules in
    let taken : verdict c.args.self.now f.offset (length f.bytes) f.fin c.args.received c.args.max_data ≡ Taken = search rules in
    rw (s.size, s.code, s.high)
    (sound_frame old new f.offset f.bytes f.fin c.in_ok-end.end c.args.received c.args.max_data c.self.invariant end (rw (← c.self.view_is) at taken) kept (search rules))

pub returns-in-Ok-clause-sound : goal.returns-in-Ok-clause-sound
returns-in-Ok-clause-sound c =
    let e = c.in-Ok.ensures in
    let old = the_view c.self.inside in
    let new = c.insert.new.self in
    let f = c.args.frame in
    let s = c.count-in-Ok.ensures in
    let kept = inserted old.buffer new f.offset f.bytes e.kept e.done e.bytes_read e.ordered e.highest e.pieces e.pieces_unordered e.stale in
    let end : c.in_ok-end.end ≡ f.offset + length f.bytes = search rules in
    let taken : verdict c.args.self.now f.offset (length f.bytes) f.fin c.args.received c.args.max_data ≡ Taken = search rules in
    rw (s.size, s.code, s.high)
    (sound_frame old new f.offset f.bytes f.fin c.in_ok-end.end c.args.received c.args.max_data c.self.invariant end (rw (← c.self.view_is) at taken) kept (search rules))

pub returns-in-Err-TooManyChunks-clause-ingests : goal.returns-in-Err-TooManyChunks-clause-ingests
returns-in-Err-TooManyChunks-clause-ingests c =
    let e = rw c.in-Err-TooManyChunks.field-0-is at c.in-Err-TooManyChunks.ensures in
    let old = the_view c.self.inside in
    let new = c.insert.new.self in
    let f = c.args.frame in
    let s = c.count-in-Err-TooManyChunks.ensures in
    let kept = inserted old.buffer new f.offset f.bytes e.kept e.done e.bytes_read e.ordered e.highest e.pieces e.pieces_unordered e.stale in
    let end : c.in_ok-end.end ≡ f.offset + length f.bytes = search rules in
    inr (
      search rules,
      c.internal_error-error.ensures.code,
      e.many refl,
      rw (← c.self.view_is) (λ t. let h = e.stale_ok t in cc),
      rw (← c.self.view_is) (keeps old new f.offset f.bytes f.fin c.in_ok-end.end _ c.if-self.false end kept (rw (s.high, s.size, s.code) refl)),
    )

pub invariant_of-self-in-Err-TooManyChunks : goal.invariant_of-self-in-Err-TooManyChunks
invariant_of-self-in-Err-TooManyChunks c =
    let e = rw c.in-Err-TooManyChunks.field-0-is at c.in-Err-TooManyChunks.ensures in
    let old = the_view c.self.inside in
    let new = c.insert.new.self in
    let f = c.args.frame in
    let s = c.count-in-Err-TooManyChunks.ensures in
    let kept = inserted old.buffer new f.offset f.bytes e.kept e.done e.bytes_read e.ordered e.highest e.pieces e.pieces_unordered e.stale in
    let end : c.in_ok-end.end ≡ f.offset + length f.bytes = search rules in
    let taken : verdict c.args.self.now f.offset (length f.bytes) f.fin c.args.received c.args.max_data ≡ Taken = search rules in
    rw (s.size, s.code, s.high)
    (sound_frame old new f.offset f.bytes f.fin c.in_ok-end.end c.args.received c.args.max_data c.self.invariant end (rw (← c.self.view_is) at taken) kept (search rules))

pub returns-in-Err-TooManyChunks-clause-sound : goal.returns-in-Err-TooManyChunks-clause-sound
returns-in-Err-TooManyChunks-clause-sound c =
    let e = rw c.in-Err-TooManyChunks.field-0-is at c.in-Err-TooManyChunks.ensures in
    let old = the_view c.self.inside in
    let new = c.insert.new.self in
    let f = c.args.frame in
    let s = c.count-in-Err-TooManyChunks.ensures in
    let kept = inserted old.buffer new f.offset f.bytes e.kept e.done e.bytes_read e.ordered e.highest e.pieces e.pieces_unordered e.stale in
    let end : c.in_ok-end.end ≡ f.offset + length f.bytes = search rules in
    let taken : verdict c.args.self.now f.offset (length f.bytes) f.fin c.args.received c.args.max_data ≡ Taken = search rules in
    rw (s.size, s.code, s.high)
    (sound_frame old new f.offset f.bytes f.fin c.in_ok-end.end c.args.received c.args.max_data c.self.invariant end (rw (← c.self.view_is) at taken) kept (search rules))

pub returns-in-Err-CompactionMemory-clause-ingests : goal.returns-in-Err-CompactionMemory-clause-ingests
returns-in-Err-CompactionMemory-clause-ingests c =
    let e = rw c.in-Err-CompactionMemory.field-0-is at c.in-Err-CompactionMemory.ensures in
    let old = the_view c.self.inside in
    let new = c.insert.new.self in
    let f = c.args.frame in
    let s = c.count-in-Err-CompactionMemory.ensures in
    let kept = inserted old.buffer new f.offset f.bytes e.kept e.done e.bytes_read e.ordered e.highest e.pieces e.pieces_unordered e.stale in
    let end : c.in_ok-end.end ≡ f.offset + length f.bytes = search rules in (
      search rules,
      rw (← c.self.view_is) (λ t. let h = e.stale_ok t in cc),
      rw (← c.self.view_is) (keeps old new f.offset f.bytes f.fin c.in_ok-end.end _ c.if-self.false end kept (rw (s.high, s.size, s.code) refl)),
    )

pub invariant_of-self-in-Err-CompactionMemory : goal.invariant_of-self-in-Err-CompactionMemory
invariant_of-self-in-Err-CompactionMemory c =
    let e = rw c.in-Err-CompactionMemory.field-0-is at c.in-Err-CompactionMemory.ensures in
    let old = the_view c.self.inside in
    let new = c.insert.new.self in
    let f = c.args.frame in
    let s = c.count-in-Err-CompactionMemory.ensures in
    let kept = inserted old.buffer new f.offset f.bytes e.kept e.done e.bytes_read e.ordered e.highest e.pieces e.pieces_unordered e.stale in
    let end : c.in_ok-end.end ≡ f.offset + length f.bytes = search rules in
    let taken : verdict c.args.self.now f.offset (length f.bytes) f.fin c.args.received c.args.max_data ≡ Taken = search rules in
    rw (s.size, s.code, s.high)
    (sound_frame old new f.offset f.bytes f.fin c.in_ok-end.end c.args.received c.args.max_data c.self.invariant end (rw (← c.self.view_is) at taken) kept (search rules))

pub returns-in-Err-CompactionMemory-clause-sound : goal.returns-in-Err-CompactionMemory-clause-sound
returns-in-Err-CompactionMemory-clause-sound c =
    let e = rw c.in-Err-CompactionMemory.field-0-is at c.in-Err-CompactionMemory.ensures in
    let old = the_view c.self.inside in
    let new = c.insert.new.self in
    let f = c.args.frame in
    let s = c.count-in-Err-CompactionMemory.ensures in
    let kept = inserted old.buffer new f.offset f.bytes e.kept e.done e.bytes_read e.ordered e.highest e.pieces e.pieces_unordered e.stale in
    let end : c.in_ok-end.end ≡ f.offset + length f.bytes = search rules in
    let taken : verdict c.args.self.now f.offset (length f.bytes) f.fin c.args.received c.args.max_data ≡ Taken = search rules in
    rw (s.size, s.code, s.high)
    (sound_frame old new f.offset f.bytes f.fin c.in_ok-end.end c.args.received c.args.max_data c.self.invariant end (rw (← c.self.view_is) at taken) kept (search rules))

pub returns-in-Ok-clause-accounts : goal.returns-in-Ok-clause-accounts
returns-in-Ok-clause-accounts c = let e = c.in-Ok.ensures in rw (← c.self.view_is) (λ s t. record { stale = e.stale_runs; settled = e.settled; many = e.runs })

pub returns-in-Err-TooManyChunks-clause-accounts : goal.returns-in-Err-TooManyChunks-clause-accounts
returns-in-Err-TooManyChunks-clause-accounts c =
    let e = rw c.in-Err-TooManyChunks.field-0-is at c.in-Err-TooManyChunks.ensures in
    rw (← c.self.view_is) (λ s t. record { stale = e.stale_runs; settled = e.settled; many = e.runs })

pub returns-in-Err-CompactionMemory-clause-accounts : goal.returns-in-Err-CompactionMemory-clause-accounts
returns-in-Err-CompactionMemory-clause-accounts c =
    let e = rw c.in-Err-CompactionMemory.field-0-is at c.in-Err-CompactionMemory.ensures in
    rw (← c.self.view_is) (λ s t. record { stale = e.stale_runs; settled = e.settled; many = e.runs })

pub returns-in-Err-OutOfMemory-clause-accounts : goal.returns-in-Err-OutOfMemory-clause-accounts
returns-in-Err-OutOfMemory-clause-accounts c =
    let e = rw c.in-Err-OutOfMemory.field-0-is at c.in-Err-OutOfMemory.ensures in
    rw (← c.self.view_is) (λ s t. record { stale = e.stale_runs; settled = e.settled; many = e.runs })
