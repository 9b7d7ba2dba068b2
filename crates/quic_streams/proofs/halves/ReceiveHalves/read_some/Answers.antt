use Rattle.std.proofs.Common.{rules, ◌≡◌, ◌∙◌, ap, Some, Err}
use Rattle.std.specs.Option.{IfSome, IfNone}
use Rattle.quic_history.proofs.HalfMaps.{half-there}
use Rattle.quic_streams.specs.Held.{halves_view, half_in}
use Rattle.quic_streams.proofs.HeldMaps.{held-put}
use Rattle.quic_streams.proofs.InPlace.{asks-in}
use Rattle.quic_streams.proofs.Results.{map_ok, map_err}
use Rattle.quic_streams.proofs.halves.ReceiveHalves.read_some.Goals as goal

pub returns-in-Some-clause-reads : goal.returns-in-Some-clause-reads
unfolding halves_view
returns-in-Some-clause-reads c =
    let w = c.args.self.now.window in
    let moved = held-put w _ _ c.args.id _ ((c.get_mut.follows.holds c.read_some_on.new.entry).3 (search rules)).0 in
    let there : halves_view c.args.self.now c.args.id ≡ Some (half_in w c.in-Some.entry.now) = search rules in
    map_ok _ _ c.read_some_on.result
    (λ r reads. record { old = half_in w c.in-Some.entry.now; new = half_in w c.read_some_on.new.entry; half = there; reads = reads; is = moved })
    c.read_some_on.ensures.reads

pub returns-in-Some-clause-due : goal.returns-in-Some-clause-due
unfolding halves_view
returns-in-Some-clause-due c =
    let w = c.args.self.now.window in
    let moved = held-put w _ _ c.args.id _ ((c.get_mut.follows.holds c.read_some_on.new.entry).3 (search rules)).0 in
    let here = ap (λ f. f c.args.id) moved ∙ half-there (halves_view c.args.self.now) c.args.id (Some (half_in w c.read_some_on.new.entry)) in
    map_ok _ _ c.read_some_on.result (λ r due. rw here due) c.read_some_on.ensures.due

pub returns-in-Some-clause-refused : goal.returns-in-Some-clause-refused
unfolding halves_view
returns-in-Some-clause-refused c =
    let w = c.args.self.now.window in
    let moved = held-put w _ _ c.args.id _ ((c.get_mut.follows.holds c.read_some_on.new.entry).3 (search rules)).0 in
    let there : halves_view c.args.self.now c.args.id ≡ Some (half_in w c.in-Some.entry.now) = search rules in
    map_err _ _ c.read_some_on.result
    (λ e asks. asks-in (halves_view c.args.self.now) _ c.args.id c.args.ordered (Err e) (half_in w c.in-Some.entry.now) (half_in w c.read_some_on.new.entry) there moved asks)
    c.read_some_on.ensures.refused
