use Rattle.std.proofs.Common.{sym, ◌∙◌, ap}
use Rattle.quic_ranges.specs.Runs.{contains}
use Rattle.quic_ranges.proofs.Entries.{contains_last, contains_none}
use Rattle.quic_ranges.proofs.range_set.RangeSet.contains.Goals as goal

pub returns-in-Some : goal.returns-in-Some
returns-in-Some c =
    sym (contains_last 0 _ c.in-Some.end c.args.number c.self.inside.runs.items c.self.invariant c.in-Some.ensures.found.found c.in-Some.ensures.found.up_to c.in-Some.ensures.found.last) ∙ ap (λ s. contains s c.args.number) c.self.view_is

pub returns-in-None : goal.returns-in-None
returns-in-None c =
    sym (contains_none 0 c.args.number c.self.inside.runs.items c.self.invariant c.in-None.ensures.none) ∙ ap (λ s. contains s c.args.number) c.self.view_is
