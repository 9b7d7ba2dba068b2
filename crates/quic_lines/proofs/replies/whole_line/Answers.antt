use Rattle.std.proofs.Common.{◌∙◌, ◌++◌, codes, sym, append_assoc}
use Rattle.std.specs.Fmt.{decimal}
use Rattle.quic_lines.proofs.replies.whole_line.Goals as goal

pub returns-in_ok-format-in-Some : goal.returns-in_ok-format-in-Some
returns-in_ok-format-in-Some c =
    rw (c.in-Some.is, sym c.fault_name-name.ensures) (c.in_ok-format-in-Some.ensures.ok ∙ sym (append_assoc (codes "accepted " ++ decimal c.args.accepted) (codes " ") c.fault_name-name.result.now))
