use Rattle.std.proofs.Common.{◌≡◌, Err, rules}
use Rattle.streampair.specs.declared.session.Stop.TheVariants.{NoPair}
use Rattle.streampair.proofs.session.write_last_line.Goals as goal

pub returns-in-Err-NoPair-clause-whole : goal.returns-in-Err-NoPair-clause-whole
returns-in-Err-NoPair-clause-whole g c =
    let ended : c.args.ended ≡ Err NoPair = search rules in
    rw ended c.write.ensures.whole
