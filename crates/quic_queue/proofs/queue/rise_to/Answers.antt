use Rattle.std.proofs.Common.{rules, ◌≡◌, ◌<◌, ◌∷◌, w32, to_z, of_z, Some, sym, ap, ◌∙◌}
use Rattle.std.proofs.lemmas.Int.{to_z-of_z}
use Rattle.std.specs.VecDeque.{deque_len}
use Rattle.quic_queue.specs.Levels.{entries_of}
use Rattle.quic_queue.proofs.Changes.{others_stay, some_items}
use Rattle.quic_queue.proofs.Tops.{inserted_above, above_both, still_filled}
use Rattle.quic_queue.proofs.queue.rise_to.Goals as goal

pub returns-clause-shown : goal.returns-clause-shown
returns-clause-shown c =
    let m = c.args.lower.now in
    let tp = c.args.top.now.priority in
    let whole : to_z w32 (of_z w32 tp) ≡ tp = search rules in
    let entries = rw whole at c.in_default.ensures.entries in
    rw (c.replace-former.ensures.after, c.in_ok-ids.ensures.items)
    (ap entries_of (entries ∙ inserted_above tp m c.replace-former.result c.requires.above ∙ ap (λ v. (record { 0 = tp }, v) ∷ m.entries) c.replace-former.ensures.value))

pub returns-clause-above : goal.returns-clause-above
returns-clause-above c =
    let fits = c.ranges.priority in
    let m = c.args.lower.now in
    let n = c.insert.new.self in
    let tp = c.args.top.now.priority in
    let whole : to_z w32 (of_z w32 tp) ≡ tp = search rules in
    let updates = rw whole at c.in_default.ensures.updates in
    simp to_z-of_z (λ other. above_both c.args.priority tp m n c.requires.above c.requires.higher (others_stay m n tp (Some c.replace-former.result) updates) other)

pub returns-clause-filled : goal.returns-clause-filled
returns-clause-filled c = λ other apart.
    let m = c.args.lower.now in
    let n = c.insert.new.self in
    let tp = c.args.top.now.priority in
    let whole : to_z w32 (of_z w32 tp) ≡ tp = search rules in
    let updates = rw whole at c.in_default.ensures.updates in
    let some : 0 < deque_len c.replace-former.result = rw c.replace-former.ensures.value (some_items c.args.top.now.ids (sym c.is_empty.ensures ∙ c.if-is_empty.false)) in
    still_filled tp m n c.replace-former.result (others_stay m n tp (Some c.replace-former.result) updates) updates.1 some other
