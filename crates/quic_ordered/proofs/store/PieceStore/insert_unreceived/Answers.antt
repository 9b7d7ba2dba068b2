use Rattle.std.proofs.Common.{arith, rules, ◌≡◌, ◌<◌, [], length}
use Rattle.std.specs.Prelude.{Result, Ok, Err, OnOk}
use Rattle.std.proofs.lemmas.List.{nil_from_length}
use Rattle.std.proofs.lemmas.List.Elements.{All-push}
use Rattle.quic_assembler.specs.Piece.{IsSome}
use Rattle.quic_ordered.specs.Entries.{piece_of}
use Rattle.quic_ordered.proofs.Fresh.{fresh_all, fresh_pushed, fresh_behind, parts_all, parts_pushed, all_received, fresh_none, once_parts, ends_parts}
use Rattle.quic_ordered.proofs.Added.{adds_permuted, adds_pushed, adds_behind, adds_none}
use Rattle.quic_ordered.proofs.store.PieceStore.insert_unreceived.Goals as goal

on_ok : {T E A B : Type 0} (r : Result T E) → OnOk r A → (A → B) → OnOk r B
on_ok (Ok x) h f = f h
on_ok (Err e) h f = tt

pub hold_parts-requires-clause-within : goal.hold_parts-requires-clause-within
hold_parts-requires-clause-within c =
    let cut = rw c.new-rest.ensures at c.in_ok-cut_all.ensures.cut in
    let t = parts_all _ (piece_of c.args.offset c.args.bytes c.args.allocation_size) _ _ cut c.in_ok-cut_all.ensures.none (omega (arith, c.if-len-eq0.true, c.len-2.ensures.value)) in
    rw c.len.ensures (ends_parts _ (piece_of c.args.offset c.args.bytes c.args.allocation_size) _ t cut.sound)

pub hold_parts-requires-clause-once : goal.hold_parts-requires-clause-once
hold_parts-requires-clause-once c = λ at.
    let cut = rw c.new-rest.ensures at c.in_ok-cut_all.ensures.cut in
    let t = parts_all _ (piece_of c.args.offset c.args.bytes c.args.allocation_size) _ _ cut c.in_ok-cut_all.ensures.none (omega (arith, c.if-len-eq0.true, c.len-2.ensures.value)) in
    once_parts _ (piece_of c.args.offset c.args.bytes c.args.allocation_size) _ _ at t (c.requires.once at)

pub returns-then-len-eq0-clause-fresh : goal.returns-then-len-eq0-clause-fresh
returns-then-len-eq0-clause-fresh c =
    let cut = rw c.new-rest.ensures at c.in_ok-cut_all.ensures.cut in
    on_ok c.hold_parts.result c.hold_parts.ensures.ok (λ p. fresh_all _ (piece_of c.args.offset c.args.bytes c.args.allocation_size) _ _ _ _ cut c.in_ok-cut_all.ensures.none (omega (arith, c.if-len-eq0.true, c.len-2.ensures.value)) p)

pub returns-then-is_behind-clause-fresh : goal.returns-then-is_behind-clause-fresh
returns-then-is_behind-clause-fresh c =
    let cut = rw c.new-rest.ensures at c.in_ok-cut_all.ensures.cut in
    let none : c.cut_all.new.fronts.items ≡ [] = nil_from_length c.cut_all.new.fronts.items (search rules) in
    on_ok c.hold_behind.result c.hold_behind.ensures.ok (λ e. fresh_behind _ (piece_of c.args.offset c.args.bytes c.args.allocation_size) _ _ _ _ cut c.in_ok-cut_all.ensures.none (omega (arith, c.if-len-eq0.false, c.len-2.ensures.value)) none e)

pub hold_parts-requires-2-clause-some : goal.hold_parts-requires-2-clause-some
hold_parts-requires-2-clause-some c =
    let cut = rw c.new-rest.ensures at c.in_ok-cut_all.ensures.cut in
    rw c.in_ok-push.ensures.items (All-push IsSome _ _ cut.sound (omega (arith, c.if-len-eq0.false, c.len-2.ensures.value)))

pub hold_parts-requires-2-clause-within : goal.hold_parts-requires-2-clause-within
hold_parts-requires-2-clause-within c =
    let cut = rw c.new-rest.ensures at c.in_ok-cut_all.ensures.cut in
    let some : 0 < length c.cut_all.new.rest.bytes = omega (arith, c.if-len-eq0.false, c.len-2.ensures.value) in
    let t = parts_pushed _ (piece_of c.args.offset c.args.bytes c.args.allocation_size) _ _ _ cut c.in_ok-cut_all.ensures.none some c.in_ok-push.ensures.items in
    rw c.len.ensures (ends_parts _ (piece_of c.args.offset c.args.bytes c.args.allocation_size) _ t (rw c.in_ok-push.ensures.items (All-push IsSome _ _ cut.sound some)))

pub hold_parts-requires-2-clause-once : goal.hold_parts-requires-2-clause-once
hold_parts-requires-2-clause-once c = λ at.
    let cut = rw c.new-rest.ensures at c.in_ok-cut_all.ensures.cut in
    let t = parts_pushed _ (piece_of c.args.offset c.args.bytes c.args.allocation_size) _ _ _ cut c.in_ok-cut_all.ensures.none (omega (arith, c.if-len-eq0.false, c.len-2.ensures.value)) c.in_ok-push.ensures.items in
    once_parts _ (piece_of c.args.offset c.args.bytes c.args.allocation_size) _ _ at t (c.requires.once at)

pub returns-clause-fresh : goal.returns-clause-fresh
returns-clause-fresh c =
    let cut = rw c.new-rest.ensures at c.in_ok-cut_all.ensures.cut in
    on_ok c.hold_parts-2.result c.hold_parts-2.ensures.ok (λ p. fresh_pushed _ (piece_of c.args.offset c.args.bytes c.args.allocation_size) _ _ _ _ _ cut c.in_ok-cut_all.ensures.none (omega (arith, c.if-len-eq0.false, c.len-2.ensures.value)) c.in_ok-push.ensures.items p)

pub returns-then-is_empty-clause-fresh : goal.returns-then-is_empty-clause-fresh
returns-then-is_empty-clause-fresh c =
    let cut = rw c.new-rest.ensures at c.in_ok-cut_all.ensures.cut in
    let none : c.cut_all.new.fronts.items ≡ [] = nil_from_length c.cut_all.new.fronts.items (search rules) in
    fresh_none _ (piece_of c.args.offset c.args.bytes c.args.allocation_size) _ _ _ cut c.in_ok-cut_all.ensures.none (omega (arith, c.if-len-eq0.true, c.len-2.ensures.value)) none

pub returns-then-is_empty-clause-received : goal.returns-then-is_empty-clause-received
returns-then-is_empty-clause-received c = λ n.
    let cut = rw c.new-rest.ensures at c.in_ok-cut_all.ensures.cut in
    let none : c.cut_all.new.fronts.items ≡ [] = nil_from_length c.cut_all.new.fronts.items (search rules) in
    all_received _ (piece_of c.args.offset c.args.bytes c.args.allocation_size) _ _ cut c.in_ok-cut_all.ensures.none (omega (arith, c.if-len-eq0.true, c.len-2.ensures.value)) none n

pub returns-then-len-eq0-clause-adds : goal.returns-then-len-eq0-clause-adds
returns-then-len-eq0-clause-adds c =
    let cut = rw c.new-rest.ensures at c.in_ok-cut_all.ensures.cut in
    on_ok c.hold_parts.result c.hold_parts.ensures.ok (λ p. adds_permuted c.args.allocation_size _ _ _ cut.memory p)

pub returns-then-is_behind-clause-adds : goal.returns-then-is_behind-clause-adds
returns-then-is_behind-clause-adds c =
    let cut = rw c.new-rest.ensures at c.in_ok-cut_all.ensures.cut in
    on_ok c.hold_behind.result c.hold_behind.ensures.ok (λ e. adds_behind _ (piece_of c.args.offset c.args.bytes c.args.allocation_size) _ _ _ _ cut e)

pub returns-clause-adds : goal.returns-clause-adds
returns-clause-adds c =
    let cut = rw c.new-rest.ensures at c.in_ok-cut_all.ensures.cut in
    on_ok c.hold_parts-2.result c.hold_parts-2.ensures.ok (λ p. adds_pushed _ (piece_of c.args.offset c.args.bytes c.args.allocation_size) _ _ _ _ _ cut c.in_ok-push.ensures.items p)

pub returns-then-is_empty-clause-adds : goal.returns-then-is_empty-clause-adds
returns-then-is_empty-clause-adds c = adds_none c.args.allocation_size c.args.self.now
