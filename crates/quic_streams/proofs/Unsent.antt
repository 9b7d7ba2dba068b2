-- The streams that are queued once all counts as not sent, one after another.
use Rattle.std.proofs.Common.{◌≡◌, ℕ, ℤ, List, [], ◌∷◌, ◌++◌, Option, None, refl, sym, ap, ◌∙◌, add-one, ◌+◌}
use Rattle.std.proofs.lemmas.List.{append-nil, append_assoc}
use Rattle.quic_values.specs.declared.ids.Side.{Side}
use Rattle.quic_values.specs.declared.ids.Dir.{Dir}
use Rattle.quic_values.specs.Ids.{stream_id}
use Rattle.quic_queue.specs.declared.queue.Entry.{Entry}
use Rattle.quic_queue.specs.SendOrder.{SendOrder, with_entry}
use Rattle.quic_outgoing.specs.Outgoing.{Outgoing, first_ids}
use Rattle.quic_outgoing.specs.Early.{QueuesUnsent}
use Rattle.quic_history.specs.Early.{entry_at, AreUnsentOf, with_entries_put}

pub unsent-both : (o : Outgoing) (xs ys : List ℕ) (es fs : List Entry) → AreUnsentOf o xs es → AreUnsentOf o ys fs → AreUnsentOf o (xs ++ ys) (es ++ fs)
unsent-both o [] ys es fs a b = rw a b
unsent-both o (x ∷ xs) ys es fs a b =
    (a.0, a.1, a.2 ++ fs, unsent-both o xs ys a.2 fs a.3 b, ap (λ l. l ++ fs) a.4 ∙ append_assoc (entry_at x a.0) a.2 fs)

pub put-both : (q : SendOrder) (es fs : List Entry) → with_entries_put q (es ++ fs) ≡ with_entries_put (with_entries_put q es) fs
put-both q [] fs = refl
put-both q (e ∷ es) fs = put-both (with_entry q e) es fs

-- these are queued by now, of the first so many
pub record QueuedBy (o : Outgoing) (s : Side) (d : Dir) (n : ℕ) (q w : SendOrder) : Type 0 where
  pub entries : List Entry
  pub are : AreUnsentOf o (first_ids s d n) entries
  pub is : w ≡ with_entries_put q entries

pub none-queued : (o : Outgoing) (s : Side) (d : Dir) (q : SendOrder) → QueuedBy o s d 0 q q
none-queued o s d q = record { entries = []; are = refl; is = refl }

-- one more was looked at
pub one-more : (o : Outgoing) (s : Side) (d : Dir) (n : ℕ) (q w x : SendOrder) (queue : Option ℤ) → QueuesUnsent (o.halves (stream_id s d n)) queue → QueuedBy o s d n q w
    → x ≡ with_entries_put w (entry_at (stream_id s d n) queue) → QueuedBy o s d (n + 1) q x
one-more o s d n q w x queue k b e =
    let id = stream_id s d n in
    rw add-one (record {
      entries = b.entries ++ entry_at id queue;
      are = unsent-both o (first_ids s d n) (id ∷ []) b.entries (entry_at id queue) b.are (queue, k, [], refl, sym (append-nil (entry_at id queue)));
      is = e ∙ ap (λ y. with_entries_put y (entry_at id queue)) b.is ∙ sym (put-both q b.entries (entry_at id queue));
    })

-- entries that are put leave no room
put_bare : (q : SendOrder) (es : List Entry) → record q { reserved = None } ≡ q → record (with_entries_put q es) { reserved = None } ≡ with_entries_put q es
put_bare q [] e = e
put_bare q (x ∷ es) e = put_bare (with_entry q x) es refl

-- both directions
pub all-queued : (q w x y : SendOrder) (es fs : List Entry) → w ≡ record q { reserved = None } → x ≡ with_entries_put w es → y ≡ with_entries_put x fs
    → record y { reserved = None } ≡ with_entries_put (record q { reserved = None }) (es ++ fs)
all-queued q w x y es fs a b c =
    let all : y ≡ with_entries_put (record q { reserved = None }) (es ++ fs) = c ∙ ap (λ k. with_entries_put k fs) (b ∙ ap (λ k. with_entries_put k es) a) ∙ sym (put-both (record q { reserved = None }) es fs) in
    ap (λ (k : SendOrder). record k { reserved = None }) all ∙ put_bare (record q { reserved = None }) (es ++ fs) refl
