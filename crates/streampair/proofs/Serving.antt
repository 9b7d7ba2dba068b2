-- What was written and read so far, as lines are answered.
use Rattle.std.proofs.Common.{◌≡◌, ℕ, ◌+◌, ◌-◌, ◌^◌, ◌<◌, ◌≤◌, List, [], ◌∷◌, ◌++◌, Option, Some, None, length, refl, sym, ap, ◌∙◌, subst, arith, append_assoc, append-nil, inl, inr}
use Rattle.std.specs.Prelude.{IfSome, IfErr, OnOk, OnErr, Result, Ok, Err}
use Rattle.std.specs.Result.{IsErrAnd}
use Rattle.std.specs.Str.{IsAscii}
use Rattle.std.specs.declared.io.BufReader.{BufReader}
use Rattle.std.specs.Io.Buffered.{reader_inner, reader_buffer, reader_capacity, reader_remaining}
use Rattle.std.specs.Io.BufRead.{first_piece, take_through, drop_through, strip_last, DropsThrough}
use Rattle.std.specs.Io.KnownBytes.{prepend_known, Appends, Keeps, IsAtEnd}
use Rattle.streampair.specs.declared.session.Session.{Session}
use Rattle.streampair.specs.declared.session.Session.TheVariants.{Start}
use Rattle.streampair.specs.declared.session.Stop.{Stop}
use Rattle.streampair.specs.declared.session.Stop.TheVariants.{Malformed, NoPair, Failed, OutOfMemory, TooManyLines}
use Rattle.quic_lines.specs.declared.lines.LineError.{LineError}
use Rattle.quic_lines.specs.declared.lines.LineError.TheVariants as lines
use Rattle.streampair.specs.Session.{Answers, MeansNothing, IsPairDue, Serves, begin, line, IsServed, IsStopOf, StopsAt, IsWrittenBehind, BeginsReply, BeginsLast, ExitsWith, IsMalformed, last_line, end_line, no_line, status, stop_of}
use Rattle.streampair.specs.Streams.{AppendsPart, TakesFirstLine}

-- one write after the other
pub Appends-join : (a b c : Option (List ℕ)) (xs ys : List ℕ) → Appends a b xs → Appends b c ys → Appends a c (xs ++ ys)
Appends-join None b c xs ys h g = tt
Appends-join (Some x) None c xs ys h g = absurd h
Appends-join (Some x) (Some y) None xs ys h g = absurd g
Appends-join (Some x) (Some y) (Some z) xs ys h g = g ∙ ap (λ (r : List ℕ). r ++ ys) h ∙ append_assoc x xs ys

-- nothing was written
pub Appends-nothing : (a : Option (List ℕ)) → Appends a a []
Appends-nothing None = tt
Appends-nothing (Some x) = sym (append-nil x)

-- a flush changes nothing
pub Appends-keeps : (a b c : Option (List ℕ)) (xs : List ℕ) → Appends a b xs → Keeps b c → Appends a c xs
Appends-keeps None b c xs h k = tt
Appends-keeps (Some x) None c xs h k = absurd h
Appends-keeps (Some x) (Some y) None xs h k = absurd k
Appends-keeps (Some x) (Some y) (Some z) xs h k = k ∙ h

-- a write of nothing, and one that failed
pub Appends-of_keeps : (a b : Option (List ℕ)) → Keeps a b → Appends a b []
Appends-of_keeps None b k = tt
Appends-of_keeps (Some x) None k = absurd k
Appends-of_keeps (Some x) (Some y) k = k ∙ sym (append-nil x)

-- a text was written in turn
pub all_written : (a b : Option (List ℕ)) (text done rest : List ℕ) → text ≡ done ++ rest → Appends a b done → length rest ≡ 0 → Appends a b text
all_written a b text done [] e h none = rw (e, append-nil done) h
all_written a b text done (x ∷ xs) e h none = cc

pub stops_within : (a b c : Option (List ℕ)) (text done rest : List ℕ) → text ≡ done ++ rest → Appends a b done → Appends b c [] → AppendsPart a c text
stops_within a b c text done rest e h w = record { part = done; left = rest; whole = e; writes = rw (append-nil done) at (Appends-join a b c done [] h w) }

-- a beginning of a text was written behind another text, or a text behind which more stands
pub part_behind : (a b c : Option (List ℕ)) (xs ys : List ℕ) → Appends a b xs → AppendsPart b c ys → AppendsPart a c (xs ++ ys)
part_behind a b c xs ys h g = record { part = xs ++ g.part; left = g.left; whole = ap (λ (t : List ℕ). xs ++ t) g.whole ∙ sym (append_assoc xs g.part g.left); writes = Appends-join a b c xs g.part h g.writes }

pub part_of_longer : (a b : Option (List ℕ)) (xs ys : List ℕ) → AppendsPart a b xs → AppendsPart a b (xs ++ ys)
part_of_longer a b xs ys g = record { part = g.part; left = g.left ++ ys; whole = ap (λ (t : List ℕ). t ++ ys) g.whole ∙ append_assoc g.part g.left ys; writes = g.writes }

-- a text in three parts, of which one could not be written
pub OnErr-always : {T E : Type 0} (r : Result T E) (P : Type 0) → P → OnErr r P
OnErr-always (Ok x) P p = tt
OnErr-always (Err e) P p = p

pub last_part : {T E : Type 0} (r : Result T E) (a b c d : Option (List ℕ)) (xs ys zs : List ℕ) → Appends a b xs → Appends b c ys → OnErr r (AppendsPart c d zs) → OnErr r (AppendsPart a d (xs ++ (ys ++ zs)))
last_part (Ok x) a b c d xs ys zs first second third = tt
last_part (Err e) a b c d xs ys zs first second third = part_behind a b d xs (ys ++ zs) first (part_behind b c d ys zs second third)

no_part : (part left : List ℕ) → [] ≡ part ++ left → part ≡ []
no_part [] left e = refl
no_part (x ∷ xs) left e = cc

none_written : (a b : Option (List ℕ)) → AppendsPart a b [] → Appends a b []
none_written a b g = subst (λ (part : List ℕ). Appends a b part) (no_part g.part g.left g.whole) g.writes

behind_nothing : (a b c : Option (List ℕ)) (xs part ys : List ℕ) → Appends a b (xs ++ part) → part ≡ [] → Appends b c ys → Appends a c (xs ++ ys)
behind_nothing a b c xs part ys h none g = Appends-join a b c xs ys (rw (append-nil xs) at (subst (λ (p : List ℕ). Appends a b (xs ++ p)) none h)) g

and_nothing : (a b c : Option (List ℕ)) (xs : List ℕ) → Appends a b xs → Appends b c [] → Appends a c xs
and_nothing a b c xs h g = rw (append-nil xs) at (Appends-join a b c xs [] h g)

-- a failed call of a stream stops the session
pub IfErr-failed : {T : Type 0} (r : Result T Stop) (P : Stop → Type 0) → IsErrAnd r (λ stop. stop ≡ Failed) → P Failed → IfErr r P
IfErr-failed (Ok x) P failed p = tt
IfErr-failed (Err stop) P failed p = rw failed p

-- the lines before this one were answered
pub record Progress (input : List ℕ) (number : ℕ) (session : Session) (left old new : Option (List ℕ)) : Type 0 where
  pub lines : ℕ
  pub text : List ℕ
  pub rest : List ℕ
  pub serves : Serves input lines text session rest
  pub number_is : number ≡ lines + 1
  pub left_is : left ≡ Some rest
  pub writes : Appends old new text

pub Progress-start : (input old : Option (List ℕ)) → IfSome input (λ all. Progress all 1 Start input old old)
Progress-start None old = tt
Progress-start (Some all) old = record { lines = 0; text = []; rest = all; serves = begin; number_is = refl; left_is = refl; writes = Appends-nothing old }

-- the line that was taken is the first of the rest
taken_of : (left after : Option (List ℕ)) (rest taken : List ℕ) → left ≡ Some rest → TakesFirstLine left taken after → TakesFirstLine (Some rest) taken after
taken_of left after rest taken e d = subst (λ (o : Option (List ℕ)). TakesFirstLine o taken after) e d

next_line : (input : List ℕ) (number : ℕ) (s t : Session) (left after start before now : Option (List ℕ)) (taken more : List ℕ) → Progress input number s left start before → TakesFirstLine left taken after → IsAscii taken → Answers s taken more t → Appends before now more → Progress input (number + 1) t after start now
next_line input number s t left after start before now taken more h d ascii answers writes =
    let k = taken_of left after h.rest taken h.left_is d in
    record {
      lines = h.lines + 1;
      text = h.text ++ more;
      rest = drop_through 10 h.rest;
      serves = line more t h.serves k.0 (subst (λ (x : List ℕ). IsAscii x) k.1 ascii) (subst (λ (x : List ℕ). Answers s x more t) k.1 answers);
      number_is = omega (arith, h.number_is);
      left_is = k.2;
      writes = Appends-join start before now h.text more h.writes writes;
    }

pub Progress-line : (input : Option (List ℕ)) (number : ℕ) (s t : Session) (left after later start before now : Option (List ℕ)) (taken more : List ℕ) → IfSome input (λ all. Progress all number s left start before) → TakesFirstLine left taken after → later ≡ after → IsAscii taken → Answers s taken more t → Appends before now more → IfSome input (λ all. Progress all (number + 1) t later start now)
Progress-line None number s t left after later start before now taken more h d same ascii answers writes = tt
Progress-line (Some all) number s t left after later start before now taken more h d same ascii answers writes = rw same (next_line all number s t left after start before now taken more h d ascii answers writes)

-- a line was read into an empty buffer
some_left : (rest : List ℕ) → 0 < length (take_through 10 rest) → 0 < length rest
some_left [] h = h
some_left (x ∷ xs) h = omega arith

pub taken_line : (left after : Option (List ℕ)) (before read taken : List ℕ) → before ≡ [] → IfSome left (λ xs. read ≡ before ++ take_through 10 xs) → DropsThrough left after 10 → taken ≡ strip_last 10 read → 0 < length read → TakesFirstLine left taken after
taken_line None after before read taken none bytes rest is some = tt
taken_line (Some xs) after before read taken none bytes rest is some =
    let e : read ≡ take_through 10 xs = bytes ∙ ap (λ (ys : List ℕ). ys ++ take_through 10 xs) none in
    (some_left xs (omega (arith, some, ap length e)), is ∙ ap (strip_last 10) e, rest)

-- no line is left
none_left : (left : Option (List ℕ)) (rest : List ℕ) → left ≡ Some rest → IsAtEnd left → rest ≡ []
none_left left rest e end = subst (λ (o : Option (List ℕ)). IsAtEnd o) e end

all_served : (input : List ℕ) (number : ℕ) (s : Session) (left start now : Option (List ℕ)) → Progress input number s left start now → IsAtEnd left → IsServed input start now
all_served input number s left start now h end = record {
  lines = h.lines;
  text = h.text;
  session = s;
  serves = subst (λ (rest : List ℕ). Serves input h.lines h.text s rest) (none_left left h.rest h.left_is end) h.serves;
  writes = h.writes;
}

pub Progress-end : (input : Option (List ℕ)) (number : ℕ) (s : Session) (left start before now : Option (List ℕ)) → IfSome input (λ all. Progress all number s left start before) → IsAtEnd left → now ≡ before → IfSome input (λ all. IsServed all start now)
Progress-end None number s left start before now h end same = tt
Progress-end (Some all) number s left start before now h end same = rw same (all_served all number s left start before h end)

-- a line could not be read
unread_line : (input : List ℕ) (number : ℕ) (s : Session) (left start now : Option (List ℕ)) → Progress input number s left start now → StopsAt input no_line start now Failed
unread_line input number s left start now h = record {
  lines = h.lines;
  text = h.text;
  session = s;
  rest = h.rest;
  serves = h.serves;
  cause = tt;
  part = [];
  behind = inl refl;
  writes = rw (append-nil h.text) h.writes;
}

pub Progress-unread : (input : Option (List ℕ)) (number : ℕ) (s : Session) (left start before now : Option (List ℕ)) → IfSome input (λ all. Progress all number s left start before) → now ≡ before → IfSome input (λ all. StopsAt all no_line start now Failed)
Progress-unread None number s left start before now h same = tt
Progress-unread (Some all) number s left start before now h same = rw same (unread_line all number s left start before h)

-- a line has no reply
no_reply : (input : List ℕ) (number : ℕ) (s : Session) (left after start now : Option (List ℕ)) (taken : List ℕ) (stop : Stop) → Progress input number s left start now → TakesFirstLine left taken after → IsStopOf number (MeansNothing s taken) (IsPairDue s taken) stop → StopsAt input no_line start now stop
no_reply input number s left after start now taken (Malformed told) h d why =
    let k = taken_of left after h.rest taken h.left_is d in
    record {
      lines = h.lines;
      text = h.text;
      session = s;
      rest = h.rest;
      serves = h.serves;
      cause = (why.0 ∙ h.number_is, k.0, subst (λ (x : List ℕ). MeansNothing s x) k.1 why.1);
      part = [];
      behind = refl;
      writes = rw (append-nil h.text) h.writes;
    }
no_reply input number s left after start now taken NoPair h d why =
    let k = taken_of left after h.rest taken h.left_is d in
    record {
      lines = h.lines;
      text = h.text;
      session = s;
      rest = h.rest;
      serves = h.serves;
      cause = (k.0, subst (λ (x : List ℕ). IsPairDue s x) k.1 why);
      part = [];
      behind = refl;
      writes = rw (append-nil h.text) h.writes;
    }
no_reply input number s left after start now taken OutOfMemory h d why = record {
  lines = h.lines;
  text = h.text;
  session = s;
  rest = h.rest;
  serves = h.serves;
  cause = tt;
  part = [];
  behind = refl;
  writes = rw (append-nil h.text) h.writes;
}
no_reply input number s left after start now taken Failed h d why = absurd why
no_reply input number s left after start now taken TooManyLines h d why = absurd why

pub Progress-stop : (input : Option (List ℕ)) (number : ℕ) (s : Session) (left after start before now : Option (List ℕ)) (taken : List ℕ) (stop : Stop) → IfSome input (λ all. Progress all number s left start before) → TakesFirstLine left taken after → now ≡ before → IsStopOf number (MeansNothing s taken) (IsPairDue s taken) stop → IfSome input (λ all. StopsAt all no_line start now stop)
Progress-stop None number s left after start before now taken stop h d same why = tt
Progress-stop (Some all) number s left after start before now taken stop h d same why = rw same (no_reply all number s left after start before taken stop h d why)

-- a reply could not be written
part_written : (input : List ℕ) (number : ℕ) (s t : Session) (left after start before now : Option (List ℕ)) (taken more : List ℕ) → Progress input number s left start before → TakesFirstLine left taken after → IsAscii taken → Answers s taken more t → AppendsPart before now more → StopsAt input no_line start now Failed
part_written input number s t left after start before now taken more h d ascii answers w =
    let k = taken_of left after h.rest taken h.left_is d in
    record {
      lines = h.lines;
      text = h.text;
      session = s;
      rest = h.rest;
      serves = h.serves;
      cause = tt;
      part = w.part;
      behind = inr (inl (record { some = k.0; ascii = subst (λ (x : List ℕ). IsAscii x) k.1 ascii; text = more; next = t; answers = subst (λ (x : List ℕ). Answers s x more t) k.1 answers; left = w.left; whole = w.whole }));
      writes = Appends-join start before now h.text w.part h.writes w.writes;
    }

pub Progress-part : (input : Option (List ℕ)) (number : ℕ) (s t : Session) (left after start before now : Option (List ℕ)) (taken more : List ℕ) → IfSome input (λ all. Progress all number s left start before) → TakesFirstLine left taken after → IsAscii taken → Answers s taken more t → AppendsPart before now more → IfSome input (λ all. StopsAt all no_line start now Failed)
Progress-part None number s t left after start before now taken more h d ascii answers w = tt
Progress-part (Some all) number s t left after start before now taken more h d ascii answers w = part_written all number s t left after start before now taken more h d ascii answers w

-- a number counts no more lines
too_many : (input : List ℕ) (number : ℕ) (s : Session) (left start now : Option (List ℕ)) → Progress input number s left start now → number ≡ 2 ^ 64 - 1 → StopsAt input no_line start now TooManyLines
too_many input number s left start now h e = record {
  lines = h.lines;
  text = h.text;
  session = s;
  rest = h.rest;
  serves = h.serves;
  cause = omega (arith, h.number_is, e);
  part = [];
  behind = refl;
  writes = rw (append-nil h.text) h.writes;
}

pub Progress-too_many : (input : Option (List ℕ)) (number : ℕ) (s : Session) (left start now : Option (List ℕ)) → IfSome input (λ all. Progress all number s left start now) → number ≡ 2 ^ 64 - 1 → IfSome input (λ all. StopsAt all no_line start now TooManyLines)
Progress-too_many None number s left start now h e = tt
Progress-too_many (Some all) number s left start now h e = too_many all number s left start now h e

-- the last line was written
same_behind : (n : ℕ) (s : Session) (rest part : List ℕ) → IsWrittenBehind n s rest no_line part Failed → IsWrittenBehind n s rest last_line part Failed
same_behind n s rest part (inl none) = inl none
same_behind n s rest part (inr (inl reply)) = inr (inl reply)
same_behind n s rest part (inr (inr last)) = inl (no_part part last.left last.whole)

with_last : (input : List ℕ) (a b c : Option (List ℕ)) (stop : Stop) → StopsAt input no_line a b stop → Appends b c (last_line stop) → StopsAt input last_line a c stop
with_last input a b c (Malformed number) h w = record { lines = h.lines; text = h.text; session = h.session; rest = h.rest; serves = h.serves; cause = h.cause; part = last_line (Malformed number); behind = refl; writes = behind_nothing a b c h.text h.part (last_line (Malformed number)) h.writes h.behind w }
with_last input a b c NoPair h w = record { lines = h.lines; text = h.text; session = h.session; rest = h.rest; serves = h.serves; cause = h.cause; part = last_line NoPair; behind = refl; writes = behind_nothing a b c h.text h.part (last_line NoPair) h.writes h.behind w }
with_last input a b c OutOfMemory h w = record { lines = h.lines; text = h.text; session = h.session; rest = h.rest; serves = h.serves; cause = h.cause; part = []; behind = refl; writes = behind_nothing a b c h.text h.part [] h.writes h.behind w }
with_last input a b c TooManyLines h w = record { lines = h.lines; text = h.text; session = h.session; rest = h.rest; serves = h.serves; cause = h.cause; part = []; behind = refl; writes = behind_nothing a b c h.text h.part [] h.writes h.behind w }
with_last input a b c Failed h w = record { lines = h.lines; text = h.text; session = h.session; rest = h.rest; serves = h.serves; cause = tt; part = h.part; behind = same_behind h.lines h.session h.rest h.part h.behind; writes = and_nothing a b c (h.text ++ h.part) h.writes w }

-- a beginning of it was written
part_of_last : (input : List ℕ) (a b c : Option (List ℕ)) (stop : Stop) (h : StopsAt input no_line a b stop) → h.part ≡ [] → AppendsPart b c (last_line stop) → StopsAt input last_line a c Failed
part_of_last input a b c stop h none w = record {
  lines = h.lines;
  text = h.text;
  session = h.session;
  rest = h.rest;
  serves = h.serves;
  cause = tt;
  part = w.part;
  behind = inr (inr (record { stop = stop; cause = h.cause; left = w.left; whole = w.whole }));
  writes = behind_nothing a b c h.text h.part w.part h.writes none w.writes;
}

with_part : (input : List ℕ) (a b c : Option (List ℕ)) (stop : Stop) → StopsAt input no_line a b stop → AppendsPart b c (last_line stop) → StopsAt input last_line a c Failed
with_part input a b c (Malformed number) h w = part_of_last input a b c (Malformed number) h h.behind w
with_part input a b c NoPair h w = part_of_last input a b c NoPair h h.behind w
with_part input a b c OutOfMemory h w = part_of_last input a b c OutOfMemory h h.behind w
with_part input a b c TooManyLines h w = part_of_last input a b c TooManyLines h h.behind w
with_part input a b c Failed h w = with_last input a b c Failed h (none_written b c w)

-- the output was flushed
flushed : (input : List ℕ) (a b c : Option (List ℕ)) (stop : Stop) → StopsAt input last_line a b stop → Keeps b c → StopsAt input last_line a c stop
flushed input a b c stop h k = record { lines = h.lines; text = h.text; session = h.session; rest = h.rest; serves = h.serves; cause = h.cause; part = h.part; behind = h.behind; writes = Appends-keeps a b c (h.text ++ h.part) h.writes k }

-- it was not
whole_last : (input : List ℕ) (a b : Option (List ℕ)) (stop : Stop) (h : StopsAt input last_line a b stop) → h.part ≡ last_line stop → StopsAt input last_line a b Failed
whole_last input a b stop h e = record {
  lines = h.lines;
  text = h.text;
  session = h.session;
  rest = h.rest;
  serves = h.serves;
  cause = tt;
  part = h.part;
  behind = inr (inr (record { stop = stop; cause = h.cause; left = []; whole = sym e ∙ sym (append-nil h.part) }));
  writes = h.writes;
}

unflushed : (input : List ℕ) (a b : Option (List ℕ)) (stop : Stop) → StopsAt input last_line a b stop → StopsAt input last_line a b Failed
unflushed input a b (Malformed number) h = whole_last input a b (Malformed number) h h.behind
unflushed input a b NoPair h = whole_last input a b NoPair h h.behind
unflushed input a b OutOfMemory h = whole_last input a b OutOfMemory h h.behind
unflushed input a b TooManyLines h = whole_last input a b TooManyLines h h.behind
unflushed input a b Failed h = h

-- all lines were answered, and a stream failed at the end
served_until : (input : List ℕ) (a b : Option (List ℕ)) → IsServed input a b → StopsAt input last_line a b Failed
served_until input a b h = record {
  lines = h.lines;
  text = h.text;
  session = h.session;
  rest = [];
  serves = h.serves;
  cause = tt;
  part = [];
  behind = inl refl;
  writes = rw (append-nil h.text) h.writes;
}

served_on : (input : List ℕ) (a b c : Option (List ℕ)) → IsServed input a b → Appends b c [] → IsServed input a c
served_on input a b c h w = record { lines = h.lines; text = h.text; session = h.session; serves = h.serves; writes = and_nothing a b c h.text h.writes w }

served_flushed : (input : List ℕ) (a b c : Option (List ℕ)) → IsServed input a b → Keeps b c → IsServed input a c
served_flushed input a b c h k = record { lines = h.lines; text = h.text; session = h.session; serves = h.serves; writes = Appends-keeps a b c h.text h.writes k }

-- the end of a session, where the input is known
pub end_ok : (input a b c d : Option (List ℕ)) (ended : Result (Unit {0}) Stop) → OnOk ended (IfSome input (λ all. IsServed all a b)) → Appends b c (end_line ended) → Keeps c d → OnOk ended (IfSome input (λ all. IsServed all a d))
end_ok input a b c d (Err stop) h w k = tt
end_ok None a b c d (Ok done) h w k = tt
end_ok (Some all) a b c d (Ok done) h w k = served_flushed all a c d (served_on all a b c h w) k

pub end_err : (input a b c d : Option (List ℕ)) (ended : Result (Unit {0}) Stop) → IfErr ended (λ stop. IfSome input (λ all. StopsAt all no_line a b stop)) → Appends b c (end_line ended) → Keeps c d → IfErr ended (λ stop. IfSome input (λ all. StopsAt all last_line a d stop))
end_err input a b c d (Ok done) h w k = tt
end_err None a b c d (Err stop) h w k = tt
end_err (Some all) a b c d (Err stop) h w k = flushed all a c d stop (with_last all a b c stop h w) k

unwritten : (input a b c : Option (List ℕ)) (ended : Result (Unit {0}) Stop) → OnOk ended (IfSome input (λ all. IsServed all a b)) → IfErr ended (λ stop. IfSome input (λ all. StopsAt all no_line a b stop)) → AppendsPart b c (end_line ended) → IfSome input (λ all. StopsAt all last_line a c Failed)
unwritten None a b c ended ok err w = tt
unwritten (Some all) a b c (Ok done) ok err w = served_until all a c (served_on all a b c ok (none_written b c w))
unwritten (Some all) a b c (Err stop) ok err w = with_part all a b c stop err w

pub end_unwritten : (input a b c : Option (List ℕ)) (ended result : Result (Unit {0}) Stop) → IsErrAnd result (λ stop. stop ≡ Failed) → OnOk ended (IfSome input (λ all. IsServed all a b)) → IfErr ended (λ stop. IfSome input (λ all. StopsAt all no_line a b stop)) → AppendsPart b c (end_line ended) → IfErr result (λ stop. IfSome input (λ all. StopsAt all last_line a c stop))
end_unwritten input a b c ended (Ok done) failed ok err w = tt
end_unwritten input a b c ended (Err stop) failed ok err w = rw failed (unwritten input a b c ended ok err w)

left_unflushed : (input a b c d : Option (List ℕ)) (ended : Result (Unit {0}) Stop) → OnOk ended (IfSome input (λ all. IsServed all a b)) → IfErr ended (λ stop. IfSome input (λ all. StopsAt all no_line a b stop)) → Appends b c (end_line ended) → Keeps c d → IfSome input (λ all. StopsAt all last_line a d Failed)
left_unflushed None a b c d ended ok err w k = tt
left_unflushed (Some all) a b c d (Ok done) ok err w k = served_until all a d (served_flushed all a c d (served_on all a b c ok w) k)
left_unflushed (Some all) a b c d (Err stop) ok err w k = unflushed all a d stop (flushed all a c d stop (with_last all a b c stop err w) k)

pub end_unflushed : (input a b c d : Option (List ℕ)) (ended result : Result (Unit {0}) Stop) → IsErrAnd result (λ stop. stop ≡ Failed) → OnOk ended (IfSome input (λ all. IsServed all a b)) → IfErr ended (λ stop. IfSome input (λ all. StopsAt all no_line a b stop)) → Appends b c (end_line ended) → Keeps c d → IfErr result (λ stop. IfSome input (λ all. StopsAt all last_line a d stop))
end_unflushed input a b c d ended (Ok done) failed ok err w k = tt
end_unflushed input a b c d ended (Err stop) failed ok err w k = rw failed (left_unflushed input a b c d ended ok err w k)

-- the exit status, where nothing is known of the writer
pub status-small : (ended : Result (Unit {0}) Stop) → status ended ≤ 2
status-small (Ok done) = omega arith
status-small (Err (Malformed number)) = omega arith
status-small (Err NoPair) = omega arith
status-small (Err Failed) = omega arith
status-small (Err OutOfMemory) = omega arith
status-small (Err TooManyLines) = omega arith

served_unknown : (input old new : Option (List ℕ)) → IfSome input (λ all. IsServed all old new) → IfSome input (λ all. IsServed all None None)
served_unknown None old new h = tt
served_unknown (Some all) old new h = record { lines = h.lines; text = h.text; session = h.session; serves = h.serves; writes = tt }

pub status_served : (input old new : Option (List ℕ)) (ended : Result (Unit {0}) Stop) → OnOk ended (IfSome input (λ all. IsServed all old new)) → status ended ≡ 0 → IfSome input (λ all. IsServed all None None)
status_served input old new (Ok done) h e = served_unknown input old new h
status_served input old new (Err (Malformed number)) h e = cc
status_served input old new (Err NoPair) h e = cc
status_served input old new (Err Failed) h e = cc
status_served input old new (Err OutOfMemory) h e = cc
status_served input old new (Err TooManyLines) h e = cc

malformed_unknown : (input old new : Option (List ℕ)) (number : ℕ) → IfSome input (λ all. StopsAt all last_line old new (Malformed number)) → IfSome input (λ all. IsMalformed all None None)
malformed_unknown None old new number h = tt
malformed_unknown (Some all) old new number h = (number, record { lines = h.lines; text = h.text; session = h.session; rest = h.rest; serves = h.serves; cause = h.cause; part = h.part; behind = h.behind; writes = tt })

pub status_malformed : (input old new : Option (List ℕ)) (ended : Result (Unit {0}) Stop) → IfErr ended (λ stop. IfSome input (λ all. StopsAt all last_line old new stop)) → status ended ≡ 2 → IfSome input (λ all. IsMalformed all None None)
status_malformed input old new (Ok done) h e = cc
status_malformed input old new (Err (Malformed number)) h e = malformed_unknown input old new number h
status_malformed input old new (Err NoPair) h e = cc
status_malformed input old new (Err Failed) h e = cc
status_malformed input old new (Err OutOfMemory) h e = cc
status_malformed input old new (Err TooManyLines) h e = cc

-- the facts of a result that has the exit status
of_error : {T : Type 0} (r : Result T Stop) (stop : Stop) (P : Type 0) → IfErr r (λ s. s ≡ stop → P) → r ≡ Err stop → P
of_error (Ok x) stop P h e = cc
of_error (Err s) stop P h e = h (cc)

pub exits_with : (input old new : Option (List ℕ)) (F A B C : Type 0) (ended : Result (Unit {0}) Stop) (code : ℕ) → code ≡ status ended → OnOk ended (IfSome input (λ all. IsServed all old new)) → IfErr ended (λ stop. IfSome input (λ all. StopsAt all last_line old new stop)) → ((ended ≡ Err Failed → ⊥) → F) → IfErr ended (λ stop. stop ≡ Failed → A) → IfErr ended (λ stop. stop ≡ NoPair → B) → IfErr ended (λ stop. stop ≡ OutOfMemory → C) → ExitsWith input old new F A B C code
exits_with input old new F A B C ended code is served stops flushed failed no_pair no_memory = record {
  ended = ended;
  code_is = is;
  served = served;
  stops = stops;
  flushed = flushed;
  failed = of_error ended Failed A failed;
  no_pair = of_error ended NoPair B no_pair;
  no_memory = of_error ended OutOfMemory C no_memory;
}

pub exits_small : (input old new : Option (List ℕ)) (F A B C : Type 0) (code : ℕ) → ExitsWith input old new F A B C code → code ≤ 2
exits_small input old new F A B C code h = rw h.code_is (status-small h.ended)

pub exits_served : (input old new : Option (List ℕ)) (F A B C : Type 0) (code : ℕ) → ExitsWith input old new F A B C code → code ≡ 0 → IfSome input (λ all. IsServed all None None)
exits_served input old new F A B C code h e = status_served input old new h.ended h.served (sym h.code_is ∙ e)

pub exits_malformed : (input old new : Option (List ℕ)) (F A B C : Type 0) (code : ℕ) → ExitsWith input old new F A B C code → code ≡ 2 → IfSome input (λ all. IsMalformed all None None)
exits_malformed input old new F A B C code h e = status_malformed input old new h.ended h.stops (sym h.code_is ∙ e)

-- a reader of which nothing was read has what is behind it
pub unread : (known : Option (List ℕ)) → prepend_known [] known ≡ known
unread None = refl
unread (Some xs) = refl

pub reader_start : {T A : Type 0} (remaining : T → Option (List ℕ)) (r : BufReader T A) (input : T) → reader_inner r ≡ input → reader_buffer r ≡ [] → reader_capacity r ≡ 8192 → reader_remaining remaining r ≡ remaining input
reader_start remaining r input inner empty capacity = rw (capacity, empty, inner) (unread (remaining input))

-- a line that spells nothing stops the session
pub not_spelled : (number : ℕ) (nothing due : Type 0) (error : LineError) → (error ≡ lines.Malformed → nothing) → IsStopOf number nothing due (stop_of error number)
not_spelled number nothing due lines.Malformed none = (refl, none refl)
not_spelled number nothing due lines.OutOfMemory none = tt

-- so does lack of memory
pub wanting : {T : Type 0} (r : Result T Stop) (number : ℕ) (nothing due : Type 0) → IsErrAnd r (λ stop. stop ≡ OutOfMemory) → IfErr r (IsStopOf number nothing due)
wanting (Ok x) number nothing due failed = tt
wanting (Err stop) number nothing due failed = rw failed tt

-- no pair is due for a line behind the configs, so none is lacking
pub more_due : {T : Type 0} (r : Result T Stop) (number : ℕ) (nothing more due : Type 0) → (nothing → more) → IfErr r (IsStopOf number nothing ⊥) → IfErr r (IsStopOf number more due)
more_due (Ok x) number nothing more due f h = tt
more_due (Err (Malformed told)) number nothing more due f h = (h.0, f h.1)
more_due (Err NoPair) number nothing more due f h = absurd h
more_due (Err OutOfMemory) number nothing more due f h = tt
more_due (Err Failed) number nothing more due f h = absurd h
more_due (Err TooManyLines) number nothing more due f h = absurd h
