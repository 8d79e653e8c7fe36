-- What was read of a connection that tells.
use Rattle.std.proofs.Common.{◌≡◌, ℕ, ◌+◌, ◌<◌, ◌≤◌, ◌⊎◌, List, [], ◌++◌, Option, None, Some, length, take, drop, ap, sym, subst, ◌∙◌, refl, inl, inr, arith, append_assoc, length-append, length-take}
use Rattle.std.specs.Prelude.{IfSome}
use Rattle.std.proofs.Math.Seq.{take-append-add}
use Rattle.std.proofs.lemmas.List.{append-nil, take_at}
use Rattle.page_answers.specs.Connections.{Told, Took}
use Rattle.page_answers.specs.Readings.{WereRead, AreDecided, CallForMore, with_read}

-- these bytes were read of a connection, and those before the last read, if one was made, were few and called for more
pub record WereTaken (before : Told) (after : Option Told) (bytes : List ℕ) : Type 0 where
  pub earlier : List ℕ
  pub left : List ℕ
  pub told : after ≡ Some (record before { earlier = earlier; taken = before.taken ++ bytes; left = left })
  pub last : 0 < length bytes → (front : List ℕ) × (earlier ≡ before.taken ++ front) × CallForMore front × (length front < 65536)

-- at first nothing was read
pub nothing_taken : (told : Option Told) → IfSome told (λ before. WereTaken before told [])
nothing_taken None = tt
nothing_taken (Some before) = record {
  earlier = before.earlier;
  left = before.left;
  told = ap (λ (bytes : List ℕ). Some (record before { taken = bytes })) (sym (append-nil before.taken));
  last = λ some. absurd (omega (arith, some));
}

-- what stands in the buffer after a read: what stood there, and what the read took
in_buffer : (read left buffer behind : List ℕ) (at n : ℕ) → length read ≡ at → n ≤ length left → take (at + n) (read ++ ((take n left ++ drop n buffer) ++ behind)) ≡ read ++ take n left
in_buffer read left buffer behind at n long enough =
    let first : length (take n left) ≡ n = omega (arith, length-take n left) in
    let taken : take n ((take n left ++ drop n buffer) ++ behind) ≡ take n left = rw append_assoc (take_at (take n left) (drop n buffer ++ behind) n first) in
    rw (← long) (take-append-add read ((take n left ++ drop n buffer) ++ behind) n ∙ ap (λ (more : List ℕ). read ++ more) taken)

-- a read ends in the buffer
pub ends_inside : (read new behind : List ℕ) (at n : ℕ) → length read ≡ at → n ≤ length new → at + n ≤ length (read ++ (new ++ behind))
ends_inside read new behind at n long few = omega (arith, long, few, length-append read (new ++ behind), length-append new behind)

-- a read behind those that were made
took_on : (before : Told) (after : Option Told) (earlier read left buffer new behind : List ℕ) (at n : ℕ) → length read ≡ at
    → Took (record before { earlier = earlier; taken = before.taken ++ read; left = left }) after buffer new n
    → after ≡ Some (with_read before read (take (at + n) (read ++ (new ++ behind))) (drop n left))
took_on before after earlier read left buffer new behind at n long took =
    let shown : take (at + n) (read ++ (new ++ behind)) ≡ read ++ take n left = rw took.prefix (in_buffer read left buffer behind at n long took.enough) in
    rw shown (took.told ∙ ap (λ (bytes : List ℕ). Some (record before { earlier = before.taken ++ read; taken = bytes; left = drop n left })) (append_assoc before.taken read (take n left)))

module _ (before : Told) (now after : Option Told) (read buffer new behind : List ℕ) (at n end : ℕ) (long : length read ≡ at) (room : at < 65536) (ends : end ≡ at + n) (calls : CallForMore read) where
  -- what stands in the buffer
  abbrev All : List ℕ
  All = take end (read ++ (new ++ behind))

  taken_as : (t : WereTaken before now read) → IfSome now (λ told. Took told after buffer new n) → Took (record before { earlier = t.earlier; taken = before.taken ++ read; left = t.left }) after buffer new n
  taken_as t took = subst (λ (o : Option Told). IfSome o (λ told. Took told after buffer new n)) t.told took

  told_all : (t : WereTaken before now read) → IfSome now (λ told. Took told after buffer new n) → after ≡ Some (with_read before read All (drop n t.left))
  told_all t took = rw ends (took_on before after t.earlier read t.left buffer new behind at n long (taken_as t took))

  -- the read was not the last one
  taken_on : WereTaken before now read → IfSome now (λ told. Took told after buffer new n) → WereTaken before after All
  taken_on t took = record {
    earlier = before.taken ++ read;
    left = drop n t.left;
    told = told_all t took;
    last = λ some. (read, refl, calls, omega (arith, long, room));
  }

  -- the read was the last one
  read_all : (t : WereTaken before now read) → IfSome now (λ told. Took told after buffer new n) → AreDecided All ⊎ ((length All ≡ 65536) ⊎ (drop n t.left ≡ [])) → WereRead before after All
  read_all t took end = record {
    earlier = read;
    left = drop n t.left;
    told = told_all t took;
    ends = record { not_before = calls; had_room = omega (arith, long, room); ends = end };
  }

  -- it was the end of the input
  at_the_end : WereTaken before now read → IfSome now (λ told. Took told after buffer new n) → 0 < length buffer → n ≡ 0 → WereRead before after All
  at_the_end t took wide none = read_all t took (inr (inr (rw ((taken_as t took).at_the_end wide none, none) refl)))

  -- what was read is decided
  when_decided : WereTaken before now read → IfSome now (λ told. Took told after buffer new n) → AreDecided All → WereRead before after All
  when_decided t took decided = read_all t took (inl decided)

-- the buffer is full
when_full : (before : Told) (after : Option Told) (bytes : List ℕ) → length bytes ≡ 65536 → WereTaken before after bytes → WereRead before after bytes
when_full before after bytes full t =
    let last = t.last (omega (arith, full)) in
    record {
      earlier = last.0;
      left = t.left;
      told = rw last.1 at t.told;
      ends = record { not_before = last.2; had_room = last.3; ends = inr (inl full) };
    }

-- what holds of each connection that tells
on_told : (P Q : Told → Type 0) → ((before : Told) → P before → Q before) → (start : Option Told) → IfSome start P → IfSome start Q
on_told P Q f None h = tt
on_told P Q f (Some before) h = f before h

pub read_to_the_full : (start after : Option Told) (bytes : List ℕ) → length bytes ≡ 65536 → IfSome start (λ before. WereTaken before after bytes) → IfSome start (λ before. WereRead before after bytes)
read_to_the_full start after bytes full = on_told _ _ (λ before. when_full before after bytes full) start

module _ (start now after : Option Told) (read buffer new behind : List ℕ) (at n end : ℕ) (long : length read ≡ at) (room : at < 65536) (ends : end ≡ at + n) (calls : CallForMore read) where
  pub read_further : IfSome start (λ before. WereTaken before now read) → IfSome now (λ told. Took told after buffer new n)
      → IfSome start (λ before. WereTaken before after (take end (read ++ (new ++ behind))))
  read_further t took = on_told _ _ (λ before w. taken_on before now after read buffer new behind at n end long room ends calls w took) start t

  pub read_to_the_end : IfSome start (λ before. WereTaken before now read) → IfSome now (λ told. Took told after buffer new n) → 0 < length buffer → n ≡ 0
      → IfSome start (λ before. WereRead before after (take end (read ++ (new ++ behind))))
  read_to_the_end t took wide none = on_told _ _ (λ before w. at_the_end before now after read buffer new behind at n end long room ends calls w took wide none) start t

  pub read_until_decided : IfSome start (λ before. WereTaken before now read) → IfSome now (λ told. Took told after buffer new n) → AreDecided (take end (read ++ (new ++ behind)))
      → IfSome start (λ before. WereRead before after (take end (read ++ (new ++ behind))))
  read_until_decided t took decided = on_told _ _ (λ before w. when_decided before now after read buffer new behind at n end long room ends calls w took decided) start t
