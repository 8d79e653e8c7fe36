-- What was read of a source so far, and what is left.
use Rattle.std.proofs.Common.{◌≡◌, ℕ, ◌+◌, ◌<◌, ◌≤◌, List, [], ◌++◌, length, take, drop, refl, sym, ap, ◌∙◌, append_assoc, arith, length-append, length-drop}
use Rattle.std.proofs.lemmas.List.{length-take-le, take-append-drop}
use Rattle.std.proofs.Math.Seq.{drop-append_seam, take-append_seam}
use Rattle.std.specs.Prelude.{Option, Some, None, IfSome}
use Rattle.metrics_core.specs.Outside.{Moved, Rose}
use Rattle.script_player.specs.Headline.{script_limit}
use Rattle.program_words.specs.Answers.{IsTooLong, LeavesSource, fault_status}
use Rattle.drive_script.specs.declared.faults.DriveFault.{DriveFault}
use Rattle.drive_script.specs.declared.faults.DriveFault.TheVariants as faults
use Rattle.program_words.specs.Reading.{IsTaken, IsPieceFault, IsReadFault}

-- these bytes came first, and the source tells the rest
pub record IsReadSoFar (all : List ℕ) (left : Option (List ℕ)) (bytes : List ℕ) : Type 0 where
  pub rest : List ℕ
  pub told : left ≡ Some rest
  pub split : all ≡ bytes ++ rest

-- the same, where the source told its bytes at first
abbrev pub ReadSoFar : Option (List ℕ) → Option (List ℕ) → List ℕ → Type 0
ReadSoFar first left bytes = IfSome first (λ all. IsReadSoFar all left bytes)

pub nothing_read : (first : Option (List ℕ)) (bytes : List ℕ) → bytes ≡ [] → ReadSoFar first first bytes
nothing_read None bytes e = tt
nothing_read (Some all) bytes e = record { rest = all; told = refl; split = ap (λ b. b ++ all) (sym e) }

taken_more : (all : List ℕ) (left left' : Option (List ℕ)) (bytes bytes' : List ℕ) (n : ℕ) → IsReadSoFar all left bytes
    → IfSome left (λ rest. IsTaken rest left' bytes bytes' n) → IsReadSoFar all left' bytes'
taken_more all None left' bytes bytes' n so_far taken = absurd (impossible so_far.told)
  where
    impossible : {r : List ℕ} → None ≡ Some r → ⊥
    impossible e = cc
taken_more all (Some rest) left' bytes bytes' n so_far taken = record {
  rest = drop n rest;
  told = taken.told;
  split = so_far.split ∙ ap (λ r. bytes ++ r) (same so_far.told ∙ sym (take-append-drop n rest))
      ∙ sym (append_assoc bytes (take n rest) (drop n rest)) ∙ ap (λ b. b ++ drop n rest) (sym taken.added);
}
  where
    same : {r : List ℕ} → Some rest ≡ Some r → r ≡ rest
    same e = cc

pub read_more : (first left left' : Option (List ℕ)) (bytes bytes' : List ℕ) (n : ℕ) → ReadSoFar first left bytes
    → IfSome left (λ rest. IsTaken rest left' bytes bytes' n) → ReadSoFar first left' bytes'
read_more None left left' bytes bytes' n so_far taken = tt
read_more (Some all) left left' bytes bytes' n so_far taken = taken_more all left left' bytes bytes' n so_far taken

nothing_left : (all : List ℕ) (left left' : Option (List ℕ)) (bytes bytes' : List ℕ) (n : ℕ) → n ≡ 0 → IsReadSoFar all left bytes
    → IfSome left (λ rest. IsTaken rest left' bytes bytes' n) → bytes' ≡ all
nothing_left all None left' bytes bytes' n zero so_far taken = absurd (impossible so_far.told)
  where
    impossible : {r : List ℕ} → None ≡ Some r → ⊥
    impossible e = cc
nothing_left all (Some rest) left' bytes bytes' n zero so_far taken =
    taken.added ∙ ap (λ k. bytes ++ take k rest) zero
    ∙ ap (λ r. bytes ++ r) (sym (taken.at_the_end zero))
    ∙ ap (λ r. bytes ++ r) (same so_far.told) ∙ sym so_far.split
  where
    same : {r : List ℕ} → Some rest ≡ Some r → rest ≡ r
    same e = cc

pub read_whole : (first left left' : Option (List ℕ)) (bytes bytes' : List ℕ) (n : ℕ) → n ≡ 0 → ReadSoFar first left bytes
    → IfSome left (λ rest. IsTaken rest left' bytes bytes' n) → IfSome first (λ all. bytes' ≡ all)
read_whole None left left' bytes bytes' n zero so_far taken = tt
read_whole (Some all) left left' bytes bytes' n zero so_far taken = nothing_left all left left' bytes bytes' n zero so_far taken

pub read_too_much : (first left : Option (List ℕ)) (bytes : List ℕ) → script_limit < length bytes → ReadSoFar first left bytes
    → IfSome first IsTooLong
read_too_much None left bytes long so_far = tt
read_too_much (Some all) left bytes long so_far =
    omega (arith, length-append bytes so_far.rest, ap length so_far.split, long)

-- a piece that was read into the room behind the bytes so far
pub piece_taken : (rest : List ℕ) (left : Option (List ℕ)) (old mid new buffer buffer' : List ℕ) (filled n : ℕ) → take filled mid ≡ take filled old → filled < length mid
    → buffer ≡ drop filled mid → new ≡ take filled mid ++ buffer' → Moved rest left buffer buffer' n → IsTaken rest left (take filled old) (take (filled + n) new) n
piece_taken rest left old mid new buffer buffer' filled n same room is written moved = record {
  told = moved.rest;
  added = ap (take (filled + n)) (written ∙ ap (λ b. take filled mid ++ b) moved.prefix ∙ sym (append_assoc (take filled mid) (take n rest) (drop n buffer)))
      ∙ ap (λ k. take k ((take filled mid ++ take n rest) ++ drop n buffer)) (sym many)
      ∙ take-append_seam (take filled mid ++ take n rest) (drop n buffer)
      ∙ ap (λ b. b ++ take n rest) same;
  at_the_end = moved.at_the_end (let long = ap length is in omega (arith, room, long, length-drop filled mid));
}
  where
    many : length (take filled mid ++ take n rest) ≡ filled + n
    many = let least = moved.enough in omega (arith, length-append (take filled mid) (take n rest), length-take-le filled mid (omega (arith, room)), length-take-le n rest least)

-- the cause of a piece's fault is one of the whole reading's
pub piece_fault : (left : Option (List ℕ)) (first before now : ℕ) (fault : DriveFault) → first ≤ before → IsPieceFault (Rose before now) fault
    → IsReadFault left (Rose first now) fault
piece_fault left first before now (faults.Script l) le h = h
piece_fault left first before now (faults.Setting fault) le h = absurd h
piece_fault left first before now faults.TooLong le h = absurd h
piece_fault left first before now faults.ReadFault le h = omega (arith, le, h)
piece_fault left first before now faults.WriteFault le h = h
piece_fault left first before now faults.Memory le h = h

-- ---- what is left

-- the bytes that are left, by how many were read
left_behind : (all : List ℕ) (left : Option (List ℕ)) (bytes : List ℕ) → IsReadSoFar all left bytes → left ≡ Some (drop (length bytes) all)
left_behind all left bytes so_far = so_far.told ∙ ap Some (sym (ap (drop (length bytes)) so_far.split ∙ drop-append_seam bytes so_far.rest))

read_in_part : (all : List ℕ) (left : Option (List ℕ)) (bytes : List ℕ) → length bytes ≤ script_limit + 1 → IsReadSoFar all left bytes → (n : ℕ) × (n ≤ script_limit + 1) × (left ≡ Some (drop n all))
read_in_part all left bytes few so_far = (length bytes, few, left_behind all left bytes so_far)

-- a read failed, or room for it was refused
pub leaves_some : (first left left' : Option (List ℕ)) (bytes : List ℕ) (S : Type 0) (fault : DriveFault) → IsPieceFault S fault → length bytes ≤ script_limit + 1 → left' ≡ left
    → ReadSoFar first left bytes → IfSome first (λ all. LeavesSource all left' (fault_status fault))
leaves_some None left left' bytes S fault cause few kept so_far = tt
leaves_some (Some all) left left' bytes S fault cause few kept so_far = by fault cause
  where
    some : (n : ℕ) × (n ≤ script_limit + 1) × (left' ≡ Some (drop n all))
    some = let (n, within, is) = read_in_part all left bytes few so_far in (n, within, kept ∙ is)

    by : (f : DriveFault) → IsPieceFault S f → LeavesSource all left' (fault_status f)
    by (faults.Script l) c = absurd c
    by (faults.Setting fault) c = absurd c
    by faults.TooLong c = absurd c
    by faults.ReadFault c = record { within = some; too_long = λ e. absurd (omega (arith, e)); whole = λ a b c. absurd (b refl) }
    by faults.WriteFault c = absurd c
    by faults.Memory c = record { within = some; too_long = λ e. absurd (omega (arith, e)); whole = λ a b c. absurd (c refl) }

-- the source was read to its end
pub leaves_none : (first left left' : Option (List ℕ)) (bytes bytes' : List ℕ) (n : ℕ) → n ≡ 0 → length bytes' ≤ script_limit + 1 → ReadSoFar first left bytes
    → IfSome left (λ rest. IsTaken rest left' bytes bytes' n) → IfSome first (λ all. LeavesSource all left' 0)
leaves_none None left left' bytes bytes' n zero few so_far taken = tt
leaves_none (Some all) left left' bytes bytes' n zero few so_far taken =
    let more = read_more (Some all) left left' bytes bytes' n so_far taken in
    record {
      within = read_in_part all left' bytes' few more;
      too_long = λ e. absurd (omega (arith, e));
      whole = λ a b c. at_end left so_far taken;
    }
  where
    at_end : (l : Option (List ℕ)) → IsReadSoFar all l bytes → IfSome l (λ rest. IsTaken rest left' bytes bytes' n) → left' ≡ Some []
    at_end None h t = absurd (impossible h.told)
      where
        impossible : {r : List ℕ} → None ≡ Some r → ⊥
        impossible e = cc
    at_end (Some rest) h t = t.told ∙ ap (λ r. Some (drop n r)) (t.at_the_end zero) ∙ ap (λ k. Some (drop k [])) zero

-- one byte past the limit was read
pub leaves_long : (first left : Option (List ℕ)) (bytes : List ℕ) → length bytes ≡ script_limit + 1 → ReadSoFar first left bytes → IfSome first (λ all. LeavesSource all left 5)
leaves_long None left bytes many so_far = tt
leaves_long (Some all) left bytes many so_far = record {
  within = read_in_part all left bytes (omega (arith, many)) so_far;
  too_long = λ e. left_behind all left bytes so_far ∙ ap (λ n. Some (drop n all)) many;
  whole = λ a b c. absurd (a refl);
}

-- ---- where the source tells

pub some_of : (left : Option (List ℕ)) (P Q : List ℕ → Type 0) → ((bytes : List ℕ) → P bytes → Q bytes) → IfSome left P → IfSome left Q
some_of None P Q step h = tt
some_of (Some bytes) P Q step h = step bytes h

pub of_any : (left : Option (List ℕ)) (P : List ℕ → Type 0) → ((bytes : List ℕ) → P bytes) → IfSome left P
of_any None P h = tt
of_any (Some bytes) P h = h bytes

-- a source that was read out
pub read_out : (left left' : Option (List ℕ)) (status : ℕ) → IfSome left (λ bytes. LeavesSource bytes left' 0) → (status ≡ 5 → ⊥) → IfSome left (λ bytes. LeavesSource bytes left' status)
read_out None left' status h not_long = tt
read_out (Some bytes) left' status h not_long = record {
  within = h.within;
  too_long = λ e. absurd (not_long e);
  whole = λ a b c. h.whole (λ e. omega (arith, e)) (λ e. omega (arith, e)) (λ e. omega (arith, e));
}

-- a source that was not read
pub unread : (left : Option (List ℕ)) → IfSome left (λ bytes. LeavesSource bytes left 8)
unread None = tt
unread (Some bytes) = record {
  within = (0, omega arith, refl);
  too_long = λ e. absurd (omega (arith, e));
  whole = λ a b c. absurd (c refl);
}
